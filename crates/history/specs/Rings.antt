-- What the two rings hold between calls, as lists of frames, oldest first (document 01, "Streams"; usbhost.rs 219, 373).
use Rattle.std.specs.Prelude.{ℕ, List}
use Rattle.model.specs.Ring.{contents, sending_frames}
use Rattle.usbhost.specs.declared.Host.{Host}

-- the frames that wait to be sent, in the words of the sending ring that a call is lent
abbrev pub to_send : Host → List ℕ → List (List ℕ)
to_send h ring = sending_frames ring h.audio.sending

-- the frames that wait to be taken, in the words of the received ring
abbrev pub to_take : Host → List ℕ → List (List ℕ)
to_take h ring = contents ring h.audio.received.start h.audio.received.len
