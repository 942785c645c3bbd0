-- Every call on a host record, and the record after any list of them from a new one (document 01, "Host record": demand 3's list).
use Rattle.std.specs.Prelude.{ℕ, List, [], ◌∷◌}
use Rattle.usbhost.specs.declared.Host.{Host}
use Rattle.usbhost.specs.Calls.{midi_sent, serial_sent, given, taken_frame, device_written}
use Rattle.usbhost.specs.Calls as C
use Rattle.usbhost.specs.Frame.{host_in, framed}
use Rattle.record.specs.World.{Lent}

-- a call with all that it brings: time, memory, registers, areas and bytes are the caller's, and may be anything
pub data Call : Type 0 where
  microframe : ℕ → Lent → Call  -- time, and what is lent
  midi_send : ℕ → List ℕ → Call  -- cable, and the bytes
  serial_send : List ℕ → Call
  frame_give : List ℕ → List ℕ → Call  -- a frame, and the sending ring
  frame_take : List ℕ → Call  -- the received ring
  device_read : List ℕ → ℕ → ℕ → Call  -- page, offset, size
  device_write : List ℕ → ℕ → ℕ → ℕ → Call  -- page, offset, size, value

-- the record that a call leaves, refused or not: each clause is the definition that the entry's contract cites
unfoldable pub step : Host → Call → Host
step h (microframe t l) = host_in (framed t h l)
step h (midi_send cable bs) = (midi_sent h cable bs).next
step h (serial_send bs) = (serial_sent h bs).next
step h (frame_give f sending) = (given h f sending).next
step h (frame_take received) = (taken_frame h received).next
step h (device_read page off size) = (C.device_read h page off size).host
step h (device_write page off size v) = (device_written h page off size v).next

-- each call gets the record that the last left
unfoldable pub after : Host → List Call → Host
after h [] = h
after h (c ∷ cs) = after (step h c) cs
