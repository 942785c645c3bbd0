-- The calls' answers by numbers, as the definitions have them: 0 or the number of the refusal, and what the call leaves. What the result of
-- each call stands for: an accepted one has 0, and a refused one its number and all as it was.
use Rattle.std.specs.Prelude.{ℕ, Bool, true, false, List, Option, Some, None, Result, Ok, Err, replicate}
use Rattle.refusal.specs.declared.Refusal.{Refusal}
use Rattle.refusal.specs.Number.{number}
use Rattle.midi.specs.declared.Packer.{Packer}
use Rattle.record.specs.declared.State.{State}
use Rattle.record.specs.Sizes.{WORDS}
use Rattle.usbhost.specs.declared.Host.{Host}
use Rattle.usbhost.specs.declared.Taken.{Taken as TakenOf}
use Rattle.usbhost.specs.declared.Framed.{Framed as HostFramed}
use Rattle.usbhost.specs.declared.MidiSent.{MidiSent as StateSent}

-- ---- over a record or a state

-- of a call that answers what is next alone
pub record Sent (S : Type 0) : Type 0 where
  pub refusal : ℕ
  pub next : S

abbrev pub sent : {S : Type 0} → ℕ → S → Sent S
sent number next = record { refusal = number; next = next }

abbrev pub sent_by : {S : Type 0} → S → Result S Refusal → Sent S
sent_by s (Ok next) = sent 0 next
sent_by s (Err r) = sent (number r) s

-- of a frame taken: whether the ring was empty, the frame, and what is next
pub record Taken (S : Type 0) : Type 0 where
  pub refusal : ℕ
  pub empty : Bool
  pub frame : List ℕ
  pub next : S

-- a frame, or none from an empty ring
abbrev pub taken_from_ring : {S : Type 0} → Option (List ℕ) → S → Taken S
taken_from_ring (Some frame) next = record { refusal = 0; empty = false; frame = frame; next = next }
taken_from_ring None next = record { refusal = 0; empty = true; frame = replicate WORDS 0; next = next }

abbrev pub taken_by : {S : Type 0} → S → Result (TakenOf S) Refusal → Taken S
taken_by s (Ok t) = taken_from_ring t.frame t.next
taken_by s (Err r) = record { refusal = number r; empty = false; frame = replicate WORDS 0; next = s }

-- ---- by value

-- of `new`: 0 or 3, and the host
pub record Created : Type 0 where
  pub refusal : ℕ
  pub host : Host

-- of a device read: the value, and the record
pub record Read : Type 0 where
  pub refusal : ℕ
  pub value : ℕ
  pub host : Host

abbrev pub read_by : Host → Result ℕ Refusal → Read
read_by h (Ok v) = record { refusal = 0; value = v; host = h }
read_by h (Err r) = record { refusal = number r; value = 0; host = h }

-- of a microframe: how many MIDI or serial bytes stand in the receive area, the bytes that no window took, the descriptors retired, and the
-- next record
pub record Framed : Type 0 where
  pub refusal : ℕ
  pub received : ℕ
  pub dropped : ℕ
  pub retired : ℕ
  pub host : Host

abbrev pub framed_by : Host → Result HostFramed Refusal → Framed
framed_by h (Ok f) = record { refusal = 0; received = f.received; dropped = f.dropped; retired = f.retired; host = f.host }
framed_by h (Err r) = record { refusal = number r; received = 0; dropped = 0; retired = 0; host = h }

-- ---- on parts

-- of a send of MIDI bytes
pub record MidiSent : Type 0 where
  pub refusal : ℕ
  pub state : State
  pub packers : List Packer

abbrev pub midi_sent_by : State → List Packer → Result StateSent Refusal → MidiSent
midi_sent_by s packers (Ok m) = record { refusal = 0; state = m.state; packers = m.packers }
midi_sent_by s packers (Err r) = record { refusal = number r; state = s; packers = packers }
