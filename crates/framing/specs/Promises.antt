-- What the streams of a microframe ask of the host record, and what each of its functions promises.
use Rattle.std.specs.Prelude.{ℕ, ◌+◌, ◌*◌, ◌/◌, ◌≤◌, List, ◌≡◌}
use Rattle.bus.specs.Memory.{Memory}
use Rattle.bus.specs.Sized.{Sized}
use Rattle.record.specs.declared.Audio.{Audio}
use Rattle.record.specs.declared.State.{State}
use Rattle.record.specs.World.{World, with_midi_queue, with_serial_queue, with_receive_area, with_cables_area, with_received_ring, with_sending_ring, at_bus}
use Rattle.record.specs.Change.{Step}
use Rattle.record.specs.Did.{Leads}
use Rattle.blocks.specs.Promises.{InRing}
use Rattle.audio.specs.Promises.{InSending}
use Rattle.record.specs.Sizes.{QUEUE}

-- ---- what the streams ask of the host record (document 01, refusal 5)

-- both rings are in order, of which the sending one has so many words, and a block has room for its frames
pub record Rings (a : Audio) (words : ℕ) : Type 0 where
  pub received : InRing a.received
  pub sending : InSending a.sending (words / 12)
  pub block : a.block ≤ 2048
  pub channels : 32 + 28 * a.channels ≤ 2048

-- what the streams ask: queues within their arrays, rings, and a receive area with nothing in it
pub record Flows (s : State) (words : ℕ) : Type 0 where
  pub midi : s.lengths.midi ≤ QUEUE
  pub serial : s.lengths.serial ≤ QUEUE
  pub rings : Rings s.audio words
  pub none : s.answer.received ≡ 0

-- ---- a World with what a function takes in its place

-- with the parts of the streams: MIDI and serial queue, receive area and its cables, both rings
abbrev pub at_flow : World → State → Memory → List ℕ → List ℕ → List ℕ → List ℕ → List ℕ → List ℕ → World
at_flow w s m midi serial receive cables received k =
    with_sending_ring (with_received_ring (with_cables_area (with_receive_area (with_serial_queue (with_midi_queue (at_bus w s m) midi) serial) receive) cables) received) k

-- ---- what a function does

-- on state, memory and MIDI queue
pub record Stacks (f : Step) (s : State) (m : Memory) (midi : List ℕ) (s' : State) (m' : Memory) (midi' : List ℕ) : Type 0 where
  pub leads : (w : World) → Leads f (at_flow w s m midi w.own.serial w.lent.receive w.lent.cables w.lent.received w.lent.sending) (at_flow w s' m' midi' w.own.serial w.lent.receive w.lent.cables w.lent.received w.lent.sending)
  pub sized : Sized m'

-- on state, memory, MIDI queue, receive area, cables and rings
pub record Bridges (f : Step) (s : State) (m : Memory) (midi receive cables received k : List ℕ) (s' : State) (m' : Memory) (midi' receive' cables' received' : List ℕ) : Type 0 where
  pub leads : (w : World) → Leads f (at_flow w s m midi w.own.serial receive cables received k) (at_flow w s' m' midi' w.own.serial receive' cables' received' k)
  pub sized : Sized m'

-- on these and the serial queue
pub record Transfers (f : Step) (s : State) (m : Memory) (midi serial receive cables received k : List ℕ) (s' : State) (m' : Memory) (midi' serial' receive' cables' received' : List ℕ) : Type 0 where
  pub leads : (w : World) → Leads f (at_flow w s m midi serial receive cables received k) (at_flow w s' m' midi' serial' receive' cables' received' k)
  pub sized : Sized m'
