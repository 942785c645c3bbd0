-- What the steps of the audio stream promise, and what they ask of the state and of the sending ring.
use Rattle.std.specs.Prelude.{◌≡◌, ℕ, ◌+◌, ◌-◌, ◌*◌, ◌/◌, ◌%◌, ◌^◌, ◌<◌, ◌≤◌, min, Bool, true, false, not, ◌&&◌, List, length, nat_lt}
use Rattle.bits.specs.Pick.{pick}
use Rattle.bus.specs.Memory.{Memory}
use Rattle.bus.specs.Sized.{Sized}
use Rattle.usbdev.specs.Transfer.{total_of}
use Rattle.dtd.specs.Dtd.{primed, terminates, next_dtd, token_of}
use Rattle.record.specs.declared.Ring.{Ring}
use Rattle.record.specs.declared.State.{State}
use Rattle.record.specs.Record.{wrapped, counted, with_audio, with_stats, with_counter, with_credit, with_sending, in_transfers, out_transfers, out_frames, out_underruns, counter_of, bad_blocks, in_frames}
use Rattle.record.specs.World.{World, with_received_ring, with_sending_ring, at_bus}
use Rattle.record.specs.Change.{Step, taken_from}
use Rattle.record.specs.Did.{Leads}
use Rattle.model.specs.Audio.{audio_in, unprimes}
use Rattle.blocks.specs.declared.Decoded.{Decoded}
use Rattle.blocks.specs.Promises.{InRing}
use Rattle.record.specs.Sizes.{FRAMES}
use Rattle.audio.specs.declared.Paced.{Paced}

-- ---- input

-- usbhost.rs 858-868: the budget of a microframe: one block more where a descriptor is named, and none left where its bytes are allowed
abbrev pub paced_of : Memory → ℕ → Paced
paced_of m budget =
    pick (primed audio_in m.page && not (terminates (next_dtd audio_in m)))
    (pick (nat_lt (wrapped (budget + 368)) (total_of (token_of (next_dtd audio_in m) m)))
    (record { budget = wrapped (budget + 368); waits = true })
    (record { budget = 0; waits = false }))
    (record { budget = budget; waits = false })

-- what blocks change of a state
abbrev pub decoded_of : State → Decoded
decoded_of s = record { ring = s.audio.received; credit = s.audio.credit; frames = counter_of in_frames s.stats; bad = counter_of bad_blocks s.stats }

-- 871-872: the state with one more run counted, where it brought something
abbrev pub counted_in : State → Bool → State
counted_in s t = pick t (with_stats s (counted in_transfers 1 s.stats)) s

-- what output needs of the state is as it was
pub record SameOut (s s' : State) : Type 0 where
  pub sending : s'.audio.sending ≡ s.audio.sending
  pub block : s'.audio.block ≡ s.audio.block
  pub channels : s'.audio.channels ≡ s.audio.channels

-- a World with state, memory and received ring in it
abbrev pub at_heard : World → State → Memory → List ℕ → World
at_heard r s m l = with_received_ring (at_bus r s m) l

pub record Hears (f : Step) (s : State) (m : Memory) (l : List ℕ) (s' : State) (m' : Memory) (l' : List ℕ) : Type 0 where
  pub leads : (w : World) → Leads f (at_heard w s m l) (at_heard w s' m' l')
  pub sized : Sized m'
  pub inside : InRing s'.audio.received
  pub same : SameOut s s'

-- ---- output

-- a place and a length of a ring of so many frames
pub record InSending (r : Ring) (capacity : ℕ) : Type 0 where
  pub start : r.start < capacity
  pub len : r.len ≤ capacity
  pub few : capacity ≤ FRAMES

-- the sending ring is in order, and a block has room for its frames
pub record CanSend (s : State) (l : List ℕ) : Type 0 where
  pub ring : InSending s.audio.sending (length l / 12)
  pub block : s.audio.block ≤ 2048
  pub channels : 32 + 28 * s.audio.channels ≤ 2048

-- 932-951: the state after a block: counter, credit, ring and counts
abbrev pub sent_block : State → ℕ → State
sent_block s capacity =
    with_stats
    (with_audio s
    (with_sending (with_credit (with_counter s.audio ((s.audio.counter + 7) % 2 ^ 16)) (s.audio.credit - 7))
    (taken_from capacity (min 7 s.audio.sending.len) s.audio.sending)))
    (counted out_frames 7 (counted out_transfers 1 (counted out_underruns (7 - s.audio.sending.len) s.stats)))

-- a World with state, memory and sending ring in it
abbrev pub at_sent : World → State → Memory → List ℕ → World
at_sent r s m l = with_sending_ring (at_bus r s m) l

pub record Outputs (f : Step) (s : State) (m : Memory) (l : List ℕ) (s' : State) (m' : Memory) : Type 0 where
  pub leads : (w : World) → Leads f (at_sent w s m l) (at_sent w s' m' l)
  pub sized : Sized m'
  pub can : CanSend s' l
  pub received : s'.audio.received ≡ s.audio.received

-- 910-911, 916-917: the endpoint's bit goes, and all else of the state is as it was
pub record Unprimes (s : State) (m : Memory) (s' : State) (m' : Memory) : Type 0 where
  pub leads : (w : World) (l : List ℕ) → Leads unprimes (at_sent w s m l) (at_sent w s' m' l)
  pub sized : Sized m'
  pub audio : s'.audio ≡ s.audio

-- ---- both

-- a World with state, memory and both rings in it
abbrev pub at_stream : World → State → Memory → List ℕ → List ℕ → World
at_stream r s m l k = with_sending_ring (with_received_ring (at_bus r s m) l) k

pub record Streams (f : Step) (s : State) (m : Memory) (l k : List ℕ) (s' : State) (m' : Memory) (l' : List ℕ) : Type 0 where
  pub leads : (w : World) → Leads f (at_stream w s m l k) (at_stream w s' m' l' k)
  pub sized : Sized m'
  pub inside : InRing s'.audio.received
  pub can : CanSend s' k
