-- What the decoding of blocks promises: what it leaves of ring, credit and counts, with whatever else the World holds, is what the step leaves.
use Rattle.std.specs.Prelude.{ℕ, ◌+◌, ◌<◌, ◌≤◌, List}
use Rattle.record.specs.declared.Ring.{Ring}
use Rattle.record.specs.declared.State.{State}
use Rattle.record.specs.Record.{Stats, place, in_frames, bad_blocks, wrapped, with_counter_at, with_received, with_credit, with_audio, with_stats}
use Rattle.record.specs.World.{World, with_state, with_received_ring, in_audio}
use Rattle.record.specs.Change.{Step}
use Rattle.record.specs.Did.{Leads}
use Rattle.model.specs.Audio.{keeps_frames}
use Rattle.record.specs.Sizes.{FRAMES}
use Rattle.blocks.specs.declared.Decoded.{Decoded}

-- a place and a length of the received ring
pub record InRing (r : Ring) : Type 0 where
  pub start : r.start < FRAMES
  pub len : r.len ≤ FRAMES

-- a World with the received ring in it
abbrev pub at_ring : World → Ring → List ℕ → World
at_ring r x l = with_received_ring (in_audio r (with_received r.state.audio x)) l

-- usbhost.rs 882-888: seven frames from bs on
pub record KeepsFrames (bs : List ℕ) (r : Ring) (l : List ℕ) (r' : Ring) (l' : List ℕ) : Type 0 where
  pub leads : (w : World) → Leads (keeps_frames 7 bs) (at_ring w r l) (at_ring w r' l')
  pub inside : InRing r'

-- counts of frames and of bad blocks
abbrev pub with_blocks : Stats → ℕ → ℕ → Stats
with_blocks r f b = with_counter_at (place bad_blocks) b (with_counter_at (place in_frames) f r)

-- a state with what blocks change in it, and a World with that and the received ring
abbrev pub with_decoded : State → Decoded → State
with_decoded s d = with_stats (with_audio s (with_received (with_credit s.audio d.credit) d.ring)) (with_blocks s.stats d.frames d.bad)

abbrev pub at_blocks : World → Decoded → List ℕ → World
at_blocks r d l = with_received_ring (with_state r (with_decoded r.state d)) l

pub record Keeps (f : Step) (d : Decoded) (l : List ℕ) (d' : Decoded) (l' : List ℕ) : Type 0 where
  pub leads : (w : World) → Leads f (at_blocks w d l) (at_blocks w d' l')
  pub inside : InRing d'.ring

-- 879, 888-890: one more bad block, and one more good one with its frames in the ring
abbrev pub one_bad : Decoded → Decoded
one_bad d = record { ring = d.ring; credit = d.credit; frames = d.frames; bad = wrapped (d.bad + 1) }

abbrev pub one_good : Decoded → Ring → Decoded
one_good d r = record { ring = r; credit = wrapped (d.credit + 7); frames = wrapped (d.frames + 7); bad = d.bad }
