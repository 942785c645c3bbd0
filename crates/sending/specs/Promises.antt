-- What the building of a block promises: its bytes so far, and zeros behind them.
use Rattle.std.specs.Prelude.{ℕ, ◌-◌, ◌/◌, ◌%◌, ◌^◌, ◌<◌, ◌≤◌, List, ◌∷◌, ◌++◌, ◌≡◌, length, replicate}
use Rattle.record.specs.declared.Ring.{Ring}
use Rattle.record.specs.declared.Audio.{Audio}
use Rattle.record.specs.World.{World, with_sending_ring, in_audio}
use Rattle.record.specs.Sizes.{FRAMES}

-- the block begins with the bytes p, and the rest of its 2,048 bytes is zeros
pub record Begun (b p : List ℕ) : Type 0 where
  pub room : length p ≤ 2048
  pub is : b ≡ p ++ replicate (2048 - length p) 0

-- a sending ring of so many frames of twelve words
pub record Sends (r : Ring) (capacity : ℕ) (l : List ℕ) : Type 0 where
  pub start : r.start < capacity
  pub len : r.len ≤ capacity
  pub few : capacity ≤ FRAMES
  pub is : capacity ≡ length l / 12

-- usbhost.rs 926-931: the first 32 bytes of a block
abbrev pub header_of : ℕ → List ℕ
header_of counter = 7 ∷ 0xFF ∷ counter / 2 ^ 8 ∷ counter % 2 ^ 8 ∷ replicate 28 0

-- a World with the sending ring and the count of channels in it
abbrev pub with_ring : Audio → Ring → ℕ → Audio
with_ring r x n = record { credit = r.credit; counter = r.counter; budget = r.budget; block = r.block; channels = n; received = r.received; sending = x }

abbrev pub at_sending : World → Ring → ℕ → List ℕ → World
at_sending r x n l = with_sending_ring (in_audio r (with_ring r.state.audio x n)) l
