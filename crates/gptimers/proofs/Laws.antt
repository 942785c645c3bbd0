-- Bounds of counts.
use Prim.Native.Nat.{ℕ, ◌≤◌}
use mathlib.Core.Bool.{true}
use mathlib.Core.Path.{◌≡◌, refl}
use borrow.Author.Tests.{leb-true}
use lib.Dec.{leb}
use Rattle.std.specs.Prelude.{Some}
use Rattle.bits.specs.Pick.{pick_both}
use Rattle.bits.specs.Word.{any}
use Rattle.bus.proofs.Sizes.{and_true}
use Rattle.gptimers.specs.Timer.{Timer, RESET, after_reset, LOWEST, HIGHEST, in_range}

-- a count that stands is within its bounds
pub range : (n : ℕ) → in_range (Some n) ≡ true → (LOWEST ≤ n) × (n ≤ HIGHEST)
unfolding in_range
range n e =
    let b = and_true (leb LOWEST n) (leb n HIGHEST) e in
    (leb-true LOWEST n b.0, leb-true n HIGHEST b.1)

-- a reset keeps the bounds
pub range_reset : (c : ℕ) (t : Timer) → in_range t ≡ true → in_range (after_reset c t) ≡ true
unfolding after_reset
range_reset c t e = pick_both (λ (x : Timer). in_range x ≡ true) (any c RESET) (unfold in_range in refl) e
