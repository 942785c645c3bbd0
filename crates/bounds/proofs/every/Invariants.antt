-- What the loop of `bounds::every` keeps.
use Rattle.std.specs.Prelude.{◌≡◌, ℕ, ◌<◌, Bool}
use Rattle.bounds.specs.Bounds.{every}
use Rattle.bounds.proofs.every.Given as goal

abbrev pub invariant-loop-i : goal.invariant-loop-i
invariant-loop-i g l =
    (of : ℕ → Bool) → ((k : ℕ) (b : Bool) → k < l.n → goal.F-post g l.test k b → b ≡ of k) → l.ok ≡ every of l.i
