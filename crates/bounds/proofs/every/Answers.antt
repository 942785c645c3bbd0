-- `bounds::every` meets its contract.
use mathlib.Core.Bool.{◌&&◌}
use mathlib.Core.Path.{refl, ap₂, ◌∙◌}
use Rattle.bounds.specs.Bounds.{every}
use Rattle.bounds.proofs.Laws.{every_more}
use Rattle.bounds.proofs.every.Goals as goal

pub loop-i-init : goal.loop-i-init
unfolding every
loop-i-init g c = λ of h. refl

pub loop-i-preserved : goal.loop-i-preserved
loop-i-preserved g c = λ of h. ap₂ ◌&&◌ (c.loop-i.invariant of h) (h _ _ c.loop-i-test.true c.test-ok.ensures) ∙ every_more of c.loop-i.i
