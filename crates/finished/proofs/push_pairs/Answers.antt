-- `finished::push_pairs` meets its contract.
use native.Mathlib.Omega.{arith}
use mathlib.Core.Path.{refl}
use Rattle.finished.proofs.Laws.{pushed_none, pushed_more}
use Rattle.finished.proofs.push_pairs.Goals as goal

pub loop-i-init : goal.loop-i-init
loop-i-init c = pushed_none _

pub loop-i-preserved : goal.loop-i-preserved
loop-i-preserved c = rw (c.put_setup.ensures, c.loop-i.invariant) (pushed_more c.args.setups.now c.args.pairs.now c.loop-i.i _ c.loop-i-test.true refl (omega arith) (omega arith))
