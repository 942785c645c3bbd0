-- Nothing, two characters more, and all.
use Rattle.std.proofs.Common.{arith}
use Rattle.stdio.proofs.Behind.{behind_none, behind_then, behind_le}
use Rattle.script.proofs.memory.show.Goals as goal

pub loop-i-init : goal.loop-i-init
loop-i-init c = behind_none

pub loop-i-preserved : goal.loop-i-preserved
loop-i-preserved c = behind_le (omega arith) (behind_then c.loop-i.invariant c.pair.ensures.behind)

pub returns : goal.returns
returns c = behind_le (omega (arith, c.loop-i.auto.i-end)) c.loop-i.invariant
