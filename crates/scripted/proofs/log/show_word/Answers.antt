-- Nothing, one more, and all.
use Rattle.std.proofs.Common.{arith}
use Rattle.stdio.proofs.Behind.{behind_none, behind_then, behind_le}
use Rattle.scripted.proofs.log.show_word.Goals as goal

pub loop-b-init : goal.loop-b-init
loop-b-init c = behind_none

pub loop-b-preserved : goal.loop-b-preserved
loop-b-preserved c = behind_le (omega arith) (behind_then c.loop-b.invariant c.pair.ensures.behind)

pub returns : goal.returns
returns c = behind_le (omega arith) (c.loop-b.invariant)
