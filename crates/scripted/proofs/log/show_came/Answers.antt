-- Nothing, one more, and all.
use Rattle.std.proofs.Common.{arith}
use Rattle.stdio.proofs.Behind.{behind_none, behind_then, behind_le}
use Rattle.scripted.proofs.log.show_came.Goals as goal

pub loop-bytes-init : goal.loop-bytes-init
loop-bytes-init c = behind_none

pub loop-bytes-preserved : goal.loop-bytes-preserved
loop-bytes-preserved c = behind_le (omega arith) (behind_then c.loop-bytes.invariant (behind_then c.field.ensures c.field-in-loop-bytes.ensures))

pub returns : goal.returns
returns c = behind_le (omega arith) (behind_then c.flag.ensures c.loop-bytes.invariant)
