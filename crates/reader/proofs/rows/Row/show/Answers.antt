-- Nothing, one more, and all.
use Rattle.std.proofs.Common.{arith}
use Rattle.stdio.proofs.Behind.{behind_none, behind_byte, behind_then, behind_le}
use Rattle.reader.proofs.rows.Row.show.Goals as goal

pub loop-n-init : goal.loop-n-init
loop-n-init c = behind_none

pub loop-n-preserved : goal.loop-n-preserved
loop-n-preserved c = behind_le (omega arith) (behind_then c.loop-n.invariant (behind_then (behind_byte _ c.put.ensures.held) c.decimal.ensures))

pub returns : goal.returns
returns c = behind_le (omega arith) (behind_then c.loop-n.invariant (behind_byte _ c.put-2.ensures.held))
