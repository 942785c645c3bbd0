-- Nothing, one more, and all.
use Rattle.std.proofs.Common.{arith}
use Rattle.stdio.proofs.Behind.{behind_none, behind_then, behind_le}
use Rattle.scripted.proofs.log.show_record.Goals as goal

pub loop-n-init : goal.loop-n-init
loop-n-init c = behind_none

pub loop-n-preserved : goal.loop-n-preserved
loop-n-preserved c = behind_le (omega arith) (behind_then c.loop-n.invariant c.field-in-loop-n.ensures)

pub returns : goal.returns
returns c = behind_le (omega arith) (behind_then c.show_phase.ensures (behind_then c.show_control.ensures (behind_then c.show_held.ensures (behind_then c.show_port.ensures (behind_then c.show_block.ensures (behind_then c.field.ensures (behind_then c.field-2.ensures (behind_then c.loop-n.invariant c.show_came.ensures))))))))
