-- Nothing, one more, and all.
use Rattle.std.proofs.Common.{arith}
use Rattle.stdio.proofs.Behind.{behind_none, behind_byte, behind_text, behind_then, behind_le}
use Rattle.scripted.proofs.log.show_cables.Goals as goal

pub loop-packer-init : goal.loop-packer-init
loop-packer-init c = behind_none

pub loop-packer-preserved : goal.loop-packer-preserved
loop-packer-preserved c = behind_le (omega arith) (behind_then c.loop-packer.invariant c.show_packer.ensures)

pub returns : goal.returns
returns c = behind_le (omega arith) (behind_then (behind_text _ c.append.ensures.held) (behind_then c.field.ensures (behind_then c.field-2.ensures (behind_then c.loop-packer.invariant (behind_byte _ c.put.ensures.held)))))
