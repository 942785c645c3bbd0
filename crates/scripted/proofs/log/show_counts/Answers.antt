-- One behind the other.
use Rattle.stdio.proofs.Behind.{behind_byte, behind_text, behind_then}
use Rattle.scripted.proofs.log.show_counts.Goals as goal

pub returns : goal.returns
returns c = behind_then (behind_text _ c.append.ensures.held) (behind_then c.field.ensures (behind_then c.field-2.ensures (behind_byte _ c.put.ensures.held)))
