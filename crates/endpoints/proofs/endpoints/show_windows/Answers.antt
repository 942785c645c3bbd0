-- One behind the other.
use Rattle.stdio.proofs.Behind.{behind_byte, behind_then}
use Rattle.endpoints.proofs.endpoints.show_windows.Goals as goal

pub returns : goal.returns
returns c = behind_then c.field.ensures (behind_then c.field-2.ensures (behind_then c.field-3.ensures (behind_byte _ c.put.ensures.held)))
