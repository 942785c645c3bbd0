-- One behind the other.
use Rattle.stdio.proofs.Behind.{behind_byte, behind_then}
use Rattle.endpoints.proofs.endpoints.show_served.Goals as goal

pub returns : goal.returns
returns c = behind_then (behind_byte _ c.put.ensures.held) (behind_then c.flag.ensures (behind_then c.field.ensures (behind_then c.field-2.ensures c.field-3.ensures)))
