-- One behind the other.
use Rattle.stdio.proofs.Behind.{behind_then}
use Rattle.scripted.proofs.log.show_rings.Goals as goal

pub returns : goal.returns
returns c = behind_then c.field.ensures (behind_then c.field-2.ensures (behind_then c.field-3.ensures c.field-4.ensures))
