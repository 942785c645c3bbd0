-- One behind the other.
use Rattle.stdio.proofs.Behind.{behind_then}
use Rattle.scripted.proofs.log.show_queues.Goals as goal

pub returns : goal.returns
returns c = behind_then c.field.ensures (behind_then c.field-2.ensures c.field-3.ensures)
