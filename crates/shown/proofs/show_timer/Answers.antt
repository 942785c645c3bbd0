-- One behind the other.
use Rattle.stdio.proofs.Behind.{behind_then}
use Rattle.shown.proofs.show_timer.Goals as goal

pub returns : goal.returns
returns c = behind_then c.flag.ensures c.field.ensures
