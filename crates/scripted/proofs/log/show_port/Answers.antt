-- One behind the other.
use Rattle.stdio.proofs.Behind.{behind_then}
use Rattle.scripted.proofs.log.show_port.Goals as goal

pub returns : goal.returns
returns c = behind_then c.flag.ensures (behind_then c.flag-2.ensures (behind_then c.flag-3.ensures (behind_then c.show_timer.ensures c.show_timer-2.ensures)))
