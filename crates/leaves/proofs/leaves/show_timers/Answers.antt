-- One behind the other.
use Rattle.stdio.proofs.Behind.{behind_byte, behind_then}
use Rattle.leaves.proofs.leaves.show_timers.Goals as goal

pub returns : goal.returns
returns c = behind_then (behind_byte _ c.put.ensures.held) (behind_then c.show_timer.ensures (behind_then c.show_timer-2.ensures (behind_then c.flag.ensures (behind_byte _ c.put-2.ensures.held))))
