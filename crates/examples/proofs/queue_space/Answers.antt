-- One behind the other.
use Rattle.stdio.proofs.Behind.{behind_text, behind_then}
use Rattle.examples.proofs.queue_space.Goals as goal

pub returns : goal.returns
returns c = behind_then (behind_text _ c.append.ensures.held) (behind_then c.show_line.ensures (behind_then c.show_refusal.ensures (behind_then c.show_line-2.ensures c.show_line-3.ensures)))
