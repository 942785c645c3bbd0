-- One behind the other.
use Rattle.stdio.proofs.Behind.{behind_byte, behind_then}
use Rattle.examples.proofs.show_line.Goals as goal

pub returns : goal.returns
returns c = behind_then c.decimal.ensures (behind_byte _ c.put.ensures.held)
