-- One behind the other.
use Rattle.stdio.proofs.Behind.{behind_text, behind_then}
use Rattle.reader.proofs.rows.end_all.Goals as goal

pub returns : goal.returns
returns c = behind_then (behind_text _ c.append.ensures.held) c.show.ensures
