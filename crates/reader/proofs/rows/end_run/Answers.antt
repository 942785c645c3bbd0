-- One behind the other.
use Rattle.std.proofs.Common.{lit≤}
use Rattle.stdio.proofs.Behind.{behind_none, behind_text, behind_then, behind_le}
use Rattle.reader.proofs.rows.end_run.Goals as goal

pub returns-then-run-eq0 : goal.returns-then-run-eq0
returns-then-run-eq0 c = behind_le (lit≤ tt) behind_none

pub returns-then-run-eq0-2 : goal.returns-then-run-eq0-2
returns-then-run-eq0-2 c = behind_le (lit≤ tt) (behind_then c.decimal.ensures (behind_text _ c.append.ensures.held))

pub returns : goal.returns
returns c = behind_then c.decimal.ensures c.show.ensures
