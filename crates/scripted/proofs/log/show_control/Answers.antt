-- A text, or fields one behind the other.
use Rattle.std.proofs.Common.{lit≤}
use Rattle.stdio.proofs.Behind.{behind_byte, behind_text, behind_then, behind_le}
use Rattle.scripted.proofs.log.show_control.Goals as goal

pub returns-then-not-control : goal.returns-then-not-control
returns-then-not-control c = behind_le (lit≤ tt) (behind_text _ c.append.ensures.held)

pub returns : goal.returns
returns c = behind_then c.field.ensures (behind_then c.field-2.ensures (behind_then c.field-3.ensures (behind_then c.field-4.ensures (behind_then (behind_byte _ c.put.ensures.held) (behind_then c.show_word.ensures c.show_word-2.ensures)))))
