-- Nothing, one more, and all.
use Rattle.std.proofs.Common.{arith}
use Rattle.stdio.proofs.Behind.{behind_none, behind_text, behind_then, behind_le}
use Rattle.examples.proofs.two_pages.Goals as goal

pub loop-b-init : goal.loop-b-init
loop-b-init c = behind_none

pub loop-b-preserved : goal.loop-b-preserved
loop-b-preserved c = behind_le (omega arith) (behind_then c.loop-b.invariant c.show_line.ensures)

pub returns : goal.returns
returns c = behind_le (omega arith) (behind_then (behind_text _ c.append.ensures.held) (behind_then c.show_refusal.ensures c.loop-b.invariant))
