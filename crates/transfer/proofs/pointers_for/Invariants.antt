-- What the loop of `transfer::pointers_for` keeps: the first i entries are read, and the others are 0.
use Rattle.bus.specs.Windows.{viewed}
use Rattle.transfer.proofs.PointerLoop.{Partial}
use Rattle.transfer.proofs.pointers_for.Given as goal

abbrev pub invariant-loop-i : goal.invariant-loop-i
invariant-loop-i l = Partial (viewed l.view) l.td l.total l.ps l.i
