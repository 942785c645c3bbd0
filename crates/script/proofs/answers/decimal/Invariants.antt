-- The digits put begin inside their array.
use Rattle.std.proofs.Common.{◌≤◌}
use Rattle.script.proofs.answers.decimal.Given as goal

abbrev pub invariant-loop-i : goal.invariant-loop-i
invariant-loop-i l = l.start ≤ 20
