-- A line for each byte so far.
use Rattle.std.proofs.Common.{◌*◌}
use Rattle.stdio.specs.Behind.{Behind}
use Rattle.examples.proofs.two_pages.Given as goal

abbrev pub invariant-loop-b : goal.invariant-loop-b
invariant-loop-b l = Behind (21 * l.b-index) l.initial.out l.out
