-- A tab and a number for each cell so far.
use Rattle.std.proofs.Common.{◌*◌}
use Rattle.stdio.specs.Behind.{Behind}
use Rattle.reader.proofs.rows.Row.show.Given as goal

abbrev pub invariant-loop-n : goal.invariant-loop-n
invariant-loop-n l = Behind (21 * l.n-index) l.initial.out l.out
