-- A field for each counter so far.
use Rattle.std.proofs.Common.{◌*◌}
use Rattle.stdio.specs.Behind.{Behind}
use Rattle.scripted.proofs.log.show_record.Given as goal

abbrev pub invariant-loop-n : goal.invariant-loop-n
invariant-loop-n l = Behind (17 * l.n-index) l.initial.out l.out
