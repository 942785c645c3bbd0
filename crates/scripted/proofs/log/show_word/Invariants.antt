-- Two characters for each byte so far.
use Rattle.std.proofs.Common.{◌*◌}
use Rattle.stdio.specs.Behind.{Behind}
use Rattle.scripted.proofs.log.show_word.Given as goal

abbrev pub invariant-loop-b : goal.invariant-loop-b
invariant-loop-b l = Behind (2 * l.b-index) l.initial.out l.out
