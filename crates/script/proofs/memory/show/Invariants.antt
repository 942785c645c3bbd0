-- Two characters for each byte so far.
use Rattle.std.proofs.Common.{◌*◌}
use Rattle.stdio.specs.Behind.{Behind}
use Rattle.script.proofs.memory.show.Given as goal

abbrev pub invariant-loop-i : goal.invariant-loop-i
invariant-loop-i l = Behind (2 * l.i) l.initial.out l.out
