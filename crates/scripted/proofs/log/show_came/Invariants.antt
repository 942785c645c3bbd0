-- Two fields for each kind of bytes so far.
use Rattle.std.proofs.Common.{◌*◌}
use Rattle.stdio.specs.Behind.{Behind}
use Rattle.scripted.proofs.log.show_came.Given as goal

abbrev pub invariant-loop-bytes : goal.invariant-loop-bytes
invariant-loop-bytes l = Behind (34 * l.bytes-index) l.initial.out l.out
