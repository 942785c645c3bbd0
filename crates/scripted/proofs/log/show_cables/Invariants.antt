-- What each packer so far shows.
use Rattle.std.proofs.Common.{◌*◌}
use Rattle.stdio.specs.Behind.{Behind}
use Rattle.scripted.proofs.log.show_cables.Given as goal

abbrev pub invariant-loop-packer : goal.invariant-loop-packer
invariant-loop-packer l = Behind (36 * l.packer-index) l.initial.out l.out
