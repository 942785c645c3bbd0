-- By how many bytes are held.
use Rattle.std.proofs.Common.{arith}
use Rattle.std.proofs.lemmas.Grind.{common_steps}
use Rattle.script.specs.Fnv.{mixed_all}
use Rattle.shown.proofs.held_hash.Goals as goal

pub returns-in-0 : goal.returns-in-0
unfolding mixed_all
returns-in-0 c = simp c.in-0.is

pub returns-in-1 : goal.returns-in-1
unfolding mixed_all
returns-in-1 c = simp (c.mixed.ensures, c.in-1.is)

pub returns-in_default : goal.returns-in_default
unfolding mixed_all
returns-in_default c = grind (arith, common_steps)
