-- What the loop of `finished::push_pairs` keeps.
use mathlib.Core.Path.{◌≡◌}
use lib.ListN.{take}
use lib.Seq.{sets}
use Rattle.model.specs.Control.{interface_setups}
use Rattle.config.specs.Pairs.{listed}
use Rattle.finished.proofs.push_pairs.Given as goal

-- the setups of the pairs before i stand behind the first
abbrev pub invariant-loop-i : goal.invariant-loop-i
invariant-loop-i l = l.setups ≡ sets l.initial.setups 8 (interface_setups (listed (take l.i l.pairs)))
