-- What the loop of `config::parse_config` keeps, and its measure.
use lib.ListN.{length}
use mathlib.Core.Path.{◌≡◌}
use Rattle.config.specs.Config.{descriptors, start, walked}
use Rattle.config.specs.Table.{walk_of}
use Rattle.config.proofs.parse_config.Given as goal

-- what is left to do makes the whole
abbrev pub invariant-loop-descriptor : goal.invariant-loop-descriptor
invariant-loop-descriptor l = walked (descriptors l.rest) (walk_of l.walk) ≡ walked (descriptors l.fn.d) start

abbrev pub decreases-loop-descriptor : goal.decreases-loop-descriptor
decreases-loop-descriptor l = length l.rest
