-- `config::Pairs::find` meets its contract.
use mathlib.Core.Path.{◌∙◌}
use Rattle.config.proofs.Placing.{place_is, found_is}
use Rattle.config.proofs.Pairs.find.Goals as goal

pub returns-clause-place : goal.returns-clause-place
returns-clause-place c = c.find.ensures ∙ rw (← c.as_slice.ensures.pairs) (place_is c.args.interface _)

pub returns-clause-known : goal.returns-clause-known
returns-clause-known c = rw (c.find.ensures, ← c.as_slice.ensures.pairs) (found_is c.args.interface _)
