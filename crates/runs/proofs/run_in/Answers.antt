-- `runs::run_in` meets its contract. Assumes nothing.
use Rattle.std.proofs.Common.{rules}
use Rattle.runs.proofs.Laws.{run_filled}
use Rattle.runs.proofs.run_in.Goals as goal

pub returns-clause-left : goal.returns-clause-left
returns-clause-left c = run_filled _ (search rules) c.run-ran.ensures.left
