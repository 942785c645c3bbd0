-- `control::acknowledge` meets its contract.
use Rattle.std.proofs.Common.{rules}
use Rattle.control.proofs.Whole.{ends_done, ends_open}
use Rattle.control.proofs.acknowledge.Goals as goal

pub returns-then-ran-clause-left : goal.returns-then-ran-clause-left
returns-then-ran-clause-left c = search (rules, ends_done)

pub returns-clause-left : goal.returns-clause-left
returns-clause-left c = search (rules, ends_open)
