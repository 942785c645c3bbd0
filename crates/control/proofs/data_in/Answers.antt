-- `control::data_in` meets its contract.
use Rattle.std.proofs.Common.{rules}
use Rattle.control.proofs.Stages.{data_in_lem}
use Rattle.control.proofs.data_in.Goals as goal

pub returns-then-filled-limit-clause-left : goal.returns-then-filled-limit-clause-left
returns-then-filled-limit-clause-left c = search (rules, data_in_lem)

pub returns-clause-left : goal.returns-clause-left
returns-clause-left c = search (rules, data_in_lem)
