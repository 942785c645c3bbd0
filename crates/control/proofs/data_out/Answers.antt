-- `control::data_out` meets its contract.
use Rattle.std.proofs.Common.{rules}
use Rattle.control.proofs.Stages.{data_out_lem}
use Rattle.control.proofs.data_out.Goals as goal

pub returns-then-ran-clause-left : goal.returns-then-ran-clause-left
returns-then-ran-clause-left c p = search (rules, data_out_lem)

pub returns-clause-left : goal.returns-clause-left
returns-clause-left c p = search (rules, data_out_lem)
