-- `control::status_stage` meets its contract.
use Rattle.std.proofs.Common.{rules}
use Rattle.control.proofs.Stages.{status_lem, none_kept}
use Rattle.control.proofs.status_stage.Goals as goal

pub returns-then-to_host-asked-clause-left : goal.returns-then-to_host-asked-clause-left
returns-then-to_host-asked-clause-left c = search (rules, status_lem)

pub returns-clause-left : goal.returns-clause-left
returns-clause-left c = search (rules, status_lem, none_kept)
