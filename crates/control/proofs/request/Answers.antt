-- `control::request` meets its contract.
use Rattle.std.proofs.Common.{rules}
use Rattle.bus.proofs.Lengths.{sized_of}
use Rattle.control.proofs.Whole.{stall_drops, not_stalled, data_open, data_done}
use Rattle.control.proofs.request.Goals as goal

pub returns-then-any-clause-left : goal.returns-then-any-clause-left
returns-then-any-clause-left c = search (rules, stall_drops, sized_of)

pub returns-in-Data-clause-left : goal.returns-in-Data-clause-left
returns-in-Data-clause-left c = search (rules, not_stalled, data_open)

pub returns-in-Status-clause-left : goal.returns-in-Status-clause-left
returns-in-Status-clause-left c = search (rules, not_stalled, data_done)
