-- `control::control` meets its contract.
use Rattle.std.proofs.Common.{rules}
use Rattle.bus.proofs.Lengths.{sized_of}
use Rattle.control.proofs.Whole.{streaming_starts, setup_posted}
use Rattle.control.proofs.control.Goals as goal

pub returns-in_default-clause-left : goal.returns-in_default-clause-left
returns-in_default-clause-left c = search (rules, streaming_starts, sized_of)

pub returns-clause-left : goal.returns-clause-left
returns-clause-left c = search (rules, setup_posted)
