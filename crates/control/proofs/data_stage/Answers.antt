-- `control::data_stage` meets its contract.
use Rattle.std.proofs.Common.{rules}
use Rattle.bus.specs.Steps.{choose}
use Rattle.model.specs.Control.{data_stage}
use Rattle.control.proofs.data_stage.Goals as goal

pub returns-clause-left : goal.returns-clause-left
unfolding choose data_stage
returns-clause-left c = let k = c.data_out.ensures.left c.args.reply.now in search rules
