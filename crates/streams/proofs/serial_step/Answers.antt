-- `streams::serial_step` meets its contract.
use Rattle.streams.proofs.Laws.{serial_steps}
use Rattle.streams.proofs.serial_step.Goals as goal

pub returns-clause-left : goal.returns-clause-left
returns-clause-left c = serial_steps c.args.s _ _ _ _ _ _ _ _ _ c.serial_in-next.ensures.left c.serial_out.ensures.left
