-- `streams::serial_in` meets its contract.
use mathlib.Core.Path.{refl}
use Rattle.streams.proofs.Laws.{serial_in_steps}
use Rattle.streams.proofs.serial_in.Goals as goal

pub returns-clause-left : goal.returns-clause-left
returns-clause-left c = serial_in_steps c.args.s _ _ _ _ _ c.run_in-filled.ensures.left c.requires _ c.after_run-next.ensures refl
