-- `midiin::read_one` meets its contract.
use Rattle.std.proofs.Common.{[]}
use Rattle.midiin.proofs.Laws.{idle_read}
use Rattle.midiin.proofs.read_one.Goals as goal

pub returns-in-Err-clause-left : goal.returns-in-Err-clause-left
returns-in-Err-clause-left c = idle_read c.args.s _ _ (c.in-Err.ensures.left []) c.after_run.ensures
