-- `streams::vendor` meets its contract.
use Rattle.streams.proofs.Laws.{vendor_steps}
use Rattle.streams.proofs.vendor.Goals as goal

pub returns-clause-did : goal.returns-clause-did
returns-clause-did c = vendor_steps c.args.s _ _ _ c.run_count-ran.ensures.left _ c.after_run.ensures (rw c.from.ensures at c.count.ensures)
