-- `finished::fixed_setups` meets its contract.
use Rattle.finished.proofs.Laws.{fixed_queued}
use Rattle.finished.proofs.fixed_setups.Goals as goal

pub returns : goal.returns
returns c = fixed_queued c.args.s c.args.setups.now c.requires c.put_setup.ensures c.put_setup-2.ensures c.put_setup-3.ensures
