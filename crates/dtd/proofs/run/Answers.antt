-- `dtd::run` meets its contract. Assumes nothing.
use Rattle.std.proofs.Common.{[], rules}
use Rattle.bus.proofs.Lengths.{sized_of}
use Rattle.dtd.proofs.Runs.{run_served, run_idle, idle_unsent}
use Rattle.dtd.proofs.run.Goals as goal

pub returns-in-Ok-clause-left : goal.returns-in-Ok-clause-left
returns-in-Ok-clause-left g c =
    run_served c.args.ep g.S.Side.input c.requires.0 (rw c.is_input.ensures at c.in-Ok.ensures.left) (sized_of c.args.windows.now) c.serve_one.ensures.left

pub returns-in-Err-clause-left : goal.returns-in-Err-clause-left
returns-in-Err-clause-left g c = run_idle _ (search rules) (rw c.is_input.ensures at (c.in-Err.ensures.left (g.S.Side.to_send c.args.side.now)))

pub returns-in-Err-clause-unsent : goal.returns-in-Err-clause-unsent
returns-in-Err-clause-unsent g c = idle_unsent (g.S.Side.to_send c.args.side.now) (c.in-Err.ensures.left [])
