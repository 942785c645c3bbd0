-- `dtd::serve_one` meets its contract. Assumes nothing.
use Rattle.dtd.proofs.Runs.{serve_steps, moved_unsent}
use Rattle.dtd.proofs.serve_one.Goals as goal

pub returns-clause-left : goal.returns-clause-left
returns-clause-left g c = serve_steps c.move_bytes-moved.ensures.left c.finish.ensures.left c.ran.ensures

pub returns-clause-unsent : goal.returns-clause-unsent
returns-clause-unsent g c = rw c.ran.ensures (moved_unsent c.move_bytes-moved.ensures.left)
