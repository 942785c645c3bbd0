-- `move_bytes` of what is left to send meets its contract. Assumes nothing.
use Rattle.dtd.specs.Dtd.{moves}
use Rattle.dtd.proofs.Runs.{part_rest, source_moves}
use Rattle.dtd.proofs.side.SourceSide.move_bytes.Goals as goal

pub returns-clause-left : goal.returns-clause-left
unfolding moves
returns-clause-left c =
    rw part_rest (source_moves c.args.descriptor c.args.self.now.bytes.now (λ ep. rw c.total.ensures at c.min-count.ensures) c.clear.ensures c.view.ensures c.pointers_for-ps.ensures c.copy_out-lost.ensures.left)
