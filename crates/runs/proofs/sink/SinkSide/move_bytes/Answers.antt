-- `move_bytes` of an area meets its contract. Assumes nothing.
use mathlib.Core.Path.{refl}
use Rattle.bus.proofs.Lengths.{sized_of}
use Rattle.runs.proofs.Laws.{sink_moves}
use Rattle.runs.proofs.sink.SinkSide.move_bytes.Goals as goal

pub returns-clause-left : goal.returns-clause-left
returns-clause-left c =
    sink_moves c.args.descriptor c.args.self.now.limit c.args.self.now.at c.args.self.now.out.now (sized_of c.args.windows.now)
    c.args.self.now.inside.0 c.args.self.now.inside.1 (rw c.total-total.ensures at c.min-keep.ensures) c.clear.ensures refl (rw c.view.ensures at c.pointers_for-ps.ensures) (rw c.view-2.ensures at c.copy_in.ensures) c.total-total.ensures
