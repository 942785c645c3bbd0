-- `move_bytes` of input that is only counted meets its contract. Assumes nothing.
use Rattle.bus.proofs.Lengths.{sized_of}
use Rattle.dtd.proofs.Runs.{counted_moves}
use Rattle.dtd.proofs.side.CountedSide.move_bytes.Goals as goal

pub returns-clause-left : goal.returns-clause-left
returns-clause-left c = counted_moves c.args.descriptor (sized_of c.args.windows.now) c.total.ensures
