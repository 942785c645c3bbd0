-- `transfer::copy_part` meets its contract: at the end all bytes are copied in.
use Rattle.std.proofs.Common.{arith}
use Rattle.transfer.proofs.Loops.{partly_all}
use Rattle.transfer.proofs.copy_part.Goals as goal

pub returns : goal.returns
returns c = partly_all _ _ _ _ _ _ c.loop-i.invariant.1 (omega arith)
