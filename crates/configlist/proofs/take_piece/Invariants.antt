-- No more than 40,000 bytes are held, if no more were held at first.
use Rattle.std.proofs.Common.{◌≤◌, length}
use Rattle.configlist.proofs.take_piece.Given as goal

abbrev pub invariant-loop-b : goal.invariant-loop-b
invariant-loop-b l = length l.fn.out.bytes ≤ 40000 → length l.out.bytes ≤ 40000
