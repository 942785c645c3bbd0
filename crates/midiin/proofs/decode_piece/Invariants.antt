-- What the loop of `midiin::decode_piece` keeps: what is left makes the whole.
use Rattle.std.proofs.Common.{◌*◌}
use Rattle.midiin.proofs.Decoding.{Decoding}
use Rattle.midiin.proofs.decode_piece.Given as goal

abbrev pub invariant-loop-header : goal.invariant-loop-header
invariant-loop-header l = Decoding l.piece l.initial.receive l.receive l.initial.cables l.cables l.start l.at (4 * l.header-index)
