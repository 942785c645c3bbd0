-- What the loop of `blocks::decode_frame` keeps.
use Rattle.blocks.proofs.Laws.{Wording, frame_of}
use Rattle.blocks.proofs.decode_frame.Given as goal

abbrev pub invariant-loop-c : goal.invariant-loop-c
invariant-loop-c l = Wording (frame_of l.block l.f) l.initial.received l.received l.at l.c
