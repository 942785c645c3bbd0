-- What the loop of `blocks::decode_frames` keeps.
use Rattle.std.proofs.Common.{drop}
use Rattle.blocks.proofs.Laws.{Framing}
use Rattle.blocks.proofs.decode_frames.Given as goal

-- What is left from here makes the whole.
abbrev pub invariant-loop-f : goal.invariant-loop-f
invariant-loop-f l = Framing (drop 32 l.block) l.initial.ring l.initial.received l.ring l.received l.f
