-- What the loop of `blocks::decode_run` keeps.
use Rattle.bus.specs.Windows.{viewed}
use Rattle.blocks.proofs.Laws.{Decoding}
use Rattle.blocks.proofs.decode_run.Given as goal

-- What is left from here makes the whole.
abbrev pub invariant-loop-i : goal.invariant-loop-i
invariant-loop-i l = Decoding (viewed l.view) l.pointers l.total l.initial.d l.initial.received l.d l.received l.i
