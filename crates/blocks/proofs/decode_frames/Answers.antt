-- `blocks::decode_frames` meets its contract. The invariant: what is left from here makes the whole.
use Rattle.std.proofs.Common.{rules}
use Rattle.blocks.proofs.Laws.{framing_step, framing_end}
use Rattle.blocks.proofs.decode_frames.Goals as goal

pub loop-f-preserved : goal.loop-f-preserved
loop-f-preserved c = search (rules, framing_step)

pub returns : goal.returns
returns c = search (rules, framing_end)
