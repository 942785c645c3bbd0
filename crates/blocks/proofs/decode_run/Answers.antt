-- `blocks::decode_run` meets its contract. The invariant: what is left from here makes the whole.
use Rattle.std.proofs.Common.{rules}
use Rattle.blocks.proofs.Laws.{decoding_none, decoding_step, decoding_even, decoding_short}
use Rattle.blocks.proofs.decode_run.Goals as goal

pub loop-i-init : goal.loop-i-init
loop-i-init c = search (rules, decoding_none)

pub loop-i-preserved : goal.loop-i-preserved
loop-i-preserved c = search (rules, decoding_step)

pub returns-then-total-ne0 : goal.returns-then-total-ne0
returns-then-total-ne0 c = search (rules, decoding_short)

pub returns : goal.returns
returns c = search (rules, decoding_even)
