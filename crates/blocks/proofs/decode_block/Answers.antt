-- `blocks::decode_block` meets its contract.
use Rattle.std.proofs.Common.{rules}
use Rattle.transfer.proofs.Laws.{length_from}
use Rattle.blocks.proofs.Laws.{block_bad, block_good}
use Rattle.blocks.proofs.decode_block.Goals as goal

pub returns-then-block-ne7 : goal.returns-then-block-ne7
returns-then-block-ne7 c = search (rules, block_bad, length_from)

pub returns : goal.returns
returns c = search (rules, block_good, length_from)
