-- `finished::choose` meets its contract.
use Rattle.finished.proofs.Laws.{choice_made}
use Rattle.finished.proofs.choose.Goals as goal

pub returns : goal.returns
returns c = choice_made c.args.s c.args.setups.now c.args.reply.now c.parse_config-info.ensures c.requires.0 c.out_block-out.ensures c.put_setup.ensures _ c.as_slice-pairs.ensures.pairs c.push_pairs.ensures
