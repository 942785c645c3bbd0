-- `sending::encode_header` meets its contract.
use Rattle.sending.proofs.Laws.{begun_header}
use Rattle.sending.proofs.encode_header.Goals as goal

pub returns : goal.returns
returns c = begun_header c.args.block.now c.args.counter c.requires
