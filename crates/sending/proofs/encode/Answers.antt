-- `sending::encode` meets its contract.
use mathlib.Core.Path.{refl}
use Rattle.sending.specs.Promises.{header_of}
use Rattle.sending.proofs.encode.Goals as goal

pub returns : goal.returns
returns c = λ w. c.encode_frames.ensures w (header_of c.args.counter) refl c.encode_header.ensures
