-- `worked::worked` meets its contract: each example is a computation.
use Rattle.worked.specs.Worked as W
use Rattle.worked.proofs.worked.Goals as goal

pub returns : goal.returns
returns c = W.worked
