-- `audio::unprime` meets its contract.
use Rattle.audio.proofs.Laws.{unprimes_steps}
use Rattle.audio.proofs.unprime.Goals as goal

pub returns : goal.returns
returns c = unprimes_steps _ _ _ _ c.settle-line.ensures
