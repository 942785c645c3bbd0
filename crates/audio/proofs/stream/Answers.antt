-- `audio::stream` meets its contract.
use Rattle.audio.proofs.Laws.{stream_steps}
use Rattle.audio.proofs.stream.Goals as goal

pub returns-clause-left : goal.returns-clause-left
returns-clause-left c = stream_steps _ _ _ _ _ _ _ _ _ c.stream_in-next.ensures.left c.stream_out.ensures.left
