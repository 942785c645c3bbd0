-- `audio::stream_in` meets its contract.
use Rattle.bus.specs.Windows.{memory_of}
use Rattle.bus.proofs.Lengths.{sized_of}
use Rattle.audio.proofs.Laws.{in_waits, in_goes}
use Rattle.audio.proofs.stream_in.Goals as goal

pub returns-then-paced-clause-left : goal.returns-then-paced-clause-left
returns-then-paced-clause-left c =
    in_waits c.args.s (memory_of c.args.windows.now) _ c.pace-paced.result (cc) (sized_of c.args.windows.now) c.requires c.if-paced.true

pub returns-clause-left : goal.returns-clause-left
returns-clause-left c =
    in_goes c.args.s (memory_of c.args.windows.now) _ c.pace-paced.result (cc) c.if-paced.false _ _ _ c.take_input.ensures.left
