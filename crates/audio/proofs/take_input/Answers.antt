-- `audio::take_input` meets its contract.
use Rattle.std.proofs.Common.{[]}
use Rattle.bus.specs.Windows.{memory_of}
use Rattle.audio.proofs.Laws.{input_none}
use Rattle.audio.proofs.take_input.Goals as goal

pub returns-in-Err-clause-left : goal.returns-in-Err-clause-left
returns-in-Err-clause-left c =
    input_none c.args.s (memory_of c.args.windows.now) _ _ c.in-Err.ran c.requires (c.in-Err.ensures.left []) c.after_run.ensures
