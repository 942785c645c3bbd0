-- `streams::midi_out` meets its contract.
use mathlib.Core.Path.{refl}
use Rattle.model.specs.Streams.{midi_out}
use Rattle.streams.proofs.Laws.{midi_output, nothing_given, bytes_held, bytes_given, midi_sent_lem}
use Rattle.streams.proofs.midi_out.Goals as goal

pub overflow_sub-next : goal.overflow_sub-next
overflow_sub-next c = bytes_held midi_output c.args.s _ _ _ _ _ c.give.ensures.left c.in-Some.is

pub returns-in_default-clause-left : goal.returns-in_default-clause-left
unfolding midi_out
returns-in_default-clause-left c = nothing_given midi_output c.args.s _ _ _ _ _ c.give.ensures.left c.in_default.is

pub returns-clause-left : goal.returns-clause-left
unfolding midi_out
returns-clause-left c =
    bytes_given midi_output c.args.s _ _ _ _ _ c.give.ensures.left c.in-Some.is
    (λ run left. midi_sent_lem c.args.s _ _ _ _ _ _ run left c.after_run.ensures c.count-next.ensures refl)
