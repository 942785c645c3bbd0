-- `streams::serial_out` meets its contract.
use mathlib.Core.Path.{refl}
use Rattle.streams.proofs.Laws.{serial_output, nothing_given, bytes_held, bytes_given, serial_sent_lem}
use Rattle.streams.proofs.serial_out.Goals as goal

pub overflow_sub-next : goal.overflow_sub-next
overflow_sub-next c = bytes_held serial_output c.args.s _ _ _ _ _ c.give.ensures.left c.in-Some.is

pub returns-in_default-clause-left : goal.returns-in_default-clause-left
returns-in_default-clause-left c = nothing_given serial_output c.args.s _ _ _ _ _ c.give.ensures.left c.in_default.is

pub returns-clause-left : goal.returns-clause-left
returns-clause-left c =
    bytes_given serial_output c.args.s _ _ _ _ _ c.give.ensures.left c.in-Some.is
    (λ run left. serial_sent_lem c.args.s _ _ _ _ _ _ run left c.after_run-next.ensures refl)
