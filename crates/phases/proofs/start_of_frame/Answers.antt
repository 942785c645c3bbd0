-- `phases::start_of_frame` meets its contract.
use Rattle.std.proofs.Common.{rules, arith}
use Rattle.usbdev.specs.Offsets.{FRINDEX}
use Rattle.usbdev.specs.Transfer.{next_frindex}
use Rattle.model.specs.Phases.{starts_frame}
use Rattle.phases.proofs.Laws.{changed_by}
use Rattle.phases.proofs.start_of_frame.Goals as goal

pub returns : goal.returns
unfolding starts_frame
returns c =
    record { leads = λ w. changed_by FRINDEX (next_frindex 1) 0x80 w _ _ _ _ (omega arith) c.change-s.ensures (λ x v p. search rules) }
