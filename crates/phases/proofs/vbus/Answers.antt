-- `phases::vbus` meets its contract.
use Rattle.std.proofs.Common.{rules, arith}
use Rattle.bits.specs.Word.{set}
use Rattle.usbdev.specs.Offsets.{PORTSC1}
use Rattle.record.specs.declared.Phase.TheVariants.{Reset}
use Rattle.model.specs.Phases.{powers}
use Rattle.record.proofs.Laws.{in_turn, by_true}
use Rattle.phases.proofs.Laws.{changed_by, begins_lined}
use Rattle.phases.proofs.vbus.Goals as goal

pub returns-then-running-waited : goal.returns-then-running-waited
unfolding powers
returns-then-running-waited c =
    record {
      leads = λ w.
          by_true _ _ _ c.if-running-waited.true
          (in_turn (changed_by PORTSC1 (λ v. set v 0x100) 0x40 w _ _ _ _ (omega arith) c.change-next.ensures (λ x v p. search rules))
          (begins_lined Reset w _ _ _ _ c.enter-next.ensures));
    }
