-- `phases::idle` meets its contract.
use Rattle.std.proofs.Common.{ap, arith}
use Rattle.bits.specs.Word.{set}
use Rattle.usbdev.specs.Offsets.{OTGSC}
use Rattle.bus.specs.Steps.{and_then}
use Rattle.usbdev.specs.Registers as R
use Rattle.usbdev.specs.Registers.{registers, store, following}
use Rattle.record.specs.declared.Phase.TheVariants.{Vbus}
use Rattle.model.specs.Phases.{changing, idles}
use Rattle.record.proofs.Laws.{in_turn, on_page_lem}
use Rattle.phases.proofs.Laws.{changed_then, begins_lined}
use Rattle.phases.proofs.idle.Goals as goal

pub returns : goal.returns
unfolding idles and_then changing following store
returns c =
    let a = c.args in
    record {
      leads = λ w.
          in_turn
          (on_page_lem (R.◌then◌ (changing OTGSC (λ v. set v 0x81E00)) following) w a.s a.page.now _ _ (omega arith, tt)
          (changed_then OTGSC (λ v. set v 0x81E00) following _ a.page.now _ a.s.port.line (rw (← c.word_at-otg.ensures) c.set.ensures) c.put_at.ensures (ap (registers _) c.line-next.ensures)))
          (begins_lined Vbus w _ _ _ _ c.enter-next.ensures);
    }
