-- `phases::cable_out` meets its contract.
use Rattle.std.proofs.Common.{refl, rules, arith}
use Rattle.bits.specs.Word.{clear, set}
use Rattle.usbdev.specs.Offsets.{OTGSC, PORTSC1}
use Rattle.bus.specs.Steps.{and_then}
use Rattle.usbdev.specs.Registers as R
use Rattle.usbdev.specs.Registers.{raising, setting, following}
use Rattle.model.specs.Phases.{changing, unplugging}
use Rattle.record.proofs.Laws.{on_page_lem}
use Rattle.phases.proofs.Laws.{changed_then}
use Rattle.phases.proofs.cable_out.Goals as goal

pub returns : goal.returns
unfolding unplugging and_then changing setting following
returns c =
    let a = c.args in
    let port = c.change-s.ensures in
    record {
      leads = λ w.
          on_page_lem unplugging w a.s a.page.now _ _ (omega arith, (omega arith, (omega arith, tt)))
          (changed_then OTGSC (λ v. set (clear v 0xE00) 0x81000) (R.◌then◌ (changing PORTSC1 (λ v. clear v 0x85)) (raising 4)) _ a.page.now _ a.s.port.line (rw (← c.word_at-otg.ensures, ← c.clear.ensures) c.set.ensures) c.put_at.ensures
          (changed_then PORTSC1 (λ v. clear v 0x85) (raising 4) _ _ _ a.s.port.line (search rules) refl port.stored));
    }
