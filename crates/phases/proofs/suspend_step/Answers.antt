-- `phases::suspend_step` meets its contract.
use Rattle.std.proofs.Common.{refl, rules, arith}
use Rattle.bits.specs.Word.{set, clear}
use Rattle.usbdev.specs.Offsets.{PORTSC1}
use Rattle.record.specs.Change.{apply}
use Rattle.model.specs.Phases.{suspends}
use Rattle.record.proofs.Laws.{in_turn, once, by_true}
use Rattle.phases.proofs.Laws.{changed_by, turned_on, turned_off}
use Rattle.phases.proofs.suspend_step.Goals as goal
use Rattle.phases.proofs.suspend_step.Goals.{then-asleep, else-asleep}

pub returns : goal.returns
unfolding suspends apply
returns c =
    elim c.if-asleep.branch [
      | then-asleep w₁ ↦
          let was = rw w₁.if-asleep.true at c.if-asleep-s.false in
          rw (w₁.page-is, w₁.s-is, w₁.if-asleep.true)
          (record { leads = λ w. by_true _ _ _ (turned_on _ was) (in_turn (once _ _ _ refl) (changed_by PORTSC1 (λ v. set v 0x80) 0x100 w _ _ _ _ (omega arith) w₁.change-s.ensures (λ x v p. search rules))) })
      | else-asleep w₁ ↦
          let was = rw w₁.if-asleep.false at c.if-asleep-s.false in
          rw (w₁.page-is, w₁.s-is, w₁.if-asleep.false)
          (record { leads = λ w. by_true _ _ _ (turned_off _ was) (in_turn (once _ _ _ refl) (changed_by PORTSC1 (λ v. clear v 0x80) 4 w _ _ _ _ (omega arith) w₁.change-s-else-asleep.ensures (λ x v p. search rules))) })
    ]
