-- `phases::reset` meets its contract.
use Rattle.std.proofs.Common.{ap, rules, arith}
use Rattle.record.specs.declared.State.{State}
use Rattle.bits.specs.Word.{clear, set}
use Rattle.usbdev.specs.Offsets.{PORTSC1}
use Rattle.record.specs.declared.Phase.TheVariants.{Enumerate}
use Rattle.record.specs.World.{with_setup_queue}
use Rattle.model.specs.Phases.{first_setups, resets}
use Rattle.record.proofs.Laws.{in_turn, by_true}
use Rattle.phases.proofs.Laws.{changed_by, begins_lined, queues}
use Rattle.phases.proofs.reset.Goals as goal

pub returns-then-waited-seen : goal.returns-then-waited-seen
unfolding resets
returns-then-waited-seen c =
    let a = c.args in
    record {
      leads = λ w.
          let v = with_setup_queue w a.setups.now in
          by_true _ _ _ (rw (← c.word_at.ensures, ← c.any-seen.ensures) c.if-waited-seen.true)
          (in_turn
          (changed_by PORTSC1 (λ x. set (clear x 0x0C000100) 0x08000005) 4 v _ _ _ _ (omega arith) c.change-next.ensures (λ x y p. search rules))
          (in_turn (begins_lined Enumerate v _ _ _ _ c.enter-next.ensures)
          (queues first_setups w _ _ a.setups.now _ a.s.lengths.setups (ap (λ (x : State). x.lengths.setups) c.enter-next.ensures) c.first_setups.ensures)));
    }
