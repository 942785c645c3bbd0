-- How the promises of a request's parts compose.
use Rattle.std.proofs.Common.{◌≡◌, ℕ, ◌+◌, ◌-◌, ◌*◌, Bool, false, List, ◌∙◌, refl, arith}
use Rattle.bits.specs.Word as W
use Rattle.bus.specs.Memory.{Memory, memory, after, dropped32}
use Rattle.bus.specs.Sized.{Sized}
use Rattle.bus.specs.Steps.{and_then}
use Rattle.bus.specs.Stores as S
use Rattle.bus.specs.Stores.{Does}
use Rattle.usbdev.specs.Offsets.{EPSETUPSR}
use Rattle.usbdev.specs.Registers.{registers, raising}
use Rattle.usbdev.specs.Registers as R
use Rattle.usbdev.proofs.Laws.{Inside, does_page}
use Rattle.record.specs.declared.Phase.{Phase}
use Rattle.record.specs.declared.Phase.TheVariants.{Idle, Vbus, Reset, Enumerate, Stream}
use Rattle.record.specs.declared.State.{State}
use Rattle.record.specs.Record.{wrapped, with_setups, with_dropped, with_control, with_lengths, with_answer}
use Rattle.record.specs.World.{lined}
use Rattle.record.specs.Change.{apply, drained, control, popped, lost}
use Rattle.record.proofs.Laws.{in_turn, once, on_memory, on_page_lem}
use Rattle.model.specs.Phases.{now, changing}
use Rattle.model.specs.Control.{begun, posted, enumerating}
use Rattle.control.specs.Promises.{puts_setup, at_setups, Posts}

-- a phase that is not enumeration
pub other_phase : (p : Phase) → (p ≡ Enumerate → ⊥) → enumerating p ≡ false
other_phase Idle k = refl
other_phase Vbus k = refl
other_phase Reset k = refl
other_phase Enumerate k = absurd (k refl)
other_phase Stream k = refl

-- ---- posting

-- EPSETUPSR's bit 0, and UI
abbrev flags : R.PageStep
flags = R.◌then◌ (changing EPSETUPSR (λ v. W.set v 1)) (raising 1)

flags_inside : (p : List ℕ) (l : Bool) → Inside (flags (registers p l))
unfolding changing and_then R.setting R.following
flags_inside p l = (omega arith, (omega arith, tt))

-- registers that were told keep their length
pub told_sized : {d f p p' : List ℕ} (l : Bool) {l' : Bool} → Sized (memory d f p) → registers p' l' ≡ R.done flags (registers p l) → Sized (memory d f p')
told_sized {d} {f} {p} {p'} l {l'} z e = (does_page flags d f p p' l l' (flags_inside p l) e z).sized

-- all of a posting; h is the queue head
module _ (h first second : ℕ) (s : State) (m : Memory) (d f p p' q q' : List ℕ) (line : Bool) (n dropped : ℕ)
    (gone : q' ≡ drained q (8 * s.lengths.setups) 8)
    (words : (l : Bool) → Does (puts_setup h first second) (S.bus m l) (S.bus (memory d f p) l) n)
    (told : registers p' line ≡ R.done flags (registers p s.port.line))
    (summed : dropped ≡ n) where
  abbrev one_less : State
  one_less = with_lengths s (with_setups s.lengths (s.lengths.setups - 1))

  abbrev counted_lost : State
  counted_lost = with_answer one_less (with_dropped s.answer (wrapped (s.answer.dropped + dropped)))

  pub post_steps : {r : State} → r ≡ with_control (lined counted_lost line) (begun first second s.port.uf)
      → Posts (posted h first second) s m q r (memory d f p') q'
  unfolding posted apply S.dropped_by S.dropped S.putting and_then
  post_steps {r} e =
      let is_lost : dropped ≡ dropped32 (after h 0x28) + dropped32 (after h 0x2C) = summed ∙ (words false).counted ∙ omega arith in
      record {
        leads = λ w.
            in_turn (once (λ v. popped) (at_setups w s m q) (at_setups w one_less m q') (cc))
            (in_turn (on_memory (puts_setup h first second) (at_setups w one_less m q') one_less m (memory d f p) s.port.line (words s.port.line).is)
            (in_turn (once (λ v. lost (dropped32 (after h 0x28) + dropped32 (after h 0x2C))) (at_setups w one_less (memory d f p) q') (at_setups w counted_lost (memory d f p) q') (cc))
            (in_turn (on_page_lem flags (at_setups w counted_lost (memory d f p) q') counted_lost p p' line (flags_inside p s.port.line) told)
            (once (λ v. control (begun first second (now v))) (at_setups w (lined counted_lost line) (memory d f p') q') (at_setups w r (memory d f p') q') (cc)))));
        sized = told_sized s.port.line (words false).sized told;
      }
