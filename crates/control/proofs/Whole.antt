-- How the promises of a request's parts make those of control.
use Rattle.std.proofs.Common.{◌≡◌, ℕ, Bool, true, false, Option, None, Some, eqb, List, length, sym, refl, ap, ◌∙◌, subst, arith}
use Rattle.bits.specs.Word as W
use Rattle.bus.specs.Memory.{Memory, memory}
use Rattle.bus.specs.Sized.{Sized}
use Rattle.bus.specs.Steps.{choose}
use Rattle.bus.specs.Words.{word_at, word_put}
use Rattle.bus.proofs.Registers.{length_put}
use Rattle.usbdev.specs.Offsets.{EPCR0}
use Rattle.usbdev.specs.Registers.{registers}
use Rattle.usbdev.specs.Registers as R
use Rattle.usbdev.proofs.Laws.{Inside}
use Rattle.dtd.specs.Dtd.{endpoint, queue_head}
use Rattle.dtd.specs.declared.Ran.{Ran}
use Rattle.record.specs.declared.Stage.{Stage}
use Rattle.record.specs.declared.Stage.TheVariants.{Data, Status}
use Rattle.record.specs.declared.State.{State}
use Rattle.record.specs.Record.{with_on, with_control}
use Rattle.record.specs.Setups.{little}
use Rattle.record.specs.Change.{apply, control, nothing, Step, if, when}
use Rattle.record.specs.World.{World}
use Rattle.record.specs.Did.{Leads, Alone, after_run}
use Rattle.record.proofs.Laws.{in_turn, once, by_true, by_false, from_here, leads_as, leads_from, on_page_lem}
use Rattle.model.specs.Phases.{changing, drops_request}
use Rattle.model.specs.Control.{posted, posts, configured, in_status, timed_out, finishes, status_stage, stalled, unstalls, data_then_status, stages, requests, controls}
use Rattle.finished.specs.Promises.{Brings}
use Rattle.control.specs.declared.Setup.{Setup}
use Rattle.control.specs.Promises.{next_of, Posts, Stages, data_first, Acknowledges, at_control, Controls}

-- ---- the status stage and the end of the request

module _ (stack : Bool) {s : State} {m : Memory} {n : Ran} {m' : Memory} (ack : Acknowledges s m n m') (q d p c : List ℕ) {p' : List ℕ} (same : p' ≡ p)
    {x : State} (is : x ≡ after_run s n) where
  pub ends_done : n.done ≡ true → {r : State} {q' d' c' : List ℕ} → Brings (finishes stack) x q d p' c r q' d' c' → Controls (status_stage stack) s m q d p c r m' q' d' p' c'
  ends_done h b =
      record {
        leads = λ w.
            ack.leads stack (at_control w s m q d p c)
            (by_true (λ v. n.done) (finishes stack) (when timed_out drops_request) h (record { is = simp same (simp (same, is) at (b.leads (at_control w s m' q d p c)).is) }));
        sized = ack.sized;
      }

  pub ends_open : n.done ≡ false → {r : State} → Alone (when timed_out drops_request) x r → Controls (status_stage stack) s m q d p c r m' q d p' c
  ends_open h k =
      record {
        leads = λ w.
            ack.leads stack (at_control w s m q d p c)
            (by_false (λ v. n.done) (finishes stack) (when timed_out drops_request) h (record { is = cc ((k.leads (at_control w s m' q d p c)).is) }));
        sized = ack.sized;
      }

-- ---- the data stage and what follows it

module _ (stack : Bool) {s : State} {m : Memory} {p : List ℕ} {s₁ : State} {m₁ : Memory} {p₁ : List ℕ} (staged : Stages data_first s m p s₁ m₁ p₁) (q d c : List ℕ) where
  -- where the request was at its status stage, what follows is that stage alone
  follows : {b : World} → (w : World) → Leads (if (λ v. in_status v.state.control.stage) (status_stage stack) (when timed_out drops_request)) (at_control w s₁ m₁ q d p₁ c) b
      → Leads (stages stack) (at_control w s m q d p c) b
  unfolding stages nothing choose
  follows {b} w k = by_stage s.control.stage refl
    where
      all : World
      all = at_control w s m q d p c

      by_stage : (g : Stage) → s.control.stage ≡ g → Leads (if (λ v. in_status v.state.control.stage) (status_stage stack) (data_then_status stack)) all b
      by_stage Data e =
          let first = simp e at (staged.leads all).is in
          by_false (λ v. in_status v.state.control.stage) (status_stage stack) (data_then_status stack) (ap in_status e) (in_turn (record { is = first }) k)
      by_stage Status e =
          let stays = simp e at (staged.leads all).is in
          let here = simp e at (leads_from (sym stays) k).is in
          record { is = simp e here }

  pub data_open : s₁.control.stage ≡ Data → {r : State} → Alone (when timed_out drops_request) s₁ r → Controls (stages stack) s m q d p c r m₁ q d p₁ c
  data_open h k =
      record {
        leads = λ w.
            follows w
            (by_false (λ v. in_status v.state.control.stage) (status_stage stack) (when timed_out drops_request) (ap in_status h) (k.leads (at_control w s₁ m₁ q d p₁ c)));
        sized = staged.sized;
      }

  pub data_done : s₁.control.stage ≡ Status → {r : State} {m' : Memory} {q' d' p' c' : List ℕ} → Controls (status_stage stack) s₁ m₁ q d p₁ c r m' q' d' p' c' → Controls (stages stack) s m q d p c r m' q' d' p' c'
  data_done h k =
      record {
        leads = λ w.
            follows w
            (by_true (λ v. in_status v.state.control.stage) (status_stage stack) (when timed_out drops_request) (ap in_status h) (k.leads w));
        sized = k.sized;
      }

-- ---- a request; x is what EPCR0 holds

module _ (stack : Bool) (s : State) (d f p q dev rep c : List ℕ) {page : List ℕ} {x : ℕ} {t : Bool} (same : page ≡ p) (read : x ≡ word_at page EPCR0) (tested : t ≡ W.any x 0x10001) where
  pub not_stalled : t ≡ false → {r : State} {m' : Memory} {q' d' p' c' : List ℕ} → Controls (stages stack) s (memory d f p) q dev rep c r m' q' d' p' c'
      → Controls (requests stack) s (memory d f p) q dev rep c r m' q' d' p' c'
  not_stalled h k =
      record { leads = λ w. by_false stalled unstalls (stages stack) (cc) (k.leads w); sized = k.sized }

  -- a stall
  module _ (h : t ≡ true) {v : ℕ} {p' : List ℕ} (cleared : v ≡ W.clear x 0x10001) (stored : p' ≡ word_put p EPCR0 v) where
    page_is : registers p' s.port.line ≡ R.done (changing EPCR0 (λ y. W.clear y 0x10001)) (registers p s.port.line)
    unfolding changing R.store
    page_is = cc

    stall_inside : Inside (changing EPCR0 (λ y. W.clear y 0x10001) (registers p s.port.line))
    unfolding changing
    stall_inside = (omega arith, tt)

    stall_sized : Sized (memory d f p) → Sized (memory d f p')
    stall_sized z = record { dynamic_length = z.dynamic_length; sram_length = z.sram_length; page_length = ap length stored ∙ length_put p EPCR0 v ∙ z.page_length }

    abbrev dropped : State
    dropped = with_control s (with_on s.control false)

    pub stall_drops : Sized (memory d f p) → {r : State} → r ≡ dropped → Controls (requests stack) s (memory d f p) q dev rep c r (memory d f p') q dev rep c
    unfolding unstalls drops_request apply
    stall_drops z {r} e =
        record {
          leads = λ w.
              by_true stalled unstalls (stages stack) (cc)
              (in_turn (once (λ v. control (with_on v.state.control false)) (at_control w s (memory d f p) q dev rep c) (at_control w dropped (memory d f p) q dev rep c) refl)
              (leads_as (on_page_lem (changing EPCR0 (λ y. W.clear y 0x10001)) (at_control w s (memory d f p) q dev rep c) dropped p p' s.port.line stall_inside page_is) (cc)));
          sized = stall_sized z;
        }

-- ---- no request runs

module _ (stack : Bool) (s : State) (m : Memory) (q d p c : List ℕ) (off : s.control.on ≡ false) where
  abbrev waits : Step
  waits = if (λ v. eqb v.state.lengths.setups 0) configured posts

  abbrev first_waiting : Setup
  first_waiting = record { first = little q 0; second = little q 4 }

  pub streaming_starts : {o : Option Setup} → o ≡ next_of q s.lengths.setups → o ≡ None → Sized m → {r : State} → Alone configured s r → Controls (controls stack) s m q d p c r m q d p c
  unfolding controls
  streaming_starts e is z k =
      record {
        leads = λ w.
            by_false (λ v. v.state.control.on) (requests stack) waits off
            (by_true (λ v. eqb v.state.lengths.setups 0) configured posts (grind arith) (k.leads (at_control w s m q d p c)));
        sized = z;
      }

  pub setup_posted : {o : Option Setup} {setup : Setup} → o ≡ next_of q s.lengths.setups → o ≡ Some setup → {r : State} {m' : Memory} {q' : List ℕ}
      → Posts (posted (queue_head (endpoint 0 false) m.page) setup.first setup.second) s m q r m' q' → Controls (controls stack) s m q d p c r m' q' d p c
  unfolding controls posts
  setup_posted {o} {setup} e found {r} {m'} {q'} k =
      let some : eqb s.lengths.setups 0 ≡ false = grind arith in
      let is : setup ≡ first_waiting = grind arith in
      let k' = subst (λ (x : Setup). Posts (posted (queue_head (endpoint 0 false) m.page) x.first x.second) s m q r m' q') is k in
      record {
        leads = λ w.
            by_false (λ v. v.state.control.on) (requests stack) waits off
            (by_false (λ v. eqb v.state.lengths.setups 0) configured posts some (from_here _ (at_control w s m q d p c) (k'.leads (at_control w s m q d p c))));
        sized = k.sized;
      }
