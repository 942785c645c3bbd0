-- What the proofs of the steps share: a register that is changed, a phase that begins, the timers' stores, setups that are queued, spans.
use Rattle.std.specs.Bool.{beq}
use Rattle.std.proofs.Common.{not, ◌≡◌, ℕ, ◌+◌, ◌-◌, ◌*◌, ◌/◌, ◌<◌, ◌≤◌, Bool, true, false, ◌&&◌, ltb, List, [], ◌∷◌, ◌++◌, length, sym, refl, ap, ◌∙◌, ap₂, arith}
use lib.Seq.{sets}
use Rattle.bits.specs.Pick.{pick_both}
use Rattle.bits.specs.Word.{any}
use Rattle.bus.specs.Steps.{and_then}
use Rattle.bus.specs.Words.{word_at, word_put}
use Rattle.usbdev.specs.Registers as R
use Rattle.usbdev.specs.Registers.{Registers, registers, PageStore, put, irq, PageStep, store, done, setting, following, raising}
use Rattle.usbdev.proofs.Laws.{Inside, done_then}
use Rattle.gptimers.specs.declared.Timers.{Timers}
use Rattle.gptimers.specs.Timer.{Timer, ZERO, RUN, RESET, REPEAT, resetting, after_reset, start_of, stopping, expiring, counted, control_of, ticking, ticking_both}
use Rattle.record.specs.declared.Phase.{Phase}
use Rattle.record.specs.declared.State.{State}
use Rattle.record.specs.Record.{with_lengths, with_setups}
use Rattle.record.specs.World.{World, with_state, at_page, lined}
use Rattle.record.specs.Change.{queued, apply, one}
use Rattle.record.specs.Did.{Leads, entered}
use Rattle.record.proofs.Laws.{once, on_page_lem}
use Rattle.model.specs.Phases.{changing, enters}
use Rattle.phases.specs.Promises.{Changed, at_setups}
use Rattle.model.specs.Phases.{changes}

-- a word is read, changed and stored, and a step goes on from there
pub changed_then : (o : ℕ) (f : ℕ → ℕ) (g : PageStep) (v : ℕ) (p p₁ : List ℕ) (l : Bool) {r : Registers}
    → v ≡ f (word_at p o)
    → p₁ ≡ word_put p o v
    → r ≡ done g (registers p₁ l)
    → r ≡ done (R.◌then◌ (changing o f) g) (registers p l)
unfolding changing store
changed_then o f g v p p₁ l word stored rest =
    rest ∙ ap (λ (q : List ℕ). done g (registers q l)) (stored ∙ ap (word_put p o) word) ∙ sym (done_then (changing o f) g (registers p l))

-- the same with bits of USBSTS raised, in the World
pub changed : (o : ℕ) (f : ℕ → ℕ) (sts v : ℕ) (w : World) (s : State) (p p₁ p₂ : List ℕ) (l : Bool)
    → o + 4 ≤ 4096
    → v ≡ f (word_at p o)
    → p₁ ≡ word_put p o v
    → registers p₂ l ≡ done (raising sts) (registers p₁ s.port.line)
    → Leads (changes o f sts) (at_page w s p) (at_page w (lined s l) p₂)
unfolding and_then changing setting following
changed o f sts v w s p p₁ p₂ l fits word stored raised =
    on_page_lem (R.◌then◌ (changing o f) (raising sts)) w s p p₂ l (fits, (omega arith, tt))
    (changed_then o f (raising sts) v p p₁ s.port.line word stored raised)

-- the same by what the change of a word gives
pub changed_by : {post : ℕ → ℕ → Type 0} (o : ℕ) (f : ℕ → ℕ) (sts : ℕ) (w : World) (s : State) (p p' : List ℕ) (l : Bool)
    → o + 4 ≤ 4096 → Changed post o sts s.port.line p p' l → ((x v : ℕ) → post x v → v ≡ f x)
    → Leads (changes o f sts) (at_page w s p) (at_page w (lined s l) p')
changed_by o f sts w s p p' l fits c by = changed o f sts c.word w s p (word_put p o c.word) p' l fits (by _ _ c.made) refl c.stored

-- a phase begins
pub begins : (p : Phase) (w : World) (s s' : State) → s' ≡ entered s p → Leads (enters p) (with_state w s) (with_state w s')
unfolding enters and_then one apply
begins p w s s' e = record { is = ap (with_state w) e }

-- the same behind a change of the page, from the state before it
pub begins_lined : (p : Phase) (w : World) (s s' : State) (q : List ℕ) (l : Bool) → s' ≡ entered s p
    → Leads (enters p) (at_page w (lined s l) q) (at_page w (lined s' l) q)
begins_lined p w s s' q l e = begins p (at_page w s q) (lined s l) (lined s' l) (ap (λ (x : State). lined x l) e)

-- ---- a switch that is turned

pub turned_on : (x : Bool) → beq true x ≡ false → not x ≡ true
turned_on true e = sym e
turned_on false e = refl

pub turned_off : (x : Bool) → beq false x ≡ false → x ≡ true
turned_off true e = refl
turned_off false e = sym e

-- ---- the timers store in the page alone

inside_append : (ss us : List PageStore) → Inside ss → Inside us → Inside (ss ++ us)
inside_append [] us h k = k
inside_append (put o v ∷ ss) us h k = (h.0, inside_append ss us h.1 k)
inside_append (irq l ∷ ss) us h k = inside_append ss us h k

inside_then : (f g : PageStep) (r : Registers) → Inside (f r) → Inside (g (done f r)) → Inside (R.◌then◌ f g r)
unfolding and_then
inside_then f g r h k = inside_append (f r) (g (done f r)) h k

inside_expiring : (k c : ℕ) (r : Registers) → k < 2 → Inside (expiring k c r)
unfolding expiring stopping and_then setting following
inside_expiring k c r h =
    (omega arith, pick_both (λ (ss : List PageStore). Inside ss) (any c REPEAT) tt (omega arith, tt))

inside_ticking : (step k : ℕ) (t : Timer) (r : Registers) → k < 2 → Inside (ticking step k t r)
unfolding ticking resetting counted
inside_ticking step k t r h =
    let c = control_of k r in
    let kept = after_reset c t in
    let v = done (resetting k c) r in
    inside_then (resetting k c) (counted step k c kept) r (pick_both (λ (ss : List PageStore). Inside ss) (any c RESET) (omega arith, tt) tt)
    (pick_both (λ (ss : List PageStore). Inside ss) (any c RUN && ltb (start_of k kept v.page - step) ZERO) (inside_expiring k c v h) tt)

pub inside_both : (step : ℕ) (ts : Timers) (r : Registers) → Inside (ticking_both step ts r)
unfolding ticking_both
inside_both step ts r =
    inside_then (ticking step 0 ts.zero) (ticking step 1 ts.one) r (inside_ticking step 0 ts.zero r (omega arith))
    (inside_ticking step 1 ts.one (done (ticking step 0 ts.zero) r) (omega arith))

-- setups go behind the n that wait
pub queues : (bs : List ℕ) (w : World) (s : State) (p q q' : List ℕ) (n : ℕ) → s.lengths.setups ≡ n → q' ≡ sets q (8 * n) bs
    → Leads (one (λ v. queued bs)) (at_setups w s p q) (at_setups w (with_lengths s (with_setups s.lengths (n + length bs / 8))) p q')
unfolding apply
queues bs w s p q q' n e stored =
    once (λ v. queued bs) (at_setups w s p q) _
    (ap₂ (λ (m : ℕ) (x : List ℕ). at_setups w (with_lengths s (with_setups s.lengths (m + length bs / 8))) p x) (sym e) (stored ∙ ap (λ (m : ℕ). sets q (8 * m) bs) (sym e)))
