-- Register words that the steps before control leave alone: URI, bit 6 of USBSTS, and endpoint 0's control word (usbhost.rs 374-447, 493-495).
use Prim.Native.Nat.{ℕ, ◌+◌, ◌-◌, ◌/◌, ◌%◌, ◌^◌, ◌≤◌}
use mathlib.Core.Path.{◌≡◌, refl, sym, ap, subst, ◌∙◌}
use mathlib.Core.Bool.{Bool, true, false, ◌&&◌}
use mathlib.Core.List.{List, [], ◌∷◌, ◌++◌}
use mathlib.Core.Logic.{◌⊎◌, inl, inr}
use native.Mathlib.Omega.{arith}
use lib.Dec.{eqb, ltb}
use lib.ListN.{length, get_or, set, length-set}
use lib.Seq.{get_or-set_same, get_or-set_other}
use Rattle.bits.specs.Pick.{pick, pick_both}
use Rattle.bits.specs.Word as W
use Rattle.bits.specs.Word.{any, clear}
use Rattle.bits.proofs.Bit.{bit, any_bit, any_set_other}
use Rattle.bus.specs.Memory.{word}
use Rattle.bus.specs.Words.{word_at, word_put}
use Rattle.bus.specs.Steps.{replay, exec, and_then, replay_append, exec_then, exec_choose}
use Rattle.bus.specs.Stores as S
use Rattle.bus.proofs.Registers.{length_put, word_apart}
use Rattle.usbdev.specs.Offsets.{USBSTS, EPCR0}
use Rattle.usbdev.specs.Registers as R
use Rattle.usbdev.specs.Registers.{Registers, registers, PageStore, put, irq, store, PageStep, lifted, setting, following, raising}
use Rattle.usbdev.proofs.Laws.{Inside, on_bus_lem}
use Rattle.gptimers.specs.declared.Timers.{Timers}
use Rattle.gptimers.specs.Timer.{Timer, ZERO, STEP, RUN, RESET, REPEAT, control_register, start_of, resetting, stopping, expiring, counted, control_of, after_reset, ticking, ticking_both}
use Rattle.record.specs.declared.Settings.{Settings}
use Rattle.record.specs.World.{World, bus_of}
use Rattle.record.specs.Change.{Change, apply, Step, left, ◌then◌, nothing, if, one, here, on_page}
use Rattle.record.proofs.Laws.{replay_bus}
use Rattle.model.specs.Phases.{changing, counts, ticks, drops_request, forgets, returns, cable, suspends, enters, departs, leaves, starts_frame}
use Rattle.model.specs.Microframe.{opens}
use Rattle.model.specs.Reach.{to_phase, phase_by}

-- a page of 4,096 bytes, with the URI and the EPCR0 of another
pub record Alike (p p' : List ℕ) : Type 0 where
  pub long : length p' ≡ 4096
  pub uri : any (word_at p' USBSTS) 0x40 ≡ any (word_at p USBSTS) 0x40
  pub stall : word_at p' EPCR0 ≡ word_at p EPCR0

alike_self : (p : List ℕ) → length p ≡ 4096 → Alike p p
alike_self p h = record { long = h; uri = refl; stall = refl }

pub alike_then : {p q r : List ℕ} → Alike p q → Alike q r → Alike p r
alike_then x y = record { long = y.long; uri = y.uri ∙ x.uri; stall = y.stall ∙ x.stall }

-- ---- URI by the byte that has it (a page is big-endian)

-- USBSTS is at 0x144: URI is bit 6 of byte 0x147
pub uri_byte : (p : List ℕ) → any (word_at p USBSTS) 0x40 ≡ eqb (get_or p 0x147 0 / 64 % 2) 1
unfolding bit word_at word
uri_byte p =
    let same : bit 6 (word_at p USBSTS) ≡ get_or p 0x147 0 / 64 % 2 = omega arith in
    any_bit 6 (word_at p USBSTS) ∙ ap (λ (x : ℕ). eqb x 1) same

-- ---- stores on the page

-- a word that was stored is read again, whatever its width
pub word_back : (l : List ℕ) (i v : ℕ) → i + 4 ≤ length l → word_at (word_put l i v) i ≡ v
unfolding word_at word_put word
word_back l i v h = omega (arith, b₀, b₁, b₂, b₃)
  where
    l₁ : List ℕ
    l₁ = set l i (v / 2 ^ 24)

    l₂ : List ℕ
    l₂ = set l₁ (i + 1) (v / 2 ^ 16 % 256)

    l₃ : List ℕ
    l₃ = set l₂ (i + 2) (v / 2 ^ 8 % 256)

    s₁ : length l₁ ≡ length l
    s₁ = length-set l i (v / 2 ^ 24)

    s₂ : length l₂ ≡ length l
    s₂ = length-set l₁ (i + 1) (v / 2 ^ 16 % 256) ∙ s₁

    s₃ : length l₃ ≡ length l
    s₃ = length-set l₂ (i + 2) (v / 2 ^ 8 % 256) ∙ s₂

    b₃ : get_or (word_put l i v) (i + 3) 0 ≡ v % 256
    b₃ = get_or-set_same l₃ (i + 3) (v % 256) 0 (omega (arith, s₃))

    b₂ : get_or (word_put l i v) (i + 2) 0 ≡ v / 2 ^ 8 % 256
    b₂ =
        get_or-set_other l₃ (i + 3) (i + 2) (v % 256) 0 (λ e. omega arith)
        ∙ get_or-set_same l₂ (i + 2) (v / 2 ^ 8 % 256) 0 (omega (arith, s₂))

    b₁ : get_or (word_put l i v) (i + 1) 0 ≡ v / 2 ^ 16 % 256
    b₁ =
        get_or-set_other l₃ (i + 3) (i + 1) (v % 256) 0 (λ e. omega arith)
        ∙ get_or-set_other l₂ (i + 2) (i + 1) (v / 2 ^ 8 % 256) 0 (λ e. omega arith)
        ∙ get_or-set_same l₁ (i + 1) (v / 2 ^ 16 % 256) 0 (omega (arith, s₁))

    b₀ : get_or (word_put l i v) i 0 ≡ v / 2 ^ 24
    b₀ =
        get_or-set_other l₃ (i + 3) i (v % 256) 0 (λ e. omega arith)
        ∙ get_or-set_other l₂ (i + 2) i (v / 2 ^ 8 % 256) 0 (λ e. omega arith)
        ∙ get_or-set_other l₁ (i + 1) i (v / 2 ^ 16 % 256) 0 (λ e. omega arith)
        ∙ get_or-set_same l i (v / 2 ^ 24) 0 (omega arith)

-- a register of its own: neither USBSTS nor EPCR0, and within the page
pub record Apart (o : ℕ) : Type 0 where
  pub inside : o + 4 ≤ 4096
  pub status : (USBSTS + 4 ≤ o) ⊎ (o + 4 ≤ USBSTS)
  pub control : (EPCR0 + 4 ≤ o) ⊎ (o + 4 ≤ EPCR0)

alike_put : (p : List ℕ) (o v : ℕ) → length p ≡ 4096 → Apart o → Alike p (word_put p o v)
alike_put p o v h a =
    record {
      long = length_put p o v ∙ h;
      uri = ap (λ (x : ℕ). any x 0x40) (word_apart p o v USBSTS a.status);
      stall = word_apart p o v EPCR0 a.control;
    }

-- a bit of USBSTS other than URI
alike_set : (p : List ℕ) (k : ℕ) → length p ≡ 4096 → (6 ≡ k → ⊥) → Alike p (word_put p USBSTS (W.set (word_at p USBSTS) (2 ^ k)))
alike_set p k h other =
    record {
      long = length_put p USBSTS _ ∙ h;
      uri = ap (λ (x : ℕ). any x 0x40) (word_back p USBSTS _ (omega (arith, h))) ∙ any_set_other 6 k (word_at p USBSTS) other;
      stall = word_apart p USBSTS _ EPCR0 (inr (omega arith));
    }

-- ---- steps on the page

record Calm (ss : List PageStore) (r : Registers) : Type 0 where
  inside : Inside ss
  alike : Alike r.page (replay store ss r).page

abbrev CalmStep : PageStep → Type 0
CalmStep f = (r : Registers) → length r.page ≡ 4096 → Calm (f r) r

inside_append : (ss us : List PageStore) → Inside ss → Inside us → Inside (ss ++ us)
inside_append [] us h k = k
inside_append (put o v ∷ ss) us h k = (h.0, inside_append ss us h.1 k)
inside_append (irq l ∷ ss) us h k = inside_append ss us h k

calm_none : (r : Registers) → length r.page ≡ 4096 → Calm [] r
calm_none r h = record { inside = tt; alike = alike_self r.page h }

calm_put : (o v : ℕ) (r : Registers) → length r.page ≡ 4096 → Apart o → Calm (put o v ∷ []) r
unfolding store
calm_put o v r h a = record { inside = (a.inside, tt); alike = alike_put r.page o v h a }

calm_pick : (t : Bool) (ss us : List PageStore) (r : Registers) → Calm ss r → Calm us r → Calm (pick t ss us) r
calm_pick true ss us r x y = x
calm_pick false ss us r x y = y

calm_then : (f g : PageStep) → CalmStep f → CalmStep g → CalmStep (R.◌then◌ f g)
unfolding and_then
calm_then f g p q r h =
    let x = p r h in
    let y = q (exec store f r) x.alike.long in
    record {
      inside = inside_append (f r) (g (exec store f r)) x.inside y.inside;
      alike = subst (λ (z : Registers). Alike r.page z.page) (sym (replay_append store (f r) (g (exec store f r)) r)) (alike_then x.alike y.alike);
    }

calm_changing : (o : ℕ) (f : ℕ → ℕ) → Apart o → CalmStep (changing o f)
unfolding changing
calm_changing o f a r h = calm_put o (f (word_at r.page o)) r h a

calm_setting : (k : ℕ) → (6 ≡ k → ⊥) → CalmStep (setting (2 ^ k))
unfolding setting store
calm_setting k other r h = record { inside = (omega arith, tt); alike = alike_set r.page k h other }

calm_following : CalmStep following
unfolding following store
calm_following r h = record { inside = tt; alike = alike_self r.page h }

calm_raising : (k : ℕ) → (6 ≡ k → ⊥) → CalmStep (raising (2 ^ k))
calm_raising k other = calm_then (setting (2 ^ k)) following (calm_setting k other) calm_following

-- ---- the timers

calm_resetting : (k c : ℕ) → Apart (control_register k) → CalmStep (resetting k c)
unfolding resetting
calm_resetting k c a r h = calm_pick (any c RESET) _ _ r (calm_put (control_register k) (clear c RESET) r h a) (calm_none r h)

calm_stopping : (k c : ℕ) → Apart (control_register k) → CalmStep (stopping k c)
unfolding stopping
calm_stopping k c a r h = calm_pick (any c REPEAT) _ _ r (calm_none r h) (calm_put (control_register k) (clear c RUN) r h a)

calm_expiring : (k c : ℕ) → Apart (control_register k) → CalmStep (expiring k c)
unfolding expiring
calm_expiring k c a = calm_then (raising (2 ^ (24 + k))) (stopping k c) (calm_raising (24 + k) (λ e. omega (arith, e))) (calm_stopping k c a)

calm_counted : (step k c : ℕ) (t : Timer) → Apart (control_register k) → CalmStep (counted step k c t)
unfolding counted
calm_counted step k c t a r h = calm_pick (any c RUN && ltb (start_of k t r.page - step) ZERO) _ _ r (calm_expiring k c a r h) (calm_none r h)

calm_ticking : (step k : ℕ) (t : Timer) → Apart (control_register k) → CalmStep (ticking step k t)
unfolding ticking
calm_ticking step k t a r h =
    calm_then (resetting k (control_of k r)) (counted step k (control_of k r) (after_reset (control_of k r) t)) (calm_resetting k (control_of k r) a) (calm_counted step k (control_of k r) (after_reset (control_of k r) t) a) r h

-- a register below USBSTS, or between USBSTS and EPCR0
below : (o : ℕ) → o + 4 ≤ USBSTS → Apart o
below o h = record { inside = omega (arith, h); status = inr h; control = inr (omega (arith, h)) }

between : (o : ℕ) → USBSTS + 4 ≤ o → o + 4 ≤ EPCR0 → Apart o
between o h k = record { inside = omega (arith, k); status = inl h; control = inr k }

calm_both : (ts : Timers) → CalmStep (ticking_both STEP ts)
unfolding ticking_both
calm_both ts = calm_then (ticking STEP 0 ts.zero) (ticking STEP 1 ts.one) (calm_ticking STEP 0 ts.zero (below _ (omega arith))) (calm_ticking STEP 1 ts.one (below _ (omega arith)))

-- ---- steps of the microframe

abbrev pub Leaves : Step → Type 0
Leaves f = (w : World) → length w.lent.memory.page ≡ 4096 → Alike w.lent.memory.page (left f w).lent.memory.page

leaves_then : (f g : Step) → Leaves f → Leaves g → Leaves (f then g)
leaves_then f g p q w h =
    subst (λ (x : World). Alike w.lent.memory.page x.lent.memory.page) (sym (exec_then apply f g w))
    (alike_then (p w h) (q (left f w) (p w h).long))

leaves_if : (t : World → Bool) (f g : Step) → Leaves f → Leaves g → Leaves (if t f g)
leaves_if t f g p q w h =
    subst (λ (x : World). Alike w.lent.memory.page x.lent.memory.page) (sym (exec_choose apply t f g w))
    (pick_both (λ (x : World). Alike w.lent.memory.page x.lent.memory.page) (t w) (p w h) (q w h))

leaves_nothing : Leaves nothing
unfolding nothing
leaves_nothing w h = alike_self w.lent.memory.page h

leaves_here : (f : World → Step) → ((v : World) → Leaves (f v)) → Leaves (here f)
unfolding here
leaves_here f p w h = p w w h

-- a change that is no store
leaves_one : (c : World → Change) → ((w : World) → (apply (c w) w).lent.memory.page ≡ w.lent.memory.page) → Leaves (one c)
unfolding one
leaves_one c e w h = subst (Alike w.lent.memory.page) (sym (e w)) (alike_self w.lent.memory.page h)

leaves_page : (f : PageStep) → CalmStep f → Leaves (on_page f)
unfolding on_page
leaves_page f p w h =
    let r = registers w.lent.memory.page w.state.port.line in
    let x = p r h in
    subst (Alike w.lent.memory.page)
    (sym
    (ap (λ (v : World). v.lent.memory.page) (replay_bus (lifted f (bus_of w)) w)
    ∙ ap (λ (b : S.Bus). b.memory.page) (on_bus_lem (f r) w.lent.memory.dynamic w.lent.memory.sram w.lent.memory.page w.state.port.line x.inside)))
    x.alike

leaves_counts : Leaves counts
unfolding counts apply
leaves_counts = leaves_then _ _ (leaves_one _ (λ w. refl)) (leaves_one _ (λ w. refl))

leaves_ticks : Leaves ticks
unfolding ticks apply
leaves_ticks = leaves_here _ (λ v. leaves_then _ _ (leaves_one _ (λ w. refl)) (leaves_page _ (calm_both v.state.timers)))

leaves_drops : Leaves drops_request
unfolding drops_request apply
leaves_drops = leaves_one _ (λ w. refl)

leaves_forgets : Leaves forgets
unfolding forgets apply
leaves_forgets =
    leaves_then _ _ (leaves_one _ (λ w. refl))
    (leaves_then _ _ leaves_drops (leaves_then _ _ (leaves_one _ (λ w. refl)) (leaves_then _ _ (leaves_one _ (λ w. refl)) (leaves_one _ (λ w. refl)))))

leaves_returns : Leaves returns
unfolding returns apply
leaves_returns = leaves_then _ _ (leaves_one _ (λ w. refl)) (leaves_then _ _ leaves_forgets (leaves_one _ (λ w. refl)))

leaves_cable : Leaves (cable false)
unfolding cable apply
leaves_cable = leaves_if _ _ _ (leaves_then _ _ (leaves_one _ (λ w. refl)) leaves_returns) leaves_nothing

leaves_resumes : Leaves (suspends false)
unfolding suspends apply
leaves_resumes =
    leaves_if _ _ _
    (leaves_then _ _ (leaves_one _ (λ w. refl)) (leaves_page _ (calm_then _ _ (calm_changing _ _ (between _ (omega arith) (omega arith))) (calm_raising 2 (λ e. omega (arith, e))))))
    leaves_nothing

leaves_departs : Leaves departs
unfolding departs enters apply
leaves_departs =
    leaves_then _ _ (leaves_one _ (λ w. refl)) (leaves_then _ _ (leaves_then _ _ (leaves_one _ (λ w. refl)) (leaves_one _ (λ w. refl))) leaves_forgets)

leaves_leaves : (stack rs : Bool) → Leaves (leaves stack rs)
unfolding leaves apply
leaves_leaves false rs = leaves_nothing
leaves_leaves true true = leaves_one _ (λ w. refl)
leaves_leaves true false = leaves_if _ _ _ leaves_departs leaves_nothing

leaves_opens : (c : Settings) → Leaves (opens c false)
unfolding opens
leaves_opens c = leaves_then _ _ leaves_counts (leaves_then _ _ (leaves_if _ _ _ leaves_ticks leaves_nothing) leaves_cable)

-- at the choice by phase
pub alike_phase : (rs : Bool) (w : World) → length w.lent.memory.page ≡ 4096 → Alike w.lent.memory.page (phase_by rs w).lent.memory.page
unfolding phase_by to_phase
alike_phase rs w h =
    leaves_then _ _ (leaves_opens w.settings) (leaves_then _ _ leaves_resumes (leaves_leaves w.settings.device_stack rs)) w h

-- past the start of frame
pub alike_frame : Leaves starts_frame
unfolding starts_frame
alike_frame = leaves_page _ (calm_then _ _ (calm_changing _ _ (between _ (omega arith) (omega arith))) (calm_raising 7 (λ e. omega (arith, e))))
