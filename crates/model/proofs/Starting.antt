-- VBUS comes on, under every setting: a host that is idle, one that is just back, and one whose device left begin the phase Vbus in this
-- same microframe (document 01, "Host record"; usbhost.rs 394-407, 430-458).
use Prim.Native.Nat.{ℕ, ◌+◌, ◌^◌, ◌<◌}
use mathlib.Core.Path.{◌≡◌, refl, sym, ap, subst, ◌∙◌}
use mathlib.Core.Bool.{Bool, true, false}
use mathlib.Core.Logic.{◌⊎◌, inl, inr}
use native.Mathlib.Omega.{arith}
use Rattle.bits.specs.Word.{set}
use Rattle.bits.proofs.Tests.{false_true}
use Rattle.bus.specs.Steps.{and_then, exec_then}
use Rattle.usbdev.specs.Offsets.{OTGSC}
use Rattle.usbdev.specs.Registers as R
use Rattle.usbdev.specs.Registers.{PageStep, following}
use Rattle.record.specs.declared.Phase.{Phase}
use Rattle.record.specs.declared.Phase.TheVariants.{Idle, Vbus}
use Rattle.record.specs.declared.Settings.{Settings}
use Rattle.record.specs.Record.{raised, wrapped}
use Rattle.record.specs.World.{World}
use Rattle.record.specs.Change.{gone, was_running, apply, left, ◌then◌, nothing, when, one, here, on_page}
use Rattle.model.specs.Phases.{changing, counts, ticks, drops_request, forgets, returns, cable, suspends, enters, departs, leaves, idles, powers}
use Rattle.model.specs.Microframe.{rs_set, gone_at, asleep_at, opens, by_phase, at_phase, microframe}
use Rattle.model.specs.Reach.{to_phase, phase_by}
use Rattle.model.specs.Progress.{Begins}
use Rattle.model.proofs.Fields.{fields_then, keeps_page}
use Rattle.model.proofs.Progress.{Stand, stand_of, stands, when_true, when_false, keeps_resumes, stand_ticks, stand_opens, frame_plain}

-- ---- up to the test of the device

-- phase, count, and RS seen set
record Early : Type 0 where
  phase : Phase
  uf : ℕ
  was_running : Bool

abbrev early : Stand → Early
early k = record { phase = k.phase; uf = k.uf; was_running = k.was_running }

abbrev returned : Early → Early
returned k = record { phase = Idle; uf = k.uf; was_running = k.was_running }

abbrev counting : World → Early
counting w = record { phase = w.state.phase; uf = wrapped (w.state.port.uf + 1); was_running = w.state.port.was_running }

early_returns : (u : World) → early (stand_of (left (one (λ v. gone false) then returns) u)) ≡ returned (early (stand_of u))
unfolding and_then one apply returns forgets drops_request raised
early_returns u = refl

-- a host that is just back is Idle
early_back : (c : Settings) (w : World) → w.state.port.gone ≡ true → early (stand_of (left (opens c false) w)) ≡ returned (counting w)
unfolding opens cable
early_back c w e =
    let u = left (when (λ v. c.midi_in) ticks) (left counts w) in
    ap early (fields_then stands _ _ w ∙ fields_then stands _ _ (left counts w))
    ∙ ap (λ (x : World). early (stand_of x)) (when_true (λ v. v.state.port.gone) _ u (ap (λ (k : Stand). k.gone) (stand_ticks c w) ∙ e))
    ∙ early_returns u
    ∙ ap (λ (k : Stand). returned (early k)) (stand_ticks c w)

-- ---- from there on

-- the phase Vbus, begun at the count n
record VbusAt (n : ℕ) (w : World) : Type 0 where
  phase : w.state.phase ≡ Vbus
  counts : w.state.port.uf ≡ n
  starts : w.state.port.t ≡ n

enters_vbus : (v : World) → VbusAt v.state.port.uf (left (enters Vbus) v)
unfolding enters and_then one apply
enters_vbus v = record { phase = refl; counts = refl; starts = refl }

idles_vbus : (v : World) → VbusAt v.state.port.uf (left idles v)
unfolding idles
idles_vbus v =
    let same : (left (on_page on) v).state.port.uf ≡ v.state.port.uf = ap (λ (k : Stand). k.uf) (keeps_page stands on v) in
    let x = enters_vbus (left (on_page on) v) in
    subst (VbusAt v.state.port.uf) (sym (exec_then apply (on_page on) (enters Vbus) v)) (record { phase = x.phase; counts = x.counts ∙ same; starts = x.starts ∙ same })
  where
    on : PageStep
    on = R.◌then◌ (changing OTGSC (λ v. set v 0x81E00)) following

departs_vbus : (v : World) → VbusAt v.state.port.uf (left departs v)
unfolding departs enters forgets drops_request and_then one apply
departs_vbus v = record { phase = refl; counts = refl; starts = refl }

by_idle : (c : Settings) (t : ℕ) (rs : Bool) (v : World) → v.state.phase ≡ Idle → VbusAt v.state.port.uf (left (by_phase c t rs) v)
unfolding by_phase here
by_idle c t rs v e = subst (λ (p : Phase). VbusAt v.state.port.uf (left (at_phase c t rs p) v)) (sym e) (idles_vbus v)

by_vbus : (c : Settings) (t n : ℕ) (v : World) → VbusAt n v → VbusAt n (left (by_phase c t false) v)
unfolding by_phase here powers
by_vbus c t n v x =
    subst (λ (p : Phase). VbusAt n (left (at_phase c t false p) v)) (sym x.phase)
    (subst (VbusAt n) (sym (when_false (λ w. false) _ v refl)) x)

-- 430-458: idle, and left or not
by_leaves : (c : Settings) (t : ℕ) (stack rs : Bool) (v : World) → v.state.phase ≡ Idle → VbusAt v.state.port.uf (left (by_phase c t rs) (left (leaves stack rs) v))
unfolding leaves one apply nothing
by_leaves c t false rs v e = by_idle c t rs v e
by_leaves c t true true v e = by_idle c t true (apply (was_running true) v) e
by_leaves c t true false v e = by v.state.port.was_running refl
  where
    by : (b : Bool) → v.state.port.was_running ≡ b → VbusAt v.state.port.uf (left (by_phase c t false) (left (when (λ w. w.state.port.was_running) departs) v))
    by true r =
        subst (λ (x : World). VbusAt v.state.port.uf (left (by_phase c t false) x)) (sym (when_true (λ w. w.state.port.was_running) departs v r))
        (by_vbus c t v.state.port.uf (left departs v) (departs_vbus v))
    by false r =
        subst (λ (x : World). VbusAt v.state.port.uf (left (by_phase c t false) x)) (sym (when_false (λ w. w.state.port.was_running) departs v r)) (by_idle c t false v e)

-- 435-446: left, in whatever phase
by_left : (c : Settings) (t : ℕ) (stack rs : Bool) (v : World) → stack ≡ true → rs ≡ false → v.state.port.was_running ≡ true
    → VbusAt v.state.port.uf (left (by_phase c t rs) (left (leaves stack rs) v))
unfolding leaves
by_left c t false rs v s e r = absurd (false_true s)
by_left c t true true v s e r = absurd (false_true (sym e))
by_left c t true false v s e r =
    subst (λ (x : World). VbusAt v.state.port.uf (left (by_phase c t false) x)) (sym (when_true (λ w. w.state.port.was_running) departs v r))
    (by_vbus c t v.state.port.uf (left departs v) (departs_vbus v))

-- ---- the whole microframe

module _ (t : ℕ) (w : World) (present : gone_at t w ≡ false) (awake : asleep_at t w ≡ false) where
  -- the World at the test of the device
  abbrev before : World
  before = left (suspends false) (left (opens w.settings false) w)

  whole : left (microframe t) w ≡ left (by_phase w.settings t (rs_set w)) (left (leaves w.settings.device_stack (rs_set w)) before)
  unfolding phase_by to_phase
  whole =
      frame_plain t w present awake
      ∙ ap (left (by_phase w.settings t (rs_set w)))
      (exec_then apply (opens w.settings false) _ w ∙ exec_then apply (suspends false) _ (left (opens w.settings false) w))

  -- what stands there
  early_before : (k : Early) → early (stand_of (left (opens w.settings false) w)) ≡ k → early (stand_of before) ≡ k
  early_before k e = ap early (keeps_resumes (left (opens w.settings false) w)) ∙ e

  -- the phase begins at the microframe's own count, which the World there has
  at_count : before.state.port.uf ≡ wrapped (w.state.port.uf + 1)
      → VbusAt before.state.port.uf (left (by_phase w.settings t (rs_set w)) (left (leaves w.settings.device_stack (rs_set w)) before))
      → VbusAt (wrapped (w.state.port.uf + 1)) (left (microframe t) w)
  at_count same x = subst (λ (n : ℕ). VbusAt n (left (microframe t) w)) same (subst (VbusAt before.state.port.uf) (sym whole) x)

  from_idle : (k : Early) → early (stand_of before) ≡ k → k.phase ≡ Idle → k.uf ≡ wrapped (w.state.port.uf + 1) → VbusAt (wrapped (w.state.port.uf + 1)) (left (microframe t) w)
  from_idle k s q u =
      at_count (ap (λ (x : Early). x.uf) s ∙ u)
      (by_leaves w.settings t w.settings.device_stack (rs_set w) before (ap (λ (x : Early). x.phase) s ∙ q))

  by_mark : (b : Bool) → w.state.port.gone ≡ b → (w.state.phase ≡ Idle) ⊎ (w.state.port.gone ≡ true) → VbusAt (wrapped (w.state.port.uf + 1)) (left (microframe t) w)
  by_mark true m c = from_idle _ (early_before _ (early_back w.settings w m)) refl refl
  by_mark false m (inl e) = from_idle _ (early_before _ (ap early (stand_opens w.settings w m))) e refl
  by_mark false m (inr g) = absurd (false_true (sym m ∙ g))

  from_left : w.state.port.gone ≡ false → w.settings.device_stack ≡ true → w.state.port.was_running ≡ true → rs_set w ≡ false
      → VbusAt (wrapped (w.state.port.uf + 1)) (left (microframe t) w)
  from_left still stack ran off =
      let s = early_before _ (ap early (stand_opens w.settings w still)) in
      at_count (ap (λ (x : Early). x.uf) s)
      (by_left w.settings t w.settings.device_stack (rs_set w) before stack off (ap (λ (x : Early). x.was_running) s ∙ ran))

-- a count that does not wrap
plain_count : (w v : World) → w.state.port.uf < 2 ^ 40 → VbusAt (wrapped (w.state.port.uf + 1)) v → Begins Vbus w v
plain_count w v few x =
    let count : wrapped (w.state.port.uf + 1) ≡ w.state.port.uf + 1 = omega arith in
    record { phase = x.phase; counts = x.counts ∙ count; starts = x.starts ∙ count }

-- an idle host does not stay so, whatever its count
pub idle_wakes : (t : ℕ) (w : World) → gone_at t w ≡ false → asleep_at t w ≡ false → w.state.phase ≡ Idle → (left (microframe t) w).state.phase ≡ Vbus
idle_wakes t w present awake e = (by_mark t w present awake w.state.port.gone refl (inl e)).phase

-- a host that is idle, or just back from gone, turns VBUS on
pub vbus_begins : (t : ℕ) (w : World) → gone_at t w ≡ false → asleep_at t w ≡ false → w.state.port.uf < 2 ^ 40 → (w.state.phase ≡ Idle) ⊎ (w.state.port.gone ≡ true)
    → Begins Vbus w (left (microframe t) w)
vbus_begins t w present awake few c =
    plain_count w (left (microframe t) w) few (by_mark t w present awake w.state.port.gone refl c)

-- with the device stack, RS seen set and now clear: the device left, and VBUS begins anew, in whatever phase
pub left_begins : (t : ℕ) (w : World) → gone_at t w ≡ false → asleep_at t w ≡ false → w.state.port.uf < 2 ^ 40 → w.state.port.gone ≡ false
    → w.settings.device_stack ≡ true → w.state.port.was_running ≡ true → rs_set w ≡ false → Begins Vbus w (left (microframe t) w)
left_begins t w present awake few still stack ran off =
    plain_count w (left (microframe t) w) few (from_left t w present awake still stack ran off)
