-- How often enumeration ended: by one in the microframe in which no request runs and no setup waits, and in no other.
use Prim.Native.Nat.{ℕ, ◌+◌}
use mathlib.Core.Path.{◌≡◌, refl, ap, ap₂, sym, ◌∙◌}
use mathlib.Core.Bool.{Bool, true, false, not, ◌&&◌, ◌||◌}
use Rattle.bus.proofs.Sizes.{and_true}
use lib.Dec.{eqb}
use Rattle.bits.specs.Pick.{pick}
use Rattle.bits.proofs.Tests.{or_false}
use Rattle.bus.specs.Steps.{and_then, exec_then}
use Rattle.record.specs.declared.Phase.{Phase}
use Rattle.record.specs.declared.Phase.TheVariants.{Idle, Vbus, Reset, Enumerate, Stream}
use Rattle.record.specs.Record.{wrapped, raised, Counter, place, midi_dtds, midi_asleep, enumerations, counter_of}
use Rattle.record.proofs.Counters.{rose, raised_by, rose_other}
use Rattle.record.specs.World.{World}
use Rattle.record.specs.Change.{Change, bus, ran, lost, count, phase, timers, apply, left, if, one, nothing, port, audio, request, stream}
use Rattle.record.proofs.Beside.{port_beside, audio_beside, request_beside, stream_beside}
use Rattle.model.specs.Phases.{counts, ticks, sleeps, leaves}
use Rattle.model.specs.Control.{enumerating, posts, configured, stalled, unstalls, stages, requests, controls}
use Rattle.model.specs.Streams.{midi_in}
use Rattle.model.specs.Microframe as M
use Rattle.model.specs.Microframe.{enumerates, talks, at_phase}
use Rattle.model.specs.Reach.{phase_by}
use Rattle.model.proofs.Plain.{Ignored, plain_by, plain_counter_by, still_counts, still_ticks, still_idles, still_powers, still_resets, still_frame, still_posts, still_unstalls, still_stages, still_awake, still_transfers, still_suspends}
use Rattle.model.proofs.Fields.{Fields, Keeps, fields_then, fields_if, keeps_if, keeps_nothing, keeps_one}
use Rattle.model.proofs.Progress.{when_true}
use Rattle.reached.proofs.Standing.{Held}
use Rattle.reached.proofs.Opening.{Plain, ticked, phase_ticked, frame_in_lem}
use Rattle.reached.proofs.Early.{asked, asked_held}

abbrev pub enumerated_of : World → ℕ
enumerated_of w = counter_of enumerations w.state.stats

abbrev enumerated_counts : Counter → ℕ → ℕ → ℕ
enumerated_counts c n k = rose (place enumerations) (place c) n k

abbrev enumerated_on : Change → ℕ → ℕ
enumerated_on (bus s) k = k
enumerated_on (ran e r n) k = k
enumerated_on (lost n) k = k
enumerated_on (count c n) k = enumerated_counts c n k
enumerated_on (timers ts) k = k
enumerated_on (port c) k = k
enumerated_on (audio c) k = k
enumerated_on (request c) k = k
enumerated_on (stream c) k = k

enumerated_count : (c : Counter) (n : ℕ) (w : World) → enumerated_of (apply (count c n) w) ≡ enumerated_on (count c n) (enumerated_of w)
unfolding apply
enumerated_count c n w = raised_by (place enumerations) (place c) n w.state.stats

enumerated_apply : (c : Change) (w : World) → enumerated_of (apply c w) ≡ enumerated_on c (enumerated_of w)
unfolding apply
enumerated_apply (bus s) w = refl
enumerated_apply (ran e r n) w = refl
enumerated_apply (lost n) w = refl
enumerated_apply (count c n) w = enumerated_count c n w
enumerated_apply (timers ts) w = refl
enumerated_apply (port c) w = ap enumerated_of (port_beside c w)
enumerated_apply (audio c) w = ap enumerated_of (audio_beside c w)
enumerated_apply (request c) w = ap enumerated_of (request_beside c w)
enumerated_apply (stream c) w = ap enumerated_of (stream_beside c w)

abbrev enumerated : Fields ℕ
enumerated =
    record {
      of = enumerated_of;
      on = enumerated_on;
      applies = enumerated_apply;
      stores = λ s k. refl;
      marks = λ e n m k. refl;
      drops = λ n k. refl;
    }

-- of the changes beside the plain ones only its own count touches it
abbrev enumerated_ignored : Ignored
enumerated_ignored = record { block = true; enumerations = false; midi = true; marks = true }

enumerated_counter : (c : Counter) → plain_counter_by enumerated_ignored c ≡ true → (n : ℕ) (k : ℕ) → enumerated_on (count c n) k ≡ k
enumerated_counter c h n k =
    let rest = (and_true (not (eqb (place midi_asleep) (place c))) _ h).1 in
    let own = (and_true (not (eqb (place midi_dtds) (place c)) || true) _ rest).1 in
    rose_other (place enumerations) (place c) n k (sym (or_false (not (eqb (place enumerations) (place c)))) ∙ own)

enumerated_plain : (c : Change) → plain_by enumerated_ignored c ≡ true → (k : ℕ) → enumerated_on c k ≡ k
enumerated_plain (bus s) h k = refl
enumerated_plain (ran e r n) h k = refl
enumerated_plain (lost n) h k = refl
enumerated_plain (count c n) h k = enumerated_counter c h n k
enumerated_plain (timers ts) h k = refl
enumerated_plain (port c) h k = refl
enumerated_plain (audio c) h k = refl
enumerated_plain (request c) h k = refl
enumerated_plain (stream c) h k = refl

-- ---- control: enumeration ends where no request runs and no setup waits

ended_once : (v : World) → enumerated_of (left (one (λ w. count enumerations 1)) (left (one (λ w. phase Stream)) v)) ≡ wrapped (enumerated_of v + 1)
unfolding one apply raised
ended_once v = refl

counts_configured : (v : World) → enumerated_of (left configured v) ≡ pick (enumerating v.state.phase) (wrapped (enumerated_of v + 1)) (enumerated_of v)
unfolding configured
counts_configured v =
    fields_if enumerated _ _ _ v ∙ by_phase_lem (enumerating v.state.phase)
  where
    by_phase_lem : (b : Bool) → pick b (enumerated_of (left (and_then apply (one (λ w. phase Stream)) (one (λ w. count enumerations 1))) v)) (enumerated_of (left nothing v)) ≡ pick b (wrapped (enumerated_of v + 1)) (enumerated_of v)
    by_phase_lem true = fields_then enumerated _ _ v ∙ ended_once v
    by_phase_lem false = keeps_nothing enumerated v

-- whether enumeration ends
abbrev pub ends_by : Phase → Bool → ℕ → Bool
ends_by p on n = enumerating p && (not on && eqb n 0)

counts_controls : (v : World) → enumerated_of (left (controls false) v) ≡ pick (ends_by v.state.phase v.state.control.on v.state.lengths.setups) (wrapped (enumerated_of v + 1)) (enumerated_of v)
unfolding controls
counts_controls v =
    fields_if enumerated (λ w. w.state.control.on) (requests false) _ v
    ∙ by_tests v.state.control.on (eqb v.state.lengths.setups 0) (enumerating v.state.phase) refl refl
  where
    runs : enumerated_of (left (requests false) v) ≡ enumerated_of v
    runs = keeps_if enumerated stalled unstalls (stages false) (still_unstalls enumerated_ignored enumerated enumerated_plain) (still_stages enumerated_ignored enumerated enumerated_plain false refl) v

    other : (b n : Bool) → eqb v.state.lengths.setups 0 ≡ n → enumerating v.state.phase ≡ b → enumerated_of (left (if (λ w. eqb w.state.lengths.setups 0) configured posts) v) ≡ pick (b && n) (wrapped (enumerated_of v + 1)) (enumerated_of v)
    other true true e f = fields_if enumerated (λ w. eqb w.state.lengths.setups 0) configured posts v ∙ ap (λ (t : Bool). pick t (enumerated_of (left configured v)) (enumerated_of (left posts v))) e ∙ counts_configured v ∙ ap (λ (t : Bool). pick t (wrapped (enumerated_of v + 1)) (enumerated_of v)) f
    other false true e f = fields_if enumerated (λ w. eqb w.state.lengths.setups 0) configured posts v ∙ ap (λ (t : Bool). pick t (enumerated_of (left configured v)) (enumerated_of (left posts v))) e ∙ counts_configured v ∙ ap (λ (t : Bool). pick t (wrapped (enumerated_of v + 1)) (enumerated_of v)) f
    other true false e f = fields_if enumerated (λ w. eqb w.state.lengths.setups 0) configured posts v ∙ ap (λ (t : Bool). pick t (enumerated_of (left configured v)) (enumerated_of (left posts v))) e ∙ still_posts enumerated_ignored enumerated enumerated_plain v
    other false false e f = fields_if enumerated (λ w. eqb w.state.lengths.setups 0) configured posts v ∙ ap (λ (t : Bool). pick t (enumerated_of (left configured v)) (enumerated_of (left posts v))) e ∙ still_posts enumerated_ignored enumerated enumerated_plain v

    never : (b : Bool) → (b && false) ≡ false
    never true = refl
    never false = refl

    by_tests : (o n b : Bool) → eqb v.state.lengths.setups 0 ≡ n → enumerating v.state.phase ≡ b
        → pick o (enumerated_of (left (requests false) v)) (enumerated_of (left (if (λ w. eqb w.state.lengths.setups 0) configured posts) v)) ≡ pick (enumerating v.state.phase && (not o && eqb v.state.lengths.setups 0)) (wrapped (enumerated_of v + 1)) (enumerated_of v)
    by_tests true n b e f = runs ∙ ap (λ (t : Bool). pick t (wrapped (enumerated_of v + 1)) (enumerated_of v)) (sym (never (enumerating v.state.phase)))
    by_tests false n b e f = other b n e f ∙ ap₂ (λ (x y : Bool). pick (x && y) (wrapped (enumerated_of v + 1)) (enumerated_of v)) (sym f) (sym e)

-- ---- the whole microframe

keeps_midi : (asleep : Bool) (every : ℕ) → Keeps enumerated (midi_in asleep every)
unfolding midi_in sleeps
keeps_midi true every = keeps_one enumerated _ (λ w. refl)
keeps_midi false every = still_awake enumerated_ignored enumerated enumerated_plain refl every

keeps_leaves : (stack : Bool) → Keeps enumerated (leaves stack true)
unfolding leaves
keeps_leaves true = keeps_one enumerated _ (λ w. refl)
keeps_leaves false = keeps_nothing enumerated

module _ (t : ℕ) (w : World) (p : Plain t w) (without : w.settings.device_stack ≡ false) where
  opened : enumerated_of (phase_by true w) ≡ enumerated_of w
  opened =
      ap enumerated_of (phase_ticked true w p.still)
      ∙ keeps_leaves w.settings.device_stack _ ∙ still_suspends enumerated_ignored enumerated enumerated_plain refl false (ticked w.settings w)
      ∙ keeps_if enumerated (λ v. w.settings.midi_in) ticks nothing (still_ticks enumerated_ignored enumerated enumerated_plain) (keeps_nothing enumerated) (left counts w) ∙ still_counts enumerated_ignored enumerated enumerated_plain w

  -- the tests at control are those at entry
  tests : ends_by (asked t w p).state.phase (asked t w p).state.control.on (asked t w p).state.lengths.setups ≡ ends_by w.state.phase w.state.control.on w.state.lengths.setups
  tests = ap (λ (k : Held). ends_by k.stand.phase k.stand.on k.stand.waiting) (asked_held t w p)

  in_talks : (q : Phase) → w.state.phase ≡ q → left (at_phase w.settings t true q) (phase_by true w) ≡ left (talks w.settings t true) (phase_by true w)
      → enumerated_of (left (M.microframe t) w) ≡ pick (ends_by w.state.phase w.state.control.on w.state.lengths.setups) (wrapped (enumerated_of w + 1)) (enumerated_of w)
  unfolding talks enumerates
  in_talks q e f =
      let n = still_frame enumerated_ignored enumerated enumerated_plain (phase_by true w) ∙ opened in
      ap enumerated_of (frame_in_lem t w p q e ∙ f ∙ when_true (λ v. true) _ (phase_by true w) refl ∙ exec_then apply _ _ (phase_by true w))
      ∙ still_transfers enumerated_ignored enumerated enumerated_plain refl w.settings t (keeps_midi _ _) _
      ∙ fields_then enumerated _ _ (phase_by true w)
      ∙ ap (λ (b : Bool). enumerated_of (left (controls b) (asked t w p))) without
      ∙ counts_controls (asked t w p)
      ∙ ap₂ (λ (b : Bool) (k : ℕ). pick b (wrapped (k + 1)) k) tests n

  -- by the tests at entry
  pub enumerated_frame : enumerated_of (left (M.microframe t) w) ≡ pick (ends_by w.state.phase w.state.control.on w.state.lengths.setups) (wrapped (enumerated_of w + 1)) (enumerated_of w)
  enumerated_frame = by_phase_lem w.state.phase refl
    where
      none : (q : Phase) → w.state.phase ≡ q → enumerating q ≡ false → enumerated_of (left (M.microframe t) w) ≡ enumerated_of w
          → enumerated_of (left (M.microframe t) w) ≡ pick (ends_by w.state.phase w.state.control.on w.state.lengths.setups) (wrapped (enumerated_of w + 1)) (enumerated_of w)
      none q e f h = h ∙ ap (λ (b : Bool). pick (b && (not w.state.control.on && eqb w.state.lengths.setups 0)) (wrapped (enumerated_of w + 1)) (enumerated_of w)) (sym (ap enumerating e ∙ f))

      by_phase_lem : (q : Phase) → w.state.phase ≡ q → enumerated_of (left (M.microframe t) w) ≡ pick (ends_by w.state.phase w.state.control.on w.state.lengths.setups) (wrapped (enumerated_of w + 1)) (enumerated_of w)
      by_phase_lem Idle e = none Idle e refl (ap enumerated_of (frame_in_lem t w p Idle e) ∙ still_idles enumerated_ignored enumerated enumerated_plain _ ∙ opened)
      by_phase_lem Vbus e = none Vbus e refl (ap enumerated_of (frame_in_lem t w p Vbus e) ∙ still_powers enumerated_ignored enumerated enumerated_plain true _ ∙ opened)
      by_phase_lem Reset e = none Reset e refl (ap enumerated_of (frame_in_lem t w p Reset e) ∙ still_resets enumerated_ignored enumerated enumerated_plain _ ∙ opened)
      by_phase_lem Enumerate e = in_talks Enumerate e refl
      by_phase_lem Stream e = in_talks Stream e refl
