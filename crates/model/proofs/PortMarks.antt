-- The port's marks in a microframe: gone, suspended and RS seen set, and beside them the count of microframes without MIDI: which steps leave
-- them, and what the whole microframe makes of them.
use Prim.Native.Nat.{ℕ, ◌+◌, ◌%◌, ◌^◌}
use mathlib.Core.Path.{◌≡◌, refl, ap, sym, ◌∙◌}
use mathlib.Core.Bool.{Bool, true, false, not, ◌&&◌, ◌||◌}
use mathlib.Core.Logic.{◌↔◌}
use Rattle.bits.specs.Pick.{pick, pick_eq}
use Rattle.bits.proofs.Tests.{false_true, not-true, not_holds, and_first, and_second, and_both, or_case, or_second}
use Rattle.record.specs.declared.Phase.{Phase}
use Rattle.record.specs.declared.Phase.TheVariants.{Idle, Vbus, Reset, Enumerate, Stream}
use Rattle.record.specs.declared.Settings.{Settings}
use Rattle.record.specs.Record.{wrapped, midi_asleep, counter_of, raised}
use Rattle.record.specs.World.{World}
use Rattle.record.specs.Change.{gone, suspended, was_running, apply, left, ◌then◌, nothing, when, one, here}
use Rattle.model.specs.Phases.{within, ticks, forgets, unplugging, cable, sleeps, suspends, enters, departs, leaves}
use Rattle.model.specs.Streams.{midi_in, midi_out, reads_vendor}
use Rattle.model.specs.Audio.{streams}
use Rattle.model.specs.Microframe.{rs_set, gone_at, asleep_at, streaming, opens, enumerates, others, transfers, talks, at_phase, by_phase, frame_of, microframe}
use Rattle.model.specs.Reach.{streams_in, to_phase, phase_by, output_by, left_by, reaches_output, device_left}
use Rattle.model.specs.PortMarks.{InGone, InSuspend, RunBit, RunTested, NoMidi, cable_out, bus_suspended, midi_sleeps}
use Rattle.model.proofs.Fields.{Keeps, fields_then, fields_if, keeps_then, keeps_if, keeps_nothing, keeps_page}
use Rattle.model.proofs.OneBlock.{talking, gets_to, gets_closed}
use Rattle.model.proofs.History.{four}
use Rattle.model.proofs.Leaving.{keeps_awake, keeps_serves}
use Rattle.model.proofs.Marking.{PortMarks, marks_by, marks_of, marks, marks_plain}
use Rattle.model.proofs.Plain.{block_and_enumerations, still_counts, still_ticks, still_forgets, still_returns, still_enters, still_idles, still_powers, still_resets, still_enumerates, still_streams, still_writes, still_vendor}
use Rattle.model.proofs.Spans.{within_between, gone_spans, suspend_span, run_bit}

-- ---- from the choice by phase on no step changes them but the MIDI step in its sleep span

-- a microframe without MIDI is counted, where b
abbrev counting : Bool → PortMarks → PortMarks
counting b k = marks_by k.gone k.suspended k.running (pick b (wrapped (k.asleep + 1)) k.asleep)

marks_sleeps : (v : World) → marks_of (left sleeps v) ≡ counting true (marks_of v)
unfolding sleeps one apply raised
marks_sleeps v = refl

marks_midi : (asleep : Bool) (every : ℕ) (v : World) → marks_of (left (midi_in asleep every) v) ≡ counting asleep (marks_of v)
unfolding midi_in
marks_midi true every v = marks_sleeps v
marks_midi false every v = awake v
  where
    awake : Keeps marks (midi_in false every)
    awake = keeps_awake marks (λ bs k. refl) (λ cs k. refl) (λ n k. refl) every

count_and : (a b : Bool) (k : PortMarks) → pick a (counting b k) k ≡ counting (a && b) k
count_and true b k = refl
count_and false b k = refl

marks_others : (c : Settings) (t : ℕ) (u : World) → marks_of (left (others c t) u) ≡ counting (c.midi_in && within c.sleep t) (marks_of u)
unfolding others
marks_others c t u =
    fields_then marks _ _ u
    ∙ stack _
    ∙ fields_if marks _ _ _ u
    ∙ pick_eq c.midi_in (marks_midi (within c.sleep t) c.midi_every u) (keeps_nothing marks u)
    ∙ count_and c.midi_in (within c.sleep t) (marks_of u)
  where
    stack : Keeps marks (when (λ w. c.device_stack) (midi_out then reads_vendor))
    stack = keeps_if marks _ _ nothing (keeps_then marks _ _ (still_writes block_and_enumerations marks marks_plain) (still_vendor block_and_enumerations marks marks_plain)) (keeps_nothing marks)

-- the MIDI step is asleep, where it is made
abbrev is_midi_asleep : Settings → ℕ → Bool
is_midi_asleep c t = c.midi_in && within c.sleep t

serial_or : (st cd asleep : Bool) (k : PortMarks) → pick st (pick cd k (counting asleep k)) k ≡ counting (st && (not cd && asleep)) k
serial_or true true asleep k = refl
serial_or true false asleep k = refl
serial_or false cd asleep k = refl

marks_transfers : (c : Settings) (t : ℕ) (u : World) → marks_of (left (transfers c t) u) ≡ counting (streaming u.state.phase && (not c.cdc && is_midi_asleep c t)) (marks_of u)
unfolding transfers
marks_transfers c t u =
    fields_if marks _ _ _ u
    ∙ pick_eq (streaming u.state.phase)
    (fields_if marks _ _ _ u ∙ pick_eq c.cdc (keeps_serves marks (λ bs k. refl) (λ n k. refl) u) (fields_then marks streams (others c t) u ∙ marks_others c t _ ∙ ap (counting (is_midi_asleep c t)) (still_streams block_and_enumerations marks marks_plain u)))
    (keeps_nothing marks u)
    ∙ serial_or (streaming u.state.phase) c.cdc (is_midi_asleep c t) (marks_of u)

-- 497-503: from the choice by phase on the MIDI step is made
abbrev to_midi : Settings → ℕ → Bool → World → Bool
to_midi c t rs v = rs && (streaming (left (enumerates c) v).state.phase && (not c.cdc && is_midi_asleep c t))

marks_talks : (c : Settings) (t : ℕ) (rs : Bool) (v : World) → marks_of (left (talks c t rs) v) ≡ counting (to_midi c t rs v) (marks_of v)
unfolding talks
marks_talks c t rs v =
    let u = left (enumerates c) v in
    let asleep = streaming u.state.phase && (not c.cdc && is_midi_asleep c t) in
    fields_if marks _ _ _ v
    ∙ pick_eq rs (fields_then marks (enumerates c) (transfers c t) v ∙ marks_transfers c t u ∙ ap (counting asleep) (still_enumerates marks marks_plain c v)) (keeps_nothing marks v)
    ∙ count_and rs asleep (marks_of v)

marks_at : (c : Settings) (t : ℕ) (rs : Bool) (p : Phase) (v : World) → marks_of (left (at_phase c t rs p) v) ≡ counting (talking p && to_midi c t rs v) (marks_of v)
marks_at c t rs Idle v = still_idles block_and_enumerations marks marks_plain v
marks_at c t rs Vbus v = still_powers block_and_enumerations marks marks_plain rs v
marks_at c t rs Reset v = still_resets block_and_enumerations marks marks_plain v
marks_at c t rs Enumerate v = marks_talks c t rs v
marks_at c t rs Stream v = marks_talks c t rs v

regroup : (p rs st au asleep : Bool) → (p && (rs && (st && (au && asleep)))) ≡ ((p && (rs && (st && au))) && asleep)
regroup true true true au asleep = refl
regroup true true false au asleep = refl
regroup true false st au asleep = refl
regroup false rs st au asleep = refl

marks_by_lem : (c : Settings) (t : ℕ) (rs : Bool) (v : World) → marks_of (left (by_phase c t rs) v) ≡ counting (gets_to c rs v && is_midi_asleep c t) (marks_of v)
unfolding by_phase here
marks_by_lem c t rs v =
    marks_at c t rs v.state.phase v
    ∙ ap (λ (b : Bool). counting b (marks_of v)) (regroup (talking v.state.phase) rs (streaming (left (enumerates c) v).state.phase) (not c.cdc) (is_midi_asleep c t))

-- ---- the three marks

abbrev set_gone : Bool → PortMarks → PortMarks
set_gone b k = marks_by b k.suspended k.running k.asleep

abbrev set_suspended : Bool → PortMarks → PortMarks
set_suspended b k = marks_by k.gone b k.running k.asleep

abbrev set_running : Bool → PortMarks → PortMarks
set_running b k = marks_by k.gone k.suspended b k.asleep

-- a mark that is set where it is not, and one that is cleared where it is set; b: the mark as it stands
set_on : (set : Bool → PortMarks → PortMarks) (b : Bool) (k : PortMarks) → set b k ≡ k → pick (not b) (set true k) k ≡ set true k
set_on set true k e = sym e
set_on set false k e = refl

set_off : (set : Bool → PortMarks → PortMarks) (b : Bool) (k : PortMarks) → set b k ≡ k → pick b (set false k) k ≡ set false k
set_off set true k e = refl
set_off set false k e = sym e

one_gone : (b : Bool) (v : World) → marks_of (left (one (λ w. gone b)) v) ≡ set_gone b (marks_of v)
unfolding one apply
one_gone b v = refl

one_suspended : (b : Bool) (v : World) → marks_of (left (one (λ w. suspended b)) v) ≡ set_suspended b (marks_of v)
unfolding one apply
one_suspended b v = refl

one_running : (b : Bool) (v : World) → marks_of (left (one (λ w. was_running b)) v) ≡ set_running b (marks_of v)
unfolding one apply
one_running b v = refl

marks_cable : (g : Bool) (v : World) → marks_of (left (cable g) v) ≡ set_gone g (marks_of v)
unfolding cable
marks_cable true v =
    fields_if marks _ _ _ v
    ∙ pick_eq (not v.state.port.gone) (fields_then marks _ _ v ∙ keeps_page marks unplugging _ ∙ one_gone true v) (keeps_nothing marks v)
    ∙ set_on set_gone v.state.port.gone (marks_of v) refl
marks_cable false v =
    fields_if marks _ _ _ v
    ∙ pick_eq v.state.port.gone (fields_then marks _ _ v ∙ still_returns block_and_enumerations marks marks_plain _ ∙ one_gone false v) (keeps_nothing marks v)
    ∙ set_off set_gone v.state.port.gone (marks_of v) refl

marks_opens : (c : Settings) (g : Bool) (w : World) → marks_of (left (opens c g) w) ≡ set_gone g (marks_of w)
unfolding opens
marks_opens c g w =
    fields_then marks _ _ w ∙ fields_then marks _ _ _ ∙ marks_cable g _
    ∙ ap (set_gone g) (keeps_if marks (λ v. c.midi_in) ticks nothing (still_ticks block_and_enumerations marks marks_plain) (keeps_nothing marks) _ ∙ still_counts block_and_enumerations marks marks_plain w)

marks_suspends : (s : Bool) (v : World) → marks_of (left (suspends s) v) ≡ set_suspended s (marks_of v)
unfolding suspends
marks_suspends true v =
    fields_if marks _ _ _ v
    ∙ pick_eq (not v.state.port.suspended) (fields_then marks _ _ v ∙ keeps_page marks _ _ ∙ one_suspended true v) (keeps_nothing marks v)
    ∙ set_on set_suspended v.state.port.suspended (marks_of v) refl
marks_suspends false v =
    fields_if marks _ _ _ v
    ∙ pick_eq v.state.port.suspended (fields_then marks _ _ v ∙ keeps_page marks _ _ ∙ one_suspended false v) (keeps_nothing marks v)
    ∙ set_off set_suspended v.state.port.suspended (marks_of v) refl

marks_departs : (v : World) → marks_of (left departs v) ≡ set_running false (marks_of v)
unfolding departs
marks_departs v = fields_then marks _ _ v ∙ keeps_then marks (enters Vbus) forgets (still_enters block_and_enumerations marks marks_plain Vbus) (still_forgets block_and_enumerations marks marks_plain) _ ∙ one_running false v

marks_leaves : (stack rs : Bool) (v : World) → marks_of (left (leaves stack rs) v) ≡ set_running (pick stack rs v.state.port.was_running) (marks_of v)
unfolding leaves
marks_leaves false rs v = keeps_nothing marks v
marks_leaves true true v = one_running true v
marks_leaves true false v =
    fields_if marks _ _ _ v
    ∙ pick_eq v.state.port.was_running (marks_departs v) (keeps_nothing marks v)
    ∙ set_off set_running v.state.port.was_running (marks_of v) refl

-- at the choice by phase
marks_phase : (rs : Bool) (w : World) → marks_of (phase_by rs w) ≡ marks_by false false (pick w.settings.device_stack rs w.state.port.was_running) (counter_of midi_asleep w.state.stats)
unfolding phase_by to_phase
marks_phase rs w =
    let stack = w.settings.device_stack in
    fields_then marks _ _ w ∙ fields_then marks _ _ _
    ∙ marks_leaves stack rs _
    ∙ ap (λ (k : PortMarks). set_running (pick stack rs k.running) k) (marks_suspends false _ ∙ ap (set_suspended false) (marks_opens w.settings false w))

-- ---- the whole: g, s and rs: gone, suspended and RS by the entry values

abbrev pub marked_by : ℕ → Bool → Bool → Bool → World → PortMarks
marked_by t rs g s w =
    marks_by g (pick g w.state.port.suspended s)
    (pick (g || s) w.state.port.was_running (pick w.settings.device_stack rs w.state.port.was_running))
    (pick (g || (s || (output_by rs g s w && is_midi_asleep w.settings t))) (wrapped (counter_of midi_asleep w.state.stats + 1)) (counter_of midi_asleep w.state.stats))

marks_frame : (t : ℕ) (rs g s : Bool) (w : World) → marks_of (left (frame_of w.settings t rs g s) w) ≡ marked_by t rs g s w
unfolding frame_of output_by phase_by to_phase
marks_frame t rs true s w = fields_then marks _ _ w ∙ marks_sleeps _ ∙ ap (counting true) (marks_opens w.settings true w)
marks_frame t rs false true w =
    fields_then marks _ _ w ∙ fields_then marks _ _ _ ∙ marks_sleeps _
    ∙ ap (counting true) (marks_suspends true _ ∙ ap (set_suspended true) (marks_opens w.settings false w))
marks_frame t rs false false w =
    let c = w.settings in
    let closed = not w.state.port.gone && (rs && (not c.cdc && streams_in w)) in
    ap marks_of (four (opens c false) (suspends false) (leaves c.device_stack rs) (by_phase c t rs) w)
    ∙ marks_by_lem c t rs (phase_by rs w)
    ∙ ap (λ (b : Bool). counting (b && is_midi_asleep c t) (marks_of (phase_by rs w))) (gets_closed rs w.state.port.gone w refl)
    ∙ ap (counting (closed && is_midi_asleep c t)) (marks_phase rs w)

pub marks_microframe : (t : ℕ) (w : World) → marks_of (left (microframe t) w) ≡ marked_by t (rs_set w) (gone_at t w) (asleep_at t w) w
unfolding microframe here
marks_microframe t w = marks_frame t (rs_set w) (gone_at t w) (asleep_at t w) w

-- ---- the same in the papers' words

-- a value that is a test
pub is_test : {P : Type 0} {a b : Bool} → a ≡ b → (b ≡ true) ↔ P → (a ≡ true) ↔ P
is_test e p = (λ x. p.0 (sym e ∙ x), λ y. e ∙ p.1 y)

module _ (t : ℕ) (w : World) where
  abbrev next : World
  next = left (microframe t) w

  -- document 01, "Host record": the cable is out where the time lies in a gone span
  pub gone_mark : (next.state.port.gone ≡ true) ↔ InGone w.settings t
  gone_mark = is_test (ap (λ (k : PortMarks). k.gone) (marks_microframe t w)) (gone_spans t w)

  -- 408-426: suspended where the time lies in the suspend span, and as before while the cable is out
  suspended_is : next.state.port.suspended ≡ pick (gone_at t w) w.state.port.suspended (asleep_at t w)
  suspended_is = ap (λ (k : PortMarks). k.suspended) (marks_microframe t w)

  pub suspend_mark : ¬ InGone w.settings t → (next.state.port.suspended ≡ true) ↔ InSuspend w.settings t
  suspend_mark present =
      is_test (suspended_is ∙ ap (λ (g : Bool). pick g w.state.port.suspended (asleep_at t w)) (not_holds (gone_at t w) (λ e. present ((gone_spans t w).0 e))))
      (suspend_span t w)

  pub suspend_kept : InGone w.settings t → next.state.port.suspended ≡ w.state.port.suspended
  suspend_kept out = suspended_is ∙ ap (λ (g : Bool). pick g w.state.port.suspended (asleep_at t w)) ((gone_spans t w).1 out)

  -- 430-447: with the device stack, RS as it was read, in a microframe neither gone nor suspended
  running_is : next.state.port.was_running ≡ pick (gone_at t w || asleep_at t w) w.state.port.was_running (pick w.settings.device_stack (rs_set w) w.state.port.was_running)
  running_is = ap (λ (k : PortMarks). k.running) (marks_microframe t w)

  pub run_mark : RunTested w.settings t → (next.state.port.was_running ≡ true) ↔ RunBit w.lent.memory.page
  run_mark r =
      is_test (running_is ∙ simp (r.stack, not_holds (gone_at t w) (λ e. r.present ((gone_spans t w).0 e)), not_holds (asleep_at t w) (λ e. r.awake ((suspend_span t w).0 e))))
      (run_bit w)

  -- and otherwise as before
  pub run_kept : ¬ RunTested w.settings t → next.state.port.was_running ≡ w.state.port.was_running
  run_kept n = running_is ∙ by (gone_at t w) (asleep_at t w) w.settings.device_stack refl refl refl
    where
      by : (g s stack : Bool) → gone_at t w ≡ g → asleep_at t w ≡ s → w.settings.device_stack ≡ stack
          → pick (g || s) w.state.port.was_running (pick stack (rs_set w) w.state.port.was_running) ≡ w.state.port.was_running
      by true s stack x y z = refl
      by false true stack x y z = refl
      by false false false x y z = refl
      by false false true x y z =
          absurd (n (record { stack = z; present = λ i. false_true (sym x ∙ (gone_spans t w).1 i); awake = λ i. false_true (sym y ∙ (suspend_span t w).1 i) }))

  -- 435-436: device left clears it
  pub run_left : device_left t w ≡ true → next.state.port.was_running ≡ false
  unfolding left_by
  run_left e₀ =
      let e₁ = and_second (not (gone_at t w)) _ e₀ in
      let e₂ = and_second (not (asleep_at t w)) _ e₁ in
      let e₃ = and_second (not (rs_set w)) _ e₂ in
      running_is
      ∙ simp (not-true (gone_at t w) (and_first (not (gone_at t w)) _ e₀), not-true (asleep_at t w) (and_first (not (asleep_at t w)) _ e₁), not-true (rs_set w) (and_first (not (rs_set w)) _ e₂), and_first w.settings.device_stack _ e₃)

  -- 409, 427, 776: the microframes in which the host reads no MIDI are counted
  abbrev unread : Bool
  unread = gone_at t w || (asleep_at t w || (reaches_output t w && is_midi_asleep w.settings t))

  read_or_not : (unread ≡ true) ↔ NoMidi t w
  read_or_not = (to, from)
    where
      rests : (reaches_output t w && is_midi_asleep w.settings t) ≡ true → NoMidi t w
      rests e =
          let n = and_second (reaches_output t w) (is_midi_asleep w.settings t) e in
          midi_sleeps (and_first (reaches_output t w) (is_midi_asleep w.settings t) e) (and_first w.settings.midi_in (within w.settings.sleep t) n)
          ((within_between w.settings.sleep t).0 (and_second w.settings.midi_in (within w.settings.sleep t) n))

      to : unread ≡ true → NoMidi t w
      to e =
          or_case (gone_at t w) (asleep_at t w || (reaches_output t w && is_midi_asleep w.settings t)) e (λ g. cable_out ((gone_spans t w).0 g))
          (λ f. or_case (asleep_at t w) (reaches_output t w && is_midi_asleep w.settings t) f (λ s. bus_suspended ((suspend_span t w).0 s)) rests)

      from : NoMidi t w → unread ≡ true
      from (cable_out g) = ap (λ (b : Bool). b || (asleep_at t w || (reaches_output t w && is_midi_asleep w.settings t))) ((gone_spans t w).1 g)
      from (bus_suspended s) = or_second (gone_at t w) _ (ap (λ (b : Bool). b || (reaches_output t w && is_midi_asleep w.settings t)) ((suspend_span t w).1 s))
      from (midi_sleeps r m s) =
          or_second (gone_at t w) _
          (or_second (asleep_at t w) _ (and_both (reaches_output t w) _ r (and_both w.settings.midi_in _ m ((within_between w.settings.sleep t).1 s))))

  asleep_is_lem : counter_of midi_asleep next.state.stats ≡ pick unread (wrapped (counter_of midi_asleep w.state.stats + 1)) (counter_of midi_asleep w.state.stats)
  asleep_is_lem = ap (λ (k : PortMarks). k.asleep) (marks_microframe t w)

  pub asleep_counted : NoMidi t w → counter_of midi_asleep next.state.stats ≡ (counter_of midi_asleep w.state.stats + 1) % 2 ^ 64
  asleep_counted n = asleep_is_lem ∙ ap (λ (b : Bool). pick b (wrapped (counter_of midi_asleep w.state.stats + 1)) (counter_of midi_asleep w.state.stats)) (read_or_not.1 n)

  pub asleep_kept : ¬ NoMidi t w → counter_of midi_asleep next.state.stats ≡ counter_of midi_asleep w.state.stats
  asleep_kept n = asleep_is_lem ∙ ap (λ (b : Bool). pick b (wrapped (counter_of midi_asleep w.state.stats + 1)) (counter_of midi_asleep w.state.stats)) (not_holds unread (λ e. n (read_or_not.0 e)))
