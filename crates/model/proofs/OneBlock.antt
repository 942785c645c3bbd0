-- Demand 3 of one microframe, `one_block_lem`: a block is sent exactly where the output step is reached, primed, its next descriptor active and the
-- credit at least seven. First that the closed form of reaching is right, then what the step changes, then the two claims.
use Prim.Native.Nat.{ℕ, ◌+◌, ◌-◌, ◌%◌, ◌^◌, min}
use mathlib.Core.Path.{◌≡◌, refl, ap, ap₂, sym, ◌∙◌, subst}
use mathlib.Core.Bool.{Bool, true, false, not, ◌&&◌, ◌||◌}
use mathlib.Core.List.{List, [], ◌∷◌, ◌++◌, map, append_assoc}
use mathlib.Core.Logic.{◌⊎◌, inl, inr}
use lib.Dec.{leb, eqb}
use Rattle.bits.specs.Pick.{pick, pick_map, pick_eq, pick_and}
use Rattle.bits.proofs.Tests.{false_true, and_first, and_second, and_rest, not-true}
use Rattle.bus.specs.Steps.{and_then, choose, replay, replay_append, exec_then}
use Rattle.bus.specs.Stores.{Store, dropped_by}
use Rattle.bus.specs.Stores as S
use Rattle.usbdev.specs.Registers.{on_bus as page-onBus}
use Rattle.dtd.specs.Dtd.{run_dtds, primed, next_active, queue_head, data_out, moves}
use Rattle.dtd.proofs.Runs.{IsActive, active_stores, active_moved, active_retired}
use Rattle.record.specs.declared.Phase.{Phase}
use Rattle.record.specs.declared.Phase.TheVariants.{Idle, Vbus, Reset, Enumerate, Stream}
use Rattle.record.specs.declared.Settings.{Settings}
use Rattle.record.specs.Record.{enumerations, out_transfers, out_frames, out_underruns, raised}
use Rattle.record.specs.World.{World, bus_of}
use Rattle.record.specs.Change.{Change, bus, ran, lost, count, phase, gone, credit, counter, taken, apply, Step, left, ◌then◌, nothing, when, one, here, on_page, runs, ran_stores}
use Rattle.model.specs.Phases.{counts, ticks, drops_request, forgets, returns, cable, suspends, leaves, starts_frame, changing}
use Rattle.model.specs.Control.{enumerating, posts, configured, stalled, unstalls, stages, controls}
use Rattle.model.specs.Streams.{serial_step}
use Rattle.model.specs.Audio.{audio_out, BLOCK_FRAMES, stream_in, block_of, sends_block, unprimes, stream_out, streams}
use Rattle.model.specs.Microframe.{rs_set, gone_at, asleep_at, streaming, opens, frame_of, by_phase, at_phase, talks, transfers, others, enumerates, microframe}
use Rattle.model.specs.Reach.{streams_in, to_phase, phase_by, stream_by, output_by, reaches_output, at_output, output_ready}
use Rattle.model.specs.Earned.{out_of, sent_out}
use Rattle.model.specs.Marks.{noted, audio_mark, audio_out_retired}
use Rattle.model.specs.Claims.{sends_at, out_pointer, out_token, out_moved, block_stores, one_block, unprimed}
use Rattle.model.proofs.Fields.{Fields, Keeps, fields_replay, fields_then, fields_if, keeps_then, keeps_if, keeps_nothing, keeps_one, keeps_bus, keeps_page, keeps_runs, keeps_here}
use Rattle.model.proofs.Reading.{quiet, Reading, reading_of, AudioAlone, fields_alone, Lasting, Unheard, Unmarked, through, through_if, after_silent, before_silent, silent_then, silent_nothing, silent_stores, silent_counts, silent_ticks, silent_sleeps, silent_suspends, silent_unstalls, silent_stages, silent_posts, silent_serves, silent_others, silent_idles, silent_powers, silent_resets, silent_enumerates, silent_opens, silent_leaves, silent_hears, silent_keeps}
use Rattle.model.proofs.Frames.{Frames, frames, frames_reading}
use Rattle.model.proofs.Way.{Way, way, way_of}
use Rattle.model.proofs.Phase.{phases, phases_leaves, phases_reading}
use Rattle.model.proofs.Budget.{budgets, budget_leaves, budget_reading}
use Rattle.model.proofs.Marks.{noted_sum, retired_reading, retired_lasting, retired_unheard, retired_alone, retired_unmarked}
use Rattle.model.proofs.Out.{outs, out_leaves, out_reading, out_lasting, out_unheard}
use Rattle.model.proofs.Placed.{Placed, placed_self, placed_first, placed_second, placed_true, placed_false, placed_here}

-- ---- the phase at the stream step: control changes it only where enumeration ends

-- the phase after control
abbrev after : Way → Phase
after k = pick k.on k.phase (pick (eqb k.setups 0) (pick (enumerating k.phase) Stream k.phase) k.phase)

-- enumeration ends
ended : (v : World) → (left (one (λ w. count enumerations 1)) (left (one (λ w. phase Stream)) v)).state.phase ≡ Stream
unfolding one apply
ended v = refl

phase_configured : (v : World) → (left configured v).state.phase ≡ pick (enumerating v.state.phase) Stream v.state.phase
unfolding configured
phase_configured v =
    fields_if phases _ _ _ v
    ∙ pick_eq (enumerating v.state.phase) (fields_then phases _ _ v ∙ ended v) (keeps_nothing phases v)

phase_controls : (stack : Bool) (v : World) → (left (controls stack) v).state.phase ≡ after (way_of v)
unfolding controls
phase_controls stack v =
    fields_if phases _ _ _ v
    ∙ pick_eq v.state.control.on
    (keeps_if phases stalled unstalls (stages stack)
    (silent_keeps phases unstalls (silent_unstalls phases_reading))
    (silent_keeps phases (stages stack) (silent_stages phases_reading (fields_alone phases phases_leaves) stack)) v)
    (fields_if phases _ _ _ v
    ∙ pick_eq (eqb v.state.lengths.setups 0) (phase_configured v) (silent_keeps phases posts (silent_posts phases_reading (λ n k. refl)) v))

-- and whether it streams then
streams_by : (p : Phase) (on waits : Bool) → streaming (pick on p (pick waits (pick (enumerating p) Stream p) p)) ≡ streaming p || (enumerating p && (not on && waits))
streams_by Idle true w = refl
streams_by Idle false true = refl
streams_by Idle false false = refl
streams_by Vbus true w = refl
streams_by Vbus false true = refl
streams_by Vbus false false = refl
streams_by Reset true w = refl
streams_by Reset false true = refl
streams_by Reset false false = refl
streams_by Enumerate true w = refl
streams_by Enumerate false true = refl
streams_by Enumerate false false = refl
streams_by Stream true w = refl
streams_by Stream false true = refl
streams_by Stream false false = refl

-- ---- what comes before control leaves the way alone

ruleset keeps-rules = (keeps_then, keeps_if, keeps_nothing, keeps_one, keeps_bus, keeps_page, keeps_runs, keeps_here)

pub ways_frame : Keeps way starts_frame
unfolding starts_frame
ways_frame = search keeps-rules

ways_counts : Keeps way counts
unfolding counts
ways_counts = search keeps-rules

ways_ticks : Keeps way ticks
unfolding ticks
ways_ticks = search keeps-rules depth 8

ways_suspends : Keeps way (suspends false)
unfolding suspends
ways_suspends = search keeps-rules

ways_leaves : (stack : Bool) → Keeps way (leaves stack true)
unfolding leaves
ways_leaves true = search keeps-rules
ways_leaves false = keeps_nothing way

pub streaming_enumerates : (c : Settings) (v : World) → streaming (left (enumerates c) v).state.phase ≡ streams_in v
unfolding enumerates
streaming_enumerates c v =
    ap streaming (fields_then phases _ _ v ∙ phase_controls c.device_stack _ ∙ ap after (ways_frame v))
    ∙ streams_by v.state.phase v.state.control.on (eqb v.state.lengths.setups 0)

-- what comes before the test of the cable has not changed gone
gone_opens : (c : Settings) (v : World) → (left (when (λ w. c.midi_in) ticks) (left counts v)).state.port.gone ≡ v.state.port.gone
gone_opens c v =
    ap (λ (k : Frames). k.gone)
    (keeps_if frames _ ticks nothing (silent_keeps frames ticks (silent_ticks frames_reading)) (keeps_nothing frames) (left counts v)
    ∙ silent_keeps frames counts (silent_counts frames_reading) v)

pick_off : {K : Type 0} (b : Bool) (x y : K) → b ≡ false → pick b x y ≡ y
pick_off b x y e = ap (λ (d : Bool). pick d x y) e

-- the host was not gone: nothing comes back
kept_opens : {K : Type 0} (F : Fields K) → Keeps F counts → Keeps F ticks → (c : Settings) (v : World) → v.state.port.gone ≡ false → F.of (left (opens c false) v) ≡ F.of v
unfolding opens cable
kept_opens F p q c v e =
    let u = left (when (λ w. c.midi_in) ticks) (left counts v) in
    fields_then F _ _ v
    ∙ fields_then F _ _ (left counts v)
    ∙ fields_if F _ _ _ u
    ∙ pick_off u.state.port.gone _ (F.of (left nothing u)) (gone_opens c v ∙ e)
    ∙ keeps_nothing F u
    ∙ keeps_if F _ ticks nothing q (keeps_nothing F) (left counts v)
    ∙ p v

-- at the choice by phase such fields are those at entry
kept_phase : {K : Type 0} (F : Fields K) → Keeps F counts → Keeps F ticks → Keeps F (suspends false) → ((stack : Bool) → Keeps F (leaves stack true)) → (w : World) → w.state.port.gone ≡ false → F.of (phase_by true w) ≡ F.of w
unfolding phase_by to_phase
kept_phase F p q r l w e =
    fields_then F _ _ w ∙ fields_then F _ _ _ ∙ l w.settings.device_stack _ ∙ r _ ∙ kept_opens F p q w.settings w e

pub ways_phase : (w : World) → w.state.port.gone ≡ false → way_of (phase_by true w) ≡ way_of w
ways_phase w e = kept_phase way ways_counts ways_ticks ways_suspends ways_leaves w e

-- and so is the budget at the stream step
budgets_leaves : (stack : Bool) → Keeps budgets (leaves stack true)
unfolding leaves
budgets_leaves true = keeps_one budgets _ (λ w. refl)
budgets_leaves false = keeps_nothing budgets

budget_still : (w : World) → w.state.port.gone ≡ false → (stream_by true w).state.audio.budget ≡ w.state.audio.budget
unfolding stream_by
budget_still w e =
    silent_keeps budgets (enumerates w.settings) (silent_enumerates budget_reading (fields_alone budgets budget_leaves) (λ p k. refl) w.settings) _
    ∙ kept_phase budgets (silent_keeps budgets counts (silent_counts budget_reading)) (silent_keeps budgets ticks (silent_ticks budget_reading))
    (silent_keeps budgets (suspends false) (silent_suspends budget_reading false)) budgets_leaves w e

pub streaming_stream : (w : World) → w.state.port.gone ≡ false → streaming (stream_by true w).state.phase ≡ streams_in w
unfolding stream_by
streaming_stream w e =
    streaming_enumerates w.settings (phase_by true w)
    ∙ ap (λ (k : Way). streaming k.phase || (enumerating k.phase && (not k.on && eqb k.setups 0))) (ways_phase w e)

-- ---- from the choice by phase on: Enumerate or Stream (488), RS (489), then Stream and no serial device (497, 499)

-- 488: a phase in which the host talks to the device
abbrev pub talking : Phase → Bool
talking p = streaming p || enumerating p

talks_by : (p : Phase) (b : Bool) → (streaming p || (enumerating p && b)) ≡ true → talking p ≡ true
talks_by Idle b e = e
talks_by Vbus b e = e
talks_by Reset b e = e
talks_by Enumerate b e = refl
talks_by Stream b e = refl

abbrev pub gets_to : Settings → Bool → World → Bool
gets_to c rs v = talking v.state.phase && (rs && (streaming (left (enumerates c) v).state.phase && not c.cdc))

absorbs : (p : Phase) (on waits rs cd : Bool) → (talking p && (rs && ((streaming p || (enumerating p && (not on && waits))) && not cd))) ≡ (rs && (not cd && (streaming p || (enumerating p && (not on && waits)))))
absorbs Idle on waits true true = refl
absorbs Idle on waits true false = refl
absorbs Idle on waits false cd = refl
absorbs Vbus on waits true true = refl
absorbs Vbus on waits true false = refl
absorbs Vbus on waits false cd = refl
absorbs Reset on waits true true = refl
absorbs Reset on waits true false = refl
absorbs Reset on waits false cd = refl
absorbs Enumerate true waits true true = refl
absorbs Enumerate true waits true false = refl
absorbs Enumerate false true true true = refl
absorbs Enumerate false true true false = refl
absorbs Enumerate false false true true = refl
absorbs Enumerate false false true false = refl
absorbs Enumerate on waits false cd = refl
absorbs Stream on waits true true = refl
absorbs Stream on waits true false = refl
absorbs Stream on waits false cd = refl

gets_open : (c : Settings) (rs : Bool) (v : World) → gets_to c rs v ≡ (rs && (not c.cdc && streams_in v))
gets_open c rs v =
    ap (λ (b : Bool). talking v.state.phase && (rs && (b && not c.cdc))) (streaming_enumerates c v)
    ∙ absorbs v.state.phase v.state.control.on (eqb v.state.lengths.setups 0) rs c.cdc

-- a host that is back is Idle
idle_returns : (v : World) → (left (one (λ w. gone false) then returns) v).state.phase ≡ Idle
unfolding and_then one apply returns forgets drops_request raised
idle_returns v = refl

idle_opens : (c : Settings) (w : World) → w.state.port.gone ≡ true → (left (opens c false) w).state.phase ≡ Idle
unfolding opens cable
idle_opens c w e =
    let u = left (when (λ v. c.midi_in) ticks) (left counts w) in
    fields_then phases _ _ w
    ∙ fields_then phases _ _ (left counts w)
    ∙ fields_if phases _ _ _ u
    ∙ ap (λ (b : Bool). pick b (left (one (λ w. gone false) then returns) u).state.phase (left nothing u).state.phase) (gone_opens c w ∙ e)
    ∙ idle_returns u

phase_leaves : (stack : Bool) → Keeps phases (leaves stack true)
unfolding leaves
phase_leaves true = keeps_one phases _ (λ w. refl)
phase_leaves false = keeps_nothing phases

pub idle_phase : (w : World) → w.state.port.gone ≡ true → (phase_by true w).state.phase ≡ Idle
unfolding phase_by to_phase
idle_phase w e =
    fields_then phases _ _ w
    ∙ fields_then phases _ _ _
    ∙ phase_leaves w.settings.device_stack _
    ∙ silent_keeps phases (suspends false) (silent_suspends phases_reading false) _
    ∙ idle_opens w.settings w e

no_stream : (p : Phase) (b : Bool) → p ≡ Idle → (streaming p || (enumerating p && b)) ≡ false
no_stream p b e = ap (λ (q : Phase). streaming q || (enumerating q && b)) e

pub gets_closed : (rs g : Bool) (w : World) → w.state.port.gone ≡ g → gets_to w.settings rs (phase_by rs w) ≡ (not g && (rs && (not w.settings.cdc && streams_in w)))
gets_closed false true w e = gets_open w.settings false (phase_by false w)
gets_closed false false w e = gets_open w.settings false (phase_by false w)
gets_closed true true w e =
    gets_open w.settings true (phase_by true w)
    ∙ ap (λ (b : Bool). not w.settings.cdc && b) (no_stream _ _ (idle_phase w e))
    ∙ and_false (not w.settings.cdc)
  where
    and_false : (b : Bool) → (b && false) ≡ false
    and_false true = refl
    and_false false = refl
gets_closed true false w e =
    gets_open w.settings true (phase_by true w)
    ∙ ap (λ (k : Way). not w.settings.cdc && (streaming k.phase || (enumerating k.phase && (not k.on && eqb k.setups 0)))) (ways_phase w e)

-- ---- a whole microframe, by whatever is read of its changes

module _ {K : Type 0} (R : Reading K) (A : AudioAlone R) where
  -- a reading that does not look at the phase sees the stream alone
  module _ (P : (p : Phase) (k : K) → R.on (phase p) k ≡ k) where
    through_transfers : (c : Settings) (t : ℕ) (u : World) (k : K) → through R (transfers c t) u k ≡ pick (streaming u.state.phase) (pick c.cdc k (through R streams u k)) k
    unfolding transfers
    through_transfers c t u k =
        through_if R _ _ _ u k
        ∙ pick_eq (streaming u.state.phase) (through_if R _ _ _ u k ∙ pick_eq c.cdc (silent_serves R A u k) (before_silent R streams (others c t) u k (silent_others R A c t))) (silent_nothing R u k)

    three : (rs st cd : Bool) (x y : K) → pick rs (pick st (pick cd x y) x) x ≡ pick (rs && (st && not cd)) y x
    three true true true x y = refl
    three true true false x y = refl
    three true false cd x y = refl
    three false st cd x y = refl

    through_talks : (c : Settings) (t : ℕ) (rs : Bool) (v : World) (k : K) → through R (talks c t rs) v k ≡ pick (rs && (streaming (left (enumerates c) v).state.phase && not c.cdc)) (through R streams (left (enumerates c) v) k) k
    unfolding talks
    through_talks c t rs v k =
        let u = left (enumerates c) v in
        through_if R _ _ _ v k
        ∙ pick_eq rs (after_silent R _ _ v k (silent_enumerates R A P c) ∙ through_transfers c t u k) (silent_nothing R v k)
        ∙ three rs (streaming u.state.phase) c.cdc k (through R streams u k)

    through_at : (c : Settings) (t : ℕ) (rs : Bool) (p : Phase) (v : World) (k : K) → through R (at_phase c t rs p) v k ≡ pick (talking p && (rs && (streaming (left (enumerates c) v).state.phase && not c.cdc))) (through R streams (left (enumerates c) v) k) k
    through_at c t rs Idle v k = silent_idles R P v k
    through_at c t rs Vbus v k = silent_powers R P rs v k
    through_at c t rs Reset v k = silent_resets R P v k
    through_at c t rs Enumerate v k = through_talks c t rs v k
    through_at c t rs Stream v k = through_talks c t rs v k

    pub through_phase : (c : Settings) (t : ℕ) (rs : Bool) (v : World) (k : K) → through R (by_phase c t rs) v k ≡ pick (gets_to c rs v) (through R streams (left (enumerates c) v) k) k
    unfolding by_phase here
    through_phase c t rs v k = through_at c t rs v.state.phase v k

  -- one that does not look at what a reset changes sees it exactly where the closed form says so
  module _ (L : Lasting R) where
    through_frame : (t : ℕ) (rs g s : Bool) (w : World) (k : K) → through R (frame_of w.settings t rs g s) w k ≡ pick (output_by rs g s w) (through R streams (stream_by rs w) k) k
    unfolding frame_of output_by stream_by phase_by to_phase
    through_frame t rs true s w k = silent_then R _ _ (silent_opens R L w.settings true) (silent_sleeps R) w k
    through_frame t rs false true w k =
        silent_then R _ _ (silent_opens R L w.settings false) (silent_then R _ _ (silent_suspends R true) (silent_sleeps R)) w k
    through_frame t rs false false w k =
        let c = w.settings in
        let v = left (suspends false) (left (opens c false) w) in
        after_silent R _ _ w k (silent_opens R L c false)
        ∙ after_silent R _ _ _ k (silent_suspends R false)
        ∙ after_silent R _ _ v k (silent_leaves R L c.device_stack rs)
        ∙ through_phase L.phases c t rs (left (leaves c.device_stack rs) v) k
        ∙ ap (λ (x : World). pick (gets_to c rs x) (through R streams (left (enumerates c) x) k) k)
        (sym (exec_then apply (opens c false) (suspends false then leaves c.device_stack rs) w
        ∙ exec_then apply (suspends false) (leaves c.device_stack rs) (left (opens c false) w)))
        ∙ ap (λ (b : Bool). pick b (through R streams (left (enumerates c) (phase_by rs w)) k) k) (gets_closed rs w.state.port.gone w refl)

    pub through_microframe : (t : ℕ) (w : World) (k : K) → through R (microframe t) w k ≡ pick (reaches_output t w) (through R streams (stream_by (rs_set w) w) k) k
    unfolding microframe here
    through_microframe t w k = through_frame t (rs_set w) (gone_at t w) (asleep_at t w) w k

-- fields that it reads stand at the stream step as at entry
pub kept_stream : {K : Type 0} (F : Fields K) (l : (c : Change) → quiet c ≡ true → (k : K) → F.on c k ≡ k) → Lasting (reading_of F l) → (rs : Bool) (w : World) → F.of (stream_by rs w) ≡ F.of w
unfolding stream_by phase_by to_phase
kept_stream F l L rs w =
    let R = reading_of F l in
    let c = w.settings in
    silent_keeps F (enumerates c) (silent_enumerates R (fields_alone F l) L.phases c) _
    ∙ silent_keeps F (opens c false then suspends false then leaves c.device_stack rs) (silent_then R _ _ (silent_opens R L c false) (silent_then R _ _ (silent_suspends R false) (silent_leaves R L c.device_stack rs))) w

-- ---- the output step stands in the microframe's list where the closed form says so

placed_at : (c : Settings) (t : ℕ) (rs : Bool) (p : Phase) (h : Step) (v x : World) → talking p ≡ true → Placed (talks c t rs) v h x → Placed (at_phase c t rs p) v h x
placed_at c t rs Idle h v x e q = absurd (false_true e)
placed_at c t rs Vbus h v x e q = absurd (false_true e)
placed_at c t rs Reset h v x e q = absurd (false_true e)
placed_at c t rs Enumerate h v x e q = q
placed_at c t rs Stream h v x e q = q

placed_talks : (c : Settings) (t : ℕ) (h : Step) (v x : World)
    → talking v.state.phase ≡ true → c.cdc ≡ false → streaming (left (enumerates c) v).state.phase ≡ true
    → Placed streams (left (enumerates c) v) h x → Placed (by_phase c t true) v h x
unfolding by_phase talks transfers
placed_talks c t h v x e₁ e₂ e₃ p =
    let u = left (enumerates c) v in
    placed_here _ h v x
    (placed_at c t true v.state.phase h v x e₁
    (placed_true (λ w. true) _ nothing h v x refl
    (placed_second (enumerates c) _ h v x
    (placed_true _ _ nothing h u x e₃
    (placed_false (λ w. c.cdc) serial_step (streams then others c t) h u x e₂
    (placed_first streams (others c t) h u x p))))))

-- what the closed form says
record Reached (w : World) : Type 0 where
  here_still : w.state.port.gone ≡ false
  audio : w.settings.cdc ≡ false
  streams : streams_in w ≡ true

reached : (rs g s : Bool) (w : World) → output_by rs g s w ≡ true → (rs ≡ true) × ((g ≡ false) × ((s ≡ false) × Reached w))
unfolding output_by
reached rs true s w e = absurd (false_true e)
reached rs false true w e = absurd (false_true e)
reached rs false false w e =
    let e₁ = and_second (not w.state.port.gone) _ e in
    let e₂ = and_second rs _ e₁ in (
      and_first rs _ e₁,
      (
        refl,
        (
          refl,
          record {
            here_still = not-true _ (and_first _ _ e);
            audio = not-true _ (and_first (not w.settings.cdc) _ e₂);
            streams = and_second (not w.settings.cdc) _ e₂;
          },
        ),
      ),
    )

-- the budget at the stream step is that at entry
pub budget_stream : (rs g s : Bool) (w : World) → output_by rs g s w ≡ true → (stream_by rs w).state.audio.budget ≡ w.state.audio.budget
budget_stream true g s w e = budget_still w (reached true g s w e).1.1.1.here_still
budget_stream false g s w e = absurd (false_true (reached false g s w e).0)

talking_phase : (w : World) → Reached w → talking (phase_by true w).state.phase ≡ true
talking_phase w r =
    ap (λ (k : Way). talking k.phase) (ways_phase w r.here_still) ∙ talks_by w.state.phase _ r.streams

-- from the entry to the choice by phase, and to the stream step
pub placed_phase : (t : ℕ) (rs : Bool) (h : Step) (w x : World) → Placed (by_phase w.settings t rs) (phase_by rs w) h x → Placed (frame_of w.settings t rs false false) w h x
unfolding frame_of phase_by to_phase
placed_phase t rs h w x p =
    let c = w.settings in
    placed_second (opens c false) _ h w x
    (placed_second (suspends false) _ h (left (opens c false) w) x
    (placed_second (leaves c.device_stack rs) (by_phase c t rs) h (left (suspends false) (left (opens c false) w)) x
    (subst (λ (v : World). Placed (by_phase c t rs) v h x)
    (exec_then apply (opens c false) (suspends false then leaves c.device_stack rs) w
    ∙ exec_then apply (suspends false) (leaves c.device_stack rs) (left (opens c false) w)) p)))

placed_plain : (t : ℕ) (h : Step) (w x : World) → Reached w → Placed streams (stream_by true w) h x → Placed (frame_of w.settings t true false false) w h x
unfolding stream_by
placed_plain t h w x r p =
    placed_phase t true h w x
    (placed_talks w.settings t h (phase_by true w) x (talking_phase w r) r.audio (streaming_stream w r.here_still ∙ r.streams) p)

pub placed_frame : (t : ℕ) (rs g s : Bool) (h : Step) (w x : World) → output_by rs g s w ≡ true → Placed streams (stream_by rs w) h x → Placed (frame_of w.settings t rs g s) w h x
placed_frame t rs true s h w x e p = absurd (false_true (sym (reached rs true s w e).1.0))
placed_frame t rs false true h w x e p = absurd (false_true (sym (reached rs false true w e).1.1.0))
placed_frame t true false false h w x e p = placed_plain t h w x (reached true false false w e).1.1.1 p
placed_frame t false false false h w x e p = absurd (false_true (reached false false false w e).0)

pub placed_output : (t : ℕ) (w : World) → reaches_output t w ≡ true → Placed (microframe t) w stream_out (at_output w)
unfolding microframe streams
placed_output t w e =
    placed_here _ stream_out w _
    (placed_frame t (rs_set w) (gone_at t w) (asleep_at t w) stream_out w _ e
    (placed_second stream_in stream_out stream_out _ _ (placed_self stream_out _)))

-- ---- what the output step changes

-- the run of a ready output endpoint: its stores, one descriptor, the bytes moved
ready_active : (x : World) → output_ready x ≡ true → IsActive audio_out x.lent.memory (queue_head audio_out x.lent.memory.page) (out_pointer x) (out_token x)
unfolding output_ready
ready_active x e =
    record { prime = and_first _ _ e; active = and_second (primed audio_out x.lent.memory.page) _ e; head = refl; next = refl; token = refl }

ready_stores : (x : World) → output_ready x ≡ true → (run_dtds audio_out (block_of x) (bus_of x)).stores ≡ block_stores x (bus_of x)
unfolding data_out S.when moves and_then
ready_stores x e = active_stores audio_out (block_of x) (bus_of x) refl _ _ _ (ready_active x e)

ready_moved : (x : World) → output_ready x ≡ true → (run_dtds audio_out (block_of x) (bus_of x)).moved ≡ out_moved x
unfolding moves
ready_moved x e = active_moved audio_out (block_of x) (bus_of x) refl _ _ _ (ready_active x e)

ready_retired : (x : World) → output_ready x ≡ true → (run_dtds audio_out (block_of x) (bus_of x)).retired ≡ 1
ready_retired x e = active_retired audio_out (block_of x) (bus_of x) refl _ _ _ (ready_active x e)

-- a block's changes with its run as it is
block_by : World → List Store → ℕ → ℕ → List Change
block_by x ss k n =
    counter ((x.state.audio.counter + BLOCK_FRAMES) % 2 ^ 16)
    ∷ count out_underruns (BLOCK_FRAMES - x.state.audio.sending.len)
    ∷ taken (min BLOCK_FRAMES x.state.audio.sending.len)
    ∷ credit (x.state.audio.credit - BLOCK_FRAMES)
    ∷ (map bus ss ++ (ran audio_out k n ∷ lost (dropped_by ss) ∷ count out_transfers 1 ∷ count out_frames BLOCK_FRAMES ∷ []))

sends_list : (x : World) → sends_block (block_of x) x ≡ block_by x (run_dtds audio_out (block_of x) (bus_of x)).stores (run_dtds audio_out (block_of x) (bus_of x)).retired (run_dtds audio_out (block_of x) (bus_of x)).moved
unfolding sends_block one and_then runs ran_stores apply block_by
sends_list x =
    let r = run_dtds audio_out (block_of x) (bus_of x) in
    ap (λ (l : List Change). counter ((x.state.audio.counter + BLOCK_FRAMES) % 2 ^ 16) ∷ count out_underruns (BLOCK_FRAMES - x.state.audio.sending.len) ∷ taken (min BLOCK_FRAMES x.state.audio.sending.len) ∷ credit (x.state.audio.credit - BLOCK_FRAMES) ∷ l)
    (append_assoc (map bus r.stores) (ran audio_out r.retired r.moved ∷ lost (dropped_by r.stores) ∷ []) (count out_transfers 1 ∷ count out_frames BLOCK_FRAMES ∷ []))

block_list : (x : World) → output_ready x ≡ true → sends_block (block_of x) x ≡ one_block x
unfolding block_by
block_list x e =
    sends_list x
    ∙ ap (λ (ss : List Store). block_by x ss (run_dtds audio_out (block_of x) (bus_of x)).retired (run_dtds audio_out (block_of x) (bus_of x)).moved) (ready_stores x e)
    ∙ ap₂ (λ (k n : ℕ). block_by x (block_stores x (bus_of x)) k n) (ready_retired x e) (ready_moved x e)

-- ---- the output step by its tests

outputs_open : (x : World) → stream_out x ≡ pick (primed audio_out x.lent.memory.page && leb BLOCK_FRAMES x.state.audio.credit) (pick (next_active audio_out x.lent.memory) (sends_block (block_of x) x) (unprimes x)) []
unfolding stream_out choose here nothing
outputs_open x = refl

unprimes_list : (x : World) → unprimes x ≡ unprimed x
unfolding unprimes on_page changing page-onBus
unprimes_list x = refl

-- primed, with a credit of at least seven, before it is looked whether the next descriptor is active
abbrev asked : World → Bool
asked x = primed audio_out x.lent.memory.page && leb BLOCK_FRAMES x.state.audio.credit

-- by its tests: a block, or the one store of an ended or inactive list, or nothing
outputs_list : (x : World) → stream_out x ≡ pick (output_ready x && leb BLOCK_FRAMES x.state.audio.credit) (one_block x) (pick (asked x) (unprimed x) [])
unfolding output_ready
outputs_list x = outputs_open x ∙ by (primed audio_out x.lent.memory.page) (leb BLOCK_FRAMES x.state.audio.credit) (next_active audio_out x.lent.memory) refl refl
  where
    by : (p c a : Bool) → primed audio_out x.lent.memory.page ≡ p → next_active audio_out x.lent.memory ≡ a
        → pick (p && c) (pick a (sends_block (block_of x) x) (unprimes x)) [] ≡ pick ((p && a) && c) (one_block x) (pick (p && c) (unprimed x) [])
    by true true true ep ea = block_list x (ap₂ ◌&&◌ ep ea)
    by true true false ep ea = unprimes_list x
    by true false true ep ea = refl
    by true false false ep ea = refl
    by false c true ep ea = refl
    by false c false ep ea = refl

-- what is read of a block
abbrev pub block_read : {K : Type 0} → Reading K → World → K → K
block_read R x k =
    R.on (count out_frames BLOCK_FRAMES)
    (R.on (count out_transfers 1)
    (R.on (ran audio_out 1 (out_moved x))
    (R.on (credit (x.state.audio.credit - BLOCK_FRAMES))
    (R.on (taken (min BLOCK_FRAMES x.state.audio.sending.len))
    (R.on (count out_underruns (BLOCK_FRAMES - x.state.audio.sending.len))
    (R.on (counter ((x.state.audio.counter + BLOCK_FRAMES) % 2 ^ 16)) k))))))

module _ {K : Type 0} (R : Reading K) (A : AudioAlone R) where
  through_block : (x : World) (k : K) → replay R.on (one_block x) k ≡ block_read R x k
  through_block x k =
      let ss = block_stores x (bus_of x) in
      let counted : K → K = λ j. R.on (count out_frames BLOCK_FRAMES) (R.on (count out_transfers 1) j) in
      replay_append R.on (map bus ss) (ran audio_out 1 (out_moved x) ∷ lost (dropped_by ss) ∷ count out_transfers 1 ∷ count out_frames BLOCK_FRAMES ∷ []) _
      ∙ ap (λ (j : K). counted (R.on (lost (dropped_by ss)) (R.on (ran audio_out 1 (out_moved x)) j))) (silent_stores R ss _)
      ∙ ap counted (A.drops (dropped_by ss) _)

  through_unprimed : (b : Bool) (x : World) (k : K) → replay R.on (pick b (unprimed x) []) k ≡ k
  through_unprimed true x k = R.leaves (bus _) refl k
  through_unprimed false x k = refl

  pub through_outputs : (x : World) (k : K) → through R stream_out x k ≡ pick (output_ready x && leb BLOCK_FRAMES x.state.audio.credit) (block_read R x k) k
  through_outputs x k =
      let test = output_ready x && leb BLOCK_FRAMES x.state.audio.credit in
      ap (λ (cs : List Change). replay R.on cs k) (outputs_list x)
      ∙ pick_map (λ (cs : List Change). replay R.on cs k) test (one_block x) _
      ∙ pick_eq test (through_block x k) (through_unprimed (asked x) x k)

  -- a reading that does not look at frames that come: the whole microframe is the output step
  pub through_sends : Lasting R → Unheard R → Unmarked R → (t : ℕ) (w : World) (k : K) → through R (microframe t) w k ≡ pick (sends_at t w) (block_read R (at_output w) k) k
  unfolding streams
  through_sends L U M t w k =
      let u = stream_by (rs_set w) w in
      through_microframe R A L t w k
      ∙ pick_eq (reaches_output t w) (after_silent R stream_in stream_out u k (silent_hears R L U A M) ∙ through_outputs (left stream_in u) k) refl
      ∙ pick_and (reaches_output t w) _ _ k

-- the stream counter, the sending ring and the frames counted as sent
pub out_output : (w : World) → out_of (at_output w) ≡ out_of w
out_output w = silent_keeps outs stream_in (silent_hears out_reading out_lasting out_unheard (fields_alone outs out_leaves) (λ r n k. refl)) _ ∙ kept_stream outs out_leaves out_lasting (rs_set w) w

block_out : (x : World) → block_read out_reading x (out_of x) ≡ sent_out (out_of x)
unfolding sent_out
block_out x = refl

pub out_microframe : (t : ℕ) (w : World) → out_of (left (microframe t) w) ≡ pick (sends_at t w) (sent_out (out_of w)) (out_of w)
out_microframe t w =
    let x = at_output w in
    fields_replay outs (microframe t w) w
    ∙ through_sends out_reading (fields_alone outs out_leaves) out_lasting out_unheard (λ r n k. refl) t w (out_of w)
    ∙ pick_eq (sends_at t w) (ap (block_read out_reading x) (sym (out_output w)) ∙ block_out x ∙ ap sent_out (out_output w)) refl

-- the descriptors of the endpoint that are retired
block_retired : (x : World) → block_read (retired_reading false) x 0 ≡ 1
unfolding noted
block_retired x = refl

pub microframe_retired : (t : ℕ) (w : World) → audio_out_retired (microframe t w) ≡ pick (sends_at t w) 1 0
microframe_retired t w =
    sym (noted_sum (audio_mark false) (λ n. 0) (microframe t w))
    ∙ through_sends (retired_reading false) (retired_alone false) (retired_lasting false) (retired_unheard false) retired_unmarked t w 0
    ∙ pick_eq (sends_at t w) (block_retired (at_output w)) refl

-- ---- the claims

-- a block is sent: the output step's changes stand in the microframe's list, whole, and no other descriptor of the endpoint is retired
pub record OneBlock (t : ℕ) (w : World) : Type 0 where
  pub placed : Placed (microframe t) w stream_out (at_output w)
  pub changes : stream_out (at_output w) ≡ one_block (at_output w)
  pub retired : audio_out_retired (microframe t w) ≡ 1
  pub out : out_of (left (microframe t) w) ≡ sent_out (out_of w)

pub one_block_lem : (t : ℕ) (w : World) → sends_at t w ≡ true → OneBlock t w
one_block_lem t w e =
    record {
      placed = placed_output t w (and_first _ _ e);
      changes = outputs_list (at_output w) ∙ ap (λ (b : Bool). pick b (one_block (at_output w)) (pick (asked (at_output w)) (unprimed (at_output w)) [])) (and_second (reaches_output t w) _ e);
      retired = microframe_retired t w ∙ ap (λ (b : Bool). pick b 1 0) e;
      out = out_microframe t w ∙ ap (λ (b : Bool). pick b (sent_out (out_of w)) (out_of w)) e;
    }

-- none is sent: no descriptor of the endpoint is retired, an output step that is reached does nothing but un-prime it, and the stream counter, the
-- sending ring and the frames counted as sent are as they were
pub record NoBlock (t : ℕ) (w : World) : Type 0 where
  pub changes : reaches_output t w ≡ true → (stream_out (at_output w) ≡ []) ⊎ (stream_out (at_output w) ≡ unprimed (at_output w))
  pub retired : audio_out_retired (microframe t w) ≡ 0
  pub out : out_of (left (microframe t) w) ≡ out_of w

none_or_one : (x : World) (b : Bool) → stream_out x ≡ pick b (unprimed x) [] → (stream_out x ≡ []) ⊎ (stream_out x ≡ unprimed x)
none_or_one x true e = inr e
none_or_one x false e = inl e

pub no_block : (t : ℕ) (w : World) → sends_at t w ≡ false → NoBlock t w
no_block t w e =
    record {
      changes =
          λ h.
          none_or_one (at_output w) (asked (at_output w))
          (outputs_list (at_output w)
          ∙ ap (λ (b : Bool). pick b (one_block (at_output w)) (pick (asked (at_output w)) (unprimed (at_output w)) [])) (and_rest (reaches_output t w) _ e h));
      retired = microframe_retired t w ∙ ap (λ (b : Bool). pick b 1 0) e;
      out = out_microframe t w ∙ ap (λ (b : Bool). pick b (sent_out (out_of w)) (out_of w)) e;
    }
