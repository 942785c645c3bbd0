-- How many descriptors a microframe retires and how many bytes it drops (S-1): what its answer counts is the sum over its list of changes, and a microframe
-- retires at most 128 where no request runs while streaming, 140 otherwise. One walk over the steps bounds whatever is asked of their runs.
use Prim.Native.Nat.{ℕ, zero, suc, ◌+◌, ◌*◌, ◌%◌, ◌^◌, ◌≤◌, ◌<◌}
use mathlib.Core.Path.{◌≡◌, refl, sym, ap, subst, ◌∙◌}
use mathlib.Core.Bool.{Bool, true, false, not, ◌&&◌, ◌||◌}
use mathlib.Core.List.{List, [], ◌∷◌, ◌++◌, map}
use native.Mathlib.Omega.{arith}
use lib.Dec.{eqb}
use Rattle.bits.specs.Pick.{pick, pick_both}
use Rattle.bus.specs.Memory.{after, dropped32}
use Rattle.bus.specs.Steps.{replay, and_then, choose, exec_then}
use Rattle.bus.specs.Stores.{dropped_by}
use Rattle.dtd.specs.Dtd.{Endpoint, Run, run_dtds, most}
use Rattle.dtd.proofs.Laws.{dropped32_le}
use Rattle.dtd.proofs.Where.{run_few}
use Rattle.dtd.proofs.Dropped.{run_bounded}
use Rattle.record.specs.declared.Answer.{Answer}
use Rattle.record.specs.declared.Phase.{Phase}
use Rattle.record.specs.declared.Phase.TheVariants.{Idle, Vbus, Reset, Enumerate, Stream}
use Rattle.record.specs.declared.Settings.{Settings}
use Rattle.record.specs.World.{World, bus_of}
use Rattle.record.specs.Parts as Part
use Rattle.record.specs.Change.{Change, bus, ran, lost, count, timers, apply, Step, left, ◌then◌, nothing, if, one, here, ran_stores, runs, port, audio, request, stream}
use Rattle.record.proofs.Beside.{port_beside, audio_beside, request_beside}
use Rattle.model.specs.Phases.{now, leaves, sleeps, suspends, starts_frame, idles, powers, resets}
use Rattle.model.specs.Control.{enumerating, posts, posted, configured, data_stage, status_stage, unstalls, stalled, stages, controls}
use Rattle.model.specs.Streams.{naks, reads, reads_at, midi_in, drains_serial, serial_step, drains_midi, midi_out, reads_vendor}
use Rattle.model.specs.Audio.{audio_in, adds_budget, clears_budget, keeps_run, inputs, stream_in, unprimes, sends_block, stream_out, streams}
use Rattle.model.specs.Microframe.{streaming, rs_set, gone_at, asleep_at, opens, enumerates, others, transfers, talks, at_phase, by_phase, frame_of, microframe}
use Rattle.model.specs.Reach.{streams_in, to_phase, phase_by}
use Rattle.model.specs.Marks.{noted, marked, total, retired_mark, all_retired, dropped_mark, all_dropped}
use Rattle.model.proofs.Reading.{Reading, Lasting, Silent, silent_by, silent_then, silent_if, silent_nothing, silent_one, silent_stores, silent_bus, silent_page, silent_sleeps, silent_suspends, silent_frame, silent_status, silent_reply, silent_drops, silent_ends, silent_unstalls, silent_naks, silent_unprimes, silent_idles, silent_powers, silent_resets, silent_configured, silent_adds, silent_clears, silent_opens, silent_leaves, silent_kept}
use Rattle.model.proofs.Marks.{same, noted_reading, noted_lasting, noted_unheard, noted_sum, silent_none}
use Rattle.model.proofs.Way.{Way, way_of}
use Rattle.model.proofs.OneBlock.{ways_frame, streaming_enumerates, ways_phase, idle_phase}

-- ---- what the answer counts

-- from one World to another n descriptors and m bytes more are counted, each where it fits its 64 bits
pub record Counts (n m : ℕ) (w v : World) : Type 0 where
  pub retired : w.state.answer.retired + n < 2 ^ 64 → v.state.answer.retired ≡ w.state.answer.retired + n
  pub dropped : w.state.answer.dropped + m < 2 ^ 64 → v.state.answer.dropped ≡ w.state.answer.dropped + m

unanswered : {w v : World} → v.state.answer ≡ w.state.answer → Counts 0 0 w v
unanswered {w} {v} e = record { retired = λ h. omega (arith, ap (λ (a : Answer). a.retired) e); dropped = λ h. omega (arith, ap (λ (a : Answer). a.dropped) e) }

-- one change
counts_one : (c : Change) (w : World) → Counts (marked retired_mark c) (noted dropped_mark (λ n. n) c) w (apply c w)
unfolding apply noted
counts_one (bus s) w = unanswered refl
counts_one (ran e k n) w = record { retired = λ h. omega (arith, h); dropped = λ h. omega arith }
counts_one (lost n) w = record { retired = λ h. omega arith; dropped = λ h. omega (arith, h) }
counts_one (count c n) w = unanswered refl
counts_one (timers ts) w = unanswered refl
counts_one (port c) w = unanswered (ap (λ (v : World). v.state.answer) (port_beside c w))
counts_one (audio c) w = unanswered (ap (λ (v : World). v.state.answer) (audio_beside c w))
counts_one (request c) w = unanswered (ap (λ (v : World). v.state.answer) (request_beside c w))
counts_one (stream (Part.midi n)) w = unanswered refl
counts_one (stream (Part.serial n)) w = unanswered refl
counts_one (stream (Part.cabled cs)) w = unanswered refl
counts_one (stream (Part.received bs)) w = record { retired = λ h. omega arith; dropped = λ h. omega arith }

-- a list of changes, and so each step by its own
pub counts_all : (cs : List Change) (w : World) → Counts (all_retired cs) (all_dropped cs) w (replay apply cs w)
unfolding total
counts_all [] w = record { retired = λ h. omega arith; dropped = λ h. omega arith }
counts_all (c ∷ cs) w =
    let first = counts_one c w in
    let rest = counts_all cs (apply c w) in
    record {
      retired = λ h. let e = first.retired (omega (arith, h)) in omega (arith, rest.retired (omega (arith, h, e)), e);
      dropped = λ h. let e = first.dropped (omega (arith, h)) in omega (arith, rest.dropped (omega (arith, h, e)), e);
    }

-- ---- what a run says

total_append : (f : Change → ℕ) (xs ys : List Change) → total f (xs ++ ys) ≡ total f xs + total f ys
unfolding total
total_append f [] ys = omega arith
total_append f (x ∷ xs) ys = omega (arith, total_append f xs ys)

module _ (f : Endpoint → ℕ → ℕ → ℕ) (g : ℕ → ℕ) where
  pub total_run : (e : Endpoint) (r : Run) → total (noted f g) (ran_stores e r) ≡ f e r.retired r.moved + g (dropped_by r.stores)
  unfolding ran_stores total noted
  total_run e r =
      let none : total (noted f g) (map bus r.stores) ≡ 0 = omega (arith, noted_sum f g (map bus r.stores), silent_stores (noted_reading f g) r.stores 0) in
      omega (arith, total_append (noted f g) (map bus r.stores) (ran e r.retired r.moved ∷ lost (dropped_by r.stores) ∷ []), none)

-- a run's mark says what the run retired, which is at most as much as its endpoint may
pub run_marked : (e : Endpoint) (r : Run) → all_retired (ran_stores e r) ≡ r.retired
run_marked e r = omega (arith, total_run retired_mark (λ n. 0) e r)

pub run_dropped : (e : Endpoint) (r : Run) → all_dropped (ran_stores e r) ≡ dropped_by r.stores
run_dropped e r = omega (arith, total_run dropped_mark (λ n. n) e r)

-- ---- how much a step has of what is asked

-- y bounds what is asked of a run, for each descriptor that its endpoint may retire, and of the eight bytes that a setup may lose
pub record Bound (f : Endpoint → ℕ → ℕ → ℕ) (g : ℕ → ℕ) (y : ℕ) : Type 0 where
  pub run : (e : Endpoint) (bs : List ℕ) (w : World) → total (noted f g) (ran_stores e (run_dtds e bs (bus_of w))) ≤ pick (eqb e.number 0) (64 * y) y
  pub lost : (n : ℕ) → n ≤ 8 → g n ≤ y

module _ (f : Endpoint → ℕ → ℕ → ℕ) (g : ℕ → ℕ) where
  abbrev R : Reading ℕ
  R = noted_reading f g

  abbrev L : Lasting R
  L = noted_lasting f g

  abbrev of : List Change → ℕ
  of cs = total (noted f g) cs

  abbrev pub Few : ℕ → Step → Type 0
  Few n s = (w : World) → of (s w) ≤ n

  few_silent : (n : ℕ) (s : Step) → Silent R s → Few n s
  few_silent n s p w = omega (arith, silent_none f g s p w)

  -- a change that has none
  silent_no : (c : World → Change) → ((w : World) → noted f g (c w) ≡ 0) → Silent R (one c)
  silent_no c p = silent_by R c (λ w k. same f g k (noted f g (c w)) (p w))

  of_then : (s u : Step) (w : World) → of ((s then u) w) ≡ of (s w) + of (u (left s w))
  unfolding and_then
  of_then s u w = total_append (noted f g) (s w) (u (left s w))

  few_then : (n m : ℕ) (s u : Step) → Few n s → Few m u → Few (n + m) (s then u)
  few_then n m s u p q w = omega (arith, of_then s u w, p w, q (left s w))

  -- behind a step that has none
  few_after : (n : ℕ) (s u : Step) → Silent R s → Few n u → Few n (s then u)
  few_after n s u p q w = omega (arith, of_then s u w, silent_none f g s p w, q (left s w))

  few_if : (n : ℕ) (t : World → Bool) (s u : Step) → Few n s → Few n u → Few n (if t s u)
  unfolding choose
  few_if n t s u p q w = pick_both (λ (cs : List Change). of cs ≤ n) (t w) (p w) (q w)

  few_here : (n : ℕ) (s : World → Step) → ((v : World) → Few n (s v)) → Few n (here s)
  unfolding here
  few_here n s p w = p w w

  few_more : (n m : ℕ) (s : Step) → n ≤ m → Few n s → Few m s
  few_more n m s h p w = omega (arith, h, p w)

  one_lost : (n : ℕ) (w : World) → of (one (λ v. lost n) w) ≡ g n
  unfolding one total noted
  one_lost n w = omega arith

  -- 637-640: the two words of a setup
  few_posted : (n : ℕ) → ((m : ℕ) → m ≤ 8 → g m ≤ n) → (qh first second : ℕ) → Few n (posted qh first second)
  unfolding posted
  few_posted n p qh first second =
      few_after n _ _ (silent_one R _ (λ w. refl))
      (few_after n _ _ (silent_bus R _)
      (few_more (n + 0) n _ (omega arith)
      (few_then n 0 _ _ (λ w. words w) (few_silent 0 _ (silent_then R _ _ (silent_page R _) (silent_one R _ (λ w. refl)))))))
    where
      words : (w : World) → of (one (λ v. lost (dropped32 (after qh 0x28) + dropped32 (after qh 0x2C))) w) ≤ n
      words w =
          omega (
            arith,
            one_lost (dropped32 (after qh 0x28) + dropped32 (after qh 0x2C)) w,
            p (dropped32 (after qh 0x28) + dropped32 (after qh 0x2C)) (omega (arith, dropped32_le (after qh 0x28), dropped32_le (after qh 0x2C))),
          )

  module _ {y : ℕ} (B : Bound f g y) where
    few_posts : Few y posts
    unfolding posts
    few_posts = few_here y _ (λ v. few_posted y B.lost _ _ _)

    few_runs : (n : ℕ) (e : Endpoint) (bs : List ℕ) (k : Run → Step) → ((r : Run) → Few n (k r)) → Few (pick (eqb e.number 0) (64 * y) y + n) (runs e bs k)
    unfolding runs
    few_runs n e bs k p w =
        let r = run_dtds e bs (bus_of w) in
        omega (arith, of_then (λ v. ran_stores e r) (k r) w, B.run e bs w, p r (left (λ v. ran_stores e r) w))

    -- a run, and then nothing of it
    few_run : (e : Endpoint) (bs : List ℕ) (k : Run → Step) → ((r : Run) → Silent R (k r)) → Few (pick (eqb e.number 0) (64 * y) y) (runs e bs k)
    few_run e bs k p w = omega (arith, few_runs 0 e bs k (λ r. few_silent 0 (k r) (p r)) w)

    -- ---- control

    few_data : Few (64 * y) data_stage
    unfolding data_stage
    few_data =
        few_if _ _ _ _ (few_silent _ _ (silent_status R))
        (few_if _ _ _ _ (few_run _ [] _ (silent_reply R)) (few_run _ [] _ (λ r. silent_if R _ _ _ (silent_status R) (silent_nothing R))))

    few_last : (stack : Bool) → Few (64 * y) (status_stage stack)
    unfolding status_stage
    few_last stack = few_if _ _ _ _ (few_run _ [] _ (silent_ends R stack)) (few_run _ [] _ (silent_ends R stack))

    few_stages : (stack : Bool) → Few (128 * y) (stages stack)
    unfolding stages
    few_stages stack =
        few_if _ _ _ _ (few_more (64 * y) (128 * y) _ (omega arith) (few_last stack))
        (few_more (64 * y + 64 * y) (128 * y) _ (omega arith)
        (few_then (64 * y) (64 * y) data_stage _ few_data
        (few_if _ _ _ _ (few_last stack) (few_silent _ _ (silent_if R _ _ _ (silent_drops R) (silent_nothing R))))))

    -- where a request runs, and where none does
    few_controls : (stack : Bool) (w : World) → of (controls stack w) ≤ pick w.state.control.on (128 * y) y
    unfolding controls choose
    few_controls stack w = by w.state.control.on
      where
        rest : Step
        rest = if (λ x. eqb x.state.lengths.setups 0) configured posts

        by : (b : Bool) → of (pick b (if stalled unstalls (stages stack) w) (rest w)) ≤ pick b (128 * y) y
        by true = few_if (128 * y) stalled unstalls (stages stack) (few_silent (128 * y) unstalls (silent_unstalls R)) (few_stages stack) w
        by false = few_if y (λ x. eqb x.state.lengths.setups 0) configured posts (few_silent y configured (silent_configured R L.phases)) few_posts w

    -- ---- the streams

    few_reads : (n : ℕ) → Few (n * y) (reads n)
    unfolding reads
    few_reads zero = few_silent (zero * y) nothing (silent_nothing R)
    few_reads (suc n) =
        few_more (y + n * y) (suc n * y) _ (omega arith)
        (few_runs (n * y) _ [] _
        (λ r. few_if (n * y) _ _ _
        (few_after (n * y) _ _ (silent_one R _ (λ w. refl))
        (few_after (n * y) _ _ (silent_one R _ (λ w. refl)) (few_after (n * y) _ _ (silent_one R _ (λ w. refl)) (few_reads n))))
        (few_silent (n * y) nothing (silent_nothing R))))

    few_midi : (asleep : Bool) (every : ℕ) → Few (8 * y) (midi_in asleep every)
    unfolding midi_in
    few_midi true every = few_silent (8 * y) sleeps (silent_sleeps R)
    few_midi false every =
        few_after (8 * y) naks _ (silent_naks R)
        (few_here (8 * y) _ (λ v. few_more (reads_at every (now v) * y) (8 * y) _ (most_reads (now v)) (few_reads (reads_at every (now v)))))
      where
        most_reads : (k : ℕ) → reads_at every k * y ≤ 8 * y
        most_reads k =
            pick_both (λ (n : ℕ). n * y ≤ 8 * y) (eqb every 0) (omega arith)
            (pick_both (λ (n : ℕ). n * y ≤ 8 * y) (eqb (k % every) 0) (omega arith) (omega arith))

    few_serial : Few (2 * y) serial_step
    unfolding serial_step drains_serial
    few_serial =
        few_more (y + y) (2 * y) _ (omega arith)
        (few_then y y _ _ (few_run _ [] _ (λ r. silent_one R _ (λ w. refl)))
        (few_if y _ _ _
        (few_here y _ (λ v. few_here y _ (λ u. few_after y _ _ (silent_one R _ (λ w. refl)) (few_run _ _ _ (λ r. silent_nothing R)))))
        (few_silent y nothing (silent_nothing R))))

    few_writes : Few y midi_out
    unfolding midi_out drains_midi
    few_writes =
        few_if y _ _ _
        (few_here y _ (λ v. few_here y _ (λ u. few_after y _ _ (silent_one R _ (λ w. refl)) (few_run _ _ _ (λ r. silent_one R _ (λ w. refl))))))
        (few_silent y nothing (silent_nothing R))

    few_vendor : Few y reads_vendor
    unfolding reads_vendor
    few_vendor = few_run _ [] _ (λ r. silent_one R _ (λ w. refl))

    few_inputs : Few y inputs
    unfolding inputs
    few_inputs = few_run audio_in [] keeps_run (silent_kept R L (noted_unheard f g))

    few_hears : Few y stream_in
    unfolding stream_in
    few_hears =
        few_after y adds_budget _ (silent_adds R L.budgets)
        (few_if y _ _ _ (few_silent y nothing (silent_nothing R)) (few_after y clears_budget _ (silent_clears R L.budgets) few_inputs))

    few_sends : Few y stream_out
    unfolding stream_out sends_block noted
    few_sends =
        few_if y _ _ _
        (few_if y _ _ _
        (few_here y _
        (λ v. few_after y _ _ (silent_no _ (λ w. refl))
        (few_after y _ _ (silent_no _ (λ w. refl))
        (few_after y _ _ (silent_no _ (λ w. refl))
        (few_after y _ _ (silent_no _ (λ w. refl))
        (few_run _ _ _ (λ r. silent_then R _ _ (silent_no _ (λ w. refl)) (silent_no _ (λ w. refl)))))))))
        (few_silent y unprimes (silent_unprimes R)))
        (few_silent y nothing (silent_nothing R))

    few_streams : Few (2 * y) streams
    unfolding streams
    few_streams = few_more (y + y) (2 * y) _ (omega arith) (few_then y y stream_in stream_out few_hears few_sends)

    few_others : (c : Settings) (t : ℕ) → Few (10 * y) (others c t)
    unfolding others
    few_others c t =
        few_more (8 * y + 2 * y) (10 * y) _ (omega arith)
        (few_then (8 * y) (2 * y) _ _ (few_if (8 * y) _ _ _ (few_midi _ _) (few_silent (8 * y) nothing (silent_nothing R)))
        (few_if (2 * y) _ _ _ (few_more (y + y) (2 * y) _ (omega arith) (few_then y y midi_out reads_vendor few_writes few_vendor)) (few_silent (2 * y) nothing (silent_nothing R))))

    -- twelve, and none where the phase is another
    few_transfers : (c : Settings) (t : ℕ) (w : World) → of (transfers c t w) ≤ pick (streaming w.state.phase) (12 * y) 0
    unfolding transfers choose
    few_transfers c t w = by (streaming w.state.phase)
      where
        all : Few (12 * y) (if (λ v. c.cdc) serial_step (streams then others c t))
        all =
            few_if (12 * y) (λ v. c.cdc) serial_step (streams then others c t)
            (few_more (2 * y) (12 * y) serial_step (omega arith) few_serial)
            (few_more (2 * y + 10 * y) (12 * y) _ (omega arith) (few_then (2 * y) (10 * y) streams (others c t) few_streams (few_others c t)))

        by : (b : Bool) → of (pick b (if (λ v. c.cdc) serial_step (streams then others c t) w) (nothing w)) ≤ pick b (12 * y) 0
        by true = all w
        by false = few_silent 0 nothing (silent_nothing R) w

    -- ---- the whole of it

    -- a request that runs and the streams meet only where one runs while streaming
    abbrev most_of : Way → ℕ
    most_of k = pick (streaming k.phase && k.on) (140 * y) (128 * y)

    least : (p : Phase) (on waits : Bool) (n m : ℕ) → n ≤ pick on (128 * y) y → m ≤ pick (streaming p || (enumerating p && (not on && waits))) (12 * y) 0
        → n + m ≤ pick (streaming p && on) (140 * y) (128 * y)
    least Idle true waits n m h k = omega (arith, h, k)
    least Idle false waits n m h k = omega (arith, h, k)
    least Vbus true waits n m h k = omega (arith, h, k)
    least Vbus false waits n m h k = omega (arith, h, k)
    least Reset true waits n m h k = omega (arith, h, k)
    least Reset false waits n m h k = omega (arith, h, k)
    least Enumerate true waits n m h k = omega (arith, h, k)
    least Enumerate false true n m h k = omega (arith, h, k)
    least Enumerate false false n m h k = omega (arith, h, k)
    least Stream true waits n m h k = omega (arith, h, k)
    least Stream false waits n m h k = omega (arith, h, k)

    few_both : (c : Settings) (t : ℕ) (v : World) → of ((enumerates c then transfers c t) v) ≤ most_of (way_of v)
    unfolding enumerates
    few_both c t v =
        let stack = c.device_stack in
        let u = left starts_frame v in
        let on = subst (λ (k : Way). of (controls stack u) ≤ pick k.on (128 * y) y) (ways_frame v) (few_controls stack u) in
        let first : of (enumerates c v) ≤ pick v.state.control.on (128 * y) y =
        omega (arith, of_then starts_frame (controls stack) v, silent_none f g starts_frame (silent_frame R) v, on) in
        let second : of (transfers c t (left (enumerates c) v)) ≤ pick (streams_in v) (12 * y) 0 =
        subst (λ (b : Bool). of (transfers c t (left (enumerates c) v)) ≤ pick b (12 * y) 0) (streaming_enumerates c v) (few_transfers c t (left (enumerates c) v)) in
        omega (arith, of_then (enumerates c) (transfers c t) v, least v.state.phase v.state.control.on (eqb v.state.lengths.setups 0) _ _ first second)

    few_talks : (c : Settings) (t : ℕ) (rs : Bool) (v : World) → of (talks c t rs v) ≤ pick rs (most_of (way_of v)) 0
    unfolding talks choose
    few_talks c t true v = few_both c t v
    few_talks c t false v = few_silent 0 nothing (silent_nothing R) v

    few_at : (c : Settings) (t : ℕ) (rs : Bool) (p : Phase) (v : World) → of (at_phase c t rs p v) ≤ pick rs (most_of (way_of v)) 0
    few_at c t rs Idle v = few_silent _ idles (silent_idles R L.phases) v
    few_at c t rs Vbus v = few_silent _ (powers rs) (silent_powers R L.phases rs) v
    few_at c t rs Reset v = few_silent _ resets (silent_resets R L.phases) v
    few_at c t rs Enumerate v = few_talks c t rs v
    few_at c t rs Stream v = few_talks c t rs v

    -- a host that is back is Idle, and any other has the way of its entry
    few_phase : (t : ℕ) (rs g : Bool) (w : World) → w.state.port.gone ≡ g → of (by_phase w.settings t rs (phase_by rs w)) ≤ most_of (way_of w)
    unfolding by_phase here
    few_phase t false g w e = omega (arith, few_at w.settings t false (phase_by false w).state.phase (phase_by false w))
    few_phase t true false w e =
        subst (λ (k : Way). of (by_phase w.settings t true (phase_by true w)) ≤ most_of k) (ways_phase w e)
        (few_at w.settings t true (phase_by true w).state.phase (phase_by true w))
    few_phase t true true w e =
        subst (λ (p : Phase). of (at_phase w.settings t true p (phase_by true w)) ≤ most_of (way_of w)) (sym (idle_phase w e))
        (few_silent (most_of (way_of w)) idles (silent_idles R L.phases) (phase_by true w))

    few_frame : (t : ℕ) (rs g s : Bool) (w : World) → of (frame_of w.settings t rs g s w) ≤ most_of (way_of w)
    unfolding frame_of phase_by to_phase
    few_frame t rs true s w = few_silent (most_of (way_of w)) (opens w.settings true then sleeps) (silent_then R (opens w.settings true) sleeps (silent_opens R L w.settings true) (silent_sleeps R)) w
    few_frame t rs false true w =
        few_silent (most_of (way_of w)) (opens w.settings false then suspends true then sleeps)
        (silent_then R (opens w.settings false) (suspends true then sleeps) (silent_opens R L w.settings false) (silent_then R (suspends true) sleeps (silent_suspends R true) (silent_sleeps R))) w
    few_frame t rs false false w =
        let first = opens w.settings false in
        let go = leaves w.settings.device_stack rs in
        let last = by_phase w.settings t rs in
        let a = left first w in
        let b = left (suspends false) a in
        let at : left go b ≡ phase_by rs w = sym (exec_then apply first (suspends false then go) w ∙ exec_then apply (suspends false) go a) in
        let rest = subst (λ (v : World). of (last v) ≤ most_of (way_of w)) (sym at) (few_phase t rs w.state.port.gone w refl) in
        omega (
          arith,
          of_then first (suspends false then go then last) w,
          silent_none f g first (silent_opens R L w.settings false) w,
          of_then (suspends false) (go then last) a,
          silent_none f g (suspends false) (silent_suspends R false) a,
          of_then go last b,
          silent_none f g go (silent_leaves R L w.settings.device_stack rs) b,
          rest,
        )

    pub few_microframe : (t : ℕ) (w : World) → of (microframe t w) ≤ pick (streaming w.state.phase && w.state.control.on) (140 * y) (128 * y)
    unfolding microframe here
    few_microframe t w = few_frame t (rs_set w) (gone_at t w) (asleep_at t w) w

under : (b : Bool) (n m k : ℕ) → n ≤ k → m ≤ k → pick b n m ≤ k
under b n m k p q = pick_both (λ (x : ℕ). x ≤ k) b p q

-- ---- descriptors (S-1)

run_retired : (e : Endpoint) (bs : List ℕ) (w : World) → all_retired (ran_stores e (run_dtds e bs (bus_of w))) ≤ most e
run_retired e bs w = omega (arith, run_marked e (run_dtds e bs (bus_of w)), run_few e bs (bus_of w))

retired_bound : Bound retired_mark (λ n. 0) 1
retired_bound = record { run = run_retired; lost = λ n h. omega arith }

-- of any World at most 140, and 128 where no request runs while streaming
pub retired_any : (t : ℕ) (w : World) → all_retired (microframe t w) ≤ 140
retired_any t w =
    omega (arith, few_microframe retired_mark (λ n. 0) retired_bound t w, under (streaming w.state.phase && w.state.control.on) 140 128 140 (omega arith) (omega arith))

pub retired_most : (t : ℕ) (w : World) → (streaming w.state.phase && w.state.control.on) ≡ false → all_retired (microframe t w) ≤ 128
retired_most t w e =
    subst (λ (b : Bool). all_retired (microframe t w) ≤ pick b 140 128) e (few_microframe retired_mark (λ n. 0) retired_bound t w)

-- a step retires at most n, and the answer counts them
pub record Retires (n : ℕ) (s : Step) : Type 0 where
  pub few : (w : World) → all_retired (s w) ≤ n
  pub counts : (w : World) → w.state.answer.retired + n < 2 ^ 64 → (left s w).state.answer.retired ≡ w.state.answer.retired + all_retired (s w)

retires : (n : ℕ) (s : Step) → ((w : World) → all_retired (s w) ≤ n) → Retires n s
retires n s p = record { few = p; counts = λ w h. (counts_all (s w) w).retired (omega (arith, h, p w)) }

pub control_retires : (stack : Bool) → Retires 128 (controls stack)
control_retires stack =
    retires 128 (controls stack) (λ w. omega (arith, few_controls retired_mark (λ n. 0) retired_bound stack w, under w.state.control.on 128 1 128 (omega arith) (omega arith)))

pub serial_retires : Retires 2 serial_step
serial_retires = retires 2 serial_step (few_serial retired_mark (λ n. 0) retired_bound)

pub audio_in_retires : Retires 1 stream_in
audio_in_retires = retires 1 stream_in (few_hears retired_mark (λ n. 0) retired_bound)

pub audio_out_retires : Retires 1 stream_out
audio_out_retires = retires 1 stream_out (few_sends retired_mark (λ n. 0) retired_bound)

pub midi_in_retires : (asleep : Bool) (every : ℕ) → Retires 8 (midi_in asleep every)
midi_in_retires asleep every = retires 8 (midi_in asleep every) (few_midi retired_mark (λ n. 0) retired_bound asleep every)

pub midi_out_retires : Retires 1 midi_out
midi_out_retires = retires 1 midi_out (few_writes retired_mark (λ n. 0) retired_bound)

pub vendor_retires : Retires 1 reads_vendor
vendor_retires = retires 1 reads_vendor (few_vendor retired_mark (λ n. 0) retired_bound)

-- ---- bytes that no window took

run_lost : (e : Endpoint) (bs : List ℕ) (w : World) → all_dropped (ran_stores e (run_dtds e bs (bus_of w))) ≤ pick (eqb e.number 0) (64 * 32787) 32787
run_lost e bs w =
    let r = run_dtds e bs (bus_of w) in
    let p = run_bounded e bs (bus_of w) in
    by (eqb e.number 0) (run_few e bs (bus_of w)) (omega (arith, run_dropped e r, p.moves, p.drops))
  where
    by : (b : Bool) {n k : ℕ} → k ≤ pick b 64 1 → n ≤ 32787 * k → n ≤ pick b (64 * 32787) 32787
    by true h q = omega (arith, h, q)
    by false h q = omega (arith, h, q)

dropped_bound : Bound dropped_mark (λ n. n) 32787
dropped_bound = record { run = run_lost; lost = λ n h. omega (arith, h) }

pub dropped_any : (t : ℕ) (w : World) → all_dropped (microframe t w) ≤ 140 * 32787
dropped_any t w =
    omega (arith, few_microframe dropped_mark (λ n. n) dropped_bound t w, under (streaming w.state.phase && w.state.control.on) (140 * 32787) (128 * 32787) (140 * 32787) (omega arith) (omega arith))
