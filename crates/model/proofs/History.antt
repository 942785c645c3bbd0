-- Demand 3's history in one microframe: what it does to the credit and to the two counters of frames, by the tests that say which steps it reaches:
-- the resets, then seven for each good block read, then one block sent where seven are earned.
use Prim.Native.Nat.{ℕ, zero, suc, ◌+◌}
use mathlib.Core.Path.{◌≡◌, refl, ap, sym, ◌∙◌}
use mathlib.Core.Bool.{Bool, true, false, not, ◌&&◌, ◌||◌}
use mathlib.Core.List.{List, [], ◌∷◌}
use native.Mathlib.Omega.{arith}
use lib.Dec.{leb, ltb}
use Rattle.bits.specs.Pick.{pick, pick_map, pick_eq}
use Rattle.bus.specs.Steps.{and_then, exec_then, exec_choose}
use Rattle.dtd.specs.Dtd.{Run, run_dtds}
use Rattle.dtd.proofs.Runs.{idle_run}
use Rattle.record.specs.declared.Settings.{Settings}
use Rattle.record.specs.Record.{raised, wrapped, in_frames}
use Rattle.record.specs.World.{World, bus_of}
use Rattle.record.specs.Change.{count, credit, was_running, budget, apply, Step, left, ◌then◌, nothing, one, here}
use Rattle.model.specs.Phases.{counts, ticks, cable, unplugging, returns, forgets, drops_request, enters, sleeps, suspends, leaves, departs}
use Rattle.model.specs.Streams.{nonempty, brought, next_total}
use Rattle.model.specs.Audio.{audio_in, BLOCK, BLOCK_FRAMES, named, over_budget, adds_budget, clears_budget, blocks, blocks_of, good, keeps_frames, keeps_good, keeps_block, keeps_blocks, keeps_run, inputs, stream_in, stream_out, streams}
use Rattle.model.specs.Microframe.{rs_set, gone_at, asleep_at, opens, frame_of, by_phase, enumerates, microframe}
use Rattle.model.specs.Reach.{streams_in, to_phase, phase_by, stream_by, output_by, within_budget, input_by, back_by, left_by, paced, input_ready, output_ready, bytes_at}
use Rattle.model.specs.Earned.{Counts, counts_of, earned, sent_one, zeroed, good_blocks, blocks_read, reset_counts, heard_counts, sent_counts}
use Rattle.model.proofs.Fields.{fields_replay, fields_then, fields_if, keeps_nothing, keeps_if, keeps_then, keeps_one, keeps_page, Keeps, left_runs, fields_ran}
use Rattle.model.proofs.Reading.{fields_alone, through, silent_keeps, silent_counts, silent_ticks, silent_sleeps, silent_suspends, silent_enumerates, silent_adds, silent_clears}
use Rattle.model.proofs.Frames.{Frames, frames_of, with_counts, frames, frames_leaves, frames_reading}
use Rattle.model.proofs.OneBlock.{gets_to, gets_closed, through_phase, block_read, through_outputs, budget_stream}

abbrev earns : ℕ → Frames → Frames
earns n k = with_counts k (earned n k.counts)

abbrev sends : Frames → Frames
sends k = with_counts k (sent_one k.counts)

-- ---- blocks in

pub keeps_frames_lem : (n : ℕ) (bs : List ℕ) → Keeps frames (keeps_frames n bs)
unfolding keeps_frames
keeps_frames_lem zero bs = keeps_nothing frames
keeps_frames_lem (suc n) bs = keeps_then frames _ _ (keeps_one frames _ (λ w. refl)) (keeps_frames_lem n _)

counts_up : (v : World) → frames_of (left (one (λ w. credit (wrapped (w.state.audio.credit + BLOCK_FRAMES)))) (left (one (λ w. count in_frames BLOCK_FRAMES)) v)) ≡ earns 1 (frames_of v)
unfolding one apply raised earned
counts_up v = refl

-- a good block earns seven
frames_good : (b : List ℕ) (w : World) → frames_of (left (keeps_good b) w) ≡ earns 1 (frames_of w)
unfolding keeps_good
frames_good b w =
    fields_then frames _ _ w ∙ fields_then frames _ _ _ ∙ counts_up _ ∙ ap (earns 1) (keeps_frames_lem _ _ w)

by_good : (t : Bool) (f g : Step) (w : World) → frames_of (left f w) ≡ earns 1 (frames_of w) → frames_of (left g w) ≡ frames_of w
    → frames_of (left (pick t f g) w) ≡ earns (pick t 1 0) (frames_of w)
unfolding earned
by_good true f g w p q = p
by_good false f g w p q = q

pub frames_block : (b : List ℕ) (w : World) → frames_of (left (keeps_block b) w) ≡ earns (pick (good b) 1 0) (frames_of w)
unfolding keeps_block
frames_block b w = by_good (good b) _ _ w (frames_good b w) (keeps_one frames _ (λ v. refl) w)

more : (t : Bool) (n : ℕ) (m : Counts) → earned n (earned (pick t 1 0) m) ≡ earned (pick t 1 0 + n) m
unfolding earned
more true n m =
    let e : suc n ≡ 1 + n = omega arith in
    ap (λ (k : ℕ). earned k m) e
more false n m =
    let e : n ≡ 0 + n = omega arith in
    ap (λ (k : ℕ). earned k m) e

frames_blocks : (bs : List (List ℕ)) (w : World) → frames_of (left (keeps_blocks bs) w) ≡ earns (good_blocks bs) (frames_of w)
unfolding keeps_blocks good_blocks earned
frames_blocks [] w = keeps_nothing frames w
frames_blocks (b ∷ bs) w =
    fields_then frames _ _ w
    ∙ frames_blocks bs _
    ∙ ap (earns (good_blocks bs)) (frames_block b w)
    ∙ ap (with_counts (frames_of w)) (more (good b) (good_blocks bs) (frames_of w).counts)

-- a run that brought nothing has no block
some_or_none : (d : Bool) (bs : List ℕ) (k : Frames) → pick (d || nonempty bs) (earns (good_blocks (blocks_of bs)) k) k ≡ earns (good_blocks (blocks_of bs)) k
unfolding blocks good_blocks earned
some_or_none true bs k = refl
some_or_none false [] k = refl
some_or_none false (b ∷ bs) k = refl

frames_run : (r : Run) (w : World) → frames_of (left (keeps_run r) w) ≡ earns (good_blocks (blocks_of r.bytes)) (frames_of w)
unfolding keeps_run
frames_run r w =
    fields_if frames _ _ _ w
    ∙ pick_eq (brought r) (fields_then frames _ _ w ∙ frames_blocks _ _ ∙ ap (earns (good_blocks (blocks_of r.bytes))) (keeps_one frames _ (λ v. refl) w)) (keeps_nothing frames w)
    ∙ some_or_none r.done r.bytes (frames_of w)

ready_or_none : (t : Bool) (bs : List ℕ) (k : Frames) → (t ≡ false → bs ≡ []) → earns (good_blocks (blocks_of bs)) k ≡ pick t (earns (good_blocks (blocks_of bs)) k) k
unfolding blocks good_blocks earned
ready_or_none true bs k h = refl
ready_or_none false bs k h = rw (h refl) refl

-- the input step: the good blocks of the run's bytes, where the endpoint is ready
pub frames_inputs : (x : World) → frames_of (left inputs x) ≡ pick (input_ready x) (earns (good_blocks (blocks_of (bytes_at x))) (frames_of x)) (frames_of x)
unfolding inputs input_ready bytes_at
frames_inputs x =
    ap frames_of (left_runs frames audio_in [] keeps_run x)
    ∙ frames_run _ _
    ∙ ap (earns (good_blocks (blocks_of (run_dtds audio_in [] (bus_of x)).bytes))) (fields_ran frames audio_in [] x)
    ∙ ready_or_none _ _ _ (λ h. (idle_run audio_in [] (bus_of x) refl h).bytes)

-- past the budget, which changes no count
frames_paced : (u : World) → frames_of (paced u) ≡ frames_of u
unfolding paced
frames_paced u =
    silent_keeps frames clears_budget (silent_clears frames_reading (λ n k. refl)) (left adds_budget u)
    ∙ silent_keeps frames adds_budget (silent_adds frames_reading (λ n k. refl)) u

frames_past : (u : World) → frames_of (left (clears_budget then inputs) (left adds_budget u)) ≡ pick (input_ready (paced u)) (earns (blocks_read u) (frames_of u)) (frames_of u)
unfolding paced blocks_read
frames_past u =
    fields_then frames clears_budget inputs (left adds_budget u)
    ∙ frames_inputs (left clears_budget (left adds_budget u))
    ∙ ap (λ (k : Frames). pick (input_ready (paced u)) (earns (blocks_read u) k) k) (frames_paced u)

-- 858-864: past the added packet the budget is exceeded where the closed form says so
named_same : (n : ℕ) (u : World) → named (apply (budget n) u) ≡ named u
unfolding named apply
named_same n u = refl

not_not : (b : Bool) → b ≡ not (not b)
not_not true = refl
not_not false = refl

pub over_within : (u : World) → over_budget (left adds_budget u) ≡ not (within_budget u.state.audio.budget u)
unfolding over_budget adds_budget within_budget nothing one apply
over_within u = ap over_budget (exec_choose apply named _ nothing u) ∙ by (named u) refl
  where
    more : ℕ
    more = wrapped (u.state.audio.budget + BLOCK)

    by : (b : Bool) → named u ≡ b → over_budget (pick b (apply (budget more) u) u) ≡ not (not (b && ltb more (next_total audio_in u)))
    by true e = ap (λ (b : Bool). b && ltb more (next_total audio_in u)) (named_same more u ∙ e) ∙ not_not _
    by false e = ap (λ (b : Bool). b && ltb u.state.audio.budget (next_total audio_in u)) e

pick_not : (b ready : Bool) (x y : Frames) → pick (not b) y (pick ready x y) ≡ pick (b && ready) x y
pick_not true ready x y = refl
pick_not false ready x y = refl

-- `stream` up to the output step
frames_hears : (u : World) → frames_of (left stream_in u) ≡ pick (within_budget u.state.audio.budget u && input_ready (paced u)) (earns (blocks_read u) (frames_of u)) (frames_of u)
unfolding stream_in
frames_hears u =
    let within = within_budget u.state.audio.budget u in
    fields_then frames _ _ u
    ∙ fields_if frames _ _ _ (left adds_budget u)
    ∙ ap (λ (b : Bool). pick b (frames_of (left nothing (left adds_budget u))) (frames_of (left (clears_budget then inputs) (left adds_budget u)))) (over_within u)
    ∙ pick_eq (not within) (keeps_nothing frames _ ∙ silent_keeps frames adds_budget (silent_adds frames_reading (λ n k. refl)) u) (frames_past u)
    ∙ pick_not within (input_ready (paced u)) _ _

-- ---- a block out

block_sends : (x : World) → block_read frames_reading x (frames_of x) ≡ sends (frames_of x)
unfolding sent_one
block_sends x = refl

-- `stream_out`
frames_outputs : (x : World) → frames_of (left stream_out x) ≡ pick (output_ready x && leb BLOCK_FRAMES x.state.audio.credit) (sends (frames_of x)) (frames_of x)
frames_outputs x =
    fields_replay frames (stream_out x) x ∙ through_outputs frames_reading (fields_alone frames frames_leaves) x (frames_of x)
    ∙ pick_eq (output_ready x && leb BLOCK_FRAMES x.state.audio.credit) (block_sends x) refl

-- ---- the cable

abbrev gone_to : Bool → Frames → Frames
gone_to b k = record { counts = k.counts; gone = b; was_running = k.was_running }

abbrev cabled : Bool → Frames → Frames
cabled true k = gone_to true k
cabled false k = gone_to false (with_counts k (pick k.gone (zeroed k.counts) k.counts))

frames_returns : (v : World) → frames_of (left returns v) ≡ with_counts (frames_of v) (zeroed (counts_of v))
unfolding returns forgets drops_request and_then one apply raised
frames_returns v = refl

goes : (b : Bool) (k : Frames) → k.gone ≡ b → pick (not b) (gone_to true k) k ≡ gone_to true k
goes true k e = λ i. record { counts = k.counts; gone = e i; was_running = k.was_running }
goes false k e = refl

comes : (b : Bool) (k : Frames) → k.gone ≡ b → pick b (gone_to false (with_counts k (zeroed k.counts))) k ≡ gone_to false (with_counts k (pick b (zeroed k.counts) k.counts))
comes true k e = refl
comes false k e = λ i. record { counts = k.counts; gone = e i; was_running = k.was_running }

frames_cable : (g : Bool) (v : World) → frames_of (left (cable g) v) ≡ cabled g (frames_of v)
unfolding cable one apply
frames_cable true v =
    fields_if frames _ _ _ v
    ∙ pick_eq (not v.state.port.gone) (fields_then frames _ _ v ∙ keeps_page frames unplugging _) (keeps_nothing frames v)
    ∙ goes v.state.port.gone (frames_of v) refl
frames_cable false v =
    fields_if frames _ _ _ v
    ∙ pick_eq v.state.port.gone (fields_then frames _ _ v ∙ frames_returns _) (keeps_nothing frames v)
    ∙ comes v.state.port.gone (frames_of v) refl

frames_opens : (c : Settings) (g : Bool) (w : World) → frames_of (left (opens c g) w) ≡ cabled g (frames_of w)
unfolding opens
frames_opens c g w =
    fields_then frames _ _ w ∙ fields_then frames _ _ _ ∙ frames_cable g _
    ∙ ap (cabled g) (keeps_if frames (λ v. c.midi_in) ticks nothing (silent_keeps frames ticks (silent_ticks frames_reading)) (keeps_nothing frames) _ ∙ silent_keeps frames counts (silent_counts frames_reading) w)

-- ---- the device left

counts_departs : (v : World) → counts_of (left departs v) ≡ zeroed (counts_of v)
unfolding departs enters forgets drops_request and_then one apply
counts_departs v = refl

seen : (v : World) → counts_of (left (one (λ w. was_running true)) v) ≡ counts_of v
unfolding one apply
seen v = refl

counts_leaves : (stack rs : Bool) (v : World) → counts_of (left (leaves stack rs) v) ≡ pick (not rs && (stack && v.state.port.was_running)) (zeroed (counts_of v)) (counts_of v)
unfolding leaves
counts_leaves false true v = ap (λ (k : Frames). k.counts) (keeps_nothing frames v)
counts_leaves false false v = ap (λ (k : Frames). k.counts) (keeps_nothing frames v)
counts_leaves true true v = seen v
counts_leaves true false v =
    ap (λ (k : Frames). k.counts) (fields_if frames _ _ _ v)
    ∙ pick_map (λ (k : Frames). k.counts) v.state.port.was_running _ _
    ∙ pick_eq v.state.port.was_running (counts_departs v) (ap (λ (k : Frames). k.counts) (keeps_nothing frames v))

counts_phase : (rs : Bool) (w : World) → counts_of (phase_by rs w) ≡ reset_counts rs false false w
unfolding phase_by to_phase reset_counts left_by back_by
counts_phase rs w =
    ap (λ (k : Frames). k.counts) (fields_then frames _ _ w ∙ fields_then frames _ _ _)
    ∙ counts_leaves w.settings.device_stack rs _
    ∙ ap (λ (k : Frames). pick (not rs && (w.settings.device_stack && k.was_running)) (zeroed k.counts) k.counts) (silent_keeps frames (suspends false) (silent_suspends frames_reading false) _ ∙ frames_opens w.settings false w)

-- ---- the stream's counts, from those before it

heard_from : World → Counts → Counts
heard_from u m = pick (within_budget u.state.audio.budget u && input_ready (paced u)) (earned (blocks_read u) m) m

sent_from : World → Counts → Counts
sent_from u m = pick (output_ready (left stream_in u) && leb BLOCK_FRAMES (heard_from u m).credit) (sent_one (heard_from u m)) (heard_from u m)

counts_hears : (u : World) → counts_of (left stream_in u) ≡ heard_from u (counts_of u)
unfolding heard_from
counts_hears u =
    ap (λ (k : Frames). k.counts) (frames_hears u)
    ∙ pick_map (λ (k : Frames). k.counts) (within_budget u.state.audio.budget u && input_ready (paced u)) (earns (blocks_read u) (frames_of u)) (frames_of u)

counts_streams : (u : World) → counts_of (left streams u) ≡ sent_from u (counts_of u)
unfolding sent_from streams
counts_streams u =
    ap (λ (k : Frames). k.counts) (fields_then frames stream_in stream_out u ∙ frames_outputs (left stream_in u))
    ∙ pick_map (λ (k : Frames). k.counts) (output_ready (left stream_in u) && leb BLOCK_FRAMES (left stream_in u).state.audio.credit) (sends (frames_of (left stream_in u))) (frames_of (left stream_in u))
    ∙ ap (λ (m : Counts). pick (output_ready (left stream_in u) && leb BLOCK_FRAMES m.credit) (sent_one m) m) (counts_hears u)

-- from the choice by phase on
counts_by : (c : Settings) (t : ℕ) (rs : Bool) (v : World) → counts_of (left (by_phase c t rs) v) ≡ pick (gets_to c rs v) (sent_from (left (enumerates c) v) (counts_of v)) (counts_of v)
counts_by c t rs v =
    let u = left (enumerates c) v in
    let same : frames_of u ≡ frames_of v = silent_keeps frames (enumerates c) (silent_enumerates frames_reading (fields_alone frames frames_leaves) (λ p k. refl) c) v in
    ap (λ (k : Frames). k.counts)
    (fields_replay frames (by_phase c t rs v) v
    ∙ through_phase frames_reading (fields_alone frames frames_leaves) (λ p k. refl) c t rs v (frames_of v)
    ∙ pick_eq (gets_to c rs v) (ap (through frames_reading streams u) (sym same) ∙ sym (fields_replay frames (streams u) u)) refl)
    ∙ pick_map (λ (k : Frames). k.counts) (gets_to c rs v) (frames_of (left streams u)) (frames_of v)
    ∙ pick_eq (gets_to c rs v) (counts_streams u ∙ ap (λ (k : Frames). sent_from u k.counts) same) refl

-- the tests at the stream step are those at entry, where it is reached
merge : (out nh nh' ir : Bool) → (out ≡ true → nh ≡ nh') → (rd : Counts → Bool) (n : ℕ) (m : Counts)
    → pick out (pick (rd (pick (nh && ir) (earned n m) m)) (sent_one (pick (nh && ir) (earned n m) m)) (pick (nh && ir) (earned n m) m)) m
    ≡ pick (out && rd (pick ((out && nh') && ir) (earned n m) m)) (sent_one (pick ((out && nh') && ir) (earned n m) m)) (pick ((out && nh') && ir) (earned n m) m)
merge true nh nh' ir same rd n m =
    ap (λ (b : Bool). pick (rd (pick (b && ir) (earned n m) m)) (sent_one (pick (b && ir) (earned n m) m)) (pick (b && ir) (earned n m) m)) (same refl)
merge false nh nh' ir same rd n m = refl

pub four : (a b c d : Step) (w : World) → left (a then b then c then d) w ≡ left d (left (a then b then c) w)
four a b c d w =
    exec_then apply a (b then c then d) w
    ∙ exec_then apply b (c then d) (left a w)
    ∙ exec_then apply c d (left b (left a w))
    ∙ ap (left d) (sym (exec_then apply a (b then c) w ∙ exec_then apply b c (left a w)))

-- ---- the whole

counts_frame : (t : ℕ) (rs g s : Bool) (w : World) → counts_of (left (frame_of w.settings t rs g s) w) ≡ sent_counts rs g s w
unfolding frame_of sent_counts heard_counts reset_counts output_by input_by left_by back_by phase_by to_phase stream_by sent_from heard_from
counts_frame t rs true s w = ap (λ (k : Frames). k.counts) (fields_then frames _ _ w ∙ silent_keeps frames sleeps (silent_sleeps frames_reading) _ ∙ frames_opens w.settings true w)
counts_frame t rs false true w =
    ap (λ (k : Frames). k.counts) (fields_then frames _ _ w ∙ fields_then frames _ _ _ ∙ silent_keeps frames sleeps (silent_sleeps frames_reading) _ ∙ silent_keeps frames (suspends true) (silent_suspends frames_reading true) _ ∙ frames_opens w.settings false w)
counts_frame t rs false false w =
    let c = w.settings in
    let closed = not w.state.port.gone && (rs && (not w.settings.cdc && streams_in w)) in
    ap counts_of (four (opens c false) (suspends false) (leaves c.device_stack rs) (by_phase c t rs) w)
    ∙ counts_by c t rs (phase_by rs w)
    ∙ ap (λ (b : Bool). pick b (sent_from (stream_by rs w) (counts_of (phase_by rs w))) (counts_of (phase_by rs w))) (gets_closed rs w.state.port.gone w refl)
    ∙ ap (λ (m : Counts). pick closed (sent_from (stream_by rs w) m) m) (counts_phase rs w)
    ∙ merge closed (within_budget (stream_by rs w).state.audio.budget (stream_by rs w)) (within_budget w.state.audio.budget (stream_by rs w)) (input_ready (paced (stream_by rs w)))
    (λ h. ap (λ (n : ℕ). within_budget n (stream_by rs w)) (budget_stream rs false false w h))
    (λ m. output_ready (left stream_in (stream_by rs w)) && leb BLOCK_FRAMES m.credit) (blocks_read (stream_by rs w)) (reset_counts rs false false w)

pub counts_microframe : (t : ℕ) (w : World) → counts_of (left (microframe t) w) ≡ sent_counts (rs_set w) (gone_at t w) (asleep_at t w) w
unfolding microframe here
counts_microframe t w = counts_frame t (rs_set w) (gone_at t w) (asleep_at t w) w
