-- Demand 3 of one microframe, `input_step`: a microframe that reaches the input step, primed, its next descriptor active, retires that descriptor and
-- no other of the endpoint, reads its blocks, and the received ring holds the last 48,000 of its frames and theirs.
use Prim.Native.Nat.{ℕ, zero, suc, ◌+◌, ◌*◌}
use mathlib.Core.Path.{◌≡◌, refl, ap, ap₂, sym, subst, ◌∙◌}
use mathlib.Core.Bool.{Bool, true, false, not, ◌&&◌, ◌||◌}
use mathlib.Core.List.{List, [], ◌∷◌, ◌++◌, map, append_assoc}
use native.Mathlib.Omega.{arith}
use lib.ListN.{take, drop}
use lib.Seq.{drop-drop}
use lib.Dec.{leb}
use Rattle.bits.specs.Pick.{pick, pick_eq, pick_same}
use Rattle.bits.proofs.Tests.{false_true, and_first, and_second}
use Rattle.bus.specs.Steps.{and_then, choose, replay, replay_append}
use Rattle.bus.specs.Stores.{Store, dropped_by, when}
use Rattle.dtd.specs.Dtd.{Run, run_dtds, primed, interrupts, queue_head, data_out, moves, bytes_of}
use Rattle.dtd.proofs.Runs.{IsActive, active_stores, active_moved, active_done, active_retired, active_bytes, idle_run}
use Rattle.record.specs.World.{World, bus_of}
use Rattle.record.specs.Record.{wrapped, in_transfers, in_frames, bad_blocks}
use Rattle.record.specs.Sizes.{FRAMES}
use Rattle.record.specs.Change.{Change, bus, ran, lost, count, credit, frame, apply, left, ◌then◌, nothing, one, runs, ran_stores}
use Rattle.model.specs.Streams.{nonempty, brought}
use Rattle.model.specs.Audio.{audio_in, BLOCK_FRAMES, over_budget, adds_budget, clears_budget, good, words_of, blocks, blocks_of, keeps_frames, keeps_good, keeps_block, keeps_blocks, keeps_run, inputs, stream_in, stream_out, streams}
use Rattle.model.specs.Microframe.{rs_set, gone_at, asleep_at, microframe}
use Rattle.model.specs.Reach.{stream_by, within_budget, input_by, paced, bytes_at, reaches_output, reaches_input, input_ready, output_ready, at_stream, at_input}
use Rattle.model.specs.Earned.{Counts, earned}
use Rattle.model.specs.Marks.{noted, audio_mark, audio_in_retired}
use Rattle.model.specs.Ring.{ring_frames, InOrder, RingInOrder, frames_from, frames_of_blocks, frames_read, last_of, in_pointer, in_token, in_moved, in_bytes, in_stores, block_changes, blocks_changes, one_run}
use Rattle.model.proofs.Fields.{fields_replay, ran_world, fields_ran}
use Rattle.model.proofs.Reading.{Reading, AudioAlone, fields_alone, Lasting, through, Silent, through_if, through_runs, after_silent, before_silent, silent_keeps, silent_adds, silent_clears, silent_nothing, silent_stores, silent_kept}
use Rattle.model.proofs.Frames.{Frames, frames_of, frames}
use Rattle.model.proofs.Marks.{noted_sum, retired_reading, retired_lasting, retired_unheard, retired_alone}
use Rattle.model.proofs.Received.{Kept, kept_of, kept_on, kept, kept_leaves, kept_reading, kept_lasting}
use Rattle.model.proofs.Ring.{Adds, held, adds_none, adds_blocks}
use Rattle.model.proofs.Placed.{Placed, placed_self, placed_first, placed_second, placed_false, placed_here}
use Rattle.model.proofs.OneBlock.{through_microframe, through_outputs, block_read, kept_stream, placed_frame, budget_stream}
use Rattle.model.proofs.History.{over_within, keeps_frames_lem, frames_block}

-- ---- the input step stands in the microframe's list where the closed form says so

-- at the step the budget is not exceeded
met : (t : ℕ) (w : World) → reaches_input t w ≡ true → over_budget (left adds_budget (at_stream w)) ≡ false
unfolding input_by
met t w e =
    let u = at_stream w in
    over_within u
    ∙ ap (λ (n : ℕ). not (within_budget n u)) (budget_stream (rs_set w) (gone_at t w) (asleep_at t w) w (and_first _ _ e))
    ∙ ap not (and_second (reaches_output t w) _ e)

pub placed_input : (t : ℕ) (w : World) → reaches_input t w ≡ true → Placed (microframe t) w inputs (at_input w)
unfolding microframe streams stream_in input_by paced
placed_input t w e =
    let u = stream_by (rs_set w) w in
    placed_here _ inputs w _
    (placed_frame t (rs_set w) (gone_at t w) (asleep_at t w) inputs w _ (and_first _ _ e)
    (placed_first stream_in stream_out inputs u _
    (placed_second adds_budget _ inputs u _
    (placed_false over_budget nothing _ inputs (left adds_budget u) _ (met t w e)
    (placed_second clears_budget inputs inputs (left adds_budget u) _ (placed_self inputs _))))))

-- ---- what becomes of a run's blocks, one by one

frames_list : (n i : ℕ) (b : List ℕ) (w : World) → keeps_frames n (drop (32 + 48 * i) b) w ≡ map frame (frames_from n i b)
unfolding keeps_frames frames_from nothing one and_then
frames_list zero i b w = refl
frames_list (suc n) i b w =
    let f = words_of (take 48 (drop (32 + 48 * i) b)) in
    let e : 32 + 48 * i + 48 ≡ 32 + 48 * suc i = omega arith in
    ap (λ (cs : List Change). frame f ∷ cs)
    (ap (λ (l : List ℕ). keeps_frames n l (apply (frame f) w)) (drop-drop 48 (32 + 48 * i) b ∙ ap (λ (j : ℕ). drop j b) e)
    ∙ frames_list n (suc i) b (apply (frame f) w))

good_list : (b : List ℕ) (w : World) → keeps_good b w ≡ map frame (frames_from BLOCK_FRAMES 0 b) ++ (count in_frames BLOCK_FRAMES ∷ credit (wrapped (w.state.audio.credit + BLOCK_FRAMES)) ∷ [])
unfolding keeps_good one and_then apply
good_list b w =
    ap₂ (λ (cs : List Change) (n : ℕ). cs ++ (count in_frames BLOCK_FRAMES ∷ credit (wrapped (n + BLOCK_FRAMES)) ∷ []))
    (frames_list BLOCK_FRAMES 0 b w)
    (ap (λ (k : Frames). k.counts.credit) (keeps_frames_lem BLOCK_FRAMES (drop 32 b) w))

block_list : (b : List ℕ) (w : World) → keeps_block b w ≡ block_changes w.state.audio.credit b
unfolding keeps_block block_changes one
block_list b w = by (good b)
  where
    by : (t : Bool) → pick t (keeps_good b) (one (λ v. count bad_blocks 1)) w ≡ pick t (map frame (frames_from BLOCK_FRAMES 0 b) ++ (count in_frames BLOCK_FRAMES ∷ credit (wrapped (w.state.audio.credit + BLOCK_FRAMES)) ∷ [])) (count bad_blocks 1 ∷ [])
    by true = good_list b w
    by false = refl

-- the credit behind a block
credit_earned : (t : Bool) (m : Counts) → (earned (pick t 1 0) m).credit ≡ pick t (wrapped (m.credit + BLOCK_FRAMES)) m.credit
unfolding earned
credit_earned true m = refl
credit_earned false m = refl

credit_block : (b : List ℕ) (w : World) → (left (keeps_block b) w).state.audio.credit ≡ pick (good b) (wrapped (w.state.audio.credit + BLOCK_FRAMES)) w.state.audio.credit
credit_block b w =
    ap (λ (k : Frames). k.counts.credit) (frames_block b w) ∙ credit_earned (good b) (frames_of w).counts

blocks_list : (bs : List (List ℕ)) (w : World) → keeps_blocks bs w ≡ blocks_changes w.state.audio.credit bs
unfolding keeps_blocks blocks_changes nothing and_then
blocks_list [] w = refl
blocks_list (b ∷ bs) w =
    ap₂ ◌++◌ (block_list b w)
    (blocks_list bs (left (keeps_block b) w) ∙ ap (λ (n : ℕ). blocks_changes n bs) (credit_block b w))

-- a run that brought something
run_list : (r : Run) (w : World) → keeps_run r w ≡ pick (brought r) (count in_transfers 1 ∷ blocks_changes w.state.audio.credit (blocks_of r.bytes)) []
unfolding keeps_run choose one and_then nothing apply
run_list r w =
    ap (λ (cs : List Change). pick (brought r) (count in_transfers 1 ∷ cs) []) (blocks_list (blocks_of r.bytes) (apply (count in_transfers 1) w))

-- ---- the descriptor that is retired

in_active : (x : World) → input_ready x ≡ true → IsActive audio_in x.lent.memory (queue_head audio_in x.lent.memory.page) (in_pointer x) (in_token x)
unfolding input_ready
in_active x e =
    record { prime = and_first _ _ e; active = and_second (primed audio_in x.lent.memory.page) _ e; head = refl; next = refl; token = refl }

in_stores_lem : (x : World) → input_ready x ≡ true → (run_dtds audio_in [] (bus_of x)).stores ≡ in_stores x
unfolding data_out when moves and_then
in_stores_lem x e = active_stores audio_in [] (bus_of x) refl _ _ _ (in_active x e)

in_moved_lem : (x : World) → input_ready x ≡ true → (run_dtds audio_in [] (bus_of x)).moved ≡ in_moved x
unfolding moves
in_moved_lem x e = active_moved audio_in [] (bus_of x) refl _ _ _ (in_active x e)

in_retired : (x : World) → input_ready x ≡ true → (run_dtds audio_in [] (bus_of x)).retired ≡ 1
in_retired x e = active_retired audio_in [] (bus_of x) refl _ _ _ (in_active x e)

in_bytes_lem : (x : World) → input_ready x ≡ true → bytes_at x ≡ in_bytes x
unfolding bytes_at bytes_of
in_bytes_lem x e = active_bytes audio_in [] (bus_of x) refl _ _ _ (in_active x e)

in_done : (x : World) → input_ready x ≡ true → (run_dtds audio_in [] (bus_of x)).done ≡ interrupts (in_token x)
in_done x e = active_done audio_in [] (bus_of x) refl _ _ _ (in_active x e)

-- what follows a run; d: whether it flagged a completion, bs: its bytes, c: the credit
abbrev behind : Bool → List ℕ → ℕ → List Change
behind d bs c = pick (d || nonempty bs) (count in_transfers 1 ∷ blocks_changes c (blocks_of bs)) []

-- the step's changes with its run as it is: stores, mark, bytes lost, and what follows
abbrev in_list : World → List Store → ℕ → ℕ → List Change
in_list x ss k n =
    map bus ss
    ++ (ran audio_in k n
    ∷ lost (dropped_by ss)
    ∷ behind (run_dtds audio_in [] (bus_of x)).done (run_dtds audio_in [] (bus_of x)).bytes (ran_world kept audio_in [] x).state.audio.credit)

inputs_list : (x : World) → inputs x ≡ in_list x (run_dtds audio_in [] (bus_of x)).stores (run_dtds audio_in [] (bus_of x)).retired (run_dtds audio_in [] (bus_of x)).moved
unfolding inputs runs and_then ran_stores
inputs_list x =
    let r = run_dtds audio_in [] (bus_of x) in
    append_assoc (map bus r.stores) _ _
    ∙ ap (λ (cs : List Change). map bus r.stores ++ (ran audio_in r.retired r.moved ∷ lost (dropped_by r.stores) ∷ cs)) (run_list r (ran_world kept audio_in [] x))

pub inputs_changes : (x : World) → input_ready x ≡ true → inputs x ≡ one_run x
unfolding bytes_at
inputs_changes x e =
    let r = run_dtds audio_in [] (bus_of x) in
    let rest : List Change → List Change = λ cs. map bus (in_stores x) ++ (ran audio_in 1 (in_moved x) ∷ lost (dropped_by (in_stores x)) ∷ cs) in
    inputs_list x
    ∙ ap (λ (ss : List Store). in_list x ss r.retired r.moved) (in_stores_lem x e)
    ∙ ap₂ (λ (k n : ℕ). in_list x (in_stores x) k n) (in_retired x e) (in_moved_lem x e)
    ∙ ap (λ (c : ℕ). rest (behind r.done r.bytes c)) (ap (λ (k : Frames). k.counts.credit) (fields_ran frames audio_in [] x))
    ∙ ap₂ (λ (d : Bool) (bs : List ℕ). rest (behind d bs x.state.audio.credit)) (in_done x e) (in_bytes_lem x e)

-- ---- the whole microframe, by a reading of the input step alone

module _ {K : Type 0} (R : Reading K) (A : AudioAlone R) (L : Lasting R) (O : Silent R stream_out) where
  turned : (b : Bool) (x y : K) → pick (not b) x y ≡ pick b y x
  turned true x y = refl
  turned false x y = refl

  through_hears : (u : World) (k : K) → through R stream_in u k ≡ pick (within_budget u.state.audio.budget u) (through R inputs (paced u) k) k
  unfolding stream_in paced
  through_hears u k =
      let v = left adds_budget u in
      after_silent R _ _ u k (silent_adds R L.budgets)
      ∙ through_if R over_budget nothing (clears_budget then inputs) v k
      ∙ ap (λ (b : Bool). pick b (through R nothing v k) (through R (clears_budget then inputs) v k)) (over_within u)
      ∙ turned (within_budget u.state.audio.budget u) (through R nothing v k) (through R (clears_budget then inputs) v k)
      ∙ pick_eq (within_budget u.state.audio.budget u) (after_silent R clears_budget inputs v k (silent_clears R L.budgets)) (silent_nothing R v k)

  -- the tests at the stream step are those at entry, where it is reached
  at_entry : (out nh nh' : Bool) → (out ≡ true → nh ≡ nh') → (x y : K) → pick out (pick nh x y) y ≡ pick (out && nh') x y
  at_entry true nh nh' same x y = ap (λ (b : Bool). pick b x y) (same refl)
  at_entry false nh nh' same x y = refl

  through_input : (t : ℕ) (w : World) (k : K) → through R (microframe t) w k ≡ pick (reaches_input t w) (through R inputs (at_input w) k) k
  unfolding streams input_by
  through_input t w k =
      let u = stream_by (rs_set w) w in
      through_microframe R A L t w k
      ∙ pick_eq (reaches_output t w) (before_silent R stream_in stream_out u k O ∙ through_hears u k) refl
      ∙ at_entry (reaches_output t w) (within_budget u.state.audio.budget u) (within_budget w.state.audio.budget u)
      (λ h. ap (λ (n : ℕ). within_budget n u) (budget_stream (rs_set w) (gone_at t w) (asleep_at t w) w h)) (through R inputs (at_input w) k) k

-- the output step leaves the ring and the input endpoint's descriptors alone
kept_outputs : Silent kept_reading stream_out
kept_outputs x k = through_outputs kept_reading (fields_alone kept kept_leaves) x k ∙ pick_same (output_ready x && leb BLOCK_FRAMES x.state.audio.credit) k

block_other : (x : World) (n : ℕ) → block_read (retired_reading true) x n ≡ n
unfolding noted
block_other x n = omega arith

retired_outputs : Silent (retired_reading true) stream_out
retired_outputs x n =
    let test = output_ready x && leb BLOCK_FRAMES x.state.audio.credit in
    through_outputs (retired_reading true) (retired_alone true) x n ∙ pick_eq test (block_other x n) refl ∙ pick_same test n

-- ---- the ring

-- a run that brought nothing has no frame
adds_behind : (d : Bool) (bs : List ℕ) (c : ℕ) (k : Kept) → InOrder k.ring k.place → Adds (frames_read bs) k (replay kept_on (behind d bs c) k)
unfolding blocks frames_of_blocks
adds_behind true bs c k o = adds_blocks c (blocks_of bs) k o
adds_behind false [] c k o = adds_none k o
adds_behind false (b ∷ bs) c k o = adds_blocks c (blocks_of (b ∷ bs)) k o

-- the run's own stores leave it, and its bytes bring their frames
adds_inputs : (x : World) → RingInOrder x → Adds (frames_read (bytes_at x)) (kept_of x) (kept_of (left inputs x))
unfolding bytes_at
adds_inputs x o =
    let r = run_dtds audio_in [] (bus_of x) in
    let c = (ran_world kept audio_in [] x).state.audio.credit in
    subst (Adds (frames_read r.bytes) (kept_of x))
    (sym
    (fields_replay kept (inputs x) x
    ∙ ap (λ (cs : List Change). replay kept_on cs (kept_of x)) (inputs_list x)
    ∙ replay_append kept_on (map bus r.stores) _ (kept_of x)
    ∙ ap (replay kept_on (behind r.done r.bytes c)) (silent_stores kept_reading r.stores (kept_of x))))
    (adds_behind r.done r.bytes c (kept_of x) o)

kept_input : (w : World) → kept_of (at_input w) ≡ kept_of w
unfolding paced
kept_input w =
    let u = stream_by (rs_set w) w in
    silent_keeps kept clears_budget (silent_clears kept_reading (λ n k. refl)) (left adds_budget u)
    ∙ silent_keeps kept adds_budget (silent_adds kept_reading (λ n k. refl)) u
    ∙ kept_stream kept kept_leaves kept_lasting (rs_set w) w

-- only the input step changes it
pub kept_microframe : (t : ℕ) (w : World) → kept_of (left (microframe t) w) ≡ pick (reaches_input t w) (kept_of (left inputs (at_input w))) (kept_of w)
kept_microframe t w =
    let x = at_input w in
    fields_replay kept (microframe t w) w
    ∙ through_input kept_reading (fields_alone kept kept_leaves) kept_lasting kept_outputs t w (kept_of w)
    ∙ pick_eq (reaches_input t w) (ap (through kept_reading inputs x) (sym (kept_input w)) ∙ sym (fields_replay kept (inputs x) x)) refl

-- ---- the descriptors of the input endpoint that a microframe retires

from_zero : (n : ℕ) → 0 + n ≡ n
from_zero n = omega arith

inputs_retired : (x : World) → through (retired_reading true) inputs x 0 ≡ (run_dtds audio_in [] (bus_of x)).retired
unfolding inputs noted
inputs_retired x =
    through_runs (retired_reading true) (retired_alone true) audio_in [] keeps_run x 0 (silent_kept (retired_reading true) (retired_lasting true) (retired_unheard true))
    ∙ from_zero _

in_microframe : (t : ℕ) (w : World) → audio_in_retired (microframe t w) ≡ pick (reaches_input t w) (run_dtds audio_in [] (bus_of (at_input w))).retired 0
in_microframe t w =
    sym (noted_sum (audio_mark true) (λ n. 0) (microframe t w))
    ∙ through_input (retired_reading true) (retired_alone true) (retired_lasting true) retired_outputs t w 0
    ∙ pick_eq (reaches_input t w) (inputs_retired (at_input w)) refl

-- ---- the claims

-- the input step is reached, primed, its next descriptor active: its changes stand in the microframe's list, whole: they retire that descriptor
-- and no other of the endpoint is retired in the microframe; they make no other store, and the ring holds the last 48,000 of its frames at entry
-- and those of the descriptor's good blocks, at the step and at the end
pub record InputStep (t : ℕ) (w : World) : Type 0 where
  pub placed : Placed (microframe t) w inputs (at_input w)
  pub changes : inputs (at_input w) ≡ one_run (at_input w)
  pub stores : (run_dtds audio_in [] (bus_of (at_input w))).stores ≡ in_stores (at_input w)
  pub retired : audio_in_retired (microframe t w) ≡ 1
  pub bytes : bytes_at (at_input w) ≡ in_bytes (at_input w)
  pub before : ring_frames (at_input w) ≡ ring_frames w
  pub frames : ring_frames (left inputs (at_input w)) ≡ last_of FRAMES (ring_frames (at_input w) ++ frames_read (in_bytes (at_input w)))
  pub after : ring_frames (left (microframe t) w) ≡ last_of FRAMES (ring_frames w ++ frames_read (in_bytes (at_input w)))
  pub order : RingInOrder (left (microframe t) w)

order_input : (w : World) → RingInOrder w → RingInOrder (at_input w)
order_input w o = subst (λ (k : Kept). InOrder k.ring k.place) (sym (kept_input w)) o

-- the ring after the input step, from the ring at entry
adds_input : (w : World) → RingInOrder w → Adds (frames_read (bytes_at (at_input w))) (kept_of w) (kept_of (left inputs (at_input w)))
adds_input w o =
    subst (λ (k : Kept). Adds (frames_read (bytes_at (at_input w))) k (kept_of (left inputs (at_input w)))) (kept_input w)
    (adds_inputs (at_input w) (order_input w o))

pub input_step : (t : ℕ) (w : World) → RingInOrder w → reaches_input t w ≡ true → input_ready (at_input w) ≡ true → InputStep t w
input_step t w o e r =
    let x = at_input w in
    let whole : Adds (frames_read (in_bytes x)) (kept_of w) (kept_of (left (microframe t) w)) =
    subst (λ (k : Kept). Adds (frames_read (in_bytes x)) (kept_of w) k)
    (sym (kept_microframe t w ∙ ap (λ (b : Bool). pick b (kept_of (left inputs x)) (kept_of w)) e))
    (subst (λ (bs : List ℕ). Adds (frames_read bs) (kept_of w) (kept_of (left inputs x))) (in_bytes_lem x r) (adds_input w o)) in
    record {
      placed = placed_input t w e;
      changes = inputs_changes x r;
      stores = in_stores_lem x r;
      retired = in_microframe t w ∙ ap (λ (b : Bool). pick b (run_dtds audio_in [] (bus_of x)).retired 0) e ∙ in_retired x r;
      bytes = in_bytes_lem x r;
      before = ap held (kept_input w);
      frames = (adds_inputs x (order_input w o)).frames ∙ ap (λ (bs : List ℕ). last_of FRAMES (ring_frames x ++ frames_read bs)) (in_bytes_lem x r);
      after = whole.frames;
      order = whole.order;
    }

-- an endpoint that is not ready gives no frame
idle_frames : (x : World) → input_ready x ≡ false → frames_read (bytes_at x) ≡ []
unfolding input_ready bytes_at blocks frames_of_blocks
idle_frames x e = ap frames_read (idle_run audio_in [] (bus_of x) refl e).bytes

-- where the step is not reached, or its endpoint is not ready, the ring is as it was and no descriptor of the endpoint is retired
pub record NoInput (t : ℕ) (w : World) : Type 0 where
  pub frames : ring_frames (left (microframe t) w) ≡ ring_frames w
  pub retired : audio_in_retired (microframe t w) ≡ 0

idle_retired : (x : World) → input_ready x ≡ false → (run_dtds audio_in [] (bus_of x)).retired ≡ 0
unfolding input_ready
idle_retired x e = (idle_run audio_in [] (bus_of x) refl e).retired

no_frames : (t : ℕ) (w : World) → RingInOrder w → (reaches_input t w && input_ready (at_input w)) ≡ false → ring_frames (left (microframe t) w) ≡ ring_frames w
no_frames t w o e = ap held (kept_microframe t w) ∙ by_tests (reaches_input t w) (input_ready (at_input w)) e refl
  where
    same : input_ready (at_input w) ≡ false → held (kept_of (left inputs (at_input w))) ≡ ring_frames w
    same h =
        (adds_input w o).frames
        ∙ ap (λ (fs : List (List ℕ)). last_of FRAMES (ring_frames w ++ fs)) (idle_frames (at_input w) h)
        ∙ sym (adds_none (kept_of w) o).frames

    by_tests : (a b : Bool) → (a && b) ≡ false → input_ready (at_input w) ≡ b → held (pick a (kept_of (left inputs (at_input w))) (kept_of w)) ≡ ring_frames w
    by_tests true true h q = absurd (false_true (sym h))
    by_tests true false h q = same q
    by_tests false b h q = refl

pub no_input : (t : ℕ) (w : World) → RingInOrder w → (reaches_input t w && input_ready (at_input w)) ≡ false → NoInput t w
no_input t w o e =
    record { frames = no_frames t w o e; retired = in_microframe t w ∙ by_tests (reaches_input t w) (input_ready (at_input w)) e refl }
  where
    by_tests : (a b : Bool) → (a && b) ≡ false → input_ready (at_input w) ≡ b → pick a (run_dtds audio_in [] (bus_of (at_input w))).retired 0 ≡ 0
    by_tests true true h q = absurd (false_true (sym h))
    by_tests true false h q = idle_retired (at_input w) q
    by_tests false b h q = refl
