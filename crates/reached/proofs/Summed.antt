-- The tests that the sums of one microframe make: before the stream none passes; in the stream they go by the memory at its start of frame.
use Prim.Native.Nat.{ℕ, zero, suc, ◌+◌, ◌*◌, ◌≤◌}
use mathlib.Core.Path.{◌≡◌, refl, ap, ap₂, ◌∙◌}
use mathlib.Core.Bool.{Bool, true, false, not, ◌&&◌}
use mathlib.Core.List.{List, [], ◌∷◌, map}
use native.Mathlib.Omega.{arith}
use lib.Dec.{eqb, ltb}
use lib.ListN.{drop}
use borrow.Author.Tests.{le-ltb}
use Rattle.bits.specs.Pick.{pick}
use Rattle.bus.specs.Memory.{Memory}
use Rattle.bus.specs.Steps.{replay_append, and_then, exec_then}
use Rattle.bus.specs.Stores.{bus, stored}
use Rattle.usbdev.specs.Transfer.{total_of}
use Rattle.transfer.specs.Transfer.{pointers, bytes_in}
use Rattle.dtd.specs.Dtd.{Run, primed, queue_head, next_active, next_dtd, terminates, token_of, descriptor, bytes_of, run_dtds}
use Rattle.dtd.proofs.Runs.{IsActive, active_bytes, run_unprimed}
use Rattle.record.specs.declared.Phase.TheVariants.{Stream}
use Rattle.record.specs.Record.{wrapped, enumerations, in_transfers, bad_blocks}
use Rattle.record.specs.World.{World, bus_of}
use Rattle.record.specs.Change.{apply, left, ◌then◌, nothing, one, ran_stores}
use Rattle.record.specs.Change as Ch
use Rattle.record.proofs.Laws.{replay_bus}
use Rattle.model.specs.Phases.{starts_frame}
use Rattle.model.specs.Control.{enumerating, configured, posts, controls}
use Rattle.model.specs.Streams.{next_total, brought}
use Rattle.model.specs.Audio.{audio_in, audio_out, named, adds_budget, over_budget, clears_budget, blocks_of, good, keeps_frames, keeps_good, keeps_block, keeps_blocks, keeps_run, inputs, stream_in}
use Rattle.model.specs.Microframe.{rs_set, gone_at, asleep_at, enumerates}
use Rattle.model.specs.Reach.{streams_in, output_by, within_budget, input_by, back_by, left_by, phase_by, stream_by, paced, reaches_output, comes_back, device_left, at_input, at_output, input_ready, output_ready, bytes_at}
use Rattle.model.specs.Earned.{good_blocks}
use Rattle.model.proofs.Fields.{left_runs, ran_world}
use Rattle.model.proofs.History.{over_within}
use Rattle.model.proofs.Progress.{if_true, if_false, when_true, when_false}
use Rattle.bits.proofs.Tests.{and_first, and_second, and_false}
use Rattle.model.proofs.Holding.{Holds, holds_then, holds_nothing, holds_one, holds_pick}
use Rattle.model.proofs.Walk.{on_if}
use Rattle.history.specs.Sums as S
use Rattle.history.specs.Sums.{Sums, Tally, none, receive, send, read_at, reset, heard, answered, answered_ever}
use Rattle.reached.proofs.Standing.{held}
use Rattle.reached.proofs.Opening.{Plain, opened_memory, opened_memory_lem, opened_budget}
use Rattle.reached.proofs.Page.{framed_memory, framed_memory_lem, framed_budget}
use Rattle.reached.proofs.Early.{asked, asked_on_lem, asked_waiting}

-- ---- the tests of the sums

-- r: a reset; h: the input step is reached and ready, and reads n good blocks; o: the output step is reached and ready
pub record Tested (t : ℕ) (w : World) (r h : Bool) (n : ℕ) (o : Bool) : Type 0 where
  pub fresh : (g : Sums) → reset t w g ≡ pick r none g
  pub heard : S.input_reached t w ≡ h
  pub read : (g : Sums) → pick h (receive (read_at w) g) g ≡ pick h (receive (7 * n) g) g
  pub answers : S.output_reached t w ≡ o

-- what they make of the sums
abbrev heard_sums : Bool → Bool → ℕ → Sums → Sums
heard_sums r h n g = pick h (receive (7 * n) (pick r none g)) (pick r none g)

abbrev answer : Bool → Sums → Sums
answer o g = pick o (pick (S.earned g) (send g) g) g

abbrev pub played : Bool → Bool → ℕ → Bool → Tally → Tally
played r h n o y =
    record {
      since = answer o (heard_sums r h n y.since);
      ever = pick (o && S.earned (heard_sums r h n y.since)) (send (heard_sums false h n y.ever)) (heard_sums false h n y.ever);
    }

-- the two sums of an accepted microframe
abbrev pub tally_of : ℕ → World → Tally → Tally
tally_of t w y =
    record {
      since = answered t w (heard t w (reset t w y.since));
      ever = answered_ever t w (heard t w (reset t w y.since)) (heard t w y.ever);
    }

pub tested_tally : (t : ℕ) (w : World) (r h : Bool) (n : ℕ) (o : Bool) → Tested t w r h n o → (y : Tally) → tally_of t w y ≡ played r h n o y
tested_tally t w r h n o p y =
    let g = y.since in
    let e = y.ever in
    let since : heard t w (reset t w g) ≡ heard_sums r h n g =
    ap (heard t w) (p.fresh g) ∙ ap (λ (b : Bool). pick b (receive (read_at w) (pick r none g)) (pick r none g)) p.heard ∙ p.read (pick r none g) in
    let ever : heard t w e ≡ heard_sums false h n e = ap (λ (b : Bool). pick b (receive (read_at w) e) e) p.heard ∙ p.read e in
    ap₂ (λ (x z : Sums). record { since = answered t w x; ever = answered_ever t w x z }) since ever
    ∙ ap (λ (b : Bool). record { since = answer b (heard_sums r h n g); ever = pick (b && S.earned (heard_sums r h n g)) (send (heard_sums false h n e)) (heard_sums false h n e) }) p.answers

-- ---- no reset

module _ (t : ℕ) (w : World) (p : Plain t w) where
  left_not : device_left t w ≡ false
  unfolding left_by
  left_not =
      ap (λ (b : Bool). left_by b (gone_at t w) (asleep_at t w) w) p.rs
      ∙ ap (λ (b : Bool). not (gone_at t w) && b) (and_false (not (asleep_at t w)))
      ∙ and_false (not (gone_at t w))

  back_not : comes_back t w ≡ false
  unfolding back_by
  back_not = ap (λ (b : Bool). not (gone_at t w) && b) p.still ∙ and_false (not (gone_at t w))

  reset_not : (g : Sums) → reset t w g ≡ g
  reset_not g = ap₂ (λ (a b : Bool). pick a none (pick b none g)) left_not back_not

  -- ---- reaching

  reach_is : reaches_output t w ≡ streams_in w
  unfolding output_by
  reach_is =
      ap (λ (b : Bool). output_by b (gone_at t w) (asleep_at t w) w) p.rs
      ∙ ap₂ (λ (g s : Bool). output_by true g s w) p.there p.awake
      ∙ ap₂ (λ (a b : Bool). not a && (true && (not b && streams_in w))) p.still p.audio

  -- before the stream nothing is heard and nothing answered
  pub tested_early : streams_in w ≡ false → Tested t w false false 0 false
  unfolding input_by
  tested_early e =
      let out : reaches_output t w ≡ false = reach_is ∙ e in
      record {
        fresh = reset_not;
        heard = ap (λ (b : Bool). (b && within_budget w.state.audio.budget (stream_by (rs_set w) w)) && input_ready (at_input w)) out;
        read = λ g. refl;
        answers = ap (λ (b : Bool). b && output_ready (at_output w)) out;
      }

-- ---- memory and budget at the stream step

-- a step that changes neither memory nor, of the record, the audio's budget
pub record Same (w v : World) : Type 0 where
  pub memory : v.lent.memory ≡ w.lent.memory
  pub budget : v.state.audio.budget ≡ w.state.audio.budget

same_refl : {w v : World} → v ≡ w → Same w v
same_refl e = record { memory = ap (λ (x : World). x.lent.memory) e; budget = ap (λ (x : World). x.state.audio.budget) e }

same_trans : {u v w : World} → Same u v → Same v w → Same u w
same_trans p q = record { memory = q.memory ∙ p.memory; budget = q.budget ∙ p.budget }

ended_same : (v : World) → Same v (left (one (λ x. Ch.phase Stream) then one (λ x. Ch.count enumerations 1)) v)
unfolding and_then one apply
ended_same v = record { memory = refl; budget = refl }

configured_same : (v : World) → Same v (left configured v)
unfolding configured
configured_same v = by_phase_lem (enumerating v.state.phase) refl
  where
    by_phase_lem : (b : Bool) → enumerating v.state.phase ≡ b → Same v (left configured v)
    by_phase_lem true e = same_trans (ended_same v) (same_refl (when_true (λ x. enumerating x.state.phase) _ v e))
    by_phase_lem false e = same_refl (when_false (λ x. enumerating x.state.phase) _ v e)

-- a microframe that streams: in Stream, or where no request runs and no setup waits
pub record Streams (t : ℕ) (w : World) : Type 0 where
  pub plain : Plain t w
  pub streams : streams_in w ≡ true
  pub free : w.state.control.on ≡ false
  pub nothing_waits : w.state.lengths.setups ≡ 0

module _ (t : ℕ) (w : World) (s : Streams t w) where
  abbrev p : Plain t w
  p = s.plain

  abbrev at_control_lem : World
  at_control_lem = asked t w p

  stream_is : stream_by true w ≡ left configured at_control_lem
  unfolding stream_by enumerates controls
  stream_is =
      exec_then apply starts_frame (controls w.settings.device_stack) (phase_by true w)
      ∙ if_false (λ v. v.state.control.on) _ _ at_control_lem (asked_on_lem t w p false s.free)
      ∙ if_true (λ v. eqb v.state.lengths.setups 0) configured posts at_control_lem (ap (λ (n : ℕ). eqb n 0) (asked_waiting t w p 0 s.nothing_waits))

  stream_memory : (stream_by true w).lent.memory ≡ framed_memory (opened_memory w)
  stream_memory =
      ap (λ (x : World). x.lent.memory) stream_is ∙ (configured_same at_control_lem).memory
      ∙ framed_memory_lem (phase_by true w) ∙ ap framed_memory (opened_memory_lem t w p)

  stream_budget : (stream_by true w).state.audio.budget ≡ w.state.audio.budget
  stream_budget =
      ap (λ (x : World). x.state.audio.budget) stream_is ∙ (configured_same at_control_lem).budget
      ∙ framed_budget (phase_by true w) ∙ opened_budget t w p

-- ---- the budget

one_same : (f : World → ℕ) (v : World) → (left (one (λ x. Ch.budget (f x))) v).lent.memory ≡ v.lent.memory
unfolding one apply
one_same f v = refl

adds_memory : (u : World) → (left adds_budget u).lent.memory ≡ u.lent.memory
unfolding adds_budget
adds_memory u = by_name (named u) refl
  where
    by_name : (b : Bool) → named u ≡ b → (left adds_budget u).lent.memory ≡ u.lent.memory
    by_name true e = ap (λ (x : World). x.lent.memory) (when_true named _ u e) ∙ one_same (λ x. wrapped (x.state.audio.budget + 368)) u
    by_name false e = ap (λ (x : World). x.lent.memory) (when_false named _ u e)

clears_memory : (u : World) → (left clears_budget u).lent.memory ≡ u.lent.memory
unfolding clears_budget
clears_memory u = by_name (named u) refl
  where
    by_name : (b : Bool) → named u ≡ b → (left clears_budget u).lent.memory ≡ u.lent.memory
    by_name true e = ap (λ (x : World). x.lent.memory) (when_true named _ u e) ∙ one_same (λ x. 0) u
    by_name false e = ap (λ (x : World). x.lent.memory) (when_false named _ u e)

pub paced_memory : (u : World) → (paced u).lent.memory ≡ u.lent.memory
unfolding paced
paced_memory u = clears_memory (left adds_budget u) ∙ adds_memory u

-- a total of one packet's bytes is never over
within_small : (n : ℕ) (u : World) → n ≤ 32766 → next_total audio_in u ≤ 368 → within_budget n u ≡ true
unfolding within_budget
within_small n u few small =
    ap (λ (b : Bool). not (named u && b)) (le-ltb (wrapped (n + 368)) (next_total audio_in u) (omega (arith, few, small))) ∙ ap not (and_false (named u))

-- nor is an endpoint that is not primed
within_unprimed : (n : ℕ) (u : World) → primed audio_in u.lent.memory.page ≡ false → within_budget n u ≡ true
unfolding within_budget named
within_unprimed n u e =
    ap (λ (b : Bool). not ((b && not (terminates (next_dtd audio_in u.lent.memory))) && ltb (wrapped (n + 368)) (next_total audio_in u))) e

-- ---- what the memory at the start of frame says

-- the audio endpoints are primed, and their next descriptors active
abbrev pub ready_in : Memory → Bool
ready_in m = primed audio_in m.page && next_active audio_in m

abbrev pub ready_out : Memory → Bool
ready_out m = primed audio_out m.page && next_active audio_out m

-- the bytes that the input's next descriptor has, and how many
abbrev pub bytes_asked : Memory → ℕ
bytes_asked m = total_of (token_of (next_dtd audio_in m) m)

abbrev pub bytes_read : Memory → List ℕ
bytes_read m = bytes_in m (pointers m (descriptor (next_dtd audio_in m))) (bytes_asked m)

-- memory after the input's run
unfoldable pub ran_memory : Memory → Bool → Memory
ran_memory m l = (stored (run_dtds audio_in [] (bus m l)).stores (bus m l)).memory

bytes_is : (x : World) → ready_in x.lent.memory ≡ true → bytes_at x ≡ bytes_read x.lent.memory
unfolding bytes_at bytes_of
bytes_is x e =
    let is : IsActive audio_in x.lent.memory (queue_head audio_in x.lent.memory.page) (next_dtd audio_in x.lent.memory) (token_of (next_dtd audio_in x.lent.memory) x.lent.memory) =
    record { prime = and_first _ _ e; active = and_second (primed audio_in x.lent.memory.page) _ e; head = refl; next = refl; token = refl } in
    active_bytes audio_in [] (bus_of x) refl _ _ _ is

-- ---- the memory that the input leaves to the output

module _ (m : Memory) where
  abbrev MemoryIs : World → Type 0
  MemoryIs w = w.lent.memory ≡ m

  keeps_frames_lem : (n : ℕ) (bs : List ℕ) → Holds MemoryIs (keeps_frames n bs)
  unfolding keeps_frames apply
  keeps_frames_lem zero bs = holds_nothing MemoryIs
  keeps_frames_lem (suc n) bs = holds_then MemoryIs _ _ (holds_one MemoryIs _ (λ w h. h)) (keeps_frames_lem n (drop 48 bs))

  keeps_good_lem : (b : List ℕ) → Holds MemoryIs (keeps_good b)
  unfolding keeps_good apply
  keeps_good_lem b = holds_then MemoryIs _ _ (keeps_frames_lem 7 _) (holds_then MemoryIs _ _ (holds_one MemoryIs _ (λ w h. h)) (holds_one MemoryIs _ (λ w h. h)))

  keeps_block_lem : (b : List ℕ) → Holds MemoryIs (keeps_block b)
  unfolding keeps_block apply
  keeps_block_lem b = holds_pick MemoryIs (good b) (keeps_good b) (one (λ w. Ch.count bad_blocks 1)) (keeps_good_lem b) (holds_one MemoryIs (λ w. Ch.count bad_blocks 1) (λ w h. h))

  keeps_blocks_lem : (bs : List (List ℕ)) → Holds MemoryIs (keeps_blocks bs)
  unfolding keeps_blocks
  keeps_blocks_lem [] = holds_nothing MemoryIs
  keeps_blocks_lem (b ∷ bs) = holds_then MemoryIs _ _ (keeps_block_lem b) (keeps_blocks_lem bs)

  keeps_run_lem : (r : Run) → Holds MemoryIs (keeps_run r)
  unfolding keeps_run apply
  keeps_run_lem r =
      on_if MemoryIs (λ w. brought r) (one (λ w. Ch.count in_transfers 1) then keeps_blocks (blocks_of r.bytes)) nothing
      (holds_then MemoryIs (one (λ w. Ch.count in_transfers 1)) (keeps_blocks (blocks_of r.bytes)) (holds_one MemoryIs (λ w. Ch.count in_transfers 1) (λ w h. h)) (keeps_blocks_lem (blocks_of r.bytes)))
      (holds_nothing MemoryIs)

ran_memory_lem : (x : World) → (ran_world held audio_in [] x).lent.memory ≡ ran_memory x.lent.memory x.state.port.line
unfolding ran_stores ran_memory apply
ran_memory_lem x =
    let ss = (run_dtds audio_in [] (bus_of x)).stores in
    ap (λ (v : World). v.lent.memory) (replay_append apply (map Ch.bus ss) _ x)
    ∙ ap (λ (v : World). v.lent.memory) (replay_bus ss x)

inputs_memory : (x : World) → (left inputs x).lent.memory ≡ ran_memory x.lent.memory x.state.port.line
unfolding inputs
inputs_memory x =
    ap (λ (v : World). v.lent.memory) (left_runs held audio_in [] keeps_run x)
    ∙ keeps_run_lem _ _ (ran_world held audio_in [] x) (ran_memory_lem x)

-- the budget is met
hears_memory : (u : World) → over_budget (left adds_budget u) ≡ false → (left stream_in u).lent.memory ≡ ran_memory u.lent.memory (paced u).state.port.line
unfolding stream_in paced
hears_memory u e =
    ap (λ (v : World). v.lent.memory) (exec_then apply adds_budget _ u ∙ if_false over_budget nothing _ (left adds_budget u) e ∙ exec_then apply clears_budget inputs (left adds_budget u))
    ∙ inputs_memory (paced u)
    ∙ ap (λ (m : Memory). ran_memory m (paced u).state.port.line) (paced_memory u)

-- an endpoint that is not primed leaves all as it was
unprimed_memory : (m : Memory) (l : Bool) → primed audio_in m.page ≡ false → ran_memory m l ≡ m
unfolding ran_memory
unprimed_memory m l e = ap (λ (r : Run). (stored r.stores (bus m l)).memory) (run_unprimed audio_in [] (bus m l) e)

-- ---- the tests of a microframe that streams

module _ (t : ℕ) (w : World) (s : Streams t w) where
  abbrev seen : Memory
  seen = framed_memory (opened_memory w)

  input_memory : (at_input w).lent.memory ≡ seen
  input_memory =
      ap (λ (b : Bool). (paced (stream_by b w)).lent.memory) s.plain.rs ∙ paced_memory (stream_by true w) ∙ stream_memory t w s

  abbrev within : Bool
  within = within_budget w.state.audio.budget (stream_by (rs_set w) w)

  hears_is : S.input_reached t w ≡ (within && input_ready (at_input w))
  unfolding input_by
  hears_is = ap (λ (b : Bool). (b && within) && input_ready (at_input w)) (reach_is t w s.plain ∙ s.streams)

  answers_is : S.output_reached t w ≡ output_ready (at_output w)
  answers_is = ap (λ (b : Bool). b && output_ready (at_output w)) (reach_is t w s.plain ∙ s.streams)

  ready_is : input_ready (at_input w) ≡ ready_in seen
  unfolding input_ready
  ready_is = ap ready_in input_memory

  output_memory : within_budget (stream_by true w).state.audio.budget (stream_by true w) ≡ true → (at_output w).lent.memory ≡ ran_memory seen (paced (stream_by true w)).state.port.line
  output_memory e =
      ap (λ (b : Bool). (left stream_in (stream_by b w)).lent.memory) s.plain.rs
      ∙ hears_memory (stream_by true w) (over_within (stream_by true w) ∙ ap not e)
      ∙ ap (λ (m : Memory). ran_memory m (paced (stream_by true w)).state.port.line) (stream_memory t w s)

  -- the input endpoint is not primed
  pub tested_silent : (o : Bool) → primed audio_in seen.page ≡ false → ready_out seen ≡ o → Tested t w false false 0 o
  unfolding output_ready
  tested_silent o e out =
      let fine = within_unprimed (stream_by true w).state.audio.budget (stream_by true w) (ap (λ (m : Memory). primed audio_in m.page) (stream_memory t w s) ∙ e) in
      let idle : ready_in seen ≡ false = ap (λ (x : Bool). x && next_active audio_in seen) e in
      record {
        fresh = reset_not t w s.plain;
        heard = hears_is ∙ ap (λ (b : Bool). within && b) (ready_is ∙ idle) ∙ and_false within;
        read = λ g. refl;
        answers = answers_is ∙ ap ready_out (output_memory fine ∙ unprimed_memory seen (paced (stream_by true w)).state.port.line e) ∙ out;
      }

  -- its next descriptor is active and asks for no more than a packet's bytes
  module _ (few : w.state.audio.budget ≤ 32766) (e : ready_in seen ≡ true) (small : bytes_asked seen ≤ 368) where
    asks : next_total audio_in (stream_by true w) ≤ 368
    asks = omega (arith, ap bytes_asked (stream_memory t w s), small)

    fine : within_budget (stream_by true w).state.audio.budget (stream_by true w) ≡ true
    fine = within_small _ (stream_by true w) (omega (arith, stream_budget t w s, few)) asks

    at_entry : within ≡ true
    at_entry = ap (λ (b : Bool). within_budget w.state.audio.budget (stream_by b w)) s.plain.rs ∙ within_small _ (stream_by true w) few asks

    pub hears_brings : S.input_reached t w ≡ true
    hears_brings = hears_is ∙ ap₂ ◌&&◌ at_entry (ready_is ∙ e)

    pub reads_brings : bytes_at (at_input w) ≡ bytes_read seen
    reads_brings = bytes_is (at_input w) (ap ready_in input_memory ∙ e) ∙ ap bytes_read input_memory

    -- it has n good blocks
    pub tested_brings : (n : ℕ) (o : Bool) → good_blocks (blocks_of (bytes_read seen)) ≡ n → ((l : Bool) → ready_out (ran_memory seen l) ≡ o) → Tested t w false true n o
    unfolding output_ready
    tested_brings n o blocks out =
        record {
          fresh = reset_not t w s.plain;
          heard = hears_brings;
          read = λ g. ap (λ (k : ℕ). receive k g) (ap (λ (bs : List ℕ). 7 * good_blocks (blocks_of bs)) reads_brings ∙ ap (λ (k : ℕ). 7 * k) blocks);
          answers = answers_is ∙ ap ready_out (output_memory fine) ∙ out (paced (stream_by true w)).state.port.line;
        }
