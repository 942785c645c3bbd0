-- One call, refused or not: what it leaves is the replay of its changes, and what it answers their sums (S-1); demand 3: one block sent, or none; one run read, or none.
use Prim.Native.Nat.{ℕ, ◌+◌, ◌-◌, ◌/◌, ◌%◌, ◌^◌, ◌≤◌, min}
use mathlib.Core.Path.{◌≡◌, refl, ap, sym, subst, ◌∙◌}
use mathlib.Core.Bool.{Bool, true, false, ◌&&◌}
use mathlib.Core.List.{List, [], ◌++◌}
use mathlib.Core.Logic.{◌⊎◌}
use native.Mathlib.Omega.{arith}
use lib.Dec.{eqb, ltb}
use lib.ListN.{length}
use borrow.Author.Tests.{leb-true, ltb-true, eqb-true}
use Rattle.bits.specs.Pick.{pick, pick_map}
use Rattle.bits.proofs.Tests.{and_first, and_second, and_rest, and_false, false_true}
use Rattle.bus.specs.Steps.{replay}
use Rattle.record.specs.Record.{wrapped, counter_of, out_frames}
use Rattle.record.specs.World.{Lent, World}
use Rattle.record.specs.Change.{Change, apply, Step, taken_from}
use Rattle.bounds.specs.Bounds.{ring_ok, areas_ok, received_ok}
use Rattle.model.specs.Audio.{inputs, stream_out}
use Rattle.model.specs.Microframe as M
use Rattle.model.specs.Reach as R
use Rattle.model.specs.Reach.{at_input, at_output}
use Rattle.model.specs.Earned.{Out, out_of, sent_out}
use Rattle.model.specs.Marks.{total, all_retired, all_dropped, audio_in_retired, audio_out_retired}
use Rattle.model.specs.Ring.{ring_frames, RingInOrder, frames_read, last_of, in_bytes}
use Rattle.model.specs.Claims.{sends_at, one_block, unprimed}
use Rattle.model.proofs.Placed.{Placed}
use Rattle.model.proofs.OneBlock as O
use Rattle.model.proofs.OneBlock.{out_microframe, microframe_retired, placed_output, one_block_lem}
use Rattle.model.proofs.InputStep.{InputStep, placed_input, input_step, NoInput, no_input}
use Rattle.usbhost.specs.declared.Host.{Host}
use Rattle.usbhost.specs.Answers.{Framed}
use Rattle.usbhost.specs.Host.{state_of}
use Rattle.usbhost.specs.Calls.{bounded}
use Rattle.usbhost.specs.Frame.{world_of, host_in, bounds_ok, frame_number, framed, frame_answer}
use Rattle.usbhost.proofs.Frame.{accepted_tests, accepted_long, frame_refused}
use Rattle.usbhost.proofs.Descriptors.{frame_retired, frame_few, frame_dropped}
use Rattle.history.specs.Calls.{microframe, step}
use Rattle.history.specs.Rings.{to_take}
use Rattle.history.specs.Reach.{accepted, reaches_input, reaches_output, call_reads, call_sends, changes_of}
use Rattle.history.proofs.Accepted.{accepted_small}
use Rattle.history.proofs.History.{by_test}
use Rattle.history.proofs.Table.{and_assoc}
use Rattle.history.proofs.Rings.{microframe_words}

-- ---- the list is about the call

-- all that a call leaves of record and areas is the replay of its changes
pub call_changes : (t : ℕ) (h : Host) (l : Lent) → framed t h l ≡ replay apply (changes_of t h l) (world_of h l)
unfolding framed
call_changes t h l =
    sym (pick_map (λ (cs : List Change). replay apply cs (world_of h l)) (accepted h l) (M.microframe t (world_of h l)) [])

-- and so is the record that the next call of a list gets
pub step_changes : (t : ℕ) (h : Host) (l : Lent) → step h (microframe t l) ≡ host_in (replay apply (changes_of t h l) (world_of h l))
unfolding step
step_changes t h l = ap host_in (call_changes t h l)

-- ---- an accepted microframe

-- the received ring that it is lent has its length, and the record's place lies in it
pub accepted_ring : (h : Host) (l : Lent) → frame_number h l ≡ 0 → RingInOrder (world_of h l)
unfolding bounds_ok ring_ok
accepted_ring h l e =
    let a = accepted_tests h l e in
    let b₁ = and_second (bounded h) _ a.bounds in
    let b₂ = and_second (areas_ok (state_of h) (length l.reply) (length l.config)) _ b₁ in
    let r = and_first (received_ok (state_of h)) _ b₂ in
    record {
      room = (accepted_long h l e).received_whole;
      starts = ltb-true h.audio.received.start 48000 (and_first (ltb h.audio.received.start 48000) _ r);
      holds = leb-true h.audio.received.len 48000 (and_second (ltb h.audio.received.start 48000) _ r);
    }

-- its list is the microframe's
whole_list : (t : ℕ) (h : Host) (l : Lent) → accepted h l ≡ true → changes_of t h l ≡ M.microframe t (world_of h l)
whole_list t h l e = ap (λ (b : Bool). pick b (M.microframe t (world_of h l)) []) e

placed_call : (t : ℕ) (h : Host) (l : Lent) (g : Step) (x : World) → accepted h l ≡ true → Placed (M.microframe t) (world_of h l) g x → Placed (λ w. changes_of t h l) (world_of h l) g x
placed_call t h l g x e p =
    record { before = p.before; rest = p.rest; whole = whole_list t h l e ∙ p.whole; there = p.there }

-- ---- what it answers (S-1)

-- the descriptors that its changes retire, at most 128, and the bytes that no window took; of a refused call none, as it changes nothing
pub record CallAnswer (t : ℕ) (h : Host) (l : Lent) : Type 0 where
  pub retired : (frame_answer t h l).retired ≡ all_retired (changes_of t h l)
  pub few : (frame_answer t h l).retired ≤ 128
  pub dropped : (frame_answer t h l).dropped ≡ all_dropped (changes_of t h l)

pub call_answer : (t : ℕ) (h : Host) (l : Lent) → CallAnswer t h l
unfolding total
call_answer t h l = by (accepted h l) refl
  where
    by : (b : Bool) → accepted h l ≡ b → CallAnswer t h l
    by true e =
        let z = eqb-true (frame_number h l) 0 e in
        let list = sym (whole_list t h l e) in
        record {
          retired = frame_retired t h l z ∙ ap all_retired list;
          few = frame_few t h l z;
          dropped = frame_dropped t h l z ∙ ap all_dropped list;
        }
    by false e =
        let answer = frame_refused t h l (λ z. false_true (sym e ∙ ap (λ (n : ℕ). eqb n 0) z)) in
        let list : changes_of t h l ≡ [] = ap (λ (b : Bool). pick b (M.microframe t (world_of h l)) []) e in
        record {
          retired = ap (λ (r : Framed). r.retired) answer ∙ sym (ap all_retired list);
          few = omega (arith, ap (λ (r : Framed). r.retired) answer);
          dropped = ap (λ (r : Framed). r.dropped) answer ∙ sym (ap all_dropped list);
        }

-- ---- a block sent, or none

-- one block where the call is accepted, reaches the output step, is primed, active and has credit of seven; of any other call, refused ones too, none:
-- the stream counter (932), the place of the sending ring (934), its words, the frames counted as sent (951), the endpoint's descriptors retired (949)
pub record CallBlock (t : ℕ) (h : Host) (l : Lent) : Type 0 where
  pub counter : (step h (microframe t l)).audio.counter ≡ pick (call_sends t h l) ((h.audio.counter + 7) % 2 ^ 16) h.audio.counter
  pub place :
      (step h (microframe t l)).audio.sending
      ≡ pick (call_sends t h l)
      (record { start = (h.audio.sending.start + min 7 h.audio.sending.len) % (length l.sending / 12); len = h.audio.sending.len - 7 })
      h.audio.sending
  pub words : (framed t h l).lent.sending ≡ l.sending
  pub sent : counter_of out_frames (step h (microframe t l)).stats ≡ counter_of out_frames h.stats + pick (call_sends t h l) 7 0
  pub retired : audio_out_retired (changes_of t h l) ≡ pick (call_sends t h l) 1 0
  -- where the output step is reached its changes stand in the call's list, whole: those of one block, or at most the store that un-primes
  pub placed : reaches_output t h l ≡ true → Placed (λ w. changes_of t h l) (world_of h l) stream_out (at_output (world_of h l))
  pub block : call_sends t h l ≡ true → stream_out (at_output (world_of h l)) ≡ one_block (at_output (world_of h l))
  pub no_block :
      reaches_output t h l ≡ true → call_sends t h l ≡ false
      → (stream_out (at_output (world_of h l)) ≡ []) ⊎ (stream_out (at_output (world_of h l)) ≡ unprimed (at_output (world_of h l)))

module _ (t : ℕ) (h : Host) (l : Lent) where
  abbrev w : World
  w = world_of h l

  -- the World's test, and whether the call is accepted
  same_sends : (accepted h l && sends_at t w) ≡ call_sends t h l
  same_sends = and_assoc (accepted h l) (R.reaches_output t w) _

  sends_at_lem : call_sends t h l ≡ true → sends_at t w ≡ true
  sends_at_lem e = and_second (accepted h l) _ (same_sends ∙ e)

  sends_accepted : call_sends t h l ≡ true → accepted h l ≡ true
  sends_accepted e = and_first _ (sends_at t w) (same_sends ∙ e)

  out_call : out_of (framed t h l) ≡ pick (call_sends t h l) (sent_out (out_of w)) (out_of w)
  out_call = ap out_of (call_changes t h l) ∙ by (accepted h l) ∙ ap (λ (b : Bool). pick b (sent_out (out_of w)) (out_of w)) same_sends
    where
      by : (b : Bool) → out_of (replay apply (pick b (M.microframe t w) []) w) ≡ pick (b && sends_at t w) (sent_out (out_of w)) (out_of w)
      by true = out_microframe t w
      by false = refl

  -- an accepted record's counter of frames does not wrap
  sent_plain : call_sends t h l ≡ true → wrapped (counter_of out_frames h.stats + 7) ≡ counter_of out_frames h.stats + 7
  sent_plain e =
      let s = accepted_small h l (eqb-true (frame_number h l) 0 (sends_accepted e)) in
      omega (arith, s.sent)

  out_retired : audio_out_retired (changes_of t h l) ≡ pick (call_sends t h l) 1 0
  unfolding total
  out_retired = by (accepted h l) ∙ ap (λ (b : Bool). pick b 1 0) same_sends
    where
      by : (b : Bool) → audio_out_retired (pick b (M.microframe t w) []) ≡ pick (b && sends_at t w) 1 0
      by true = microframe_retired t w
      by false = refl

  pub call_block : CallBlock t h l
  unfolding step sent_out taken_from
  call_block =
      let o = out_of w in
      let n = h.audio.sending.len in
      let start = (h.audio.sending.start + min 7 n) % (length l.sending / 12) in
      let rest : n - min 7 n ≡ n - 7 = omega arith in
      record {
        counter = ap (λ (x : Out). x.counter) out_call ∙ pick_map (λ (x : Out). x.counter) (call_sends t h l) (sent_out o) o;
        place =
            ap (λ (x : Out). x.sending) out_call
            ∙ pick_map (λ (x : Out). x.sending) (call_sends t h l) (sent_out o) o
            ∙ ap (λ (m : ℕ). pick (call_sends t h l) (record { start = start; len = m }) h.audio.sending) rest;
        words = microframe_words h t l;
        sent =
            ap (λ (x : Out). x.sent) out_call
            ∙ pick_map (λ (x : Out). x.sent) (call_sends t h l) (sent_out o) o
            ∙ by_test (λ b. pick b (wrapped (counter_of out_frames h.stats + 7)) (counter_of out_frames h.stats) ≡ counter_of out_frames h.stats + pick b 7 0)
            (call_sends t h l) sent_plain (λ no. omega arith);
        retired = out_retired;
        placed = λ e. placed_call t h l stream_out (at_output w) (and_first _ _ e) (placed_output t w (and_second (accepted h l) _ e));
        block = λ e. (one_block_lem t w (sends_at_lem e)).changes;
        no_block =
            λ e no.
            (O.no_block t w (ap (λ (b : Bool). R.reaches_output t w && b) (and_rest (reaches_output t h l) _ no e) ∙ and_false (R.reaches_output t w))).changes
            (and_second (accepted h l) _ e);
      }

-- ---- a run read, or none

-- one run where the call is accepted, reaches the input step, is primed and active; of any other call, refused ones too, none: the frames in the
-- received ring, which are the last 48,000 with those of the run's good blocks (870-896), and the endpoint's descriptors retired (870)
pub record CallInput (t : ℕ) (h : Host) (l : Lent) : Type 0 where
  pub frames :
      to_take (step h (microframe t l)) (framed t h l).lent.received
      ≡ pick (call_reads t h l) (last_of 48000 (to_take h l.received ++ frames_read (in_bytes (at_input (world_of h l))))) (to_take h l.received)
  pub retired : audio_in_retired (changes_of t h l) ≡ pick (call_reads t h l) 1 0
  -- where the input step is reached its changes stand in the call's list, whole
  pub placed : reaches_input t h l ≡ true → Placed (λ w. changes_of t h l) (world_of h l) inputs (at_input (world_of h l))
  pub run : call_reads t h l ≡ true → InputStep t (world_of h l)

module _ (t : ℕ) (h : Host) (l : Lent) where
  abbrev v : World
  v = world_of h l

  ring : accepted h l ≡ true → RingInOrder v
  ring e = accepted_ring h l (eqb-true (frame_number h l) 0 e)

  reads_accepted : call_reads t h l ≡ true → accepted h l ≡ true
  reads_accepted e = and_first (accepted h l) _ (and_first (reaches_input t h l) _ e)

  run_call : call_reads t h l ≡ true → InputStep t v
  run_call e =
      let r = and_first (reaches_input t h l) _ e in
      input_step t v (ring (and_first (accepted h l) _ r)) (and_second (accepted h l) _ r) (and_second (reaches_input t h l) _ e)

  -- an accepted call that does not read
  no_run : call_reads t h l ≡ false → accepted h l ≡ true → NoInput t v
  no_run e a = no_input t v (ring a) (and_rest (accepted h l) _ (and_assoc (accepted h l) (R.reaches_input t v) _ ∙ e) a)

  -- what holds of the list and of an empty one holds of the call's
  by_reads : (P : Bool → List Change → Type 0) → (call_reads t h l ≡ true → P true (M.microframe t v)) → (NoInput t v → P false (M.microframe t v)) → P false [] → P (call_reads t h l) (changes_of t h l)
  by_reads P read not-read refused =
      by_test (λ b. P b (changes_of t h l)) (call_reads t h l)
      (λ e. subst (P true) (sym (whole_list t h l (reads_accepted e))) (read e))
      (λ e. by_test (λ b. P false (pick b (M.microframe t v) [])) (accepted h l) (λ a. not-read (no_run e a)) (λ a. refused))

  pub call_input : CallInput t h l
  unfolding step total
  call_input =
      record {
        frames =
            ap ring_frames (call_changes t h l)
            ∙ by_reads (λ b cs. ring_frames (replay apply cs v) ≡ pick b (last_of 48000 (ring_frames v ++ frames_read (in_bytes (at_input v)))) (ring_frames v))
            (λ e. (run_call e).after) (λ n. n.frames) refl;
        retired = by_reads (λ b cs. audio_in_retired cs ≡ pick b 1 0) (λ e. (run_call e).retired) (λ n. n.retired) refl;
        placed = λ e. placed_call t h l inputs (at_input v) (and_first _ _ e) (placed_input t v (and_second (accepted h l) _ e));
        run = run_call;
      }
