-- The rings of frames through microframes: the received ring holds no more than was received, the sending ring only loses frames.
use Prim.Native.Nat.{ℕ, zero, suc, ◌+◌, ◌-◌, ◌*◌, ◌≤◌}
use mathlib.Core.Path.{◌≡◌, refl, ap, sym}
use mathlib.Core.Bool.{Bool, true, false, ◌&&◌}
use mathlib.Core.List.{List, ◌++◌}
use native.Mathlib.Omega.{arith}
use lib.Dec.{eqb}
use lib.ListN.{length, replicate, length-append, length-drop}
use borrow.Author.Tests.{eqb-true}
use Rattle.bits.specs.Pick.{pick}
use Rattle.bits.proofs.Tests.{and_first, and_second}
use Rattle.record.specs.World.{Lent, World}
use Rattle.record.specs.Sizes.{FRAMES}
use Rattle.record.specs.Change.{left, taken_from}
use Rattle.model.specs.Audio.{blocks_of}
use Rattle.model.specs.Microframe as M
use Rattle.model.specs.Reach.{reaches_input, at_input}
use Rattle.model.specs.Earned.{Out, out_of, sent_out, good_blocks}
use Rattle.model.specs.Ring.{ring_frames, RingInOrder, frames_read, in_bytes}
use Rattle.model.specs.Claims.{sends_at}
use Rattle.model.proofs.OneBlock.{out_microframe}
use Rattle.model.proofs.InputStep.{input_step, no_input}
use Rattle.model.proofs.OldestFirst.{ring_length}
use Rattle.model.proofs.Blocks.{frames_count}
use Rattle.usbhost.specs.declared.Host.{Host}
use Rattle.usbhost.specs.Frame.{world_of, host_in, frame_number, framed}
use Rattle.history.specs.Calls.{microframe, step, after}
use Rattle.history.specs.Sums as S
use Rattle.history.specs.Sums.{Sums, Tally, receive, send, read_at, heard, reset, answered_ever, tallied, tally}
use Rattle.history.proofs.History.{by_test}
use Rattle.history.proofs.OneCall.{accepted_ring}

-- ---- the received ring

module _ (t : ℕ) (w : World) (o : RingInOrder w) where
  abbrev len_after : ℕ
  len_after = (left (M.microframe t) w).state.audio.received.len

  after_length : len_after ≡ length (ring_frames (left (M.microframe t) w))
  after_length = sym (ring_length FRAMES (left (M.microframe t) w).lent.received (left (M.microframe t) w).state.audio.received.start len_after)

  ring_grows : len_after ≤ w.state.audio.received.len + pick (S.input_reached t w) (read_at w) 0
  ring_grows =
      by_test (λ b. len_after ≤ w.state.audio.received.len + pick b (read_at w) 0) (S.input_reached t w)
      (λ e.
      let s = input_step t w o (and_first (reaches_input t w) _ e) (and_second (reaches_input t w) _ e) in
      let fs = ring_frames w ++ frames_read (in_bytes (at_input w)) in
      omega (
        arith,
        after_length,
        ap length s.after,
        length-drop (length fs - FRAMES) fs,
        length-append (ring_frames w) (frames_read (in_bytes (at_input w))),
        ring_length FRAMES w.lent.received w.state.audio.received.start w.state.audio.received.len,
        frames_count (in_bytes (at_input w)),
        ap (λ (bs : List ℕ). 7 * good_blocks (blocks_of bs)) s.bytes,
      ))
      (λ e.
      omega (
        arith,
        after_length,
        ap length (no_input t w o e).frames,
        ring_length FRAMES w.lent.received w.state.audio.received.start w.state.audio.received.len,
      ))

-- ---- the sending ring

fewer : (b : Bool) (o : Out) → (pick b (sent_out o) o).sending.len ≤ o.sending.len
unfolding sent_out taken_from
fewer true o = omega arith
fewer false o = omega arith

pub ring_shrinks : (t : ℕ) (w : World) → (left (M.microframe t) w).state.audio.sending.len ≤ w.state.audio.sending.len
ring_shrinks t w = omega (arith, ap (λ (o : Out). o.sending.len) (out_microframe t w), fewer (sends_at t w) (out_of w))

-- ---- of calls: no more than n frames in the received ring, no more than s in the sending ring

pub record Few (h : Host) (n s : ℕ) : Type 0 where
  pub received : h.audio.received.len ≤ n
  pub sending : h.audio.sending.len ≤ s

received_sent : (b : Bool) (g : Sums) → (pick b (send g) g).received ≡ g.received
received_sent true g = refl
received_sent false g = refl

received_more : (b : Bool) (n : ℕ) (g : Sums) → (pick b (receive n g) g).received ≡ g.received + pick b n 0
received_more true n g = refl
received_more false n g = omega arith

few_step : (t : ℕ) (l : Lent) (s : ℕ) (h : Host) (y : Tally) → Few h y.ever.received s → Few (step h (microframe t l)) (tallied h y (microframe t l)).ever.received s
unfolding step framed tallied
few_step t l s h y k =
    let w = world_of h l in
    let g = heard t w (reset t w y.since) in
    by_test (λ b. Few (host_in (pick b (left (M.microframe t) w) w)) (pick b (answered_ever t w g (heard t w y.ever)) y.ever).received s) (eqb (frame_number h l) 0)
    (λ e.
    let more = ring_grows t w (accepted_ring h l (eqb-true (frame_number h l) 0 e)) in
    record {
      received = omega (arith, more, k.received, received_sent (S.output_reached t w && S.earned g) (heard t w y.ever), received_more (S.input_reached t w) (read_at w) y.ever);
      sending = omega (arith, ring_shrinks t w, k.sending);
    })
    (λ e. record { received = k.received; sending = k.sending })

-- the same call any number of times
pub few_waits : (t : ℕ) (l : Lent) (s n : ℕ) (h : Host) (y : Tally) → Few h y.ever.received s
    → Few (after h (replicate n (microframe t l))) (tally h y (replicate n (microframe t l))).ever.received s
unfolding after tally
few_waits t l s zero h y k = k
few_waits t l s (suc n) h y k = few_waits t l s n (step h (microframe t l)) (tallied h y (microframe t l)) (few_step t l s h y k)
