-- The sending ring as a list, oldest first, in a microframe: a block takes its first seven, or all, and nothing else changes it.
use Prim.Native.Nat.{ℕ, ◌<◌}
use mathlib.Core.Path.{◌≡◌, refl, ap, ap₂, ◌∙◌}
use mathlib.Core.Bool.{Bool, true, false}
use mathlib.Core.List.{List, [], ◌∷◌}
use lib.ListN.{drop}
use Rattle.bits.specs.Pick.{pick}
use Rattle.bus.specs.Steps.{replay}
use Rattle.record.specs.World.{World}
use Rattle.record.specs.Change.{Change, bus, ran, lost, count, timers, apply, left, port, audio, request, stream}
use Rattle.record.proofs.Beside.{port_beside, audio_beside, request_beside, stream_beside}
use Rattle.model.specs.Audio.{BLOCK_FRAMES, capacity, stream_in}
use Rattle.model.specs.Microframe.{rs_set, microframe, enumerates}
use Rattle.model.specs.Reach.{to_phase, phase_by, stream_by, at_output}
use Rattle.model.specs.Earned.{Out, out_of, sent_out}
use Rattle.model.specs.Claims.{sends_at}
use Rattle.model.specs.Ring.{sending_frames, waiting_frames}
use Rattle.model.proofs.OneBlock.{out_output, out_microframe}
use Rattle.model.proofs.OldestFirst.{ring_taken}

-- ---- no change writes the ring's words

words_change : (c : Change) (w : World) → (apply c w).lent.sending ≡ w.lent.sending
unfolding apply
words_change (bus s) w = refl
words_change (ran e k n) w = refl
words_change (lost n) w = refl
words_change (count c n) w = refl
words_change (timers ts) w = refl
words_change (port c) w = ap (λ (v : World). v.lent.sending) (port_beside c w)
words_change (audio c) w = ap (λ (v : World). v.lent.sending) (audio_beside c w)
words_change (request c) w = ap (λ (v : World). v.lent.sending) (request_beside c w)
words_change (stream c) w = ap (λ (v : World). v.lent.sending) (stream_beside c w)

words_kept : (cs : List Change) (w : World) → (replay apply cs w).lent.sending ≡ w.lent.sending
words_kept [] w = refl
words_kept (c ∷ cs) w = words_kept cs (apply c w) ∙ words_change c w

pub words_microframe : (t : ℕ) (w : World) → (left (microframe t) w).lent.sending ≡ w.lent.sending
words_microframe t w = words_kept (microframe t w) w

pub words_output : (w : World) → (at_output w).lent.sending ≡ w.lent.sending
unfolding stream_by phase_by
words_output w =
    let v = left (to_phase w.settings (rs_set w)) w in
    let u = left (enumerates w.settings) v in
    words_kept (stream_in u) u ∙ words_kept (enumerates w.settings v) v ∙ words_kept (to_phase w.settings (rs_set w) w) w

-- ---- the list

-- by the words and the place
same_frames : (v w : World) → v.lent.sending ≡ w.lent.sending → (out_of v).sending ≡ (out_of w).sending → waiting_frames v ≡ waiting_frames w
same_frames v w p q = ap₂ sending_frames p q

-- at the output step it is as at entry
pub waiting_output : (w : World) → waiting_frames (at_output w) ≡ waiting_frames w
waiting_output w = same_frames (at_output w) w (words_output w) (ap (λ (o : Out). o.sending) (out_output w))

pub waiting_microframe : (t : ℕ) (w : World) → w.state.audio.sending.start < capacity w
    → waiting_frames (left (microframe t) w) ≡ pick (sends_at t w) (drop BLOCK_FRAMES (waiting_frames w)) (waiting_frames w)
unfolding sent_out
waiting_microframe t w inside =
    ap₂ sending_frames (words_microframe t w) (ap (λ (o : Out). o.sending) (out_microframe t w)) ∙ by (sends_at t w)
  where
    by : (b : Bool) → sending_frames w.lent.sending (pick b (sent_out (out_of w)) (out_of w)).sending ≡ pick b (drop BLOCK_FRAMES (waiting_frames w)) (waiting_frames w)
    by true = ring_taken (capacity w) w.lent.sending w.state.audio.sending BLOCK_FRAMES inside
    by false = refl
