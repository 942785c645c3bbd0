-- What the history reads: the credit, the two counters of frames, gone, and RS seen set.
use Prim.Native.Nat.{ℕ}
use mathlib.Core.Path.{◌≡◌, refl, ap₂, ap}
use mathlib.Core.Bool.{Bool, true, not}
use lib.Dec.{eqb}
use Rattle.bus.proofs.Sizes.{and_true}
use Rattle.record.specs.Record.{Counter, place, in_frames, out_frames}
use Rattle.record.proofs.Counters.{rose, raised_by, rose_other}
use Rattle.record.specs.World.{World}
use Rattle.record.specs.Parts as Part
use Rattle.record.specs.Change.{Change, bus, ran, lost, count, timers, apply, port, audio, request, stream}
use Rattle.record.proofs.Beside.{request_beside, stream_beside}
use Rattle.model.specs.Earned.{Counts, counts_of}
use Rattle.bits.proofs.Tests.{false_true}
use Rattle.model.proofs.Fields.{Fields}
use Rattle.model.proofs.Reading.{Reading, reading_of, quiet, quiet_counter}

pub record Frames : Type 0 where
  pub counts : Counts
  pub gone : Bool
  pub was_running : Bool

abbrev pub frames_of : World → Frames
frames_of w = record { counts = counts_of w; gone = w.state.port.gone; was_running = w.state.port.was_running }

abbrev pub with_counts : Frames → Counts → Frames
with_counts k m = record { counts = m; gone = k.gone; was_running = k.was_running }

abbrev pub on_counts : Counter → ℕ → Counts → Counts
on_counts c n m =
    record {
      credit = m.credit;
      received = rose (place in_frames) (place c) n m.received;
      sent = rose (place out_frames) (place c) n m.sent;
    }

abbrev pub on_frames : Change → Frames → Frames
on_frames (bus s) k = k
on_frames (ran e r n) k = k
on_frames (lost n) k = k
on_frames (count c n) k = with_counts k (on_counts c n k.counts)
on_frames (timers ts) k = k
on_frames (port (Part.uf n)) k = k
on_frames (port (Part.phase p)) k = k
on_frames (port (Part.started n)) k = k
on_frames (port (Part.gone b)) k = record { counts = k.counts; gone = b; was_running = k.was_running }
on_frames (port (Part.suspended b)) k = k
on_frames (port (Part.was_running b)) k = record { counts = k.counts; gone = k.gone; was_running = b }
on_frames (audio (Part.credit n)) k = with_counts k (record { credit = n; received = k.counts.received; sent = k.counts.sent })
on_frames (audio (Part.budget n)) k = k
on_frames (audio (Part.counter n)) k = k
on_frames (audio (Part.block n m)) k = k
on_frames (audio (Part.frame f)) k = k
on_frames (audio (Part.taken n)) k = k
on_frames (request c) k = k
on_frames (stream c) k = k

-- by what the two counters are
abbrev frames_by : Frames → ℕ → ℕ → Frames
frames_by k x y = with_counts k (record { credit = k.counts.credit; received = x; sent = y })

frames_count : (c : Counter) (n : ℕ) (w : World) → frames_of (apply (count c n) w) ≡ on_frames (count c n) (frames_of w)
unfolding apply
frames_count c n w = ap₂ (frames_by (frames_of w)) (raised_by (place in_frames) (place c) n w.state.stats) (raised_by (place out_frames) (place c) n w.state.stats)

pub frames_apply : (c : Change) (w : World) → frames_of (apply c w) ≡ on_frames c (frames_of w)
unfolding apply
frames_apply (bus s) w = refl
frames_apply (ran e r n) w = refl
frames_apply (lost n) w = refl
frames_apply (count c n) w = frames_count c n w
frames_apply (timers ts) w = refl
frames_apply (port (Part.uf n)) w = refl
frames_apply (port (Part.phase p)) w = refl
frames_apply (port (Part.started n)) w = refl
frames_apply (port (Part.gone b)) w = refl
frames_apply (port (Part.suspended b)) w = refl
frames_apply (port (Part.was_running b)) w = refl
frames_apply (audio (Part.credit n)) w = refl
frames_apply (audio (Part.budget n)) w = refl
frames_apply (audio (Part.counter n)) w = refl
frames_apply (audio (Part.block n m)) w = refl
frames_apply (audio (Part.frame f)) w = refl
frames_apply (audio (Part.taken n)) w = refl
frames_apply (request c) w = ap frames_of (request_beside c w)
frames_apply (stream c) w = ap frames_of (stream_beside c w)

abbrev pub frames : Fields Frames
frames =
    record {
      of = frames_of;
      on = on_frames;
      applies = frames_apply;
      stores = λ s k. refl;
      marks = λ e n m k. refl;
      drops = λ n k. refl;
    }

frames_counter : (c : Counter) → quiet_counter c ≡ true → (n : ℕ) (k : Frames) → on_frames (count c n) k ≡ k
frames_counter c e n k =
    let other = and_true (not (eqb (place in_frames) (place c))) _ e in
    ap₂ (frames_by k) (rose_other (place in_frames) (place c) n k.counts.received other.0) (rose_other (place out_frames) (place c) n k.counts.sent other.1)

pub frames_leaves : (c : Change) → quiet c ≡ true → (k : Frames) → on_frames c k ≡ k
frames_leaves (bus s) h k = refl
frames_leaves (ran e r n) h k = refl
frames_leaves (lost n) h k = refl
frames_leaves (count c n) h k = frames_counter c h n k
frames_leaves (timers ts) h k = refl
frames_leaves (port (Part.uf n)) h k = refl
frames_leaves (port (Part.phase p)) h k = refl
frames_leaves (port (Part.started n)) h k = refl
frames_leaves (port (Part.gone b)) h k = absurd (false_true h)
frames_leaves (port (Part.suspended b)) h k = refl
frames_leaves (port (Part.was_running b)) h k = absurd (false_true h)
frames_leaves (audio (Part.credit n)) h k = absurd (false_true h)
frames_leaves (audio (Part.budget n)) h k = refl
frames_leaves (audio (Part.counter n)) h k = refl
frames_leaves (audio (Part.block n m)) h k = refl
frames_leaves (audio (Part.frame f)) h k = refl
frames_leaves (audio (Part.taken n)) h k = refl
frames_leaves (request c) h k = refl
frames_leaves (stream c) h k = refl

abbrev pub frames_reading : Reading Frames
frames_reading = reading_of frames frames_leaves
