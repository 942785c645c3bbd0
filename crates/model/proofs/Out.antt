-- What the output step changes of the record, read: the stream counter, the sending ring's place, and the frames counted as sent.
use Prim.Native.Nat.{ℕ}
use mathlib.Core.Path.{◌≡◌, refl, ap}
use mathlib.Core.Bool.{true, not}
use lib.Dec.{eqb}
use Rattle.bus.proofs.Sizes.{and_true}
use Rattle.bits.proofs.Tests.{false_true}
use Rattle.record.specs.Record.{Counter, place, in_frames, out_frames}
use Rattle.record.proofs.Counters.{rose, raised_by, rose_other}
use Rattle.record.specs.World.{World}
use Rattle.record.specs.Parts as Part
use Rattle.record.specs.Change.{Change, bus, ran, lost, count, timers, taken_from, apply, port, audio, request, stream}
use Rattle.record.proofs.Beside.{port_beside, request_beside, stream_beside}
use Rattle.model.specs.Earned.{Out, out_of}
use Rattle.model.proofs.Fields.{Fields}
use Rattle.model.proofs.Reading.{Reading, reading_of, Lasting, Unheard, quiet, quiet_counter}

-- with another count of frames sent
abbrev sent_is : Out → ℕ → Out
sent_is o n = record { counter = o.counter; sending = o.sending; capacity = o.capacity; sent = n }

abbrev pub out_counts : Counter → ℕ → Out → Out
out_counts c n o = sent_is o (rose (place out_frames) (place c) n o.sent)

abbrev pub out_on : Change → Out → Out
out_on (bus s) o = o
out_on (ran e r n) o = o
out_on (lost n) o = o
out_on (count c n) o = out_counts c n o
out_on (timers ts) o = o
out_on (port c) o = o
out_on (audio (Part.credit n)) o = o
out_on (audio (Part.budget n)) o = o
out_on (audio (Part.counter n)) o = record { counter = n; sending = o.sending; capacity = o.capacity; sent = o.sent }
out_on (audio (Part.block n m)) o = o
out_on (audio (Part.frame f)) o = o
out_on (audio (Part.taken n)) o = record { counter = o.counter; sending = taken_from o.capacity n o.sending; capacity = o.capacity; sent = o.sent }
out_on (request c) o = o
out_on (stream c) o = o

out_count : (c : Counter) (n : ℕ) (w : World) → out_of (apply (count c n) w) ≡ out_on (count c n) (out_of w)
unfolding apply
out_count c n w = ap (sent_is (out_of w)) (raised_by (place out_frames) (place c) n w.state.stats)

pub out_apply : (c : Change) (w : World) → out_of (apply c w) ≡ out_on c (out_of w)
unfolding apply
out_apply (bus s) w = refl
out_apply (ran e r n) w = refl
out_apply (lost n) w = refl
out_apply (count c n) w = out_count c n w
out_apply (timers ts) w = refl
out_apply (port c) w = ap out_of (port_beside c w)
out_apply (audio (Part.credit n)) w = refl
out_apply (audio (Part.budget n)) w = refl
out_apply (audio (Part.counter n)) w = refl
out_apply (audio (Part.block n m)) w = refl
out_apply (audio (Part.frame f)) w = refl
out_apply (audio (Part.taken n)) w = refl
out_apply (request c) w = ap out_of (request_beside c w)
out_apply (stream c) w = ap out_of (stream_beside c w)

abbrev pub outs : Fields Out
outs =
    record {
      of = out_of;
      on = out_on;
      applies = out_apply;
      stores = λ s k. refl;
      marks = λ e n m k. refl;
      drops = λ n k. refl;
    }

out_counter : (c : Counter) → quiet_counter c ≡ true → (n : ℕ) (k : Out) → out_on (count c n) k ≡ k
out_counter c e n k = ap (sent_is k) (rose_other (place out_frames) (place c) n k.sent (and_true (not (eqb (place in_frames) (place c))) _ e).1)

pub out_leaves : (c : Change) → quiet c ≡ true → (k : Out) → out_on c k ≡ k
out_leaves (bus s) h k = refl
out_leaves (ran e r n) h k = refl
out_leaves (lost n) h k = refl
out_leaves (count c n) h k = out_counter c h n k
out_leaves (timers ts) h k = refl
out_leaves (port c) h k = refl
out_leaves (audio (Part.credit n)) h k = refl
out_leaves (audio (Part.budget n)) h k = refl
out_leaves (audio (Part.counter n)) h k = absurd (false_true h)
out_leaves (audio (Part.block n m)) h k = refl
out_leaves (audio (Part.frame f)) h k = refl
out_leaves (audio (Part.taken n)) h k = absurd (false_true h)
out_leaves (request c) h k = refl
out_leaves (stream c) h k = refl

abbrev pub out_reading : Reading Out
out_reading = reading_of outs out_leaves

abbrev pub out_lasting : Lasting out_reading
out_lasting = record { phases = λ p k. refl; goes = λ b k. refl; runs = λ b k. refl; credits = λ n k. refl; budgets = λ n k. refl }

abbrev pub out_unheard : Unheard out_reading
out_unheard = record { frames = λ f k. refl; counted = λ n k. refl }
