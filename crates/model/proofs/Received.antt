-- What the received ring reads: its words and its place.
use Prim.Native.Nat.{ℕ}
use mathlib.Core.Path.{◌≡◌, refl, ap}
use mathlib.Core.Bool.{true}
use mathlib.Core.List.{List}
use Rattle.bits.proofs.Tests.{false_true}
use Rattle.record.specs.declared.Ring.{Ring}
use Rattle.record.specs.World.{World}
use Rattle.record.specs.Parts as Part
use Rattle.record.specs.Change.{Change, bus, ran, lost, count, timers, apply, ringed, ringed_place, port, audio, request, stream}
use Rattle.record.proofs.Beside.{port_beside, request_beside, stream_beside}
use Rattle.model.proofs.Fields.{Fields}
use Rattle.model.proofs.Reading.{Reading, reading_of, Lasting, quiet}

pub record Kept : Type 0 where
  pub ring : List ℕ
  pub place : Ring

abbrev pub kept_by : List ℕ → Ring → Kept
kept_by l r = record { ring = l; place = r }

abbrev pub kept_of : World → Kept
kept_of w = kept_by w.lent.received w.state.audio.received

abbrev pub kept_on : Change → Kept → Kept
kept_on (bus s) k = k
kept_on (ran e r n) k = k
kept_on (lost n) k = k
kept_on (count c n) k = k
kept_on (timers ts) k = k
kept_on (port c) k = k
kept_on (audio (Part.credit n)) k = k
kept_on (audio (Part.budget n)) k = k
kept_on (audio (Part.counter n)) k = k
kept_on (audio (Part.block n m)) k = k
kept_on (audio (Part.frame f)) k = kept_by (ringed k.ring k.place f) (ringed_place k.place)
kept_on (audio (Part.taken n)) k = k
kept_on (request c) k = k
kept_on (stream c) k = k

pub kept_apply : (c : Change) (w : World) → kept_of (apply c w) ≡ kept_on c (kept_of w)
unfolding apply
kept_apply (bus s) w = refl
kept_apply (ran e r n) w = refl
kept_apply (lost n) w = refl
kept_apply (count c n) w = refl
kept_apply (timers ts) w = refl
kept_apply (port c) w = ap kept_of (port_beside c w)
kept_apply (audio (Part.credit n)) w = refl
kept_apply (audio (Part.budget n)) w = refl
kept_apply (audio (Part.counter n)) w = refl
kept_apply (audio (Part.block n m)) w = refl
kept_apply (audio (Part.frame f)) w = refl
kept_apply (audio (Part.taken n)) w = refl
kept_apply (request c) w = ap kept_of (request_beside c w)
kept_apply (stream c) w = ap kept_of (stream_beside c w)

abbrev pub kept : Fields Kept
kept =
    record {
      of = kept_of;
      on = kept_on;
      applies = kept_apply;
      stores = λ s k. refl;
      marks = λ e n m k. refl;
      drops = λ n k. refl;
    }

pub kept_leaves : (c : Change) → quiet c ≡ true → (k : Kept) → kept_on c k ≡ k
kept_leaves (bus s) h k = refl
kept_leaves (ran e r n) h k = refl
kept_leaves (lost n) h k = refl
kept_leaves (count c n) h k = refl
kept_leaves (timers ts) h k = refl
kept_leaves (port c) h k = refl
kept_leaves (audio (Part.credit n)) h k = refl
kept_leaves (audio (Part.budget n)) h k = refl
kept_leaves (audio (Part.counter n)) h k = refl
kept_leaves (audio (Part.block n m)) h k = refl
kept_leaves (audio (Part.frame f)) h k = absurd (false_true h)
kept_leaves (audio (Part.taken n)) h k = refl
kept_leaves (request c) h k = refl
kept_leaves (stream c) h k = refl

abbrev pub kept_reading : Reading Kept
kept_reading = reading_of kept kept_leaves

abbrev pub kept_lasting : Lasting kept_reading
kept_lasting = record { phases = λ p k. refl; goes = λ b k. refl; runs = λ b k. refl; credits = λ n k. refl; budgets = λ n k. refl }
