-- What the input budget reads: itself alone.
use Prim.Native.Nat.{ℕ}
use mathlib.Core.Path.{◌≡◌, refl, ap}
use mathlib.Core.Bool.{true}
use Rattle.bits.proofs.Tests.{false_true}
use Rattle.record.specs.World.{World}
use Rattle.record.specs.Parts as Part
use Rattle.record.specs.Change.{Change, bus, ran, lost, count, timers, apply, port, audio, request, stream}
use Rattle.record.proofs.Beside.{port_beside, request_beside, stream_beside}
use Rattle.model.proofs.Fields.{Fields}
use Rattle.model.proofs.Reading.{Reading, reading_of, quiet}

abbrev pub budget_of : World → ℕ
budget_of w = w.state.audio.budget

abbrev pub budget_on : Change → ℕ → ℕ
budget_on (bus s) k = k
budget_on (ran e r n) k = k
budget_on (lost n) k = k
budget_on (count c n) k = k
budget_on (timers ts) k = k
budget_on (port c) k = k
budget_on (audio (Part.credit n)) k = k
budget_on (audio (Part.budget n)) k = n
budget_on (audio (Part.counter n)) k = k
budget_on (audio (Part.block n m)) k = k
budget_on (audio (Part.frame f)) k = k
budget_on (audio (Part.taken n)) k = k
budget_on (request c) k = k
budget_on (stream c) k = k

pub budget_apply : (c : Change) (w : World) → budget_of (apply c w) ≡ budget_on c (budget_of w)
unfolding apply
budget_apply (bus s) w = refl
budget_apply (ran e r n) w = refl
budget_apply (lost n) w = refl
budget_apply (count c n) w = refl
budget_apply (timers ts) w = refl
budget_apply (port c) w = ap budget_of (port_beside c w)
budget_apply (audio (Part.credit n)) w = refl
budget_apply (audio (Part.budget n)) w = refl
budget_apply (audio (Part.counter n)) w = refl
budget_apply (audio (Part.block n m)) w = refl
budget_apply (audio (Part.frame f)) w = refl
budget_apply (audio (Part.taken n)) w = refl
budget_apply (request c) w = ap budget_of (request_beside c w)
budget_apply (stream c) w = ap budget_of (stream_beside c w)

abbrev pub budgets : Fields ℕ
budgets =
    record {
      of = budget_of;
      on = budget_on;
      applies = budget_apply;
      stores = λ s k. refl;
      marks = λ e n m k. refl;
      drops = λ n k. refl;
    }

pub budget_leaves : (c : Change) → quiet c ≡ true → (k : ℕ) → budget_on c k ≡ k
budget_leaves (bus s) h k = refl
budget_leaves (ran e r n) h k = refl
budget_leaves (lost n) h k = refl
budget_leaves (count c n) h k = refl
budget_leaves (timers ts) h k = refl
budget_leaves (port c) h k = refl
budget_leaves (audio (Part.credit n)) h k = refl
budget_leaves (audio (Part.budget n)) h k = absurd (false_true h)
budget_leaves (audio (Part.counter n)) h k = refl
budget_leaves (audio (Part.block n m)) h k = refl
budget_leaves (audio (Part.frame f)) h k = refl
budget_leaves (audio (Part.taken n)) h k = refl
budget_leaves (request c) h k = refl
budget_leaves (stream c) h k = refl

abbrev pub budget_reading : Reading ℕ
budget_reading = reading_of budgets budget_leaves
