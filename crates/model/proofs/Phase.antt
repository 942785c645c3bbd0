-- What the phase reads: itself alone.
use Rattle.record.specs.declared.Phase.{Phase}
use mathlib.Core.Path.{◌≡◌, refl, ap}
use Rattle.record.specs.World.{World}
use Rattle.record.specs.Parts as Part
use Rattle.record.specs.Change.{Change, bus, ran, lost, count, timers, apply, port, audio, request, stream}
use Rattle.record.proofs.Beside.{audio_beside, request_beside, stream_beside}
use mathlib.Core.Bool.{true}
use Rattle.bits.proofs.Tests.{false_true}
use Rattle.model.proofs.Fields.{Fields}
use Rattle.model.proofs.Reading.{Reading, reading_of, quiet}

abbrev pub phases_of : World → Phase
phases_of w = w.state.phase

abbrev pub phases_on : Change → Phase → Phase
phases_on (bus s) k = k
phases_on (ran e r n) k = k
phases_on (lost n) k = k
phases_on (count c n) k = k
phases_on (timers ts) k = k
phases_on (port (Part.uf n)) k = k
phases_on (port (Part.phase p)) k = p
phases_on (port (Part.started n)) k = k
phases_on (port (Part.gone b)) k = k
phases_on (port (Part.suspended b)) k = k
phases_on (port (Part.was_running b)) k = k
phases_on (audio c) k = k
phases_on (request c) k = k
phases_on (stream c) k = k

pub phases_apply : (c : Change) (w : World) → phases_of (apply c w) ≡ phases_on c (phases_of w)
unfolding apply
phases_apply (bus s) w = refl
phases_apply (ran e r n) w = refl
phases_apply (lost n) w = refl
phases_apply (count c n) w = refl
phases_apply (timers ts) w = refl
phases_apply (port (Part.uf n)) w = refl
phases_apply (port (Part.phase p)) w = refl
phases_apply (port (Part.started n)) w = refl
phases_apply (port (Part.gone b)) w = refl
phases_apply (port (Part.suspended b)) w = refl
phases_apply (port (Part.was_running b)) w = refl
phases_apply (audio c) w = ap phases_of (audio_beside c w)
phases_apply (request c) w = ap phases_of (request_beside c w)
phases_apply (stream c) w = ap phases_of (stream_beside c w)

abbrev pub phases : Fields Phase
phases =
    record {
      of = phases_of;
      on = phases_on;
      applies = phases_apply;
      stores = λ s k. refl;
      marks = λ e n m k. refl;
      drops = λ n k. refl;
    }

pub phases_leaves : (c : Change) → quiet c ≡ true → (k : Phase) → phases_on c k ≡ k
phases_leaves (bus s) h k = refl
phases_leaves (ran e r n) h k = refl
phases_leaves (lost n) h k = refl
phases_leaves (count c n) h k = refl
phases_leaves (timers ts) h k = refl
phases_leaves (port (Part.uf n)) h k = refl
phases_leaves (port (Part.phase p)) h k = absurd (false_true h)
phases_leaves (port (Part.started n)) h k = refl
phases_leaves (port (Part.gone b)) h k = refl
phases_leaves (port (Part.suspended b)) h k = refl
phases_leaves (port (Part.was_running b)) h k = refl
phases_leaves (audio c) h k = refl
phases_leaves (request c) h k = refl
phases_leaves (stream c) h k = refl

abbrev pub phases_reading : Reading Phase
phases_reading = reading_of phases phases_leaves
