-- What decides whether a microframe streams: the phase, whether a request runs, and how many setups wait; and the phase after control.
use Prim.Native.Nat.{ℕ, ◌+◌, ◌-◌, ◌/◌}
use mathlib.Core.Bool.{Bool}
use lib.ListN.{length}
use Rattle.record.specs.declared.Phase.{Phase}
use mathlib.Core.Path.{◌≡◌, refl, ap}
use Rattle.record.specs.World.{World}
use Rattle.record.specs.Parts as Part
use Rattle.record.specs.Change.{Change, bus, ran, lost, count, timers, apply, port, audio, request, stream}
use Rattle.record.proofs.Beside.{audio_beside, stream_beside}
use Rattle.model.proofs.Fields.{Fields}

pub record Way : Type 0 where
  pub phase : Phase
  pub on : Bool
  pub setups : ℕ

abbrev pub way_by : Phase → Bool → ℕ → Way
way_by p b n = record { phase = p; on = b; setups = n }

abbrev pub way_of : World → Way
way_of w = way_by w.state.phase w.state.control.on w.state.lengths.setups

abbrev pub way_on : Change → Way → Way
way_on (bus s) k = k
way_on (ran e r n) k = k
way_on (lost n) k = k
way_on (count c n) k = k
way_on (timers ts) k = k
way_on (port (Part.uf n)) k = k
way_on (port (Part.phase p)) k = way_by p k.on k.setups
way_on (port (Part.started n)) k = k
way_on (port (Part.gone b)) k = k
way_on (port (Part.suspended b)) k = k
way_on (port (Part.was_running b)) k = k
way_on (audio c) k = k
way_on (request (Part.control c)) k = way_by k.phase c.on k.setups
way_on (request (Part.queued bs)) k = way_by k.phase k.on (k.setups + length bs / 8)
way_on (request Part.popped) k = way_by k.phase k.on (k.setups - 1)
way_on (request (Part.pushed bs)) k = way_by k.phase k.on (k.setups + 1)
way_on (request Part.cleared) k = way_by k.phase k.on 0
way_on (request (Part.reply n bs)) k = k
way_on (request (Part.device bs)) k = k
way_on (request (Part.config bs)) k = k
way_on (request Part.forgot) k = k
way_on (stream c) k = k

pub way_apply : (c : Change) (w : World) → way_of (apply c w) ≡ way_on c (way_of w)
unfolding apply
way_apply (bus s) w = refl
way_apply (ran e r n) w = refl
way_apply (lost n) w = refl
way_apply (count c n) w = refl
way_apply (timers ts) w = refl
way_apply (port (Part.uf n)) w = refl
way_apply (port (Part.phase p)) w = refl
way_apply (port (Part.started n)) w = refl
way_apply (port (Part.gone b)) w = refl
way_apply (port (Part.suspended b)) w = refl
way_apply (port (Part.was_running b)) w = refl
way_apply (audio c) w = ap way_of (audio_beside c w)
way_apply (request (Part.control c)) w = refl
way_apply (request (Part.queued bs)) w = refl
way_apply (request Part.popped) w = refl
way_apply (request (Part.pushed bs)) w = refl
way_apply (request Part.cleared) w = refl
way_apply (request (Part.reply n bs)) w = refl
way_apply (request (Part.device bs)) w = refl
way_apply (request (Part.config bs)) w = refl
way_apply (request Part.forgot) w = refl
way_apply (stream c) w = ap way_of (stream_beside c w)

abbrev pub way : Fields Way
way =
    record {
      of = way_of;
      on = way_on;
      applies = way_apply;
      stores = λ s k. refl;
      marks = λ e n m k. refl;
      drops = λ n k. refl;
    }
