-- What is asked of the device: the phase, the request that runs, the setups that wait, the reply, and the lengths of the descriptors.
use Prim.Native.Nat.{ℕ, ◌+◌, ◌-◌, ◌*◌, ◌/◌}
use mathlib.Core.Path.{◌≡◌, refl, ap}
use mathlib.Core.List.{List, ◌++◌}
use lib.ListN.{length, take}
use lib.Seq.{sets}
use Rattle.record.specs.declared.Phase.{Phase}
use Rattle.record.specs.declared.Control.{Control}
use Rattle.record.specs.World.{World}
use Rattle.record.specs.Parts as Part
use Rattle.record.specs.Change.{Change, bus, ran, lost, count, timers, apply, drained, port, audio, request, stream}
use Rattle.record.proofs.Beside.{audio_beside, stream_beside}
use Rattle.model.proofs.Fields.{Fields}

-- waiting and queue: how many setups wait, and their array; device and config: the descriptors' lengths
pub record Asked : Type 0 where
  pub phase : Phase
  pub control : Control
  pub waiting : ℕ
  pub device : ℕ
  pub config : ℕ
  pub uf : ℕ
  pub queue : List ℕ
  pub reply : List ℕ

abbrev pub asked_of : World → Asked
asked_of w =
    record {
      phase = w.state.phase;
      control = w.state.control;
      waiting = w.state.lengths.setups;
      device = w.state.lengths.device;
      config = w.state.lengths.config;
      uf = w.state.port.uf;
      queue = w.own.setups;
      reply = w.lent.reply;
    }

abbrev pub asked_on : Change → Asked → Asked
asked_on (bus s) k = k
asked_on (ran e r n) k = k
asked_on (lost n) k = k
asked_on (count c n) k = k
asked_on (timers ts) k = k
asked_on (port (Part.uf n)) k = record { phase = k.phase; control = k.control; waiting = k.waiting; device = k.device; config = k.config; uf = n; queue = k.queue; reply = k.reply }
asked_on (port (Part.phase p)) k = record { phase = p; control = k.control; waiting = k.waiting; device = k.device; config = k.config; uf = k.uf; queue = k.queue; reply = k.reply }
asked_on (port (Part.started n)) k = k
asked_on (port (Part.gone b)) k = k
asked_on (port (Part.suspended b)) k = k
asked_on (port (Part.was_running b)) k = k
asked_on (audio c) k = k
asked_on (request (Part.control c)) k = record { phase = k.phase; control = c; waiting = k.waiting; device = k.device; config = k.config; uf = k.uf; queue = k.queue; reply = k.reply }
asked_on (request (Part.queued bs)) k = record { phase = k.phase; control = k.control; waiting = k.waiting + length bs / 8; device = k.device; config = k.config; uf = k.uf; queue = sets k.queue (8 * k.waiting) bs; reply = k.reply }
asked_on (request Part.popped) k = record { phase = k.phase; control = k.control; waiting = k.waiting - 1; device = k.device; config = k.config; uf = k.uf; queue = drained k.queue (8 * k.waiting) 8; reply = k.reply }
asked_on (request (Part.pushed bs)) k = record { phase = k.phase; control = k.control; waiting = k.waiting + 1; device = k.device; config = k.config; uf = k.uf; queue = sets k.queue 0 (bs ++ take (8 * k.waiting) k.queue); reply = k.reply }
asked_on (request Part.cleared) k = record { phase = k.phase; control = k.control; waiting = 0; device = k.device; config = k.config; uf = k.uf; queue = k.queue; reply = k.reply }
asked_on (request (Part.reply n bs)) k = record { phase = k.phase; control = k.control; waiting = k.waiting; device = k.device; config = k.config; uf = k.uf; queue = k.queue; reply = sets k.reply n bs }
asked_on (request (Part.device bs)) k = record { phase = k.phase; control = k.control; waiting = k.waiting; device = length bs; config = k.config; uf = k.uf; queue = k.queue; reply = k.reply }
asked_on (request (Part.config bs)) k = record { phase = k.phase; control = k.control; waiting = k.waiting; device = k.device; config = length bs; uf = k.uf; queue = k.queue; reply = k.reply }
asked_on (request Part.forgot) k = record { phase = k.phase; control = k.control; waiting = k.waiting; device = 0; config = 0; uf = k.uf; queue = k.queue; reply = k.reply }
asked_on (stream c) k = k

pub asked_apply : (c : Change) (w : World) → asked_of (apply c w) ≡ asked_on c (asked_of w)
unfolding apply
asked_apply (bus s) w = refl
asked_apply (ran e r n) w = refl
asked_apply (lost n) w = refl
asked_apply (count c n) w = refl
asked_apply (timers ts) w = refl
asked_apply (port (Part.uf n)) w = refl
asked_apply (port (Part.phase p)) w = refl
asked_apply (port (Part.started n)) w = refl
asked_apply (port (Part.gone b)) w = refl
asked_apply (port (Part.suspended b)) w = refl
asked_apply (port (Part.was_running b)) w = refl
asked_apply (audio c) w = ap asked_of (audio_beside c w)
asked_apply (request (Part.control c)) w = refl
asked_apply (request (Part.queued bs)) w = refl
asked_apply (request Part.popped) w = refl
asked_apply (request (Part.pushed bs)) w = refl
asked_apply (request Part.cleared) w = refl
asked_apply (request (Part.reply n bs)) w = refl
asked_apply (request (Part.device bs)) w = refl
asked_apply (request (Part.config bs)) w = refl
asked_apply (request Part.forgot) w = refl
asked_apply (stream c) w = ap asked_of (stream_beside c w)

abbrev pub asked : Fields Asked
asked =
    record {
      of = asked_of;
      on = asked_on;
      applies = asked_apply;
      stores = λ s k. refl;
      marks = λ e n m k. refl;
      drops = λ n k. refl;
    }
