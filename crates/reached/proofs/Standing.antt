-- What decides the way of a host to its stream: phase, request, setups, counts, and whether it is gone, suspended or was seen running.
use Prim.Native.Nat.{ℕ, ◌+◌, ◌-◌, ◌*◌, ◌/◌}
use mathlib.Core.Bool.{Bool}
use mathlib.Core.List.{List, ◌++◌}
use mathlib.Core.Path.{◌≡◌, refl, ap}
use lib.ListN.{length, take}
use lib.Seq.{sets}
use Rattle.record.specs.declared.Phase.{Phase}
use Rattle.record.specs.World.{World}
use Rattle.record.specs.Parts as Part
use Rattle.record.specs.Change.{Change, bus, ran, lost, count, timers, apply, drained, port, audio, request, stream}
use Rattle.record.proofs.Beside.{audio_beside, stream_beside}
use Rattle.model.proofs.Fields.{Fields}

-- on: a request runs; waiting: how many setups wait; t: the phase's start
pub record Stand : Type 0 where
  pub phase : Phase
  pub on : Bool
  pub waiting : ℕ
  pub uf : ℕ
  pub t : ℕ
  pub gone : Bool
  pub suspended : Bool
  pub was_running : Bool

-- and the array of setups
pub record Held : Type 0 where
  pub stand : Stand
  pub queue : List ℕ

abbrev pub stand_of : World → Stand
stand_of w =
    record {
      phase = w.state.phase;
      on = w.state.control.on;
      waiting = w.state.lengths.setups;
      uf = w.state.port.uf;
      t = w.state.port.t;
      gone = w.state.port.gone;
      suspended = w.state.port.suspended;
      was_running = w.state.port.was_running;
    }

abbrev pub held_of : World → Held
held_of w = record { stand = stand_of w; queue = w.own.setups }

abbrev pub held_on : Change → Held → Held
held_on (bus s) k = k
held_on (ran e r n) k = k
held_on (lost n) k = k
held_on (count c n) k = k
held_on (timers ts) k = k
held_on (port (Part.uf n)) k = record { stand = record { phase = k.stand.phase; on = k.stand.on; waiting = k.stand.waiting; uf = n; t = k.stand.t; gone = k.stand.gone; suspended = k.stand.suspended; was_running = k.stand.was_running }; queue = k.queue }
held_on (port (Part.phase p)) k = record { stand = record { phase = p; on = k.stand.on; waiting = k.stand.waiting; uf = k.stand.uf; t = k.stand.t; gone = k.stand.gone; suspended = k.stand.suspended; was_running = k.stand.was_running }; queue = k.queue }
held_on (port (Part.started n)) k = record { stand = record { phase = k.stand.phase; on = k.stand.on; waiting = k.stand.waiting; uf = k.stand.uf; t = n; gone = k.stand.gone; suspended = k.stand.suspended; was_running = k.stand.was_running }; queue = k.queue }
held_on (port (Part.gone b)) k = record { stand = record { phase = k.stand.phase; on = k.stand.on; waiting = k.stand.waiting; uf = k.stand.uf; t = k.stand.t; gone = b; suspended = k.stand.suspended; was_running = k.stand.was_running }; queue = k.queue }
held_on (port (Part.suspended b)) k = record { stand = record { phase = k.stand.phase; on = k.stand.on; waiting = k.stand.waiting; uf = k.stand.uf; t = k.stand.t; gone = k.stand.gone; suspended = b; was_running = k.stand.was_running }; queue = k.queue }
held_on (port (Part.was_running b)) k = record { stand = record { phase = k.stand.phase; on = k.stand.on; waiting = k.stand.waiting; uf = k.stand.uf; t = k.stand.t; gone = k.stand.gone; suspended = k.stand.suspended; was_running = b }; queue = k.queue }
held_on (audio c) k = k
held_on (request (Part.control c)) k = record { stand = record { phase = k.stand.phase; on = c.on; waiting = k.stand.waiting; uf = k.stand.uf; t = k.stand.t; gone = k.stand.gone; suspended = k.stand.suspended; was_running = k.stand.was_running }; queue = k.queue }
held_on (request (Part.queued bs)) k = record { stand = record { phase = k.stand.phase; on = k.stand.on; waiting = k.stand.waiting + length bs / 8; uf = k.stand.uf; t = k.stand.t; gone = k.stand.gone; suspended = k.stand.suspended; was_running = k.stand.was_running }; queue = sets k.queue (8 * k.stand.waiting) bs }
held_on (request Part.popped) k = record { stand = record { phase = k.stand.phase; on = k.stand.on; waiting = k.stand.waiting - 1; uf = k.stand.uf; t = k.stand.t; gone = k.stand.gone; suspended = k.stand.suspended; was_running = k.stand.was_running }; queue = drained k.queue (8 * k.stand.waiting) 8 }
held_on (request (Part.pushed bs)) k = record { stand = record { phase = k.stand.phase; on = k.stand.on; waiting = k.stand.waiting + 1; uf = k.stand.uf; t = k.stand.t; gone = k.stand.gone; suspended = k.stand.suspended; was_running = k.stand.was_running }; queue = sets k.queue 0 (bs ++ take (8 * k.stand.waiting) k.queue) }
held_on (request Part.cleared) k = record { stand = record { phase = k.stand.phase; on = k.stand.on; waiting = 0; uf = k.stand.uf; t = k.stand.t; gone = k.stand.gone; suspended = k.stand.suspended; was_running = k.stand.was_running }; queue = k.queue }
held_on (request (Part.reply n bs)) k = k
held_on (request (Part.device bs)) k = k
held_on (request (Part.config bs)) k = k
held_on (request Part.forgot) k = k
held_on (stream c) k = k

pub held_apply : (c : Change) (w : World) → held_of (apply c w) ≡ held_on c (held_of w)
unfolding apply
held_apply (bus s) w = refl
held_apply (ran e r n) w = refl
held_apply (lost n) w = refl
held_apply (count c n) w = refl
held_apply (timers ts) w = refl
held_apply (port (Part.uf n)) w = refl
held_apply (port (Part.phase p)) w = refl
held_apply (port (Part.started n)) w = refl
held_apply (port (Part.gone b)) w = refl
held_apply (port (Part.suspended b)) w = refl
held_apply (port (Part.was_running b)) w = refl
held_apply (audio c) w = ap held_of (audio_beside c w)
held_apply (request (Part.control c)) w = refl
held_apply (request (Part.queued bs)) w = refl
held_apply (request Part.popped) w = refl
held_apply (request (Part.pushed bs)) w = refl
held_apply (request Part.cleared) w = refl
held_apply (request (Part.reply n bs)) w = refl
held_apply (request (Part.device bs)) w = refl
held_apply (request (Part.config bs)) w = refl
held_apply (request Part.forgot) w = refl
held_apply (stream c) w = ap held_of (stream_beside c w)

abbrev pub held : Fields Held
held =
    record {
      of = held_of;
      on = held_on;
      applies = held_apply;
      stores = λ s k. refl;
      marks = λ e n m k. refl;
      drops = λ n k. refl;
    }
