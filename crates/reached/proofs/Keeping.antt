-- The timers and the transfers leave the way of a host to its stream alone.
use Prim.Native.Nat.{ℕ}
use mathlib.Core.Path.{refl}
use Rattle.record.specs.declared.Settings.{Settings}
use Rattle.model.specs.Phases.{ticks, sleeps, starts_frame}
use Rattle.model.specs.Microframe.{transfers}
use Rattle.model.proofs.Fields.{Keeps}
use Rattle.model.proofs.Leaving as L
use Rattle.model.proofs.Leaving.{Untouched}
use Rattle.reached.proofs.Standing.{held}

pub keeps_ticks : Keeps held ticks
keeps_ticks = L.keeps_ticks held (λ ts k. refl)

pub keeps_sleeps : Keeps held sleeps
keeps_sleeps = L.keeps_sleeps held (λ n k. refl)

pub keeps_frame : Keeps held starts_frame
keeps_frame = L.keeps_frame held

untouched : Untouched held
untouched =
    record {
      counts = λ c n k. refl;
      credits = λ n k. refl;
      budgets = λ n k. refl;
      counters = λ n k. refl;
      midis = λ n k. refl;
      serials = λ n k. refl;
      receives = λ bs k. refl;
      cables = λ cs k. refl;
      frames = λ f k. refl;
      takes = λ n k. refl;
    }

pub keeps_transfers : (c : Settings) (t : ℕ) → Keeps held (transfers c t)
keeps_transfers = L.keeps_transfers held untouched
