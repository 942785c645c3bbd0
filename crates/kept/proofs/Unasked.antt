-- The steps that leave alone what is asked of the device.
use Prim.Native.Nat.{ℕ}
use mathlib.Core.Path.{refl}
use mathlib.Core.Bool.{Bool, true}
use Rattle.record.specs.declared.Settings.{Settings}
use Rattle.model.specs.Phases.{ticks, cable, sleeps, suspends, starts_frame}
use Rattle.model.specs.Microframe.{transfers}
use Rattle.model.proofs.Fields.{Keeps}
use Rattle.model.proofs.Leaving as L
use Rattle.model.proofs.Leaving.{Untouched}
use Rattle.kept.proofs.Asked.{asked}

pub keeps_ticks : Keeps asked ticks
keeps_ticks = L.keeps_ticks asked (λ ts k. refl)

pub keeps_unplugs : Keeps asked (cable true)
keeps_unplugs = L.keeps_unplugs asked (λ b k. refl)

pub keeps_sleeps : Keeps asked sleeps
keeps_sleeps = L.keeps_sleeps asked (λ n k. refl)

pub keeps_suspends : (s : Bool) → Keeps asked (suspends s)
keeps_suspends = L.keeps_suspends asked (λ b k. refl)

pub keeps_frame : Keeps asked starts_frame
keeps_frame = L.keeps_frame asked

untouched : Untouched asked
untouched =
    record {
      counts = λ c n k. refl;
      credits = λ n k. refl;
      budgets = λ n k. refl;
      counters = λ n k. refl;
      midis = λ n k. refl;
      serials = λ n k. refl;
      receives = λ bs k. refl;
      cables = λ cs k. refl;
      frames = λ f k. refl;
      takes = λ n k. refl;
    }

pub keeps_transfers : (c : Settings) (t : ℕ) → Keeps asked (transfers c t)
keeps_transfers = L.keeps_transfers asked untouched
