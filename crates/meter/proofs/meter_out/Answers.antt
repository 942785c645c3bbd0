-- `meter::meter_out` meets its contract.
use Rattle.std.proofs.Common.{◌≡◌, ℕ, Bool, List, Ok, rules, ap, arith}
use Rattle.bus.specs.Checked.{poked_of}
use Rattle.bus.specs.Memory.{Memory}
use Rattle.bus.specs.Steps.{exec}
use Rattle.bus.specs.Stores.{bus, store}
use Rattle.transfer.specs.Transfer.{pointers_for}
use Rattle.transfer.specs.Checked.{checked_sending, sent}
use Rattle.transfer.proofs.Checked.{sent_out}
use Rattle.meter.specs.Meter.{metering, answered, packed}
use Rattle.meter.proofs.meter_out.Goals as goal

pub invariant_of-view-clause-power : goal.invariant_of-view-clause-power
invariant_of-view-clause-power c = c.in_default.ensures.windows.0

pub invariant_of-windows-clause-power : goal.invariant_of-windows-clause-power
invariant_of-windows-clause-power c = c.in_default.ensures.windows.0

-- a move out with the pointers that were read, in one word
metered_out : (td : ℕ) (s : List ℕ) (n : ℕ) (k : Memory) {k' : Memory} {ps : List ℕ} {lost : ℕ} → ps ≡ pointers_for k td n
    → (poked_of (Ok lost) ≡ sent k ps s n) × ((l : Bool) → bus k' l ≡ exec store (checked_sending ps s n) (bus k l))
    → (lost ≡ answered k td s n) × ((l : Bool) → bus k' l ≡ exec store (metering td s n) (bus k l))
unfolding metering answered packed
metered_out td s n k e h = simp (← e) (omega (arith, ap packed h.0), h.1)

pub returns : goal.returns
returns c =
    metered_out _ _ _ _ (search rules) (sent_out _ _ _ c.in_default.ensures.number (search rules) (search rules) c.copy_out.ensures.left)
