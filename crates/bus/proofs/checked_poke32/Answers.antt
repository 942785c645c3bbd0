-- `bus::checked_poke32` meets its contract. Assumes nothing.
use Rattle.bus.proofs.checked_poke32.Goals as goal

pub invariant_of-windows-clause-power : goal.invariant_of-windows-clause-power
invariant_of-windows-clause-power c = c.in_ok-accept.ensures.fits.0
