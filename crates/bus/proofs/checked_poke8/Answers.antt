-- `bus::checked_poke8` meets its contract. Assumes nothing.
use Rattle.bus.proofs.checked_poke8.Goals as goal

pub invariant_of-windows-clause-power : goal.invariant_of-windows-clause-power
invariant_of-windows-clause-power c = c.in_ok-accept.ensures.fits.0
