-- The test of the lengths says what dynamic memory's is.
use Rattle.script.proofs.memory.store_line.Goals as goal

pub invariant_of-windows-clause-power : goal.invariant_of-windows-clause-power
invariant_of-windows-clause-power c = c.in-Ok.ensures.fits.0
