-- `bus::View::of` meets its contract. Assumes nothing.
use Rattle.bus.proofs.windows.View.of.Goals as goal

pub invariant_of-result-clause-power : goal.invariant_of-result-clause-power
invariant_of-result-clause-power c = c.in_ok-accept.ensures.fits.0
