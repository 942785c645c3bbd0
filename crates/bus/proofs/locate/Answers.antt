-- `bus::locate` meets its contract: a mask of a power of two is a remainder, which leaves room for the rest of a page.
use Rattle.bus.proofs.Pages.{dynamic_fits}
use Rattle.bus.proofs.locate.Goals as goal

pub returns-then-a-lt2147483648-clause-fits : goal.returns-then-a-lt2147483648-clause-fits
returns-then-a-lt2147483648-clause-fits c = dynamic_fits c.requires _
