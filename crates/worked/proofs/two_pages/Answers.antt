-- `worked::two_pages` meets its contract: the example is a computation.
use Rattle.worked.specs.Pages as P
use Rattle.worked.proofs.two_pages.Goals as goal

pub returns : goal.returns
returns c = P.two_pages
