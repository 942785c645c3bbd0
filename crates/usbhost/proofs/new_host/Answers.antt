-- `usbhost::new_host` meets its contract.
use Rattle.usbhost.specs.Host.{new_host}
use Rattle.usbhost.proofs.new_host.Goals as goal

pub returns : goal.returns
unfolding new_host
returns c = rw (c.new.ensures, c.new_state-s.ensures)
