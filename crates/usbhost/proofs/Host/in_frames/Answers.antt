-- `usbhost::Host::in_frames` meets its contract.
use mathlib.Core.Path.{sym}
use Rattle.record.proofs.Counters.{counter_element}
use Rattle.usbhost.proofs.Host.in_frames.Goals as goal

pub returns : goal.returns
returns c = sym (counter_element 3 c.args.self.stats)
