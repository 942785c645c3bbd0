-- `usbhost::Host::device_read` meets its contract.
use Rattle.usbhost.proofs.Entries.{read_answer}
use Rattle.usbhost.proofs.Host.device_read.Goals as goal

pub returns : goal.returns
returns c =
    let a = c.args in
    read_answer a.self c.state.ensures a.page.now a.off a.size _ c.read_device.ensures
