-- `usbhost::Host::serial_send` meets its contract.
use Rattle.std.proofs.Common.{refl}
use Rattle.std.proofs.lemmas.Result.{err_from_is_err_and}
use Rattle.usbhost.specs.Calls.{serial_sent}
use Rattle.usbhost.proofs.Laws.{sent_refused}
use Rattle.usbhost.proofs.Entries.{serial_entry}
use Rattle.usbhost.proofs.Host.serial_send.Goals as goal

pub returns-in_err-state : goal.returns-in_err-state
unfolding serial_sent
returns-in_err-state c =
    let a = c.args in
    let p = err_from_is_err_and c.from_residual.result c.from_residual.ensures.1 in
    rw (p.1, p.2) (sent_refused _ _ _ (serial_entry a.self c.state.ensures a.bytes.now _ _ c.in_err-state.ensures refl))

pub returns : goal.returns
returns c =
    let a = c.args in
    serial_entry a.self c.state.ensures a.bytes.now _ _ c.in_ok-state.ensures c.with_state.ensures
