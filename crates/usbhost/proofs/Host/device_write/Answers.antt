-- `usbhost::Host::device_write` meets its contract.
use Rattle.std.proofs.Common.{refl}
use Rattle.std.proofs.lemmas.Result.{err_from_is_err_and}
use Rattle.usbhost.specs.Calls.{device_written}
use Rattle.usbhost.proofs.Laws.{sent_refused}
use Rattle.usbhost.proofs.Entries.{write_entry}
use Rattle.usbhost.proofs.Host.device_write.Goals as goal

pub returns-in_err-state : goal.returns-in_err-state
unfolding device_written
returns-in_err-state c =
    let a = c.args in
    let p = err_from_is_err_and c.from_residual.result c.from_residual.ensures.1 in
    let entry = write_entry a.self c.state.ensures a.page.now a.off a.size a.v _ _ c.in_err-state.ensures refl in
    rw (p.1, p.2) (sent_refused _ _ _ entry.0, entry.1)

pub returns : goal.returns
returns c =
    let a = c.args in
    write_entry a.self c.state.ensures a.page.now a.off a.size a.v _ _ c.in_ok-state.ensures c.with_state.ensures
