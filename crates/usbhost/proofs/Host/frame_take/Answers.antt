-- `usbhost::Host::frame_take` meets its contract.
use Rattle.std.proofs.lemmas.Result.{err_from_is_err_and}
use Rattle.usbhost.proofs.Entries.{take_refused, take_accepted}
use Rattle.usbhost.proofs.Host.frame_take.Goals as goal

pub returns-in_err-taken : goal.returns-in_err-taken
returns-in_err-taken c =
    let a = c.args in
    let p = err_from_is_err_and c.from_residual.result c.from_residual.ensures.1 in
    rw (p.1, p.2) (take_refused a.self c.state.ensures a.received.now _ c.in_err-taken.ensures)

pub returns : goal.returns
returns c =
    let a = c.args in
    take_accepted a.self c.state.ensures a.received.now _ _ c.in_ok-taken.ensures c.with_state.ensures
