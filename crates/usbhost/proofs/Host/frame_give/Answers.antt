-- `usbhost::Host::frame_give` meets its contract.
use Rattle.std.proofs.Common.{refl}
use Rattle.std.proofs.lemmas.Result.{err_from_is_err_and}
use Rattle.usbhost.specs.Calls.{given}
use Rattle.usbhost.proofs.Laws.{sent_refused}
use Rattle.usbhost.proofs.Entries.{give_entry}
use Rattle.usbhost.proofs.Host.frame_give.Goals as goal

pub returns-in_err-state : goal.returns-in_err-state
unfolding given
returns-in_err-state c =
    let a = c.args in
    let p = err_from_is_err_and c.from_residual.result c.from_residual.ensures.1 in
    let entry = give_entry a.self c.state.ensures a.frame.now a.sending.now _ _ c.in_err-state.ensures refl in
    rw (p.1, p.2) (sent_refused _ _ _ entry.0, entry.1)

pub returns : goal.returns
returns c =
    let a = c.args in
    give_entry a.self c.state.ensures a.frame.now a.sending.now _ _ c.in_ok-state.ensures c.with_state.ensures
