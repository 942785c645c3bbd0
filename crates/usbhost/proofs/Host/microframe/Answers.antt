-- `usbhost::Host::microframe` meets its contract.
use Rattle.std.proofs.lemmas.Result.{err_from_is_err_and}
use Rattle.usbhost.proofs.Frame.{frame_entry, frame_entry_refused}
use Rattle.usbhost.proofs.Host.microframe.Goals as goal

pub returns-in_err-run_microframe : goal.returns-in_err-run_microframe
returns-in_err-run_microframe c =
    let p = err_from_is_err_and c.from_residual.result c.from_residual.ensures.1 in
    rw (p.1, p.2) (frame_entry_refused _ _ _ c.state-state.ensures _ _ _ c.in_err-run_microframe.ensures)

pub returns : goal.returns
returns c = frame_entry _ _ _ c.state-state.ensures _ _ _ c.in_ok-run_microframe.ensures c.with_state.ensures
