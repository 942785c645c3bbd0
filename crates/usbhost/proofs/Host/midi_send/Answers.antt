-- `usbhost::Host::midi_send` meets its contract.
use Rattle.std.proofs.Common.{refl}
use Rattle.std.proofs.lemmas.Result.{err_from_is_err_and}
use Rattle.usbhost.specs.Calls.{midi_sent}
use Rattle.usbhost.proofs.Laws.{sent_refused}
use Rattle.usbhost.proofs.Entries.{midi_entry}
use Rattle.usbhost.proofs.Host.midi_send.Goals as goal

pub returns-in_err-sent : goal.returns-in_err-sent
unfolding midi_sent
returns-in_err-sent c =
    let a = c.args in
    let p = err_from_is_err_and c.from_residual.result c.from_residual.ensures.1 in
    rw (p.1, p.2) (sent_refused _ _ _ (midi_entry a.self c.state.ensures a.cable a.bytes.now _ _ c.in_err-sent.ensures refl))

pub returns : goal.returns
returns c =
    let a = c.args in
    midi_entry a.self c.state.ensures a.cable a.bytes.now _ _ c.in_ok-sent.ensures c.with_state.ensures
