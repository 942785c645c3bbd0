-- `usbhost::send_midi` meets its contract.
use Rattle.std.proofs.Common.{refl}
use Rattle.std.proofs.lemmas.Result.{err_from_is_err_and}
use Rattle.usbhost.proofs.Laws.{refused}
use Rattle.usbhost.proofs.Outcomes.{midi_stops, midi_full, midi_goes}
use Rattle.usbhost.proofs.send_midi.Goals as goal

pub returns-in_err-cable_passes : goal.returns-in_err-cable_passes
returns-in_err-cable_passes c =
    let a = c.args in
    let p = err_from_is_err_and c.from_residual.result c.from_residual.ensures.1 in
    rw (p.1, p.2) (midi_stops a.parts.state a.parts.spans a.parts.packers a.cable a.bytes.now a.parts.setups.now a.midi.now c.in_err-cable_passes.ensures (refused _))

pub returns-in_err-sent : goal.returns-in_err-sent
returns-in_err-sent c =
    let a = c.args in
    let p = err_from_is_err_and c.from_residual-in_err-sent.result c.from_residual-in_err-sent.ensures.1 in
    let sent = rw c.from-place.ensures at c.in_err-sent.ensures in
    rw (p.1, p.2) (midi_full a.parts.state a.parts.spans a.parts.packers a.cable a.bytes.now a.parts.setups.now a.midi.now c.in_ok-cable_passes.ensures refl _ _ sent)

pub returns : goal.returns
returns c =
    let a = c.args in
    let sent = rw c.from-place.ensures at c.in_ok-sent.ensures in
    rw c.from-place.ensures (midi_goes a.parts.state a.parts.spans a.parts.packers a.cable a.bytes.now a.parts.setups.now a.midi.now c.in_ok-cable_passes.ensures refl _ _ sent)
