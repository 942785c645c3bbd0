-- `usbhost::write_device` meets its contract. Behind the tests the page takes the access.
use Rattle.std.proofs.Common.{refl, ap, ◌∙◌, Ok, Err}
use Rattle.std.proofs.lemmas.Result.{err_from_is_err_and}
use Rattle.usbdev.specs.Access.{writing}
use Rattle.usbdev.specs.Answers.{Written}
use Rattle.usbhost.proofs.Laws.{refused}
use Rattle.usbhost.proofs.Outcomes.{accepts, read_number, write_stops, write_goes}
use Rattle.usbhost.proofs.write_device.Goals as goal

pub returns-in_err-read_device : goal.returns-in_err-read_device
returns-in_err-read_device c =
    let a = c.args in
    let p = err_from_is_err_and c.from_residual.result c.from_residual.ensures.1 in
    rw (p.1, p.2) (write_stops a.parts.state a.parts.spans a.parts.packers a.parts.setups.now a.page.now a.off a.size (read_number a.parts.state a.parts.spans a.parts.packers a.parts.setups.now a.page.now a.off a.size (Err c.in_err-read_device.field-0.0) c.in_err-read_device.ensures) a.v (refused _))

pub returns-in_err-line : goal.returns-in_err-line
unfolding writing
returns-in_err-line c =
    let a = c.args in
    let none = accepts a.parts.state a.parts.spans a.parts.packers a.parts.setups.now a.page.now a.off a.size (read_number a.parts.state a.parts.spans a.parts.packers a.parts.setups.now a.page.now a.off a.size (Ok c.in_ok-read_device.field-0) c.in_ok-read_device.ensures) refl in
    absurd (refused _ (ap (λ (w : Written). w.refusal) c.in_err-line.ensures.0 ∙ none))

pub returns : goal.returns
returns c =
    let a = c.args in
    write_goes a.parts.state a.parts.spans a.parts.packers a.parts.setups.now a.page.now a.off a.size (read_number a.parts.state a.parts.spans a.parts.packers a.parts.setups.now a.page.now a.off a.size (Ok c.in_ok-read_device.field-0) c.in_ok-read_device.ensures) a.v refl _ _ c.in_ok-line.ensures
