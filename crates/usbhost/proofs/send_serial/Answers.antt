-- `usbhost::send_serial` meets its contract.
use Rattle.std.proofs.Common.{refl, arith}
use Rattle.std.proofs.lemmas.Result.{err_from_is_err_and}
use borrow.Author.Tests.{leb-true, leb-false}
use Rattle.usbhost.proofs.Laws.{refused, failed, passed}
use Rattle.usbhost.proofs.Outcomes.{serial_few, serial_stops, serial_full, serial_goes}
use Rattle.usbhost.proofs.send_serial.Goals as goal

pub returns-in_err-passes : goal.returns-in_err-passes
returns-in_err-passes c =
    let a = c.args in
    let p = err_from_is_err_and c.from_residual.result c.from_residual.ensures.1 in
    rw (p.1, p.2) (serial_stops a.parts.state a.parts.spans a.parts.packers a.bytes.now a.parts.setups.now a.serial.now c.in_err-passes.ensures (refused _))

pub overflow_sub-held : goal.overflow_sub-held
overflow_sub-held c =
    let a = c.args in
    omega (arith, serial_few a.parts.state a.parts.spans a.parts.packers a.bytes.now a.parts.setups.now a.serial.now c.in_ok-passes.ensures refl)

pub returns-in_err-unless : goal.returns-in_err-unless
returns-in_err-unless c =
    let a = c.args in
    let few = serial_few a.parts.state a.parts.spans a.parts.packers a.bytes.now a.parts.setups.now a.serial.now c.in_ok-passes.ensures refl in
    let p = err_from_is_err_and c.from_residual-in_err-unless.result c.from_residual-in_err-unless.ensures.1 in
    let f = failed _ _ _ c.in_err-unless.ensures in
    let more = leb-false _ _ f.0 in
    rw (p.1, p.2, f.1) (serial_full a.parts.state a.parts.spans a.parts.packers a.bytes.now a.parts.setups.now a.serial.now c.in_ok-passes.ensures refl (omega (arith, few, more)))

pub put_all-requires : goal.put_all-requires
put_all-requires c =
    let a = c.args in
    let few = serial_few a.parts.state a.parts.spans a.parts.packers a.bytes.now a.parts.setups.now a.serial.now c.in_ok-passes.ensures refl in
    let room = leb-true _ _ (passed _ _ _ c.in_ok-unless.ensures) in
    omega (arith, few, room)

pub returns : goal.returns
returns c =
    let a = c.args in
    let few = serial_few a.parts.state a.parts.spans a.parts.packers a.bytes.now a.parts.setups.now a.serial.now c.in_ok-passes.ensures refl in
    let room = leb-true _ _ (passed _ _ _ c.in_ok-unless.ensures) in
    serial_goes a.parts.state a.parts.spans a.parts.packers a.bytes.now a.parts.setups.now a.serial.now c.in_ok-passes.ensures refl (omega (arith, few, room)) _ c.put_all.ensures
