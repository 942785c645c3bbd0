-- `usbhost::give_frame` meets its contract.
use Rattle.std.proofs.Common.{refl, arith}
use Rattle.std.proofs.lemmas.Result.{err_from_is_err_and}
use Rattle.usbhost.proofs.Laws.{refused}
use Rattle.usbhost.proofs.Outcomes.{gives, newest_inside, give_stops, give_goes}
use Rattle.usbhost.proofs.give_frame.Goals as goal

pub returns-in_err-give_passes : goal.returns-in_err-give_passes
returns-in_err-give_passes c =
    let a = c.args in
    let p = err_from_is_err_and c.from_residual.result c.from_residual.ensures.1 in
    rw (p.1, p.2) (give_stops a.parts.state a.parts.spans a.parts.packers a.parts.setups.now a.frame.now a.sending.now c.in_err-give_passes.ensures (refused _))

pub overflow_add-at : goal.overflow_add-at
overflow_add-at c =
    let a = c.args in
    let g = gives a.parts.state a.parts.spans a.parts.packers a.parts.setups.now a.frame.now a.sending.now c.in_ok-give_passes.ensures refl in
    omega (arith, g.inside, g.room, g.most)

pub nonzero_rem-at : goal.nonzero_rem-at
nonzero_rem-at c =
    let a = c.args in
    let g = gives a.parts.state a.parts.spans a.parts.packers a.parts.setups.now a.frame.now a.sending.now c.in_ok-give_passes.ensures refl in
    omega (arith, g.least)

pub overflow_mul-at : goal.overflow_mul-at
overflow_mul-at c =
    let a = c.args in
    let g = gives a.parts.state a.parts.spans a.parts.packers a.parts.setups.now a.frame.now a.sending.now c.in_ok-give_passes.ensures refl in
    omega (arith, newest_inside a.parts.state a.parts.spans a.parts.packers a.parts.setups.now a.frame.now a.sending.now c.in_ok-give_passes.ensures refl, g.most)

pub put_all-requires : goal.put_all-requires
put_all-requires c =
    let a = c.args in
    let g = gives a.parts.state a.parts.spans a.parts.packers a.parts.setups.now a.frame.now a.sending.now c.in_ok-give_passes.ensures refl in
    omega (arith, newest_inside a.parts.state a.parts.spans a.parts.packers a.parts.setups.now a.frame.now a.sending.now c.in_ok-give_passes.ensures refl, g.whole)

pub overflow_add-next : goal.overflow_add-next
overflow_add-next c =
    let a = c.args in
    let g = gives a.parts.state a.parts.spans a.parts.packers a.parts.setups.now a.frame.now a.sending.now c.in_ok-give_passes.ensures refl in
    omega (arith, g.room, g.most)

pub returns : goal.returns
returns c =
    let a = c.args in
    give_goes a.parts.state a.parts.spans a.parts.packers a.parts.setups.now a.frame.now a.sending.now c.in_ok-give_passes.ensures refl _ c.put_all.ensures
