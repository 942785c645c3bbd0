-- `usbhost::take_frame` meets its contract.
use Rattle.std.proofs.Common.{refl, arith}
use Rattle.std.proofs.lemmas.Result.{err_from_is_err_and}
use Rattle.record.specs.Change.{taken_from}
use Rattle.usbhost.proofs.Laws.{refused}
use Rattle.usbhost.proofs.Outcomes.{takes, take_stops, take_empty, take_goes}
use Rattle.usbhost.proofs.take_frame.Goals as goal

pub returns-in_err-take_passes : goal.returns-in_err-take_passes
returns-in_err-take_passes c =
    let a = c.args in
    let p = err_from_is_err_and c.from_residual.result c.from_residual.ensures.1 in
    rw (p.1, p.2) (take_stops a.parts.state a.parts.spans a.parts.packers a.parts.setups.now a.received.now c.in_err-take_passes.ensures (refused _))

pub returns-then-held-eq0 : goal.returns-then-held-eq0
returns-then-held-eq0 c =
    let a = c.args in
    take_empty a.parts.state a.parts.spans a.parts.packers a.parts.setups.now a.received.now c.in_ok-take_passes.ensures refl c.if-held-eq0.true

pub overflow_mul-start : goal.overflow_mul-start
overflow_mul-start c =
    let a = c.args in
    let t = takes a.parts.state a.parts.spans a.parts.packers a.parts.setups.now a.received.now c.in_ok-take_passes.ensures refl in
    omega (arith, t.inside)

pub frame_at-frame-requires : goal.frame_at-frame-requires
frame_at-frame-requires c =
    let a = c.args in
    let t = takes a.parts.state a.parts.spans a.parts.packers a.parts.setups.now a.received.now c.in_ok-take_passes.ensures refl in
    omega (arith, t.inside, t.long)

pub returns : goal.returns
unfolding taken_from
returns c =
    let a = c.args in
    take_goes a.parts.state a.parts.spans a.parts.packers a.parts.setups.now a.received.now c.in_ok-take_passes.ensures refl c.if-held-eq0.false _ c.frame_at-frame.ensures
