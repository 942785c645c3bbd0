-- `usbhost::give_passes` meets its contract.
use Rattle.std.proofs.Common.{refl}
use Rattle.std.proofs.lemmas.Result.{err_from_is_err_and}
use Rattle.refusal.specs.declared.Refusal.TheVariants.{Space}
use Rattle.usbhost.proofs.Laws.{passed, failed, refused, tested}
use Rattle.usbhost.proofs.Outcomes.{give_asks, give_rest}
use Rattle.usbhost.proofs.give_passes.Goals as goal

pub returns-in_err-passes : goal.returns-in_err-passes
returns-in_err-passes c =
    let a = c.args in
    let p = err_from_is_err_and c.from_residual-in_err-passes.result c.from_residual-in_err-passes.ensures.1 in
    let two = rw c.sending_length-right.ensures at (passed _ _ _ c.in_ok-unless.ensures) in
    rw (p.1, p.2) (give_asks a.parts.state a.parts.spans a.parts.packers a.parts.setups.now a.frame.now a.sending.now two c.in_err-passes.ensures (refused _))

pub returns-in_err-unless-2 : goal.returns-in_err-unless-2
returns-in_err-unless-2 c =
    let a = c.args in
    let p = err_from_is_err_and c.from_residual-in_err-unless-2.result c.from_residual-in_err-unless-2.ensures.1 in
    let two = rw c.sending_length-right.ensures at (passed _ _ _ c.in_ok-unless.ensures) in
    let f = failed _ _ _ c.in_err-unless-2.ensures in
    let outside = rw c.ring_ok.ensures at f.0 in
    rw (p.1, p.2, f.1, give_rest a.parts.state a.parts.spans a.parts.packers a.parts.setups.now a.frame.now a.sending.now two c.in_ok-passes.ensures refl) (simp outside)

pub returns : goal.returns
returns c =
    let a = c.args in
    let two = rw c.sending_length-right.ensures at (passed _ _ _ c.in_ok-unless.ensures) in
    let inside = rw c.ring_ok.ensures at (passed _ _ _ c.in_ok-unless-2.ensures) in
    rw (c.unless-3.ensures, tested _ Space, give_rest a.parts.state a.parts.spans a.parts.packers a.parts.setups.now a.frame.now a.sending.now two c.in_ok-passes.ensures refl) (simp inside)
