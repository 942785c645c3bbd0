-- `usbhost::run_microframe` meets its contract.
use Rattle.std.proofs.Common.{rules, refl, ap, ◌∙◌}
use Rattle.std.proofs.lemmas.Result.{err_from_is_err_and}
use Rattle.refusal.specs.Number.{number}
use Rattle.record.specs.World.{own}
use Rattle.usbhost.proofs.Laws.{failed, passed, refused}
use Rattle.usbhost.proofs.Frame.{frame_unsized, frame_tests, parts_stop, parts_ask, parts_go}
use Rattle.usbhost.proofs.run_microframe.Goals as goal

pub returns-in_err-accept : goal.returns-in_err-accept
returns-in_err-accept c =
    let p = err_from_is_err_and c.from_residual.result c.from_residual.ensures.1 in
    let f = failed _ _ _ c.in_err-accept.ensures.tested in
    rw (p.1, p.2) (parts_stop _ c.args.s.now _ _ _ _ c.unanswered-fresh.ensures (ap number f.1 ∙ frame_unsized c.unanswered-fresh.result _ _ _ _ f.0) (refused _))

pub returns-in_err-microframe_passes : goal.returns-in_err-microframe_passes
returns-in_err-microframe_passes c =
    let p = err_from_is_err_and c.from_residual-in_err-microframe_passes.result c.from_residual-in_err-microframe_passes.ensures.1 in
    rw (p.1, p.2) (parts_stop _ c.args.s.now _ _ _ _ c.unanswered-fresh.ensures (c.in_err-microframe_passes.ensures.number ∙ frame_tests _ _ _ _ _ (passed _ _ _ c.in_ok-accept.ensures.tested)) (refused _))

pub invariant_of-windows-clause-power : goal.invariant_of-windows-clause-power
invariant_of-windows-clause-power c = c.in_ok-accept.ensures.fits.0

pub microframe-requires : goal.microframe-requires
microframe-requires c =
    let a = c.args in
    (parts_ask a.time a.s.now a.c _ (own a.setups.now a.midi.now a.serial.now a.device.now) _ c.unanswered-fresh.ensures (c.in_ok-microframe_passes.ensures.number ∙ frame_tests _ _ _ _ _ (passed _ _ _ c.in_ok-accept.ensures.tested)) refl).1.1

pub returns : goal.returns
returns c =
    parts_go _ c.args.s.now _ _ _ _ c.unanswered-fresh.ensures (c.in_ok-microframe_passes.ensures.number ∙ frame_tests _ _ _ _ _ (passed _ _ _ c.in_ok-accept.ensures.tested)) refl _ c.microframe.ensures.left refl (search rules) (search rules) (search rules)
