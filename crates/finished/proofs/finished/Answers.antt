-- `finished::finished` meets its contract.
use native.Mathlib.Omega.{arith}
use mathlib.Core.Path.{◌≡◌, refl, sym, ap, ◌∙◌}
use Rattle.record.specs.declared.State.{State}
use Rattle.finished.proofs.Laws.{device_finished, other_finished, configuration_finished, nothing_finished}
use Rattle.finished.proofs.finished.Goals as goal

pub returns-then-asks_for : goal.returns-then-asks_for
returns-then-asks_for c =
    let got : c.args.s.control.got ≡ c.ended-next.result.control.got = ap (λ (x : State). x.control.got) (sym c.ended-next.ensures) in
    device_finished c.args.device_stack c.args.s c.args.setups.now c.args.device.now c.args.reply.now c.args.config.now c.ended-next.ensures (sym c.asks_for.ensures ∙ c.if-asks_for.true) (omega (arith, got)) (rw (← got) refl, rw (← got) c.keep.ensures)

pub returns-then-asks_for-2 : goal.returns-then-asks_for-2
returns-then-asks_for-2 c =
    let a = c.args in
    other_finished a.device_stack a.s a.setups.now a.device.now a.reply.now a.config.now c.ended-next.ensures (sym c.asks_for.ensures ∙ c.if-asks_for.false)
    (configuration_finished a.device_stack a.s a.setups.now a.device.now a.reply.now a.config.now c.ended-next.ensures (sym c.asks_for-2.ensures ∙ c.if-asks_for-2.true) (c.configuration.ensures a.device.now))

pub returns : goal.returns
returns c =
    let a = c.args in
    other_finished a.device_stack a.s a.setups.now a.device.now a.reply.now a.config.now c.ended-next.ensures (sym c.asks_for.ensures ∙ c.if-asks_for.false)
    (nothing_finished a.device_stack a.s a.setups.now a.device.now a.reply.now a.config.now c.ended-next.ensures (sym c.asks_for-2.ensures ∙ c.if-asks_for-2.false))
