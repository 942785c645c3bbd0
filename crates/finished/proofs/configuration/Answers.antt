-- `finished::configuration` meets its contract.
use native.Mathlib.Omega.{arith}
use mathlib.Core.Path.{refl}
use Rattle.finished.proofs.Laws.{config_kept, by_header, by_whole, with_stack_lem, without_stack}
use Rattle.finished.proofs.configuration.Goals as goal

pub returns-then-s-eq-HEADER : goal.returns-then-s-eq-HEADER
returns-then-s-eq-HEADER c d = by_header c.args.device_stack c.if-s-eq-HEADER.true (c.ask_whole.ensures d c.args.config.now)

pub returns-then-device_stack : goal.returns-then-device_stack
returns-then-device_stack c d =
    by_whole c.args.device_stack c.if-s-eq-HEADER.false
    (config_kept c.args.s c.args.setups.now d c.args.reply.now c.args.config.now (omega (arith, c.requires)) (refl, c.keep.ensures))
    (with_stack_lem c.args.device_stack c.if-device_stack.true (c.choose.ensures d c.keep.new.descriptor))

pub returns : goal.returns
returns c d =
    by_whole c.args.device_stack c.if-s-eq-HEADER.false
    (config_kept c.args.s c.args.setups.now d c.args.reply.now c.args.config.now (omega (arith, c.requires)) (refl, c.keep.ensures))
    (without_stack c.args.device_stack c.if-device_stack.false (c.fixed_setups.ensures d c.args.reply.now c.keep.new.descriptor))
