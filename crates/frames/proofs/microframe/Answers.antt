-- `frames::microframe` meets its contract.
use Rattle.bus.proofs.Lengths.{sized_of}
use Rattle.frames.proofs.Kept.{going_opens, going_suspends, going_leaves}
use Rattle.frames.proofs.Steps.{sized_paged, suspended_sleeps, suspended_goes, gone_sleeps, gone_goes, whole_frame}
use Rattle.frames.proofs.microframe.Goals as goal

pub returns-then-gone-clause-left : goal.returns-then-gone-clause-left
returns-then-gone-clause-left c =
    let z = sized_paged c.args.c (sized_of c.args.windows.now) c.opened-opened.ensures in
    whole_frame _ _ _ _ _ c.any-running.result _ (cc) c.any_span-gone.ensures _ _ _ _ _ c.opened-opened.ensures
    (gone_sleeps _ _ _ _ _ _ _ _ c.if-gone.true z _ c.asleep.ensures)

pub returns-then-suspended-clause-left : goal.returns-then-suspended-clause-left
returns-then-suspended-clause-left c =
    let z = sized_paged c.args.c (sized_paged c.args.c (sized_of c.args.windows.now) c.opened-opened.ensures) c.suspend_step-awake.ensures in
    whole_frame _ _ _ _ _ c.any-running.result _ (cc) c.any_span-gone.ensures _ _ _ _ _ c.opened-opened.ensures
    (gone_goes _ _ _ _ _ _ _ _ _ c.if-gone.false c.in_span-suspended.ensures _ _ _ _ _ c.suspend_step-awake.ensures
    (suspended_sleeps _ _ _ _ _ _ _ c.if-suspended.true z _ c.asleep-then-suspended.ensures))

pub by_phase-requires : goal.by_phase-requires
by_phase-requires c =
    let a = c.args in
    let first = going_opens a.c a.areas.now.sending.now _ _ _ _ _ c.opened-opened.ensures c.requires.0.going in
    let second = going_suspends a.c a.areas.now.sending.now _ _ _ _ _ c.suspend_step-awake.ensures first in
    going_leaves a.c a.areas.now.sending.now _ _ a.c.device_stack _ c.left_step-next.ensures second

pub returns-clause-left : goal.returns-clause-left
returns-clause-left c =
    whole_frame _ _ _ _ _ c.any-running.result _ (cc) c.any_span-gone.ensures _ _ _ _ _ c.opened-opened.ensures
    (gone_goes _ _ _ _ _ _ _ _ _ c.if-gone.false c.in_span-suspended.ensures _ _ _ _ _ c.suspend_step-awake.ensures
    (suspended_goes _ _ _ _ _ _ _ c.if-suspended.false _ _ _ _ c.left_step-next.ensures c.by_phase.ensures.left))
