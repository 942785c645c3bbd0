-- `frames::connected` meets its contract.
use Rattle.bus.proofs.Lengths.{sized_of}
use Rattle.frames.proofs.Kept.{going_frame}
use Rattle.frames.proofs.Steps.{bounded_of, flows_control, talks_off, talks_goes}
use Rattle.frames.proofs.connected.Goals as goal

pub returns-then-not-running-clause-left : goal.returns-then-not-running-clause-left
returns-then-not-running-clause-left c = talks_off _ _ _ _ _ _ c.if-not-running.true (sized_of c.args.windows.now)

pub control-next-requires : goal.control-next-requires
control-next-requires c =
    let a = c.args in
    let g = going_frame a.c a.areas.now.sending.now _ _ _ _ c.start_of_frame-started.ensures c.requires in
    (bounded_of _ g.asks, (a.areas.now.reply_long, a.areas.now.config_long))

pub streaming-requires : goal.streaming-requires
streaming-requires c =
    let a = c.args in
    let g = going_frame a.c a.areas.now.sending.now _ _ _ _ c.start_of_frame-started.ensures c.requires in
    ((a.areas.now.receive_long, a.areas.now.cables_long), flows_control a.c a.areas.now.sending.now a.c.device_stack _ _ _ _ _ _ _ _ _ _ _ _ c.control-next.ensures.left g.flows)

pub returns-clause-left : goal.returns-clause-left
returns-clause-left c = talks_goes _ _ _ _ _ _ c.if-not-running.false _ _ c.start_of_frame-started.ensures _ _ _ _ _ _ c.control-next.ensures.left _ _ _ _ _ _ _ c.streaming.ensures.left
