-- `phases::timers` meets its contract.
use Rattle.std.proofs.Common.{ap}
use Rattle.gptimers.specs.declared.Timers.{Timers}
use Rattle.gptimers.specs.Timer.{STEP, ticking_both}
use Rattle.usbdev.specs.Registers.{registers}
use Rattle.record.specs.World.{at_page}
use Rattle.record.specs.Record.{with_timers}
use Rattle.record.specs.Change.{apply}
use Rattle.model.specs.Phases.{ticks}
use Rattle.record.proofs.Laws.{in_turn, once, from_here, on_page_lem}
use Rattle.phases.proofs.Laws.{inside_both}
use Rattle.phases.proofs.timers.Goals as goal

pub returns : goal.returns
unfolding ticks apply
returns c =
    let a = c.args in
    record {
      leads = λ w.
          from_here _ (at_page w a.s a.page.now)
          (in_turn (once _ _ _ (ap (λ (ts : Timers). at_page w (with_timers a.s ts) a.page.now) c.gptimers-both.ensures.1))
          (on_page_lem (ticking_both STEP a.s.timers) w (with_timers a.s c.gptimers-both.result.next) a.page.now _ _ (inside_both STEP a.s.timers (registers a.page.now a.s.port.line)) c.gptimers-both.ensures.0));
    }
