-- `framing::opened` meets its contract.
use Rattle.record.specs.World.{at_page}
use Rattle.record.proofs.Laws.{in_turn}
use Rattle.model.specs.Microframe.{opens}
use Rattle.framing.proofs.Steps.{counts_timers}
use Rattle.framing.proofs.opened.Goals as goal

pub ticked-timed-requires : goal.ticked-timed-requires
ticked-timed-requires c = rw (counts_timers c.args.c _ _ c.counts-counted.ensures) c.requires

pub returns : goal.returns
unfolding opens
returns c =
    record {
      leads = λ w. in_turn (c.counts-counted.ensures.leads (at_page w c.args.s c.args.page.now)) (in_turn (c.ticked-timed.ensures.leads w) (c.gone_step.ensures.leads w));
    }
