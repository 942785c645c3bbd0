-- `streams::give` meets its contract.
use mathlib.Core.Bool.{false}
use Rattle.bus.specs.Windows.{memory_of}
use Rattle.bus.proofs.Lengths.{sized_of}
use Rattle.dtd.specs.Dtd.{endpoint}
use Rattle.dtd.proofs.Runs.{single, says, says_found, runs_active}
use Rattle.streams.specs.Promises.{Gives}
use Rattle.streams.proofs.Laws.{served_active, fits_active, units_held}
use Rattle.streams.proofs.give.Goals as goal

pub returns-in-Active-clause-left : goal.returns-in-Active-clause-left
unfolding Gives
returns-in-Active-clause-left c =
    let w = c.args.windows.now in
    let e = endpoint c.args.ep false in
    let at-descriptor = rw (c.find.ensures, c.view.ensures) at c.in-Active.is in
    let is = says_found e (memory_of w) at-descriptor in
    record {
      some = served_active e _ _ c.if-held-eq0.false _ _ _ is;
      fits = fits_active e _ _ _ _ is _ c.args.unit _ c.packet_of.ensures;
      few = units_held _ _ _ c.args.unit c.packet_of.ensures;
      run = runs_active e _ (memory_of w) c.args.line (sized_of w) (single c.args.ep false c.requires.le_ep.0) _ _ _ is _ (says e (memory_of w) at-descriptor).1 (c.send_one-ran.ensures.left c.args.ep);
      queue = c.drain.ensures;
    }
