-- `framing::streaming` meets its contract.
use Rattle.std.proofs.Common.{ap}
use Rattle.bus.specs.Windows.{memory_of}
use Rattle.bus.proofs.Lengths.{sized_of}
use Rattle.record.proofs.Laws.{by_true, by_false, unchanged}
use Rattle.model.specs.Microframe.{streaming, transfers}
use Rattle.framing.specs.Promises.{at_flow}
use Rattle.framing.proofs.Steps.{not_streaming}
use Rattle.framing.proofs.streaming.Goals as goal

pub returns-in_default-clause-left : goal.returns-in_default-clause-left
unfolding transfers
returns-in_default-clause-left c =
    record {
      leads = λ w. by_false _ _ _ (not_streaming c.args.s.phase c.in_default.not-Stream) (unchanged _);
      sized = sized_of c.args.windows.now;
    }

pub returns-then-c-clause-left : goal.returns-then-c-clause-left
unfolding transfers
returns-then-c-clause-left c =
    let a = c.args in
    let served = c.serial_step.ensures.left in
    record {
      leads =
          λ w. by_true _ _ _ (ap streaming c.in-Stream.is)
          (by_true _ _ _ c.if-c.true (served.leads (at_flow w a.s (memory_of a.windows.now) a.midi.now a.serial.now a.receive.now a.cables.now a.received.now a.sending.now)));
      sized = served.sized;
    }

pub returns-clause-left : goal.returns-clause-left
unfolding transfers
returns-clause-left c =
    let a = c.args in
    let bridged = c.overbridge.ensures.left in
    record {
      leads =
          λ w. by_true _ _ _ (ap streaming c.in-Stream.is)
          (by_false _ _ _ c.if-c.false (bridged.leads (at_flow w a.s (memory_of a.windows.now) a.midi.now a.serial.now a.receive.now a.cables.now a.received.now a.sending.now)));
      sized = bridged.sized;
    }
