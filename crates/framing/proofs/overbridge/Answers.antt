-- `framing::overbridge` meets its contract.
use Rattle.std.proofs.Common.{arith}
use Rattle.bus.specs.Windows.{memory_of}
use Rattle.record.proofs.Laws.{in_turn}
use Rattle.model.specs.Microframe.{others}
use Rattle.framing.specs.Promises.{at_flow}
use Rattle.framing.proofs.Steps.{streams_midi, streams_answered}
use Rattle.framing.proofs.overbridge.Goals as goal

pub midi_in-heard-requires : goal.midi_in-heard-requires
midi_in-heard-requires c =
    let e = streams_answered c.args.c _ _ _ _ _ _ _ c.stream-streamed.ensures.left in omega (arith, e, c.requires.1.none)

pub stack_step-requires : goal.stack_step-requires
stack_step-requires c =
    let e = streams_midi c.args.c _ _ _ _ _ _ _ c.stream-streamed.ensures.left in omega (arith, e, c.midi_in-heard.ensures.left.few.midi, c.requires.1.midi)

pub returns-clause-left : goal.returns-clause-left
unfolding others
returns-clause-left c =
    let a = c.args in
    let streamed = c.stream-streamed in
    let heard = c.midi_in-heard in
    record {
      leads =
          λ w. in_turn (streamed.ensures.left.leads (at_flow w a.s (memory_of a.windows.now) a.midi.now w.own.serial a.receive.now a.cables.now a.received.now a.sending.now))
          (in_turn (heard.ensures.left.leads (at_flow w streamed.result (memory_of streamed.new.windows) a.midi.now w.own.serial a.receive.now a.cables.now streamed.new.received a.sending.now))
          (c.stack_step.ensures.left.leads (at_flow w heard.result (memory_of heard.new.windows) a.midi.now w.own.serial heard.new.receive heard.new.cables streamed.new.received a.sending.now)));
      sized = c.stack_step.ensures.left.sized;
    }
