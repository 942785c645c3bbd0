-- `framing::stack_step` meets its contract.
use Rattle.bus.specs.Windows.{memory_of}
use Rattle.bus.proofs.Lengths.{sized_of}
use Rattle.record.proofs.Laws.{in_turn, by_true, by_false, unchanged}
use Rattle.framing.specs.Promises.{at_flow}
use Rattle.framing.proofs.stack_step.Goals as goal

pub returns-then-not-device_stack-clause-left : goal.returns-then-not-device_stack-clause-left
returns-then-not-device_stack-clause-left c =
    record { leads = λ w. by_false _ _ _ c.if-not-device_stack.true (unchanged _); sized = sized_of c.args.windows.now }

pub returns-clause-left : goal.returns-clause-left
returns-clause-left c =
    let out = c.midi_out-next in
    record {
      leads =
          λ w. by_true _ _ _ c.if-not-device_stack.false
          (in_turn (out.ensures.left.leads w)
          (c.vendor.ensures.did.leads (at_flow w out.result (memory_of out.new.windows) out.new.midi w.own.serial w.lent.receive w.lent.cables w.lent.received w.lent.sending)));
      sized = c.vendor.ensures.did.sized;
    }
