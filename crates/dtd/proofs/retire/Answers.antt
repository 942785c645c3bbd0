-- `dtd::retire` meets its contract. Assumes nothing.
use Rattle.std.proofs.Common.{ap, ◌∙◌, arith}
use Rattle.bus.specs.Memory.{peek32}
use Rattle.bus.specs.Stores.{Bus}
use Rattle.bus.proofs.Storing.{does_then}
use Rattle.dtd.specs.Dtd.{descriptor, retiring, followed}
use Rattle.dtd.proofs.retire.Goals as goal

pub returns-clause-left : goal.returns-clause-left
unfolding retiring followed
returns-clause-left c =
    record {
      does = λ l. does_then (c.close-n0.ensures.left.0 l) (c.advance-advanced.ensures.left.does l);
      next = λ l. c.advance-advanced.ensures.left.next ∙ ap (λ (b : Bus). peek32 b.memory (descriptor c.args.descriptor.pointer)) (c.close-n0.ensures.left.0 l).is;
      few = omega (arith, c.close-n0.ensures.left.1, c.advance-advanced.ensures.left.few);
    }
