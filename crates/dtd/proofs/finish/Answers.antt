-- `dtd::finish` meets its contract. Assumes nothing.
use Rattle.std.proofs.Common.{◌≡◌, ℕ, ◌+◌, Bool, refl, ap₂, arith}
use Rattle.bus.specs.Windows.{memory_of}
use Rattle.bus.specs.Stores.{bus}
use Rattle.bus.proofs.Storing.{does_then, does_as, does_counted}
use Rattle.dtd.specs.Dtd.{settling, finishing}
use Rattle.dtd.proofs.finish.Goals as goal

pub returns-clause-left : goal.returns-clause-left
unfolding finishing
returns-clause-left c =
    let b = bus (memory_of c.retire-retired.new.windows) c.args.flag in
    let said = ap₂ (λ (x : ℕ) (y : Bool). settling c.args.descriptor.bit x y b) (c.retire-retired.ensures.left.next c.args.flag) c.any-completed.ensures in
    let none : c.retire-retired.result.dropped + 0 ≡ c.retire-retired.result.dropped = omega arith in
    record {
      does = does_as refl (does_counted none (does_then (c.retire-retired.ensures.left.does c.args.flag) (does_as said c.settle-line.ensures)));
      done = c.any-completed.ensures;
      few = c.retire-retired.ensures.left.few;
    }
