-- `dtd::advance` meets its contract. Assumes nothing.
use Rattle.std.proofs.Common.{false}
use Rattle.dtd.proofs.Laws.{complete_steps}
use Rattle.dtd.proofs.advance.Goals as goal

pub invariant_of-windows-clause-page_length : goal.invariant_of-windows-clause-page_length
invariant_of-windows-clause-page_length c = (complete_steps c.args.descriptor.token c.args.descriptor.bit c.poke32-n1.new.self c.complete.ensures false).sized.page_length
