-- `dtd::settle` meets its contract. Assumes nothing.
use Rattle.std.proofs.Common.{rules}
use Rattle.bus.proofs.Sizes.{is_power_lem}
use Rattle.dtd.proofs.Laws.{settle_steps}
use Rattle.dtd.proofs.settle.Goals as goal

pub returns : goal.returns
returns c =
    settle_steps c.args.bit c.args.n c.args.completed
    (record { dynamic_length = is_power_lem _ c.requires; sram_length = search rules; page_length = search rules })
    c.list_ends-ends.ensures c.unprime.ensures c.report.ensures
