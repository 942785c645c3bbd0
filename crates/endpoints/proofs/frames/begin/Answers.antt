-- The page keeps its length.
use Rattle.std.proofs.Common.{◌∙◌, arith}
use Rattle.bus.specs.Steps.{and_then}
use Rattle.bus.proofs.Lengths.{sized_of}
use Rattle.usbdev.specs.Registers.{raising, setting, following}
use Rattle.usbdev.proofs.Laws.{does_page}
use Rattle.endpoints.proofs.frames.begin.Goals as goal

pub invariant_of-windows-clause-page_length : goal.invariant_of-windows-clause-page_length
unfolding and_then setting following
invariant_of-windows-clause-page_length c =
    let z = sized_of c.args.windows.now in
    (does_page (raising 0x80) c.args.windows.now.dynamic.now c.args.windows.now.sram.now c.put_at.new.s c.raise.new.page c.args.flag c.raise.result (omega arith, tt) c.raise.ensures
    (record { dynamic_length = z.dynamic_length; sram_length = z.sram_length; page_length = c.put_at.auto.s ∙ z.page_length })).sized.page_length
