-- The lengths of windows that are a value, and what the test of them gives.
use Rattle.bus.specs.Sized.{Sized}
use Rattle.bus.specs.Windows.{viewed, memory_of}
use Rattle.bus.specs.declared.windows.Windows.{Windows}
use Rattle.bus.specs.declared.windows.View.{View}
use Rattle.bus.proofs.Sizes.{is_power_lem}

pub sized_of : (w : Windows) → Sized (memory_of w)
sized_of w =
    record { dynamic_length = is_power_lem _ w.power; sram_length = w.sram_length; page_length = w.page_length }

pub sized_view : (v : View) → Sized (viewed v)
sized_view v =
    record { dynamic_length = is_power_lem _ v.power; sram_length = v.sram_length; page_length = v.page_length }
