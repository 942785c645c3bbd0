-- Windows of wrong lengths stay as they are.
use Rattle.std.specs.Prelude.{◌≡◌, false}
use Rattle.bus.specs.Memory.{Memory}
use Rattle.bus.specs.Sized.{is_sized}

abbrev pub Unsized : Memory → Memory → Type 0
Unsized old new = is_sized old ≡ false → new ≡ old
