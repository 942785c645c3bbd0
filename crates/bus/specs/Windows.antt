-- What the windows hold, and that a call keeps the three references.
use Rattle.std.specs.Prelude.{◌≡◌, true, false, Result, Ok, Err}
use Rattle.refusal.specs.declared.Refusal.{Refusal}
use Rattle.refusal.specs.declared.Refusal.TheVariants.{Windows as Refusal·Windows}
use Rattle.bus.specs.Memory.{Memory, memory}
use Rattle.bus.specs.Sized.{is_sized}
use Rattle.bus.specs.declared.windows.Windows.{Windows}
use Rattle.bus.specs.declared.windows.View.{View}

-- the bytes that a view shows
abbrev pub viewed : View → Memory
viewed v = memory v.dynamic.now v.sram.now v.page.now

-- the bytes that the windows hold
abbrev pub memory_of : Windows → Memory
memory_of w = memory w.dynamic.now w.sram.now w.page.now

-- the same three references: what the windows hold at last, their lender holds
pub record SameWindows (w w' : Windows) : Type 0 where
  pub dynamic : w'.dynamic.ghost_name ≡ w.dynamic.ghost_name
  pub sram : w'.sram.ghost_name ≡ w.sram.ghost_name
  pub page : w'.page.ghost_name ≡ w.page.ghost_name

-- a view of memory whose lengths are accepted, or number 1
abbrev pub Views : Memory → Result View Refusal → Type 0
Views m (Ok v) = (is_sized m ≡ true) × (viewed v ≡ m)
Views m (Err r) = (is_sized m ≡ false) × (r ≡ Refusal·Windows)
