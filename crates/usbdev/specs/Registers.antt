-- The register page with the interrupt line's flag, what a step on them does as the list of its stores, the line and `raise`.
use Rattle.std.specs.Prelude.{ℕ, ◌+◌, ◌/◌, ◌^◌, Bool, ◌||◌, List, [], ◌∷◌, map, bit_and}
use Rattle.bits.specs.Word.{set, any}
use Rattle.bus.specs.Stores as S
use Rattle.bus.specs.Steps.{and_then, exec}
use Rattle.bus.specs.Words.{word_at, word_put}
use Rattle.usbdev.specs.Offsets.{BASE, USBSTS, USBINTR, OTGSC}

-- the page, and the flag that the source keeps as `usb_irq`
pub record Registers : Type 0 where
  pub page : List ℕ
  pub line : Bool

abbrev pub registers : List ℕ → Bool → Registers
registers p l = record { page = p; line = l }

-- a word of the page, the line's flag
pub data PageStore : Type 0 where
  put : ℕ → ℕ → PageStore
  irq : Bool → PageStore

unfoldable pub store : PageStore → Registers → Registers
store (put o v) r = registers (word_put r.page o v) r.line
store (irq l) r = registers r.page l

-- the same as a store of the bus
unfoldable pub on_bus : PageStore → S.Store
on_bus (put o v) = S.word (BASE + o) v
on_bus (irq l) = S.irq l

-- what a step does to the registers, and the same step on the bus
abbrev pub PageStep : Type 0
PageStep = Registers → List PageStore

abbrev pub lifted : PageStep → S.BusStep
lifted f b = map on_bus (f (registers b.memory.page b.line))

-- the registers after a step
abbrev pub done : PageStep → Registers → Registers
done f r = exec store f r

infixr 20 ◌then◌
abbrev pub ◌then◌ : PageStep → PageStep → PageStep
f then g = and_then store f g

-- usbhost.rs 163-168: an enabled bit of USBSTS, or an enabled status bit of OTGSC (bits 16 to 22, enabled by 24 to 30)
unfoldable pub line_of : List ℕ → Bool
line_of p =
    any (word_at p USBSTS) (word_at p USBINTR)
    || any (bit_and (word_at p OTGSC / 2 ^ 16) (word_at p OTGSC / 2 ^ 24)) 0x7F

-- the flag follows the line
unfoldable pub following : PageStep
following r = irq (line_of r.page) ∷ []

-- usbhost.rs 170-175: bits of USBSTS are set, and the flag follows
unfoldable pub setting : ℕ → PageStep
setting sts r = put USBSTS (set (word_at r.page USBSTS) sts) ∷ []

abbrev pub raising : ℕ → PageStep
raising sts = setting sts then following
