-- Where a run may store: data bytes, two words of a descriptor, three words of its queue head, three registers, and the line's flag.
use Rattle.std.specs.Prelude.{ℕ, ◌+◌, Bool, List, [], ◌∷◌}
use Rattle.bus.specs.Memory.{after}
use Rattle.bus.specs.Stores.{Store, word, byte, irq}
use Rattle.usbdev.specs.Offsets.{BASE, USBSTS, EPSR, EPCOMPLETE}
use Rattle.dtd.specs.Dtd.{descriptor}

-- a store of a run whose queue head is at qh
pub data May (qh : ℕ) : Store → Type 0 where
  data_byte : (a v : ℕ) → May qh (byte a v)
  token : (n v : ℕ) → May qh (word (after (descriptor n) 4) v)
  frame : (n v : ℕ) → May qh (word (after (descriptor n) 12) v)
  current : (v : ℕ) → May qh (word (after qh 4) v)
  next : (v : ℕ) → May qh (word (after qh 8) v)
  copy : (v : ℕ) → May qh (word (after qh 12) v)
  completed : (v : ℕ) → May qh (word (BASE + EPCOMPLETE) v)
  unprimed : (v : ℕ) → May qh (word (BASE + EPSR) v)
  raised : (v : ℕ) → May qh (word (BASE + USBSTS) v)
  line : (l : Bool) → May qh (irq l)

-- every store of a list
unfoldable pub All : (Store → Type 0) → List Store → Type 0
All P [] = Unit {0}
All P (s ∷ ss) = P s × All P ss
