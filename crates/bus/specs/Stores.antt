-- The bus as the host uses it, and what a step on it does: the list of its stores, in order (document 01, "Host record": the second definition).
use Rattle.std.specs.Prelude.{◌≡◌, ℕ, ◌+◌, Bool, List, [], ◌∷◌, ◌++◌}
use Rattle.std.proofs.Common.{arith}
use Rattle.bits.specs.Pick.{pick}
use Rattle.bus.specs.Memory.{Memory, poke8, poke32, dropped8, dropped32}
use Rattle.bus.specs.Sized.{Sized}
use Rattle.bus.specs.Steps.{replay, replay_append, exec, and_then}

-- the windows, and the interrupt line's flag (`usb_irq`)
pub record Bus : Type 0 where
  pub memory : Memory
  pub line : Bool

abbrev pub bus : Memory → Bool → Bus
bus m l = record { memory = m; line = l }

-- a word, a byte, the line's flag
pub data Store : Type 0 where
  word : ℕ → ℕ → Store
  byte : ℕ → ℕ → Store
  irq : Bool → Store

unfoldable pub store : Store → Bus → Bus
store (word a v) b = bus (poke32 b.memory a v) b.line
store (byte a v) b = bus (poke8 b.memory a v) b.line
store (irq l) b = bus b.memory l

-- the bus after a list of stores
abbrev pub stored : List Store → Bus → Bus
stored ss b = replay store ss b

-- how many of the bytes written no window takes: a matter of the stores alone
unfoldable pub dropped : Store → ℕ
dropped (word a v) = dropped32 a
dropped (byte a v) = dropped8 a
dropped (irq l) = 0

unfoldable pub dropped_by : List Store → ℕ
dropped_by [] = 0
dropped_by (s ∷ ss) = dropped s + dropped_by ss

pub dropped_append : (ss us : List Store) → dropped_by (ss ++ us) ≡ dropped_by ss + dropped_by us
unfolding dropped_by
dropped_append [] us = omega arith
dropped_append (s ∷ ss) us = omega (arith, dropped_append ss us)

pub stored_append : (ss us : List Store) (b : Bus) → stored (ss ++ us) b ≡ stored us (stored ss b)
stored_append ss us b = replay_append store ss us b

-- ---- steps

-- what a step does to the bus
abbrev pub BusStep : Type 0
BusStep = Bus → List Store

infixr 20 ◌then◌
abbrev pub ◌then◌ : BusStep → BusStep → BusStep
f then g = and_then store f g

unfoldable pub nothing : BusStep
nothing b = []

-- a word at an address
unfoldable pub putting : ℕ → ℕ → BusStep
putting a v b = word a v ∷ []

-- a value is read from memory as it stands, once, and the step goes on with it
abbrev pub reading : {A : Type 0} → (Memory → A) → (A → BusStep) → BusStep
reading get f b = f (get b.memory) b

unfoldable pub when : Bool → BusStep → BusStep
when t f b = pick t (f b) []

-- what a function promises that stores on the bus: the bus it leaves is the replay of its step, the windows keep their lengths,
-- and it answers how many bytes no window took
pub record Does (f : BusStep) (b b' : Bus) (lost : ℕ) : Type 0 where
  pub is : b' ≡ exec store f b
  pub sized : Sized b'.memory
  pub counted : lost ≡ dropped_by (f b)
