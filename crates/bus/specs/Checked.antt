-- Reads and writes of windows of any lengths: refused with number 1, or what the definitions say.
use Rattle.std.specs.Prelude.{ℕ, Result, Ok, Err}
use Rattle.bits.specs.Pick.{pick}
use Rattle.refusal.specs.declared.Refusal.{Refusal}
use Rattle.refusal.specs.Number.{number}
use Rattle.bus.specs.Memory.{Memory}
use Rattle.bus.specs.Sized.{is_sized}

-- a read's answer: 0 and the value, or the number of its refusal
pub record Peeked : Type 0 where
  pub refusal : ℕ
  pub value : ℕ

-- a write's answer: 0 and how many bytes were dropped, or the number of its refusal
pub record Poked : Type 0 where
  pub refusal : ℕ
  pub dropped : ℕ

-- the answers in numbers
abbrev pub peeked_of : Result ℕ Refusal → Peeked
peeked_of (Ok v) = record { refusal = 0; value = v }
peeked_of (Err r) = record { refusal = number r; value = 0 }

abbrev pub poked_of : Result ℕ Refusal → Poked
poked_of (Ok d) = record { refusal = 0; dropped = d }
poked_of (Err r) = record { refusal = number r; dropped = 0 }

-- a read's answer: a refusal alone, or the value
abbrev pub peeked : Memory → ℕ → Peeked
peeked m value = pick (is_sized m) (record { refusal = 0; value = value }) (record { refusal = 1; value = 0 })

-- a write's answer: a refusal alone, or the bytes dropped
abbrev pub poked : Memory → ℕ → Poked
poked m dropped = pick (is_sized m) (record { refusal = 0; dropped = dropped }) (record { refusal = 1; dropped = 0 })

-- the memory after a write: as it was where that is refused
abbrev pub kept : Memory → Memory → Memory
kept m next = pick (is_sized m) next m
