-- What a device access answers, in numbers: 0 and the value or the line's flag, or the number of its refusal.
use Rattle.std.specs.Prelude.{ℕ, Bool, Result, Ok, Err}
use Rattle.refusal.specs.declared.Refusal.{Refusal}
use Rattle.refusal.specs.Number.{number}

-- a read's answer
pub record Value : Type 0 where
  pub refusal : ℕ
  pub value : ℕ

-- a write's answer, with the line's flag after it
pub record Written : Type 0 where
  pub refusal : ℕ
  pub line : Bool

abbrev pub value_of : Result ℕ Refusal → Value
value_of (Ok v) = record { refusal = 0; value = v }
value_of (Err r) = record { refusal = number r; value = 0 }

-- a refusal leaves the flag that went in
abbrev pub written_of : Bool → Result Bool Refusal → Written
written_of flag (Ok l) = record { refusal = 0; line = l }
written_of flag (Err r) = record { refusal = number r; line = flag }
