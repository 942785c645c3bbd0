-- Words of 32 bits: clear, set and test the bits of a mask, and replace the field under one. They compute on numerals.
use Rattle.std.specs.Prelude.{ℕ, ◌-◌, ◌^◌, Bool, not, eqb}
use Rattle.std.specs.Int.Bits.{bit_and, bit_or}

-- the complement of a word
abbrev pub inv32 : ℕ → ℕ
inv32 v = (2 ^ 32 - 1) - v

-- v without the bits of m
abbrev pub clear : ℕ → ℕ → ℕ
clear v m = bit_and v (inv32 m)

-- v with the bits of m
abbrev pub set : ℕ → ℕ → ℕ
set v m = bit_or v m

-- whether v has one of the bits of m
abbrev pub any : ℕ → ℕ → Bool
any v m = not (eqb (bit_and v m) 0)

-- v with the bits under the mask m taken from f
abbrev pub replace : ℕ → ℕ → ℕ → ℕ
replace v m f = bit_or (clear v m) (bit_and f m)
