-- FNV-1a hashes of 64 bits (Fowler, Noll, Vo): for each byte exclusive-or, then times the prime.
use Rattle.std.specs.Prelude.{ℕ, ◌*◌, ◌%◌, ◌^◌, List, [], ◌∷◌, bit_xor}

abbrev pub PRIME : ℕ
PRIME = 0x100000001b3

-- the hash of no bytes
abbrev pub START : ℕ
START = 0xcbf29ce484222325

-- the hash h with one more byte
unfoldable pub mixed : ℕ → ℕ → ℕ
mixed h b = (bit_xor h b * PRIME) % 2 ^ 64

-- the hash h with more bytes
unfoldable pub mixed_all : ℕ → List ℕ → ℕ
mixed_all h [] = h
mixed_all h (b ∷ bs) = mixed_all (mixed h b) bs
