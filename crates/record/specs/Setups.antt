-- Setups: eight bytes (USB 2.0, 9.3), and the two little-endian words that are posted for them (usbhost.rs 633-639).
use Rattle.std.specs.Prelude.{ℕ, ◌+◌, ◌*◌, ◌/◌, ◌%◌, ◌^◌, List, [], ◌∷◌, ◌++◌, slice_index}

-- the little-endian word at index i
abbrev pub little : List ℕ → ℕ → ℕ
little s i = slice_index s i + 2 ^ 8 * slice_index s (i + 1) + 2 ^ 16 * slice_index s (i + 2) + 2 ^ 24 * slice_index s (i + 3)

-- a word's bytes, the low one first
abbrev pub little_bytes : ℕ → List ℕ
little_bytes v = v % 256 ∷ v / 2 ^ 8 % 256 ∷ v / 2 ^ 16 % 256 ∷ v / 2 ^ 24 ∷ []

abbrev pub setup_bytes : ℕ → ℕ → List ℕ
setup_bytes first second = little_bytes first ++ little_bytes second
