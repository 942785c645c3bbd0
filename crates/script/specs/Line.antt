-- The words of a line: numbers and byte strings in lower-case hexadecimal, each behind a space.
use Rattle.std.specs.Prelude.{ℕ, ◌+◌, ◌-◌, ◌*◌, ◌%◌, ◌^◌, Bool, false, ◌&&◌, ◌||◌, Option, None, Some, is_some, unwrap_or, option_map, List, [], ◌∷◌, length, take, drop, ◌==◌, nat_le, nat_lt}
use Rattle.bits.specs.Pick.{pick}

-- the letter that a line begins with, where a space or the end follows it
abbrev pub letter : List ℕ → Option ℕ
letter [] = None
letter (b ∷ []) = pick (b == 0 || b == 32) None (Some b)
letter (b ∷ c ∷ bs) = pick (b == 0 || b == 32) None (pick (c == 32) (Some b) None)

-- what a character is worth: 0 to 9, and a to f
abbrev pub digit : ℕ → Option ℕ
digit b = pick (nat_le 48 b && nat_le b 57) (Some (b - 48)) (pick (nat_le 97 b && nat_le b 102) (Some (b - 87)) None)

-- the byte of two digits
abbrev pub byte_of : Option ℕ → Option ℕ → Option ℕ
byte_of (Some high) (Some low) = Some (high * 16 + low)
byte_of (Some high) None = None
byte_of None low = None

abbrev pub byte : ℕ → ℕ → Option ℕ
byte high low = byte_of (digit high) (digit low)

-- with how many digits a text begins
unfoldable pub run : List ℕ → ℕ
run [] = 0
run (b ∷ bs) = pick (is_some (digit b)) (run bs + 1) 0

-- more digits behind a number v
unfoldable pub hex : ℕ → List ℕ → ℕ
hex v [] = v
hex v (b ∷ bs) = hex (v * 16 + unwrap_or (digit b) 0) bs

-- a text without the space that it begins with
abbrev pub spaced : List ℕ → Option (List ℕ)
spaced [] = None
spaced (b ∷ bs) = pick (b == 32) (Some bs) None

-- the number that one to sixteen digits at the start of a text make
abbrev pub number_at : Option (List ℕ) → Option ℕ
number_at None = None
number_at (Some t) = pick (nat_le 1 (run t) && nat_le (run t) 16) (Some (hex 0 (take (run t) t))) None

-- what stands behind its digits, also where there are more or none: nothing where it has no space before it
abbrev pub behind_at : Option (List ℕ) → List ℕ
behind_at None = []
behind_at (Some t) = drop (run t) t

-- a space and a number, and what stands behind it
abbrev pub number : List ℕ → Option ℕ
number t = number_at (spaced t)

abbrev pub behind : List ℕ → List ℕ
behind t = behind_at (spaced t)

-- a number of 32 bits
abbrev pub short : Option ℕ → Option ℕ
short None = None
short (Some n) = pick (nat_lt n (2 ^ 32)) (Some n) None

-- the second number of a line, of 32 bits
abbrev pub second : List ℕ → Option ℕ
second l = short (number (behind (drop 1 l)))

-- the text of a byte string: pairs of characters, or none where it is a dash
abbrev pub is_dash : List ℕ → Bool
is_dash [] = false
is_dash (b ∷ []) = b == 45
is_dash (b ∷ c ∷ bs) = false

abbrev pub pairs_at : Option (List ℕ) → Option (List ℕ)
pairs_at None = None
pairs_at (Some t) = pick (is_dash t) (Some []) (pick (nat_le 1 (length t) && length t % 2 == 0) (Some t) None)

abbrev pub pairs : List ℕ → Option (List ℕ)
pairs t = pairs_at (spaced t)

-- a text that is digits to its end
abbrev pub whole : Option (List ℕ) → Option (List ℕ)
whole None = None
whole (Some t) = pick (run t == length t) (Some t) None

-- a space and a byte string, which ends the line: its digits, and its bytes
abbrev pub digits : List ℕ → Option (List ℕ)
digits t = whole (pairs t)

-- the bytes of pairs of digits
unfoldable pub bytes : List ℕ → List ℕ
bytes [] = []
bytes (b ∷ []) = []
bytes (b ∷ c ∷ bs) = unwrap_or (byte b c) 0 ∷ bytes bs

abbrev pub byte_string : List ℕ → Option (List ℕ)
byte_string t = option_map bytes (digits t)
