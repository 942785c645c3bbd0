-- A queue of setups behind a run of addresses is tested as it stands alone. Assumes nothing.
use Rattle.std.proofs.Common.{◌≡◌, ℕ, zero, suc, ◌+◌, ◌-◌, ◌*◌, ◌&&◌, leb, List, ◌++◌, get_or, refl, ap, ◌∙◌, append_assoc, suc-add, zero-add, arith}
use mathlib.Core.List.{flat_map}
use Rattle.record.specs.Setups.{little}
use Rattle.bounds.specs.Bounds.{made, made_at, all_made, other, none_asks, setups_ok}
use Rattle.limits.specs.Limits.{address, many}

-- a byte, and a word, behind one address
byte_behind : (xs : List ℕ) (i j : ℕ) → j ≡ i + 8 → get_or (address ++ xs) j 0 ≡ get_or xs i 0
byte_behind xs i j h =
    let e : j ≡ suc (suc (suc (suc (suc (suc (suc (suc i))))))) = omega arith in
    rw e

word_behind_lem : (xs : List ℕ) (i j : ℕ) → j ≡ i + 8 → little (address ++ xs) j ≡ little xs i
word_behind_lem xs i j h =
    cc (byte_behind xs i j h, byte_behind xs (i + 1) (j + 1) (omega arith), byte_behind xs (i + 2) (j + 2) (omega arith), byte_behind xs (i + 3) (j + 3) (omega arith))

-- the same of a setup
made_behind : (xs : List ℕ) (n : ℕ) → made_at (address ++ xs) (suc n) ≡ made_at xs n
unfolding made_at
made_behind xs n =
    cc (word_behind_lem xs (8 * n) (8 * suc n) (omega arith), word_behind_lem xs (8 * n + 4) (8 * suc n + 4) (omega arith))

other_behind : (xs : List ℕ) (n : ℕ) → other (address ++ xs) (suc n) ≡ other xs n
unfolding other
other_behind xs n = cc (word_behind_lem xs (8 * n) (8 * suc n) (omega arith))

-- of all setups
all_behind : (xs : List ℕ) (n : ℕ) → all_made (address ++ xs) (suc n) ≡ all_made xs n
unfolding all_made made_at made
all_behind xs zero = refl
all_behind xs (suc n) = cc (all_behind xs n, made_behind xs n)

none_behind : (xs : List ℕ) (n : ℕ) → none_asks (address ++ xs) (suc n) ≡ none_asks xs n
unfolding none_asks other
none_behind xs zero = refl
none_behind xs (suc n) = cc (none_behind xs n, other_behind xs n)

-- behind a run of addresses
all_many : (n k : ℕ) (xs : List ℕ) → all_made (many n ++ xs) (n + k) ≡ all_made xs k
unfolding flat_map
all_many zero k xs = ap (all_made xs) (zero-add k)
all_many (suc n) k xs =
    ap (all_made (many (suc n) ++ xs)) (suc-add n k) ∙ (all_behind (many n ++ xs) (n + k) ∙ all_many n k xs)

none_many : (n k : ℕ) (xs : List ℕ) → none_asks (many n ++ xs) (n + k) ≡ none_asks xs k
unfolding flat_map
none_many zero k xs = ap (none_asks xs) (zero-add k)
none_many (suc n) k xs =
    ap (none_asks (many (suc n) ++ xs)) (suc-add n k) ∙ (none_behind (many n ++ xs) (n + k) ∙ none_many n k xs)

-- the test of a queue whose last k and one more setups stand behind n addresses
pub setups_many : (n k : ℕ) (xs behind : List ℕ)
    → setups_ok (n + suc k) ((many n ++ xs) ++ behind)
    ≡ leb (n + suc k) 257 && (all_made (xs ++ behind) (suc k) && none_asks (xs ++ behind) k)
unfolding setups_ok
setups_many n k xs behind =
    let e : n + suc k - 1 ≡ n + k = omega arith in
    rw (append_assoc (many n) xs behind, e, all_many n (suc k) (xs ++ behind), none_many n k (xs ++ behind))
