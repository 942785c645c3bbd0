-- A table's rule, proved at all of its entries by one test that is computed, and what ties the two tables of USB MIDI 1.0 together.
use mathlib.Core.Path.{◌≡◌, refl}
use mathlib.Core.Bool.{Bool, true, ◌&&◌}
use Prim.Native.Nat.{ℕ, zero, suc, ◌+◌, ◌-◌, ◌≤◌, ◌<◌}
use native.Mathlib.Nat.{add-zero, add-suc, suc-add}
use native.Mathlib.Omega.{arith}
use lib.Dec.{eqb}
use borrow.Author.Tests.{eqb-true}
use Rattle.bits.proofs.Tests.{and_first, and_second}
use Rattle.midi.specs.Packer.{byte_count, message_length, message_code}

-- whether a test holds of the n numbers from lo on
abbrev pub every : (ℕ → Bool) → ℕ → ℕ → Bool
every f lo zero = true
every f lo (suc n) = f lo && every f (suc lo) n

every_at : (f : ℕ → Bool) (lo n k : ℕ) → every f lo n ≡ true → k < n → f (lo + k) ≡ true
every_at f lo zero k t h = absurd (omega arith)
every_at f lo (suc n) zero t h = rw add-zero (and_first (f lo) (every f (suc lo) n) t)
every_at f lo (suc n) (suc k) t h = rw (add-suc, ← suc-add) (every_at f (suc lo) n k (and_second (f lo) (every f (suc lo) n) t) (omega arith))

-- what the test says of any of those numbers
pub every_in : (f : ℕ → Bool) (lo n : ℕ) → every f lo n ≡ true → (x : ℕ) → lo ≤ x → x < lo + n → f x ≡ true
every_in f lo n t x l h =
    let place : lo + (x - lo) ≡ x = omega arith in
    rw place at (every_at f lo n (x - lo) t (omega arith))

-- a message of any status has as many bytes as the receive table gives its code
pub length_by_code : (s : ℕ) → 0x80 ≤ s → s < 0x100 → message_length s ≡ byte_count (message_code s)
unfolding byte_count message_length message_code
length_by_code s l h =
    eqb-true (message_length s) (byte_count (message_code s))
    (every_in (λ k. eqb (message_length k) (byte_count (message_code k))) 0x80 128 refl s l (omega arith))
