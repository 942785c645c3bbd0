-- The loop that reads the pointers which a total uses.
use Rattle.std.proofs.Common.{◌≡◌, ℕ, zero, suc, ◌+◌, ◌*◌, ◌%◌, ◌<◌, ◌≤◌, leb, List, length, get_or, set, replicate, refl, ap, ◌∙◌, arith, lit<, length-set, get_or-set_other, le-leb}
use native.Mathlib.Decide.{dec_lt}
use borrow.Author.Tests.{lt-leb}
use Rattle.bits.specs.Pick.{pick}
use Rattle.bus.specs.Memory.{Memory, after, peek32}
use Rattle.transfer.specs.Transfer.{pointers_for}
use Rattle.transfer.proofs.Fill.{Filled, fill_none, fill_turn, fill_all}

-- entry i of the pointers that a total uses
abbrev entry : Memory → ℕ → ℕ → ℕ → ℕ
entry m td total i = pick (leb (4096 * i) (peek32 m (after td 8) % 4096 + total)) (peek32 m (after td (8 + 4 * i))) 0

-- nine entries of which the first i are read, and the others 0
pub record Partial (m : Memory) (td total : ℕ) (ps : List ℕ) (i : ℕ) : Type 0 where
  pub nine : length ps ≡ 9
  pub read : Filled (entry m td total) ps i
  pub others : (k : ℕ) → i ≤ k → get_or ps k 0 ≡ 0

get_or_zeros : (n k : ℕ) → ◌≡◌ {A = ℕ} (get_or (replicate n 0) k 0) 0
get_or_zeros zero k = refl
get_or_zeros (suc n) zero = refl
get_or_zeros (suc n) (suc k) = get_or_zeros n k

module _ (m : Memory) (td total : ℕ) where
  -- a pointer to a page that begins by the data's end
  entry_read : (i p : ℕ) → 4096 * i ≤ peek32 m (after td 8) % 4096 + total → p ≡ peek32 m (after td (8 + 4 * i)) → p ≡ entry m td total i
  entry_read i p used e = simp (le-leb (4096 * i) (peek32 m (after td 8) % 4096 + total) used) e

  -- where the data end, by the first pointer that was read
  end_is : (p₀ a₀ : ℕ) → a₀ ≡ after td 8 → p₀ ≡ peek32 m a₀ → p₀ % 4096 + total ≡ peek32 m (after td 8) % 4096 + total
  end_is p₀ a₀ e₀ f₀ = ap (λ (p : ℕ). p % 4096 + total) (f₀ ∙ ap (peek32 m) e₀)

  read_one : (ps : List ℕ) (i p a : ℕ) → Partial m td total ps i → i < 9 → 4096 * i ≤ peek32 m (after td 8) % 4096 + total → a ≡ after td (8 + 4 * i)
      → p ≡ peek32 m a → Partial m td total (set ps i p) (i + 1)
  read_one ps i p a f less used q r =
      record {
        nine = length-set ps i p ∙ f.nine;
        read = fill_turn (entry m td total) ps i p f.read (omega (arith, f.nine)) (entry_read i p used (r ∙ ap (peek32 m) q));
        others = λ k h. get_or-set_other ps i k p 0 (λ z. omega arith) ∙ f.others k (omega arith);
      }

  -- the first pointer read into nine zeros
  pub partial_first : (p a : ℕ) → a ≡ after td 8 → p ≡ peek32 m a → Partial m td total (set (replicate 9 0) 0 p) 1
  partial_first p a q r =
      read_one (replicate 9 0) 0 p a
      (record { nine = refl; read = fill_none (entry m td total) (replicate 9 0); others = λ k h. get_or_zeros 9 k }) (lit< tt) (omega arith) q r

  -- a turn of the loop
  pub partial_turn : (ps : List ℕ) (i p a p₀ a₀ : ℕ) → Partial m td total ps i → i < 9 → a₀ ≡ after td 8 → p₀ ≡ peek32 m a₀ → 4096 * i ≤ p₀ % 4096 + total
      → a ≡ after td (8 + 4 * i) → p ≡ peek32 m a → Partial m td total (set ps i p) (i + 1)
  partial_turn ps i p a p₀ a₀ f less e₀ f₀ used q r = read_one ps i p a f less (omega (arith, end_is p₀ a₀ e₀ f₀)) q r

  -- its end
  pub partial_all : (ps : List ℕ) (i p₀ a₀ : ℕ) → Partial m td total ps i → i ≤ 9 → a₀ ≡ after td 8 → p₀ ≡ peek32 m a₀ → p₀ % 4096 + total < 4096 * i
      → ps ≡ pointers_for m td total
  unfolding pointers_for
  partial_all ps i p₀ a₀ f less e₀ f₀ gone =
      fill_all (entry m td total) ps 9 9 (record { below = below }) (omega arith) f.nine
    where
      behind : (k : ℕ) → i ≤ k → 0 ≡ entry m td total k
      behind k h = simp (lt-leb (4096 * k) (peek32 m (after td 8) % 4096 + total) (omega (arith, end_is p₀ a₀ e₀ f₀)))

      below : (k : ℕ) → k < 9 → get_or ps k 0 ≡ entry m td total k
      below k h = elim (dec_lt k i) [ yes p ↦ f.read.below k p | no p ↦ f.others k (omega arith) ∙ behind k (omega arith) ]
