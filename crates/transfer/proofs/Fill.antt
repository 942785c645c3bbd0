-- A loop that fills a list from the front: what holds of each element passed.
use Rattle.std.proofs.Common.{◌≡◌, ℕ, ◌+◌, ◌<◌, ◌≤◌, List, length, get_or, set, sym, ap, ◌∙◌, arith, get_or-set_other, get_or-set_same, ext_get_or}
use native.Mathlib.Decide.{ℕ_discrete}
use Rattle.transfer.specs.Transfer.{tabulate}
use Rattle.transfer.proofs.Laws.{length_tabulate, get_d_tabulate}

-- the first i elements of l are f 0, f 1, ..
pub record Filled (f : ℕ → ℕ) (l : List ℕ) (i : ℕ) : Type 0 where
  pub below : (k : ℕ) → k < i → get_or l k 0 ≡ f k

pub fill_none : (f : ℕ → ℕ) (l : List ℕ) → Filled f l 0
fill_none f l = record { below = λ k h. absurd (omega arith) }

pub fill_turn : (f : ℕ → ℕ) (l : List ℕ) (i v : ℕ) → Filled f l i → i < length l → v ≡ f i → Filled f (set l i v) (i + 1)
fill_turn f l i v h room e =
    record { below = λ k under. elim (ℕ_discrete k i) [ yes p ↦ ap (λ (j : ℕ). get_or (set l i v) j 0) p ∙ get_or-set_same l i v 0 room ∙ e ∙ ap f (sym p) | no p ↦ get_or-set_other l i k v 0 p ∙ h.below k (less k under p) ] }
  where
    less : (k : ℕ) → k < i + 1 → (k ≡ i → ⊥) → k < i
    less k under p = omega arith

pub fill_all : (f : ℕ → ℕ) (l : List ℕ) (i n : ℕ) → Filled f l i → n ≤ i → length l ≡ n → l ≡ tabulate n f
fill_all f l i n h all e =
    ext_get_or 0 l (tabulate n f) (e ∙ sym (length_tabulate n f)) (λ k under. h.below k (omega arith) ∙ sym (get_d_tabulate n f k 0 (omega arith)))
