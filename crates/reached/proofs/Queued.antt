-- The array of setups keeps its length and holds bytes, as the four first setups are queued and as each is posted.
use Prim.Native.Nat.{ℕ, zero, suc, ◌-◌, ◌≤◌, ◌<◌}
use mathlib.Core.Path.{◌≡◌, refl, ◌∙◌}
use mathlib.Core.Bool.{Bool, true, ◌&&◌}
use mathlib.Core.List.{List, [], ◌∷◌, ◌++◌}
use native.Mathlib.Omega.{arith}
use lib.Dec.{ltb}
use lib.ListN.{get_or, take, drop, replicate, length-append, length-take, length-drop, length-replicate}
use lib.Seq.{sets, length-sets}
use borrow.Author.Tests.{ltb-true}
use Rattle.bus.proofs.WordLaws.{set_lt}
use Rattle.record.specs.Change.{drained}
use Rattle.model.specs.Phases.{first_setups}
use Rattle.bits.proofs.Tests.{and_first, and_second}
use Rattle.reached.proofs.Leading.{Queue}

-- every element is a byte
abbrev pub Below : List ℕ → Type 0
Below l = (k : ℕ) → get_or l k 0 < 256

below_append : (l r : List ℕ) → Below l → Below r → Below (l ++ r)
below_append [] r p q k = q k
below_append (x ∷ l) r p q zero = p zero
below_append (x ∷ l) r p q (suc k) = below_append l r (λ j. p (suc j)) q k

below_take : (n : ℕ) (l : List ℕ) → Below l → Below (take n l)
below_take zero l p k = omega arith
below_take (suc n) [] p k = omega arith
below_take (suc n) (x ∷ l) p zero = p zero
below_take (suc n) (x ∷ l) p (suc k) = below_take n l (λ j. p (suc j)) k

below_drop : (n : ℕ) (l : List ℕ) → Below l → Below (drop n l)
below_drop zero l p = p
below_drop (suc n) [] p = p
below_drop (suc n) (x ∷ l) p = below_drop n l (λ j. p (suc j))

pub below_zeros : (n : ℕ) → Below (replicate n 0)
below_zeros zero k = omega arith
below_zeros (suc n) zero = omega arith
below_zeros (suc n) (suc k) = below_zeros n k

-- by a test of each
abbrev pub all_below : List ℕ → Bool
all_below [] = true
all_below (x ∷ l) = ltb x 256 && all_below l

below_sets : (vs l : List ℕ) (i : ℕ) → all_below vs ≡ true → Below l → Below (sets l i vs)
below_sets [] l i e p = p
below_sets (v ∷ vs) l i e p =
    below_sets vs _ _ (and_second (ltb v 256) (all_below vs) e) (set_lt l i v p (ltb-true v 256 (and_first (ltb v 256) (all_below vs) e)))

pub queue_new : Queue (replicate 2056 0)
queue_new = record { long = length-replicate {A = ℕ} 2056 0; bytes = below_zeros 2056 }

pub queue_sets : (q : List ℕ) (i : ℕ) (vs : List ℕ) → all_below vs ≡ true → Queue q → Queue (sets q i vs)
queue_sets q i vs e h = record { long = length-sets q i vs ∙ h.long; bytes = below_sets vs q i e h.bytes }

pub queue_first : (q : List ℕ) (i : ℕ) → Queue q → Queue (sets q i first_setups)
queue_first q i h = queue_sets q i first_setups refl h

pub queue_posted : (q : List ℕ) (n : ℕ) → n ≤ 2056 → Queue q → Queue (drained q n 8)
unfolding drained
queue_posted q n few h =
    let l = h.long in
    record {
      long =
          omega (arith, length-append (take (n - 8) (drop 8 q)) (drop (n - 8) q), length-take (n - 8) (drop 8 q), length-drop 8 q, length-drop (n - 8) q);
      bytes = below_append (take (n - 8) (drop 8 q)) (drop (n - 8) q) (below_take (n - 8) (drop 8 q) (below_drop 8 q h.bytes)) (below_drop (n - 8) q h.bytes);
    }
