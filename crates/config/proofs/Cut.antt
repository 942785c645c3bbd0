-- Cutting bytes into descriptors: fuel for as many as there are bytes is enough, a whole descriptor is taken, anything else is the end.
use mathlib.Core.Path.{◌≡◌, refl, sym, ap, ◌∙◌}
use mathlib.Core.Bool.{true, false}
use mathlib.Core.List.{List, [], ◌∷◌}
use Prim.Native.Nat.{ℕ, zero, suc, ◌-◌, ◌≤◌}
use native.Mathlib.Omega.{arith}
use native.Mathlib.Decide.{le_ind}
use borrow.Author.Tests.{lt-leb, leb-true}
use lib.ListN.{length, take, drop, length-drop}
use lib.Dec.{leb}
use Rattle.bits.proofs.Tests.{and_first, and_second}
use Rattle.config.specs.Config.{Walk, at, whole, cut, descriptors, step, walked}
use Rattle.config.proofs.Cases.{by_test}

cut_more : (k : ℕ) (r : List ℕ) → length r ≤ k → cut (suc k) r ≡ cut k r
unfolding cut
cut_more zero r h = simp (lt-leb 2 (length r) (omega arith))
cut_more (suc k) r h =
    by_test (whole r)
    (λ w.
    let two = leb-true 2 (at r 0) (and_first (leb 2 (at r 0)) _ (and_second (leb 2 (length r)) _ w)) in
    rw w (ap (λ l. take (at r 0) r ∷ l) (cut_more k (drop (at r 0) r) (simp length-drop (omega arith)))))
    (λ w. rw w)

cut_enough : (k : ℕ) (r : List ℕ) → length r ≤ k → cut k r ≡ descriptors r
cut_enough k r h = le_ind (λ (m : ℕ). cut m r ≡ descriptors r) refl (λ m h e. cut_more m r h ∙ e) k h

module _ (r : List ℕ) where
  stop : (k : ℕ) → whole r ≡ false → cut k r ≡ []
  unfolding cut
  stop zero w = refl
  stop (suc k) w = simp w

  cut_stop : whole r ≡ false → descriptors r ≡ []
  cut_stop = stop (length r)

  take_one : (k : ℕ) → whole r ≡ true → cut (suc k) r ≡ take (at r 0) r ∷ cut k (drop (at r 0) r)
  unfolding cut
  take_one k w = simp w

  cut_on : whole r ≡ true → descriptors r ≡ take (at r 0) r ∷ descriptors (drop (at r 0) r)
  cut_on w =
      let two = leb-true 2 (length r) (and_first (leb 2 (length r)) _ w) in
      let n = leb-true 2 (at r 0) (and_first (leb 2 (at r 0)) _ (and_second (leb 2 (length r)) _ w)) in
      let e : length r ≡ suc (length r - 1) = omega arith in
      ap (λ (k : ℕ). cut k r) e ∙ take_one (length r - 1) w
      ∙ ap (λ l. take (at r 0) r ∷ l) (cut_enough (length r - 1) _ (simp length-drop (omega arith)))

-- a walk over the descriptors of the bytes d goes on behind a whole one, and ends where none is
module _ (d : List ℕ) (w : Walk) where
  pub walk_on : {x y : List ℕ} {w' : Walk} → (whole d ≡ true) × ((x ≡ take (at d 0) d) × (y ≡ drop (at d 0) d)) → w' ≡ step x w → walked (descriptors y) w' ≡ walked (descriptors d) w
  unfolding walked
  walk_on e s = rw (s, e.1.0, e.1.1) (sym (ap (λ (l : List (List ℕ)). walked l w) (cut_on d e.0)))

  pub walk_end : whole d ≡ false → walked (descriptors d) w ≡ w
  unfolding walked
  walk_end e = ap (λ (l : List (List ℕ)). walked l w) (cut_stop d e)
