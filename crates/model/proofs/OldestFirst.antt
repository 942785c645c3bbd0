-- The frames of a ring of any capacity, oldest first: how many, the i-th, a frame behind the newest, and the list without its first ones.
use Prim.Native.Nat.{ℕ, zero, suc, ◌+◌, ◌-◌, ◌*◌, ◌%◌, ◌≤◌, ◌<◌, min}
use mathlib.Core.Path.{◌≡◌, refl, ap, ap₂, sym, subst, ◌∙◌}
use mathlib.Core.Logic.{◌≢◌}
use mathlib.Core.Bool.{Bool, true, false}
use mathlib.Core.List.{List, [], ◌∷◌, ◌++◌, append_assoc}
use native.Mathlib.Nat.{add-zero, sub-zero, suc-sub-suc, mod-lt, mod-eq_of_lt, mod-eq-sub-mod, mod-add-mod}
use native.Mathlib.Omega.{arith}
use borrow.Author.Tests.{ltb-true, ltb-false, leb-true, leb-false}
use lib.Dec.{leb, ltb}
use lib.ListN.{length, get_or, take, drop, set, length-drop, drop_of_length-le}
use lib.Seq.{sets, length-take-le, sets-eq, take_at, drop_at, take-set-le, drop-set-lt, take-nil}
use Rattle.record.specs.declared.Ring.{Ring}
use Rattle.record.specs.Sizes.{WORDS}
use Rattle.record.specs.Change.{taken_from}
use Rattle.model.specs.Ring.{frame_in, oldest_first}

-- ---- lists

take_drop : (m n : ℕ) (l : List ℕ) → take m (drop n l) ≡ drop n (take (n + m) l)
take_drop m zero l = let e : m ≡ 0 + m = omega arith in ap (λ (k : ℕ). take k l) e
take_drop m (suc n) [] = take-nil m ∙ sym (ap (drop (suc n)) (take-nil (suc n + m)))
take_drop m (suc n) (x ∷ xs) = let e : suc (n + m) ≡ suc n + m = omega arith in take_drop m n xs ∙ ap (λ (k : ℕ). drop (suc n) (take k (x ∷ xs))) e

take_sets : (n : ℕ) (l : List ℕ) (i : ℕ) (vs : List ℕ) → n ≤ i → take n (sets l i vs) ≡ take n l
take_sets n l i [] h = refl
take_sets n l i (a ∷ vs) h = take_sets n (set l i a) (suc i) vs (omega arith) ∙ take-set-le n l i a h

drop_sets : (n : ℕ) (l : List ℕ) (i : ℕ) (vs : List ℕ) → i + length vs ≤ n → drop n (sets l i vs) ≡ drop n l
drop_sets n l i [] h = refl
drop_sets n l i (a ∷ vs) h = drop_sets n (set l i a) (suc i) vs (omega arith) ∙ drop-set-lt n l i a (omega arith)

-- ---- a frame stored in the ring

module _ (ring : List ℕ) (p : ℕ) (f : List ℕ) (room : p * WORDS + WORDS ≤ length ring) (whole : length f ≡ WORDS) where
  stored_same : frame_in (sets ring (p * WORDS) f) p ≡ f
  unfolding frame_in
  stored_same =
      let long : length (take (p * WORDS) ring) ≡ p * WORDS = length-take-le (p * WORDS) ring (omega arith) in
      ap (λ (l : List ℕ). take WORDS (drop (p * WORDS) l)) (sets-eq f ring (p * WORDS) (omega arith) ∙ append_assoc (take (p * WORDS) ring) f _)
      ∙ ap (take WORDS) (drop_at (take (p * WORDS) ring) _ (p * WORDS) long)
      ∙ take_at f _ WORDS whole

  stored_other : (j : ℕ) → j ≢ p → frame_in (sets ring (p * WORDS) f) j ≡ frame_in ring j
  unfolding frame_in
  stored_other j h = by_test (ltb j p) refl
    where
      by_test : (t : Bool) → ltb j p ≡ t → take WORDS (drop (j * WORDS) (sets ring (p * WORDS) f)) ≡ take WORDS (drop (j * WORDS) ring)
      by_test true e =
          take_drop WORDS (j * WORDS) (sets ring (p * WORDS) f)
          ∙ ap (drop (j * WORDS)) (take_sets (j * WORDS + WORDS) ring (p * WORDS) f (omega (arith, ltb-true j p e)))
          ∙ sym (take_drop WORDS (j * WORDS) ring)
      by_test false e = ap (take WORDS) (drop_sets (j * WORDS) ring (p * WORDS) f (omega (arith, ltb-false j p e)))

-- ---- places modulo the capacity

-- a place past the end of the ring
wraps : (a c : ℕ) → c ≤ a → a < c + c → a % c ≡ a - c
wraps a c h l = mod-eq-sub-mod {n = a} {m = c} h ∙ mod-eq_of_lt {n = a - c} {m = c} (omega arith)

-- places whose distance is below the capacity differ
apart : (s i n c : ℕ) → s < c → i < n → n < c → (s + i) % c ≢ (s + n) % c
apart s i n c hs hi hn e = by (ltb (s + i) c) (ltb (s + n) c) refl refl
  where
    by : (p q : Bool) → ltb (s + i) c ≡ p → ltb (s + n) c ≡ q → ⊥
    by true true ep eq =
        let g : s + i ≡ s + n = sym (mod-eq_of_lt (ltb-true (s + i) c ep)) ∙ e ∙ mod-eq_of_lt (ltb-true (s + n) c eq) in
        omega arith
    by true false ep eq =
        let over = ltb-false (s + n) c eq in
        let g : s + i ≡ s + n - c = sym (mod-eq_of_lt (ltb-true (s + i) c ep)) ∙ e ∙ wraps (s + n) c over (omega arith) in
        omega arith
    by false true ep eq = omega (arith, ltb-false (s + i) c ep, ltb-true (s + n) c eq)
    by false false ep eq =
        let before = ltb-false (s + i) c ep in
        let over = ltb-false (s + n) c eq in
        let g : s + i - c ≡ s + n - c = sym (wraps (s + i) c before (omega arith)) ∙ e ∙ wraps (s + n) c over (omega arith) in
        omega arith

module _ (capacity : ℕ) where
  start_same : (s : ℕ) → s < capacity → (s + 0) % capacity ≡ s
  start_same s h = ap (λ (k : ℕ). k % capacity) (add-zero s) ∙ mod-eq_of_lt h

  next_place : (s n : ℕ) → ((s + 1) % capacity + n) % capacity ≡ (s + suc n) % capacity
  next_place s n = let e : s + 1 + n ≡ s + suc n = omega arith in mod-add-mod (s + 1) capacity n ∙ ap (λ (k : ℕ). k % capacity) e

  next_inside : (s : ℕ) → s < capacity → (s + 1) % capacity < capacity
  next_inside s h = mod-lt (s + 1) (omega arith)

  -- ---- the list

  pub ring_length : (ring : List ℕ) (s n : ℕ) → length (oldest_first capacity ring s n) ≡ n
  unfolding oldest_first
  ring_length ring s zero = refl
  ring_length ring s (suc n) = ap suc (ring_length ring ((s + 1) % capacity) n)

  pub ring_oldest : (ring : List ℕ) (s n : ℕ) → oldest_first capacity ring s (suc n) ≡ frame_in ring s ∷ oldest_first capacity ring ((s + 1) % capacity) n
  unfolding oldest_first
  ring_oldest ring s n = refl

  -- the newest stands last
  ring_newest : (ring : List ℕ) (s n : ℕ) → s < capacity → oldest_first capacity ring s (suc n) ≡ oldest_first capacity ring s n ++ (frame_in ring ((s + n) % capacity) ∷ [])
  unfolding oldest_first
  ring_newest ring s zero h = ap (λ (i : ℕ). frame_in ring i ∷ []) (sym (start_same s h))
  ring_newest ring s (suc n) h =
      ap (λ (l : List (List ℕ)). frame_in ring s ∷ l)
      (ring_newest ring ((s + 1) % capacity) n (next_inside s h)
      ∙ ap (λ (i : ℕ). oldest_first capacity ring ((s + 1) % capacity) n ++ (frame_in ring i ∷ [])) (next_place s n))

  -- two rings with the same frames there
  ring_same : (l ring : List ℕ) (s n : ℕ) → s < capacity → ((i : ℕ) → i < n → frame_in l ((s + i) % capacity) ≡ frame_in ring ((s + i) % capacity)) → oldest_first capacity l s n ≡ oldest_first capacity ring s n
  unfolding oldest_first
  ring_same l ring s zero h g = refl
  ring_same l ring s (suc n) h g =
      ap₂ (λ (f : List ℕ) (fs : List (List ℕ)). f ∷ fs)
      (subst (λ (i : ℕ). frame_in l i ≡ frame_in ring i) (start_same s h) (g 0 (omega arith)))
      (ring_same l ring ((s + 1) % capacity) n (next_inside s h) (λ i b.
      subst (λ (k : ℕ). frame_in l k ≡ frame_in ring k) (sym (next_place s i)) (g (suc i) (omega arith))))

  -- the i-th, counted from the oldest
  pub ring_nth : (ring : List ℕ) (s n i : ℕ) → s < capacity → i < n → get_or (oldest_first capacity ring s n) i [] ≡ frame_in ring ((s + i) % capacity)
  unfolding oldest_first
  ring_nth ring s zero i h l = absurd (omega arith)
  ring_nth ring s (suc n) zero h l = ap (frame_in ring) (sym (start_same s h))
  ring_nth ring s (suc n) (suc i) h l = ring_nth ring ((s + 1) % capacity) n i (next_inside s h) (omega arith) ∙ ap (frame_in ring) (next_place s i)

  -- and it has twelve words
  pub ring_whole : (ring : List ℕ) (s n i : ℕ) → s < capacity → i < n → capacity * WORDS ≤ length ring → length (get_or (oldest_first capacity ring s n) i []) ≡ WORDS
  unfolding frame_in
  ring_whole ring s n i h l room =
      let at = (s + i) % capacity in
      let inside : at < capacity = mod-lt (s + i) (omega arith) in
      ap length (ring_nth ring s n i h l) ∙ length-take-le WORDS (drop (at * WORDS) ring) (omega (arith, length-drop (at * WORDS) ring))

  -- without the k oldest
  pub ring_drop : (ring : List ℕ) (s n k : ℕ) → s < capacity → k ≤ n → oldest_first capacity ring ((s + k) % capacity) (n - k) ≡ drop k (oldest_first capacity ring s n)
  unfolding oldest_first
  ring_drop ring s n zero h l = ap₂ (λ (i j : ℕ). oldest_first capacity ring i j) (start_same s h) (sub-zero n)
  ring_drop ring s zero (suc k) h l = absurd (omega arith)
  ring_drop ring s (suc n) (suc k) h l =
      ap₂ (λ (i j : ℕ). oldest_first capacity ring i j) (sym (next_place s k)) (suc-sub-suc n k)
      ∙ ring_drop ring ((s + 1) % capacity) n k (next_inside s h) (omega arith)

  -- the first k, or all, taken
  pub ring_taken : (ring : List ℕ) (r : Ring) (k : ℕ) → r.start < capacity
      → oldest_first capacity ring (taken_from capacity (min k r.len) r).start (taken_from capacity (min k r.len) r).len ≡ drop k (oldest_first capacity ring r.start r.len)
  unfolding taken_from
  ring_taken ring r k h = ring_drop ring r.start r.len (min k r.len) h (omega arith) ∙ by (leb k r.len) refl
    where
      all : List (List ℕ)
      all = oldest_first capacity ring r.start r.len

      by : (t : Bool) → leb k r.len ≡ t → drop (min k r.len) all ≡ drop k all
      by true e =
          let few = leb-true k r.len e in
          let same : min k r.len ≡ k = omega arith in
          ap (λ (j : ℕ). drop j all) same
      by false e =
          let many = leb-false k r.len e in
          let long = ring_length ring r.start r.len in
          drop_of_length-le all {i = min k r.len} (omega (arith, long)) ∙ sym (drop_of_length-le all {i = k} (omega (arith, long)))

  -- a frame stored behind the newest is appended
  pub ring_appends : (ring : List ℕ) (s n : ℕ) (f : List ℕ) → s < capacity → n < capacity → capacity * WORDS ≤ length ring → length f ≡ WORDS
      → oldest_first capacity (sets ring ((s + n) % capacity * WORDS) f) s (suc n) ≡ oldest_first capacity ring s n ++ (f ∷ [])
  ring_appends ring s n f hs hn room whole =
      let at = (s + n) % capacity in
      let inside : at < capacity = mod-lt (s + n) (omega arith) in
      let fits : at * WORDS + WORDS ≤ length ring = omega arith in
      ring_newest (sets ring (at * WORDS) f) s n hs
      ∙ ap₂ (λ (l : List (List ℕ)) (x : List ℕ). l ++ (x ∷ []))
      (ring_same (sets ring (at * WORDS) f) ring s n hs (λ i b. stored_other ring at f fits whole ((s + i) % capacity) (apart s i n capacity hs b hn)))
      (stored_same ring at f fits whole)
