-- No interface has two pairs, and no bytes make more than 256 pairs.
use mathlib.Core.Path.{◌≡◌, refl, sym, ap, ◌∙◌}
use mathlib.Core.Bool.{Bool, true, false, ◌&&◌, ◌||◌}
use mathlib.Core.List.{List, [], ◌∷◌}
use Prim.Native.Nat.{ℕ, zero, suc, ◌+◌, ◌≤◌, ◌<◌}
use native.Mathlib.Omega.{arith}
use borrow.Author.Tests.{ne_eqb, eqb-true, eqb-false}
use lib.ListN.{length, take, drop, length-map}
use lib.Seq.{get_or-drop}
use lib.Dec.{eqb, ltb}
use Rattle.bits.specs.Pick.{pick, pick_both}
use Rattle.config.specs.Config.{Walk, Interface, Bytes, Distinct, member, placed, interfaces, chosen, step, walked, cut, descriptors, start, parsed, whole, at, is_interface, interface_of, is_endpoint, counts, is_input, packet_size, slot}
use Rattle.config.specs.Pairs.{Below, OneEach}
use Rattle.config.specs.Table.{Valid}
use Rattle.config.proofs.Cases.{by_test}

-- a list without a number
unfoldable without : ℕ → List ℕ → List ℕ
without n [] = []
without n (x ∷ xs) = pick (eqb x n) (without n xs) (x ∷ without n xs)

either : (a b : Bool) → a || b ≡ false → (a ≡ false) × (b ≡ false)
either true b e = let z : ◌≡◌ {A = ℕ} 0 1 = cc in absurd (omega arith)
either false b e = (refl, e)

without_absent : (n : ℕ) (l : List ℕ) → member n l ≡ false → length (without n l) ≡ length l
unfolding without member
without_absent n [] e = refl
without_absent n (x ∷ xs) e =
    let t = either (eqb x n) (member n xs) e in
    rw t.0 (ap suc (without_absent n xs t.1))

length_without : (n : ℕ) (l : List ℕ) → Distinct l → length l ≤ suc (length (without n l))
unfolding without Distinct
length_without n [] d = omega arith
length_without n (x ∷ xs) d =
    by_test (eqb x n)
    (λ e. rw e (omega (arith, without_absent n xs (rw (eqb-true x n e) at d.0))))
    (λ e. rw e (omega (arith, length_without n xs d.1)))

member_without : (m n : ℕ) (l : List ℕ) → member m l ≡ false → member m (without n l) ≡ false
unfolding without member
member_without m n [] e = refl
member_without m n (x ∷ xs) e =
    let t = either (eqb x m) (member m xs) e in
    let rest = member_without m n xs t.1 in
    by_test (eqb x n)
    (λ f. rw f rest)
    (λ f. rw (f, t.0) rest)

distinct_without : (n : ℕ) (l : List ℕ) → Distinct l → Distinct (without n l)
unfolding without Distinct
distinct_without n [] d = tt
distinct_without n (x ∷ xs) d =
    let rest = distinct_without n xs d.1 in
    by_test (eqb x n)
    (λ e. rw e rest)
    (λ e. rw e (member_without x n xs d.0, rest))

below_without : (k : ℕ) (l : List ℕ) → Below (suc k) l → Below k (without k l)
unfolding without Below
below_without k [] b = tt
below_without k (x ∷ xs) b =
    let rest = below_without k xs b.1 in
    by_test (eqb x k)
    (λ e. rw e rest)
    (λ e. let ne = eqb-false x k e in rw e (by_order x k b.0 ne, rest))
  where
    by_order : (x k : ℕ) → x < suc k → (x ≡ k → ⊥) → x < k
    by_order x k h ne = omega arith

-- distinct numbers below k are at most k
pub few : (k : ℕ) (l : List ℕ) → Distinct l → Below k l → length l ≤ k
unfolding Below
few zero [] d b = omega arith
few zero (x ∷ xs) d b = absurd (omega (arith, b.0))
few (suc k) l d b =
    let rest = few k (without k l) (distinct_without k l d) (below_without k l b) in
    omega (arith, length_without k l d)

-- pairs whose interfaces are bytes, of which none stands twice, are at most 256
pub one_each_few : (ps : List (ℕ × ℕ)) → OneEach ps → length ps ≤ 256
one_each_few ps o = rw length-map at (few 256 (interfaces ps) o.distinct o.below)

-- what is listed stays distinct as an interface takes an alternate
module _ (i a : ℕ) where
  member_placed : (n : ℕ) (ps : List (ℕ × ℕ)) → (i ≡ n → ⊥) → member n (interfaces (placed i a ps)) ≡ member n (interfaces ps)
  unfolding placed member
  member_placed n [] ne = rw (ne_eqb i n ne)
  member_placed n (p ∷ ps) ne =
      by_test (eqb p.0 i)
      (λ e. rw e (ap (λ (j : ℕ). eqb j n || member n (interfaces ps)) (sym (eqb-true p.0 i e))))
      (λ e. rw e (ap (λ (t : Bool). eqb p.0 n || t) (member_placed n ps ne)))

  distinct_placed : (ps : List (ℕ × ℕ)) → Distinct (interfaces ps) → Distinct (interfaces (placed i a ps))
  unfolding placed Distinct member
  distinct_placed [] d = (refl, tt)
  distinct_placed (p ∷ ps) d =
      by_test (eqb p.0 i)
      (λ e. rw e (rw (eqb-true p.0 i e) at d))
      (λ e. rw e (member_placed p.0 ps (λ f. eqb-false p.0 i e (sym f)) ∙ d.0, distinct_placed ps d.1))

  below_placed : (k : ℕ) (ps : List (ℕ × ℕ)) → i < k → Below k (interfaces ps) → Below k (interfaces (placed i a ps))
  unfolding placed Below
  below_placed k [] h b = (h, tt)
  below_placed k (p ∷ ps) h b =
      by_test (eqb p.0 i)
      (λ e. rw e (h, b.1))
      (λ e. rw e (b.0, below_placed k ps h b.1))

  pub one_each_placed : (ps : List (ℕ × ℕ)) → i < 256 → OneEach ps → OneEach (placed i a ps)
  one_each_placed ps h o = record { distinct = distinct_placed ps o.distinct; below = below_placed 256 ps h o.below }

-- a descriptor keeps what holds of the pairs before, and after the interface being read took its alternate
step_keeps : (P : List (ℕ × ℕ) → Type 0) (x : List ℕ) (w : Walk) → P w.choice.pairs
    → P (placed w.reading.number w.reading.alternate w.choice.pairs) → P (step x w).choice.pairs
unfolding step chosen
step_keeps P x w p q =
    by_test (is_endpoint x && counts w.reading x)
    (λ e. rw e
    (by_test (member w.reading.number (interfaces w.choice.pairs) && ltb (packet_size x) (slot (is_input x) w.choice))
    (λ f. rw f p)
    (λ f. rw f q)))
    (λ e. rw e p)

pub distinct_step : (x : List ℕ) (w : Walk) → Distinct (interfaces w.choice.pairs) → Distinct (interfaces (step x w).choice.pairs)
distinct_step x w d =
    step_keeps (λ ps. Distinct (interfaces ps)) x w d (distinct_placed w.reading.number w.reading.alternate w.choice.pairs d)

pub valid_step : (x : List ℕ) (w : Walk) → Bytes x → Valid w → Valid (step x w)
unfolding step
valid_step x w b v =
    record {
      distinct = distinct_step x w v.distinct;
      below =
          step_keeps (λ ps. Below 256 (interfaces ps)) x w v.below
          (below_placed w.reading.number w.reading.alternate 256 w.choice.pairs v.number v.below);
      number =
          pick_both (λ (i : Interface). i.number < 256) (is_interface x) {a = interface_of x} {b = w.reading} (b 2) v.number;
    }

pub valid_start : Valid start
unfolding Distinct Below
valid_start = record { distinct = tt; below = tt; number = omega arith }

-- a part of a list of bytes
pub bytes_take : (n : ℕ) (d : List ℕ) → Bytes d → Bytes (take n d)
bytes_take zero d b k = omega arith
bytes_take (suc n) [] b k = omega arith
bytes_take (suc n) (x ∷ xs) b zero = b 0
bytes_take (suc n) (x ∷ xs) b (suc k) = bytes_take n xs (λ j. b (suc j)) k

pub bytes_drop : (n : ℕ) (d : List ℕ) → Bytes d → Bytes (drop n d)
bytes_drop n d b k = rw (get_or-drop n d k 0) (b (n + k))

distinct_walked : (xs : List (List ℕ)) (w : Walk) → Distinct (interfaces w.choice.pairs) → Distinct (interfaces (walked xs w).choice.pairs)
unfolding walked
distinct_walked [] w d = d
distinct_walked (x ∷ xs) w d = distinct_walked xs (step x w) (distinct_step x w d)

valid_walked : (fuel : ℕ) (d : List ℕ) (w : Walk) → Bytes d → Valid w → Valid (walked (cut fuel d) w)
unfolding walked cut
valid_walked zero d w b v = v
valid_walked (suc fuel) d w b v =
    by_test (whole d)
    (λ e. rw e (valid_walked fuel (drop (at d 0) d) (step (take (at d 0) d) w) (bytes_drop (at d 0) d b) (valid_step (take (at d 0) d) w (bytes_take (at d 0) d b) v)))
    (λ e. rw e v)

-- no interface stands in two pairs
pub pairs_distinct : (d : List ℕ) → Distinct (interfaces (parsed d).pairs)
pairs_distinct d = distinct_walked (descriptors d) start valid_start.distinct

-- a walk over bytes has at most 256 pairs
pub valid_few : (w : Walk) → Valid w → length w.choice.pairs ≤ 256
valid_few w v = rw length-map at (few 256 (interfaces w.choice.pairs) v.distinct v.below)

-- no bytes make more than 256 pairs
pub pairs_few : (d : List ℕ) → Bytes d → length (parsed d).pairs ≤ 256
pairs_few d b = valid_few (walked (descriptors d) start) (valid_walked (length d) d start b valid_start)
