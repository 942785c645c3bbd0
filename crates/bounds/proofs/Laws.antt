-- Facts on the tests of the bounds.
use Prim.Native.Nat.{ℕ, zero, suc, ◌+◌, ◌-◌, ◌<◌, ◌≤◌}
use mathlib.Core.Bool.{Bool, true, false, not, ◌&&◌, ◌||◌}
use mathlib.Core.List.{List}
use mathlib.Core.Path.{◌≡◌, refl, sym, ap, subst, ◌∙◌}
use mathlib.Core.Logic.{◌⊎◌, inl, inr, ⊎_elim}
use native.Mathlib.Numerals.{add-one}
use native.Mathlib.Omega.{arith}
use borrow.Author.Tests.{eq-eqb, eqb-true, eqb-false, le-leb, leb-true, ltb-true, ltb-false}
use lib.Dec.{eqb, leb, ltb}
use lib.ListN.{length, get_or, set}
use lib.Seq.{set_out, get_or-set_same, get_or-set_other}
use Rattle.bus.proofs.Sizes.{and_true}
use Rattle.midi.specs.declared.Packer.{Packer}
use Rattle.midi.specs.Packer.{CABLES, message_length, packer_at, fresh, PackerBound}
use Rattle.record.specs.declared.Ring.{Ring}
use Rattle.record.specs.Record.{Stats, COUNTERS, counter_at, counter_of, microframes}
use Rattle.record.proofs.Counters.{counter_element}
use Rattle.bounds.specs.Bounds.{every, made_at, all_made, other, none_asks, times, none_above, counters_ok, packer_ok, holds_none, each_packer, packers_ok, ring_ok}

-- a test of the numbers below n, by what it is at each
pub every_more : (test : ℕ → Bool) (n : ℕ) → (every test n && test n) ≡ every test (n + 1)
unfolding every
every_more test n = rw add-one refl

every_is : (test all : ℕ → Bool) → all 0 ≡ true → ((n : ℕ) → all (suc n) ≡ (all n && test n)) → (n : ℕ) → every test n ≡ all n
unfolding every
every_is test all none more zero = sym none
every_is test all none more (suc n) = rw (every_is test all none more n) (sym (more n))

pub every_made : (q : List ℕ) (n : ℕ) → every (made_at q) n ≡ all_made q n
unfolding all_made
every_made q n = every_is (made_at q) (all_made q) refl (λ k. refl) n

pub every_other : (q : List ℕ) (n : ℕ) → every (other q) n ≡ none_asks q n
unfolding none_asks
every_other q n = every_is (other q) (none_asks q) refl (λ k. refl) n

pub every_packer : (test : Packer → Bool) (ps : List Packer) (n : ℕ) → every (λ k. test (packer_at ps k)) n ≡ each_packer test ps n
unfolding each_packer
every_packer test ps n = every_is (λ k. test (packer_at ps k)) (each_packer test ps) refl (λ k. refl) n

pub every_counter : (m : ℕ) (r : Stats) (n : ℕ) → every (λ k. leb (get_or r (k + 1) 0) m) n ≡ none_above m r n
unfolding none_above
every_counter m r n = every_is (λ k. leb (get_or r (k + 1) 0) m) (none_above m r) refl (λ k. rw (← counter_element (k + 1) r, add-one) refl) n

-- each of them
none_above_lem : (m : ℕ) (r : Stats) (n : ℕ) → none_above m r n ≡ true → (k : ℕ) → k < n → leb (counter_at (suc k) r) m ≡ true
unfolding none_above
none_above_lem m r zero e k l = absurd (omega arith)
none_above_lem m r (suc n) e k l = by_last (eqb k n) refl (none_above_lem m r n (and_true (none_above m r n) _ e).0 k)
  where
    by_last : (b : Bool) → eqb k n ≡ b → (k < n → leb (counter_at (suc k) r) m ≡ true) → leb (counter_at (suc k) r) m ≡ true
    by_last true i h = subst (λ (j : ℕ). leb (counter_at (suc j) r) m ≡ true) (sym (eqb-true k n i)) (and_true (none_above m r n) _ e).1
    by_last false i h = h (omega (arith, eqb-false k n i))

pub all_below_lem : (m : ℕ) (r : Stats) (n : ℕ) → ((k : ℕ) → k < n → leb (counter_at (suc k) r) m ≡ true) → none_above m r n ≡ true
unfolding none_above
all_below_lem m r zero h = refl
all_below_lem m r (suc n) h = simp (all_below_lem m r n (λ k l. h k (omega arith)), h n (omega arith))

-- a counter of a record that is in its bounds, by its place behind that of the microframes
pub counter_below : (r : Stats) → counters_ok r ≡ true → (k : ℕ) → k < COUNTERS - 1 → leb (counter_at (suc k) r) (times 32767 (counter_of microframes r)) ≡ true
unfolding counters_ok
counter_below r e = none_above_lem (times 32767 (counter_of microframes r)) r (COUNTERS - 1) e

-- a ring whose place lies in it
pub in_ring : (r : Ring) (n : ℕ) → ring_ok r n ≡ true → (r.start < n) × (r.len ≤ n)
unfolding ring_ok
in_ring r n e =
    let b = and_true (ltb r.start n) (leb r.len n) e in
    (ltb-true r.start n b.0, leb-true r.len n b.1)

-- the packer's second clause, taken apart and put together
or_held : (x u t : Bool) → (x || (u || not t)) ≡ true → x ≡ false → t ≡ true → u ≡ true
or_held true true t e a b = refl
or_held true false t e a b = sym a
or_held false true t e a b = refl
or_held false false true e a b = e
or_held false false false e a b = b

or_unless : (x u t : Bool) → (x ≡ false → t ≡ true → u ≡ true) → (x || (u || not t)) ≡ true
or_unless true u t f = refl
or_unless false true t f = refl
or_unless false false false f = refl
or_unless false false true f = f refl refl

-- number 5's bound of a packer, as a fact and as a test
pub packer_bound : (p : Packer) → packer_ok p ≡ true → PackerBound p
unfolding packer_ok
packer_bound p e =
    let both = and_true (leb p.held 2) (p.sysex || (eqb p.held 0 || not (eqb (message_length p.status) 2))) e in
    record {
      few = leb-true p.held 2 both.0;
      none = λ x l. eqb-true p.held 0 (or_held p.sysex (eqb p.held 0) (eqb (message_length p.status) 2) both.1 x (eq-eqb (message_length p.status) 2 l));
    }

pub packer_ok_lem : (p : Packer) → PackerBound p → packer_ok p ≡ true
unfolding packer_ok
packer_ok_lem p b =
    let outside = or_unless p.sysex (eqb p.held 0) (eqb (message_length p.status) 2) (λ x l. eq-eqb p.held 0 (b.none x (eqb-true (message_length p.status) 2 l))) in
    simp (le-leb p.held 2 b.few, outside)

-- ---- the packers of all cables

-- what each packer keeps, all keep
pub each_weaker : (test weaker : Packer → Bool) → ((p : Packer) → test p ≡ true → weaker p ≡ true)
    → (ps : List Packer) (n : ℕ) → each_packer test ps n ≡ true → each_packer weaker ps n ≡ true
unfolding each_packer
each_weaker test weaker f ps zero e = refl
each_weaker test weaker f ps (suc n) e =
    let both = and_true (each_packer test ps n) (test (packer_at ps n)) e in
    simp (each_weaker test weaker f ps n both.0, f (packer_at ps n) both.1)

none_ok : (p : Packer) → holds_none p ≡ true → packer_ok p ≡ true
none_ok p e =
    let none = eqb-true p.held 0 e in
    packer_ok_lem p (record { few = omega (arith, none); none = λ x l. none })

-- no byte held is inside the bound
pub none_held_ok : (ps : List Packer) → each_packer holds_none ps CABLES ≡ true → packers_ok ps ≡ true
none_held_ok ps e = each_weaker holds_none packer_ok none_ok ps CABLES e

-- one of them
pub each_one : (test : Packer → Bool) (ps : List Packer) (n : ℕ) → each_packer test ps n ≡ true → (k : ℕ) → k < n → test (packer_at ps k) ≡ true
unfolding each_packer
each_one test ps zero e k h = absurd (omega arith)
each_one test ps (suc n) e k h =
    let both = and_true (each_packer test ps n) (test (packer_at ps n)) e in
    ⊎_elim (λ (less : k < n). each_one test ps n both.0 k less) (λ (same : k ≡ n). ap (λ (i : ℕ). test (packer_at ps i)) same ∙ both.1) (below k n h)
  where
    below : (k n : ℕ) → k < suc n → (k < n) ⊎ (k ≡ n)
    below k n h = by_test (ltb k n) refl
      where
        by_test : (t : Bool) → ltb k n ≡ t → (k < n) ⊎ (k ≡ n)
        by_test true e = inl (ltb-true k n e)
        by_test false e = inr (omega (arith, h, ltb-false k n e))

-- all of them, from each
pub each_all : (test : Packer → Bool) (ps : List Packer) (n : ℕ) → ((k : ℕ) → k < n → test (packer_at ps k) ≡ true) → each_packer test ps n ≡ true
unfolding each_packer
each_all test ps zero f = refl
each_all test ps (suc n) f = simp (each_all test ps n (λ k h. f k (omega arith)), f n (omega arith))

-- another packer for one cable, where it is inside the bound
pub packers_set : (ps : List Packer) (cable : ℕ) (p : Packer) → packers_ok ps ≡ true → packer_ok p ≡ true → packers_ok (set ps cable p) ≡ true
packers_set ps cable p e ok =
    each_all packer_ok (set ps cable p) CABLES (λ k h. by_cable k (each_one packer_ok ps CABLES e k h))
  where
    by_cable : (k : ℕ) → packer_ok (packer_at ps k) ≡ true → packer_ok (packer_at (set ps cable p) k) ≡ true
    by_cable k old = by_place (eqb k cable) refl
      where
        inside : k ≡ cable → (t : Bool) → ltb k (length ps) ≡ t → packer_ok (packer_at (set ps cable p) k) ≡ true
        inside same true b = ap packer_ok (subst (λ (i : ℕ). get_or (set ps i p) k fresh ≡ p) same (get_or-set_same ps k p fresh (ltb-true k (length ps) b))) ∙ ok
        inside same false b =
            ap (λ (l : List Packer). packer_ok (get_or l k fresh)) (set_out ps cable p (omega (arith, ltb-false k (length ps) b, same))) ∙ old

        by_place : (t : Bool) → eqb k cable ≡ t → packer_ok (packer_at (set ps cable p) k) ≡ true
        by_place true s = inside (eqb-true k cable s) (ltb k (length ps)) refl
        by_place false s = ap packer_ok (get_or-set_other ps cable k p fresh (eqb-false k cable s)) ∙ old
