-- The counters by place: the same one rises, another stays, two commute; and the list of them as the array that code has.
use Rattle.std.proofs.Common.{◌≡◌, ℕ, zero, suc, ◌+◌, ◌<◌, Bool, true, false, not, eqb, ◌≢◌, [], ◌∷◌, length, get_or, set, sym, refl, ap, ◌∙◌, le_of_suc-le-suc, not-suc-le-zero, eqb-true}
use lib.Seq.{set-get_or}
use borrow.Author.Tests.{eqb-false}
use Rattle.bits.specs.Pick.{pick}
use Rattle.bits.proofs.Tests.{false_true}
use Rattle.record.specs.declared.State.{State}
use Rattle.record.specs.Record.{Stats, Counter, place, wrapped, with_stats, first, behind, counter_at, with_counter_at, raised}
use Rattle.record.specs.World.{World, with_state}
use Rattle.record.specs.Change.{count, apply, one}
use Rattle.record.specs.Did.{Leads}
use Rattle.record.proofs.Laws.{once}

-- ---- a value at a place

counter_same : (k x : ℕ) (r : Stats) → counter_at k (with_counter_at k x r) ≡ x
unfolding counter_at with_counter_at first behind
counter_same zero x r = refl
counter_same (suc k) x r = counter_same k x (behind r)

counter_other : (j k x : ℕ) (r : Stats) → j ≢ k → counter_at j (with_counter_at k x r) ≡ counter_at j r
unfolding counter_at with_counter_at first behind
counter_other zero zero x r d = absurd (d refl)
counter_other zero (suc k) x r d = refl
counter_other (suc j) zero x r d = refl
counter_other (suc j) (suc k) x r d = counter_other j k x (behind r) (λ e. d (ap suc e))

counters_swap : (j k x y : ℕ) (r : Stats) → j ≢ k → with_counter_at j x (with_counter_at k y r) ≡ with_counter_at k y (with_counter_at j x r)
unfolding with_counter_at first behind
counters_swap zero zero x y r d = absurd (d refl)
counters_swap zero (suc k) x y r d = refl
counters_swap (suc j) zero x y r d = refl
counters_swap (suc j) (suc k) x y r d = ap (λ (l : Stats). first r ∷ l) (counters_swap j k x y (behind r) (λ e. d (ap suc e)))

-- ---- a counter rises

pub raised_same : (k n : ℕ) (r : Stats) → counter_at k (raised k n r) ≡ wrapped (counter_at k r + n)
unfolding raised
raised_same k n r = counter_same k (wrapped (counter_at k r + n)) r

pub raised_other : (j k n : ℕ) (r : Stats) → j ≢ k → counter_at j (raised k n r) ≡ counter_at j r
unfolding raised
raised_other j k n r d = counter_other j k (wrapped (counter_at k r + n)) r d

pub raised_swap : (j k n m : ℕ) (r : Stats) → j ≢ k → raised j n (raised k m r) ≡ raised k m (raised j n r)
unfolding raised
raised_swap j k n m r d =
    ap (λ (x : ℕ). with_counter_at j (wrapped (x + n)) (with_counter_at k (wrapped (counter_at k r + m)) r)) (counter_other j k (wrapped (counter_at k r + m)) r d)
    ∙ counters_swap j k (wrapped (counter_at j r + n)) (wrapped (counter_at k r + m)) r d
    ∙ ap (λ (x : ℕ). with_counter_at k (wrapped (x + m)) (with_counter_at j (wrapped (counter_at j r + n)) r))
    (sym (counter_other k j (wrapped (counter_at j r + n)) r (λ e. d (sym e))))

-- what stands at the place j once the counter at the place k rose
abbrev pub rose : ℕ → ℕ → ℕ → ℕ → ℕ
rose j k n x = pick (eqb j k) (wrapped (x + n)) x

pub raised_by : (j k n : ℕ) (r : Stats) → counter_at j (raised k n r) ≡ rose j k n (counter_at j r)
raised_by j k n r = by_place (eqb j k) refl
  where
    by_place : (b : Bool) → eqb j k ≡ b → counter_at j (raised k n r) ≡ pick b (wrapped (counter_at j r + n)) (counter_at j r)
    by_place true e = ap (λ (i : ℕ). counter_at j (raised i n r)) (sym (eqb-true j k e)) ∙ raised_same j n r
    by_place false e = raised_other j k n r (eqb-false j k e)

pub rose_other : (j k n x : ℕ) → not (eqb j k) ≡ true → rose j k n x ≡ x
rose_other j k n x h = by_test (eqb j k) h
  where
    by_test : (b : Bool) → not b ≡ true → pick b (wrapped (x + n)) x ≡ x
    by_test true e = absurd (false_true e)
    by_test false e = refl

-- ---- the array that code has

pub counter_element : (k : ℕ) (r : Stats) → counter_at k r ≡ get_or r k 0
unfolding counter_at first behind
counter_element zero [] = refl
counter_element zero (x ∷ xs) = refl
counter_element (suc k) [] = counter_element k []
counter_element (suc k) (x ∷ xs) = counter_element k xs

pub counter_stored : (k x : ℕ) (r : Stats) → k < length r → with_counter_at k x r ≡ set r k x
unfolding with_counter_at first behind
counter_stored k x [] h = absurd (not-suc-le-zero h)
counter_stored zero x (y ∷ ys) h = refl
counter_stored (suc k) x (y ∷ ys) h = ap (λ (l : Stats). y ∷ l) (counter_stored k x ys (le_of_suc-le-suc h))

pub counter_kept : (k : ℕ) (r : Stats) → k < length r → with_counter_at k (counter_at k r) r ≡ r
counter_kept k r h = counter_stored k (counter_at k r) r h ∙ ap (set r k) (counter_element k r) ∙ set-get_or r k 0

-- and the step that counts
pub counts_one : (c : Counter) (n : ℕ) (w : World) {s r : State} → r ≡ with_stats s (raised (place c) n s.stats)
    → Leads (one (λ v. count c n)) (with_state w s) (with_state w r)
unfolding apply
counts_one c n w e = once _ _ _ (ap (with_state w) e)
