-- Tests put together and taken apart.
use Prim.Native.Nat.{ℕ}
use mathlib.Core.Path.{◌≡◌, refl, sym}
use mathlib.Core.Bool.{Bool, true, false, not, ◌&&◌, ◌||◌}
use native.Mathlib.Omega.{arith}

pub false_true : false ≡ true → ⊥
false_true e = let z : ◌≡◌ {A = ℕ} 0 1 = cc in omega arith

pub and_first : (a b : Bool) → (a && b) ≡ true → a ≡ true
and_first true b e = refl
and_first false b e = e

pub and_second : (a b : Bool) → (a && b) ≡ true → b ≡ true
and_second true b e = e
and_second false b e = absurd (false_true e)

-- the second fails where the first holds and both do not
pub and_rest : (a b : Bool) → (a && b) ≡ false → a ≡ true → b ≡ false
and_rest true b e h = e
and_rest false b e h = absurd (false_true h)

pub not-true : (a : Bool) → not a ≡ true → a ≡ false
not-true true e = sym e
not-true false e = refl

pub not_holds : (a : Bool) → ¬ (a ≡ true) → a ≡ false
not_holds true n = absurd (n refl)
not_holds false n = refl

pub and_false : (a : Bool) → (a && false) ≡ false
and_false true = refl
and_false false = refl

pub or_false : (a : Bool) → (a || false) ≡ a
or_false true = refl
or_false false = refl

pub and_both : (a b : Bool) → a ≡ true → b ≡ true → (a && b) ≡ true
and_both true b p q = q
and_both false b p q = p

-- either, by the one that holds
pub or_case : {P : Type 0} (a b : Bool) → (a || b) ≡ true → (a ≡ true → P) → (b ≡ true → P) → P
or_case true b e p q = p refl
or_case false b e p q = q e

pub or_first : (a b : Bool) → a ≡ true → (a || b) ≡ true
or_first true b e = refl
or_first false b e = absurd (false_true e)

pub or_second : (a b : Bool) → b ≡ true → (a || b) ≡ true
or_second true b e = refl
or_second false b e = e

-- one where the other does not hold
pub or_other : (a b : Bool) → (a || b) ≡ true → a ≡ false → b ≡ true
or_other true b e h = absurd (false_true (sym h))
or_other false b e h = e

pub or_by : (a b : Bool) → (a ≡ false → b ≡ true) → (a || b) ≡ true
or_by true b p = refl
or_by false b p = p refl

-- one where the other holds
pub imp_other : (a b : Bool) → (not a || b) ≡ true → a ≡ true → b ≡ true
imp_other true b e h = e
imp_other false b e h = absurd (false_true h)

pub imp_by : (a b : Bool) → (a ≡ true → b ≡ true) → (not a || b) ≡ true
imp_by true b p = p refl
imp_by false b p = refl
