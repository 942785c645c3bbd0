-- Setups that the source makes, by their shapes.
use Prim.Native.Nat.{ℕ, ◌/◌, ◌%◌, ◌^◌, ◌≤◌, ◌<◌}
use mathlib.Core.Bool.{true, ◌&&◌}
use mathlib.Core.List.{List, [], ◌∷◌, ◌++◌}
use mathlib.Core.Path.{◌≡◌}
use native.Mathlib.Omega.{arith}
use borrow.Author.Tests.{eqb-true, ltb-true}
use lib.Dec.{eqb, ltb}
use Rattle.bits.proofs.Tests.{false_true, and_first, and_second, and_both, or_case, or_first, or_second}
use Rattle.record.specs.declared.Control.{Control}
use Rattle.model.specs.Control.{request_type, request, w_length, asks_for}
use Rattle.bounds.specs.Bounds.{le, asks_configuration, Shape, interface_shape, shapes, shaped, made}

-- P where two words are of each of the shapes
unfoldable Each : List Shape → ℕ → ℕ → Type 0 → Type 0
Each [] a b P = Unit {0}
Each (x ∷ xs) a b P = (x.first a ≡ true → x.second b ≡ true → P) × Each xs a b P

-- of words that have a shape, by what holds of each
by_shape : {P : Type 0} (xs : List Shape) (a b : ℕ) → shaped xs a b ≡ true → Each xs a b P → P
unfolding Each
by_shape [] a b m h = absurd (false_true m)
by_shape (x ∷ xs) a b m h =
    or_case (x.first a && x.second b) (shaped xs a b) m
    (λ y. h.0 (and_first (x.first a) (x.second b) y) (and_second (x.first a) (x.second b) y))
    (λ y. by_shape xs a b y h.1)

-- words of a shape have one of any shapes with that
pub shape_there : (before : List Shape) (x : Shape) (after : List Shape) (a b : ℕ) → x.first a ≡ true → x.second b ≡ true → shaped (before ++ x ∷ after) a b ≡ true
shape_there [] x after a b p q = or_first (x.first a && x.second b) (shaped after a b) (and_both (x.first a) (x.second b) p q)
shape_there (y ∷ before) x after a b p q = or_second (y.first a && y.second b) _ (shape_there before x after a b p q)

-- ---- what a request that the source makes asks for

module _ (c : Control) (m : made c.first c.second ≡ true) where
  type_of : (type : ℕ) → asks_for type c ≡ true → c.first / 2 ^ 24 ≡ type
  type_of type e = eqb-true (c.first / 2 ^ 24) type (and_second (eqb (request c) 6) _ (and_second (eqb (request_type c) 0x80) _ e))

  high : interface_shape.first c.first ≡ true → c.first / 2 ^ 16 < 256
  high f = ltb-true (c.first / 2 ^ 16) 256 (and_second (ltb 0 (c.first / 2 ^ 16)) _ (and_second (eqb (c.first % 2 ^ 16) (le 1 11 0 0)) _ f))

  pub made_device : asks_for 1 c ≡ true → w_length c ≤ 64
  unfolding made Each
  made_device e =
      let type = type_of 1 e in
      by_shape shapes c.first c.second m (
        (λ f s. or_case (eqb c.second (le 0 0 64 0)) (eqb c.second (le 0 0 18 0)) s
            (λ y. omega (arith, eqb-true c.second (le 0 0 64 0) y))
            (λ y. omega (arith, eqb-true c.second (le 0 0 18 0) y))),
        (
          (λ f s. absurd (omega (arith, type, eqb-true c.first (le 0 5 7 0) f))),
          (
            (λ f s. absurd (omega (arith, type, eqb-true c.first (le 0x80 6 0 2) f))),
            (
              (λ f s. absurd (omega (arith, type, eqb-true c.first (le 0 9 1 0) f))),
              ((λ f s. absurd (omega (arith, type, high f))), tt),
            ),
          ),
        ),
      )

  pub made_configuration : asks_for 2 c ≡ true → asks_configuration c.first ≡ true
  unfolding made Each
  made_configuration e =
      let type = type_of 2 e in
      by_shape shapes c.first c.second m (
        (λ f s. absurd (omega (arith, type, eqb-true c.first (le 0x80 6 0 1) f))),
        (
          (λ f s. absurd (omega (arith, type, eqb-true c.first (le 0 5 7 0) f))),
          (
            (λ f s. f),
            (
              (λ f s. absurd (omega (arith, type, eqb-true c.first (le 0 9 1 0) f))),
              ((λ f s. absurd (omega (arith, type, high f))), tt),
            ),
          ),
        ),
      )
