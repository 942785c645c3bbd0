-- The bits of a number, one at a time: what each operation does to bit k, and that a word is its bits.
use mathlib.Core.Path.{◌≡◌, refl, sym, ap, ap₂, ◌∙◌}
use Prim.Native.Nat.{ℕ, zero, suc, ◌+◌, ◌-◌, ◌*◌, ◌/◌, ◌%◌, ◌^◌, ◌≤◌, ◌<◌, min, max}
use native.Mathlib.Omega.{arith}
use native.Mathlib.Nat.{pow-suc, min-le_left, max-le, zero-min, suc-min-suc, min-zero, add-zero, mul_assoc, zero-mul, one-mul}
use lib.Bits.{bit_and, bit_or, and_step, or_step, and_lt, and_le_l, and_le_r, and_mask, or_lt}
use lib.Dec.{eqb}
use lib.Pow.{pow_pos, pow-lt, shr-shr}
use mathlib.Core.Bool.{not, true, false}
use mathlib.Core.Logic.{◌↔◌}
use borrow.Author.Tests.{eqb-true, eq-eqb, ne_eqb}
use Rattle.bits.specs.Word.{clear, set, any, replace, inv32}

-- bit k of v
unfoldable pub bit : ℕ → ℕ → ℕ
bit zero v = v % 2
bit (suc k) v = bit k (v / 2)

pub bit_lt : (k v : ℕ) → bit k v < 2
unfolding bit
bit_lt zero v = omega arith
bit_lt (suc k) v = bit_lt k (v / 2)

-- the same by a power of two
pub bit_at : (k v : ℕ) → bit k v ≡ v / 2 ^ k % 2
unfolding bit
bit_at zero v = omega arith
bit_at (suc k) v =
    let e : 1 + k ≡ suc k = omega arith in
    bit_at k (v / 2) ∙ ap (λ (x : ℕ). x % 2) (shr-shr v 1 k ∙ ap (λ (j : ℕ). v / 2 ^ j) e)

min_lt : (a b : ℕ) → a < 2 → min a b < 2
min_lt a b h = omega (arith, min-le_left a b)

pub bit_and_lem : (k a b : ℕ) → bit k (bit_and a b) ≡ min (bit k a) (bit k b)
unfolding bit
bit_and_lem zero a b = omega (arith, and_step a b, min_lt (a % 2) (b % 2) (omega arith))
bit_and_lem (suc k) a b =
    let half : bit_and a b / 2 ≡ bit_and (a / 2) (b / 2) = omega (arith, and_step a b, min_lt (a % 2) (b % 2) (omega arith)) in
    rw half (bit_and_lem k (a / 2) (b / 2))

max_lt : (a b : ℕ) → a < 2 → b < 2 → max a b < 2
max_lt a b ha hb =
    let l : max a b ≤ 1 = max-le (omega arith) (omega arith) in
    omega arith

pub bit_or_lem : (k a b : ℕ) → bit k (bit_or a b) ≡ max (bit k a) (bit k b)
unfolding bit
bit_or_lem zero a b = omega (arith, or_step a b, max_lt (a % 2) (b % 2) (omega arith) (omega arith))
bit_or_lem (suc k) a b =
    let half : bit_or a b / 2 ≡ bit_or (a / 2) (b / 2) = omega (arith, or_step a b, max_lt (a % 2) (b % 2) (omega arith) (omega arith)) in
    rw half (bit_or_lem k (a / 2) (b / 2))

-- bit k of the complement, at any width n
pub bit_not : (n k v : ℕ) → k < n → v < 2 ^ n → bit k ((2 ^ n - 1) - v) ≡ 1 - bit k v
unfolding bit
bit_not zero k v h hv = absurd (omega arith)
bit_not (suc n) zero v h hv = let p = pow-suc 2 n in omega (arith, p)
bit_not (suc n) (suc k) v h hv =
    let p = pow-suc 2 n in
    let half : ((2 ^ suc n - 1) - v) / 2 ≡ (2 ^ n - 1) - v / 2 = omega (arith, p) in
    rw half (bit_not n k (v / 2) (omega arith) (omega (arith, p)))

-- a number below 2^n is its n bits
pub bit_ext : (n a b : ℕ) → a < 2 ^ n → b < 2 ^ n → ((k : ℕ) → k < n → bit k a ≡ bit k b) → a ≡ b
unfolding bit
bit_ext zero a b ha hb f = omega arith
bit_ext (suc n) a b ha hb f =
    let p = pow-suc 2 n in
    let low : a % 2 ≡ b % 2 = f 0 (omega arith) in
    let high = bit_ext n (a / 2) (b / 2) (omega (arith, p)) (omega (arith, p)) (λ k h. f (suc k) (omega arith)) in
    omega (arith, low, high)

-- bit k of a word cleared, set and replaced
pub bit_clear : (k v m : ℕ) → k < 32 → m < 2 ^ 32 → bit k (clear v m) ≡ min (bit k v) (1 - bit k m)
bit_clear k v m h hm = bit_and_lem k v (inv32 m) ∙ ap (min (bit k v)) (bit_not 32 k m h hm)

pub bit_set : (k v m : ℕ) → bit k (set v m) ≡ max (bit k v) (bit k m)
bit_set k v m = bit_or_lem k v m

pub bit_replace : (k v m f : ℕ) → k < 32 → m < 2 ^ 32 → bit k (replace v m f) ≡ max (min (bit k v) (1 - bit k m)) (min (bit k f) (bit k m))
bit_replace k v m f h hm = bit_or_lem k (clear v m) (bit_and f m) ∙ ap₂ max (bit_clear k v m h hm) (bit_and_lem k f m)

pub bit_zero : (k : ℕ) → bit k 0 ≡ 0
unfolding bit
bit_zero zero = refl
bit_zero (suc k) = bit_zero k

two_bits : (a b : ℕ) → a < 2 → b < 2 → min a b ≡ 0 → min a (1 - b) ≡ a
two_bits zero zero ha hb e = refl
two_bits zero (suc b) ha hb e = zero-min (1 - suc b)
two_bits (suc zero) zero ha hb e = refl
two_bits (suc zero) (suc b) ha hb e = absurd (omega (arith, e, suc-min-suc 0 b))
two_bits (suc (suc a)) b ha hb e = absurd (omega arith)

-- clearing bits of which none is set changes nothing
pub clear_none : (c m : ℕ) → c < 2 ^ 32 → m < 2 ^ 32 → bit_and c m ≡ 0 → clear c m ≡ c
clear_none c m hc hm e =
    bit_ext 32 (clear c m) c (and_lt 32 c (inv32 m) hc (omega arith)) hc (λ k h.
    bit_clear k c m h hm
    ∙ two_bits (bit k c) (bit k m) (bit_lt k c) (bit_lt k m) (sym (bit_and_lem k c m) ∙ ap (bit k) e ∙ bit_zero k))

-- a test of one bit's mask is a test of the bit
pub bit_mask : (k v : ℕ) → bit_and v (2 ^ k) ≡ bit k v * 2 ^ k
unfolding bit
bit_mask zero v = omega (arith, and_mask v 1)
bit_mask (suc k) v =
    let p = pow-suc 2 k in
    let e : 2 ^ suc k / 2 ≡ 2 ^ k = omega (arith, p) in
    let f : 2 ^ suc k % 2 ≡ 0 = omega (arith, p) in
    and_step v (2 ^ suc k)
    ∙ ap₂ (λ x y. bit_and (v / 2) x * 2 + min (v % 2) y) e f
    ∙ ap₂ (λ x y. x * 2 + y) (bit_mask k (v / 2)) (min-zero (v % 2))
    ∙ add-zero _
    ∙ mul_assoc (bit k (v / 2)) (2 ^ k) 2
    ∙ ap (λ x. bit k (v / 2) * x) (sym p)

bit_test : (k b : ℕ) → b < 2 → not (eqb (b * 2 ^ k) 0) ≡ eqb b 1
bit_test k zero h = simp zero-mul
bit_test k (suc zero) h = simp (one-mul, ne_eqb (2 ^ k) 0 (λ e. omega (arith, pow_pos k, e)))
bit_test k (suc (suc b)) h = absurd (omega arith)

pub any_bit : (k v : ℕ) → any v (2 ^ k) ≡ eqb (bit k v) 1
any_bit k v = ap (λ x. not (eqb x 0)) (bit_mask k v) ∙ bit_test k (bit k v) (bit_lt k v)

-- and as a fact
pub any_is : (k v : ℕ) → (any v (2 ^ k) ≡ true) ↔ (v / 2 ^ k % 2 ≡ 1)
any_is k v = (
  λ h. sym (bit_at k v) ∙ eqb-true (bit k v) 1 (sym (any_bit k v) ∙ h),
  λ h. any_bit k v ∙ eq-eqb (bit k v) 1 (bit_at k v ∙ h),
)

-- ---- words stay words

pub clear_lt : (v m : ℕ) → v < 2 ^ 32 → clear v m < 2 ^ 32
clear_lt v m h = omega (arith, and_le_l v (inv32 m))

pub set_lt : (v m : ℕ) → v < 2 ^ 32 → m < 2 ^ 32 → set v m < 2 ^ 32
set_lt v m hv hm = or_lt 32 v m hv hm

pub replace_lt : (v m f : ℕ) → v < 2 ^ 32 → m < 2 ^ 32 → replace v m f < 2 ^ 32
replace_lt v m f hv hm =
    or_lt 32 (clear v m) (bit_and f m) (clear_lt v m hv) (omega (arith, and_le_r f m))

-- ---- one bit set or cleared: the test of it, and of any other bit

-- the bits of a power of two
pub bit_same : (k : ℕ) → bit k (2 ^ k) ≡ 1
unfolding bit
bit_same zero = refl
bit_same (suc k) =
    let p = pow-suc 2 k in
    let half : 2 ^ suc k / 2 ≡ 2 ^ k = omega (arith, p) in
    rw half (bit_same k)

pub bit_other : (j k : ℕ) → (j ≡ k → ⊥) → bit j (2 ^ k) ≡ 0
unfolding bit
bit_other zero zero h = absurd (h refl)
bit_other zero (suc k) h = omega (arith, pow-suc 2 k)
bit_other (suc j) zero h = bit_zero j
bit_other (suc j) (suc k) h =
    let p = pow-suc 2 k in
    let half : 2 ^ suc k / 2 ≡ 2 ^ k = omega (arith, p) in
    rw half (bit_other j k (λ e. h (ap suc e)))

one_is : (a b : ℕ) → a ≡ b → eqb a 1 ≡ eqb b 1
one_is a b e = ap (λ (x : ℕ). eqb x 1) e

-- a test of bit k is the same of words that agree in it
pub any_agrees : (k v w : ℕ) → bit k v ≡ bit k w → any v (2 ^ k) ≡ any w (2 ^ k)
any_agrees k v w e = any_bit k v ∙ one_is (bit k v) (bit k w) e ∙ sym (any_bit k w)

max_one : (a : ℕ) → a < 2 → max a 1 ≡ 1
max_one zero h = refl
max_one (suc zero) h = refl
max_one (suc (suc a)) h = absurd (omega arith)

max_none : (a : ℕ) → a < 2 → max a 0 ≡ a
max_none zero h = refl
max_none (suc zero) h = refl
max_none (suc (suc a)) h = absurd (omega arith)

pub min_one : (a : ℕ) → a < 2 → min a 1 ≡ a
min_one zero h = refl
min_one (suc zero) h = refl
min_one (suc (suc a)) h = absurd (omega arith)

pub any_set : (k v : ℕ) → any (set v (2 ^ k)) (2 ^ k) ≡ true
any_set k v =
    any_bit k (set v (2 ^ k))
    ∙ eq-eqb _ 1 (bit_set k v (2 ^ k) ∙ ap (max (bit k v)) (bit_same k) ∙ max_one (bit k v) (bit_lt k v))

pub any_set_other : (j k v : ℕ) → (j ≡ k → ⊥) → any (set v (2 ^ k)) (2 ^ j) ≡ any v (2 ^ j)
any_set_other j k v h =
    any_agrees j (set v (2 ^ k)) v
    (bit_set j v (2 ^ k) ∙ ap (max (bit j v)) (bit_other j k h) ∙ max_none (bit j v) (bit_lt j v))

pub any_clear : (k v : ℕ) → k < 32 → any (clear v (2 ^ k)) (2 ^ k) ≡ false
any_clear k v h =
    let gone : bit k (clear v (2 ^ k)) ≡ 0 = bit_clear k v (2 ^ k) h (pow-lt h) ∙ ap (λ (x : ℕ). min (bit k v) (1 - x)) (bit_same k) ∙ min-zero (bit k v) in
    any_bit k (clear v (2 ^ k)) ∙ ne_eqb (bit k (clear v (2 ^ k))) 1 (λ e. omega (arith, e, gone))

pub any_clear_other : (j k v : ℕ) → j < 32 → k < 32 → (j ≡ k → ⊥) → any (clear v (2 ^ k)) (2 ^ j) ≡ any v (2 ^ j)
any_clear_other j k v hj hk h =
    any_agrees j (clear v (2 ^ k)) v
    (bit_clear j v (2 ^ k) hj (pow-lt hk) ∙ ap (λ (x : ℕ). min (bit j v) (1 - x)) (bit_other j k h) ∙ min_one (bit j v) (bit_lt j v))
