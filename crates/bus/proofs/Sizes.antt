-- The tests of the windows' lengths decide what they say: isPower decides Power, and isSized decides Sized.
use Rattle.std.proofs.Common.{Result, Ok, Err, OnOk, ◌≡◌, ℕ, zero, suc, ◌+◌, ◌-◌, ◌*◌, ◌/◌, ◌%◌, ◌^◌, ◌<◌, ◌≤◌, min, Bool, true, false, ◌&&◌, eqb, leb, ◌⊎◌, length, sym, refl, ap, ◌∙◌, subst, ap₂, inl, inr, ⊎_elim, pow-suc, arith, pow_mono, eq-eqb, eqb-true, le-leb, leb-false, leb-true}
use native.Mathlib.Decide.{ℕ_discrete}
use native.Mathlib.Nat.{min-zero, zero-min, mod_self}
use lib.Bits.{bit_and, and_step, and_self, and_mask}
use lib.Pow.{pow-lt}
use Rattle.bits.specs.Pick.{pick}
use Rattle.refusal.specs.declared.Refusal.{Refusal}
use Rattle.refusal.specs.declared.Refusal.TheVariants.{Windows}
use Rattle.bus.specs.Memory.{Memory}
use Rattle.bus.specs.Sized.{Power, Sized, Accepted, is_power, is_sized}

-- both sides of a conjunction that holds
pub and_true : (a b : Bool) → a && b ≡ true → (a ≡ true) × (b ≡ true)
and_true true true e = (refl, refl)
and_true true false e = let z : ◌≡◌ {A = ℕ} 0 1 = cc in absurd (omega arith)
and_true false b e = let z : ◌≡◌ {A = ℕ} 0 1 = cc in absurd (omega arith)

-- n is a power of two
record Alone (n : ℕ) : Type 0 where
  exponent : ℕ
  power : n ≡ 2 ^ exponent

-- the two cases of a number that shares no bit with the one before it: 1, or the double of such a number
odd_alone : (n : ℕ) → 0 < n → n % 2 ≡ 1 → bit_and n (n - 1) ≡ 0 → n ≡ 1
odd_alone n h o e =
    let half : (n - 1) / 2 ≡ n / 2 = omega arith in
    let low : (n - 1) % 2 ≡ 0 = omega arith in
    let twice : bit_and n (n - 1) ≡ n / 2 * 2 + 0 = and_step n (n - 1) ∙ ap₂ (λ (x y : ℕ). bit_and (n / 2) x * 2 + min (n % 2) y) half low ∙ ap₂ (λ (x y : ℕ). x * 2 + y) (and_self (n / 2)) (min-zero (n % 2)) in
    omega (arith, e, twice)

even_alone : (n : ℕ) → 0 < n → n % 2 ≡ 0 → bit_and n (n - 1) ≡ 0 → bit_and (n / 2) (n / 2 - 1) ≡ 0
even_alone n h o e =
    let half : (n - 1) / 2 ≡ n / 2 - 1 = omega arith in
    let twice : bit_and n (n - 1) ≡ bit_and (n / 2) (n / 2 - 1) * 2 + 0 = and_step n (n - 1) ∙ ap₂ (λ (x y : ℕ). bit_and (n / 2) x * 2 + min y ((n - 1) % 2)) half o ∙ ap (λ (y : ℕ). bit_and (n / 2) (n / 2 - 1) * 2 + y) (zero-min ((n - 1) % 2)) in
    omega (arith, e, twice)

alone : (fuel n : ℕ) → n ≤ fuel → 0 < n → bit_and n (n - 1) ≡ 0 → Alone n
alone zero n b h e = absurd (omega arith)
alone (suc fuel) n b h e =
    elim (ℕ_discrete (n % 2) 0) [
      | yes o ↦ doubled (alone fuel (n / 2) (omega arith) (omega (arith, o)) (even_alone n h o e)) o
      | no o ↦ record { exponent = 0; power = odd_alone n h (omega (arith, o)) e }
    ]
  where
    doubled : Alone (n / 2) → n % 2 ≡ 0 → Alone n
    doubled a o = record { exponent = suc a.exponent; power = omega (arith, o, a.power, pow-suc 2 a.exponent) }

le_or_lt : (a b : ℕ) → (a ≤ b) ⊎ (b < a)
le_or_lt a b = by_test (leb a b) refl
  where
    by_test : (t : Bool) → leb a b ≡ t → (a ≤ b) ⊎ (b < a)
    by_test true e = inl (leb-true a b e)
    by_test false e = inr (leb-false a b e)

-- an exponent outside 12 to 26 gives a power outside 4,096 to 67,108,864
in_range_lem : (n : ℕ) → Alone n → 4096 ≤ n → n ≤ 67108864 → Power n
in_range_lem n a l h =
    ⊎_elim (λ p. ⊎_elim (λ q. record { exponent = a.exponent; low = p; high = q; power = a.power })
    (λ q. absurd (omega (arith, a.power, pow_mono q))) (le_or_lt a.exponent 26))
    (λ p. absurd (omega (arith, a.power, pow-lt p)))
    (le_or_lt 12 a.exponent)

pub is_power_lem : (n : ℕ) → is_power n ≡ true → Power n
unfolding is_power
is_power_lem n e =
    let p = and_true (leb 4096 n) (leb n 67108864 && eqb (bit_and n (n - 1)) 0) e in
    let q = and_true (leb n 67108864) (eqb (bit_and n (n - 1)) 0) p.1 in
    let low = leb-true 4096 n p.0 in
    in_range_lem n (alone n n (omega arith) (omega (arith, low)) (eqb-true (bit_and n (n - 1)) 0 q.1)) low (leb-true n 67108864 q.0)

pub power_is : (n : ℕ) → Power n → is_power n ≡ true
unfolding is_power
power_is n w =
    let low : 4096 ≤ n = subst (λ (x : ℕ). 4096 ≤ x) (sym w.power) (pow_mono w.low) in
    let high : n ≤ 67108864 = subst (λ (x : ℕ). x ≤ 67108864) (sym w.power) (pow_mono w.high) in
    let none : bit_and n (n - 1) ≡ 0 = ap (λ (x : ℕ). bit_and x (x - 1)) w.power ∙ and_mask (2 ^ w.exponent) w.exponent ∙ mod_self (2 ^ w.exponent) in
    simp (le-leb 4096 n low, le-leb n 67108864 high, eq-eqb (bit_and n (n - 1)) 0 none)

pub is_sized_lem : (m : Memory) → is_sized m ≡ true → Sized m
unfolding is_sized
is_sized_lem m e =
    let p = and_true (eqb (length m.sram) 65536) (eqb (length m.page) 4096 && is_power (length m.dynamic)) e in
    let q = and_true (eqb (length m.page) 4096) (is_power (length m.dynamic)) p.1 in
    record {
      dynamic_length = is_power_lem (length m.dynamic) q.1;
      sram_length = eqb-true (length m.sram) 65536 p.0;
      page_length = eqb-true (length m.page) 4096 q.0;
    }

pub sized_is : (m : Memory) → Sized m → is_sized m ≡ true
unfolding is_sized
sized_is m s =
    simp
    (eq-eqb (length m.sram) 65536 s.sram_length, eq-eqb (length m.page) 4096 s.page_length, power_is (length m.dynamic) s.dynamic_length)

-- what the test that passes gives
pub accepted : (m : Memory) (t : Bool) (r : Result (Unit {0}) Refusal) → t ≡ is_sized m → r ≡ pick t (Ok tt) (Err Windows) → OnOk r (Accepted m)
unfolding is_sized
accepted m true r e f =
    let p = and_true (eqb (length m.sram) 65536) (eqb (length m.page) 4096 && is_power (length m.dynamic)) (sym e) in
    let q = and_true (eqb (length m.page) 4096) (is_power (length m.dynamic)) p.1 in
    subst (λ (z : Result (Unit {0}) Refusal). OnOk z (Accepted m)) (sym f)
    (q.1, (eqb-true (length m.sram) 65536 p.0, eqb-true (length m.page) 4096 q.0))
accepted m false r e f = subst (λ (z : Result (Unit {0}) Refusal). OnOk z (Accepted m)) (sym f) tt
