-- Within a page of 4,096 bytes every address leads into the same window, one place after the other.
use Rattle.std.proofs.Common.{◌≡◌, ℕ, zero, suc, ◌+◌, ◌-◌, ◌*◌, ◌/◌, ◌%◌, ◌^◌, ◌<◌, ◌≤◌, Bool, true, false, ltb, length, sym, refl, ap, ◌∙◌, subst, sub-add_cancel, mod-lt, arith, ltb-false, ltb-true, le-ltb, lt-ltb}
use lib.Bits.{bit_and}
use lib.Pow.{mod-pow-add}
use Rattle.bits.specs.Pick.{pick}
use Rattle.bus.specs.declared.Place.{Place}
use Rattle.bus.specs.declared.Place.TheVariants.{Dynamic, Static, Page, Nowhere}
use Rattle.bus.specs.Memory.{Memory, place, at}
use Rattle.bus.specs.Sized.{Power, Sized}
use Rattle.bus.proofs.Places.{Inside, inside, masked, power_pos}

-- the k-th place after a place
abbrev pub shift : Place → ℕ → Place
shift (Dynamic i) k = Dynamic (i + k)
shift (Static i) k = Static (i + k)
shift (Page i) k = Page (i + k)
shift Nowhere k = Nowhere

-- within a page a remainder by a power of two from 4,096 on moves with the address
pub mod_shift : {n : ℕ} (a k : ℕ) → Power n → a % 4096 + k < 4096 → (a + k) % n ≡ a % n + k
mod_shift {n} a k w h =
    ap (λ (x : ℕ). (a + k) % x) whole ∙ mod-pow-add (a + k) j 12 ∙ omega_step
    ∙ ap (λ (x : ℕ). x + k) (sym (ap (λ (x : ℕ). a % x) whole ∙ mod-pow-add a j 12))
  where
    j : ℕ
    j = w.exponent - 12

    whole : n ≡ 2 ^ (j + 12)
    whole = w.power ∙ ap (λ (x : ℕ). 2 ^ x) (sym (sub-add_cancel w.low))

    same : (a + k) / 4096 ≡ a / 4096
    same = omega arith

    omega_step : ((a + k) / 2 ^ 12 % 2 ^ j) * 2 ^ 12 + (a + k) % 2 ^ 12 ≡ (a / 2 ^ 12 % 2 ^ j) * 2 ^ 12 + a % 2 ^ 12 + k
    omega_step = omega (arith, ap (λ (x : ℕ). (x % 2 ^ j) * 4096) same)

-- what is left of a page lies in dynamic memory
pub dynamic_fits : {n : ℕ} → Power n → (a : ℕ) → bit_and a (n - 1) + 4096 ≤ n + a % 4096
dynamic_fits {n} w a =
    rw (masked w a)
    (omega (arith, mod_shift a (4095 - a % 4096) w (omega arith), mod-lt (a + (4095 - a % 4096)) (power_pos w)))

-- a test against a multiple of 4,096 gives the same answer in all of a page
ltb_shift : (a k b : ℕ) → a % 4096 + k < 4096 → b % 4096 ≡ 0 → ltb (a + k) b ≡ ltb a b
ltb_shift a k b h z = by_test (ltb a b) refl
  where
    by_test : (t : Bool) → ltb a b ≡ t → ltb (a + k) b ≡ t
    by_test true e = lt-ltb (a + k) b (omega (arith, ltb-true a b e))
    by_test false e = le-ltb (a + k) b (omega (arith, ltb-false a b e))

shift_pick : (b : Bool) (x y x' y' : Place) (k : ℕ) → x' ≡ shift x k → (b ≡ false → y' ≡ shift y k) → pick b x' y' ≡ shift (pick b x y) k
shift_pick true x y x' y' k p q = p
shift_pick false x y x' y' k p q = q refl

pub place_shift : {n : ℕ} (a k : ℕ) → Power n → a % 4096 + k < 4096 → place n (a + k) ≡ shift (place n a) k
unfolding place
place_shift {n} a k w h =
    rw
    (ltb_shift a k 0x4000_0000 h refl, ltb_shift a k 0x8000_0000 h refl, ltb_shift a k 0x8C00_0000 h refl, ltb_shift a k 0xFC0B_0000 h refl, ltb_shift a k 0xFC0B_1000 h refl)
    (shift_pick (ltb a 0x4000_0000) _ _ _ _ k refl
    (λ _. shift_pick (ltb a 0x8000_0000) _ _ _ _ k (ap Dynamic (mod_shift a k w h))
    (λ _. shift_pick (ltb a 0x8C00_0000) _ _ _ _ k (ap Static (omega arith))
    (λ _. shift_pick (ltb a 0xFC0B_0000) _ _ _ _ k refl
    (λ e. shift_pick (ltb a 0xFC0B_1000) _ _ _ _ k (ap Page (omega (arith, ltb-false a 0xFC0B_0000 e))) (λ _. refl))))))

pub at_shift : (m : Memory) (a k : ℕ) → Sized m → a % 4096 + k < 4096 → at m (a + k) ≡ shift (at m a) k
unfolding at
at_shift m a k s h = place_shift a k s.dynamic_length h

-- the n places from q on are within its window
abbrev pub Ends : Memory → Place → ℕ → Type 0
Ends m (Dynamic i) n = i + n ≤ length m.dynamic
Ends m (Static i) n = i + n ≤ length m.sram
Ends m (Page i) n = i + n ≤ length m.page
Ends m Nowhere n = Unit {0}

ends_none : (m : Memory) (q : Place) → Inside m q → Ends m q 0
ends_none m (Dynamic i) h = omega arith
ends_none m (Static i) h = omega arith
ends_none m (Page i) h = omega arith
ends_none m Nowhere h = tt

ends_some : (m : Memory) (q : Place) (k : ℕ) → Inside m (shift q k) → Ends m q (suc k)
ends_some m (Dynamic i) k h = omega arith
ends_some m (Static i) k h = omega arith
ends_some m (Page i) k h = omega arith
ends_some m Nowhere k h = tt

pub ends : (m : Memory) (a n : ℕ) (q : Place) → at m a ≡ q → Sized m → a % 4096 + n ≤ 4096 → Ends m q n
ends m a zero q e s h = ends_none m q (subst (Inside m) e (inside s a))
ends m a (suc k) q e s h =
    ends_some m q k (subst (Inside m) (at_shift m a k s (omega arith) ∙ ap (λ (p : Place). shift p k) e) (inside s (a + k)))
