-- Where an address leads, by the range that it lies in; and that a place is within its window.
use Rattle.std.proofs.Common.{◌≡◌, ℕ, ◌+◌, ◌-◌, ◌*◌, ◌/◌, ◌%◌, ◌^◌, ◌<◌, ◌≤◌, Bool, true, false, ltb, ◌⊎◌, length, sym, refl, ap, ◌∙◌, subst, inl, inr, ⊎_elim, mul-le-mul_right, mod-lt, mod-eq_of_lt, suc-mul, div-lt_iff_lt-mul, div-add-mod', arith, lit<, length-set, pow_pos, pow-add, ltb-false, ltb-true, le-ltb, lt-ltb}
use native.Mathlib.Nat.{mul-add-mod_self_right}
use lib.Bits.{bit_and, and_mask}
use Rattle.bits.specs.Pick.{pick}
use Rattle.bus.specs.declared.Place.{Place}
use Rattle.bus.specs.declared.Place.TheVariants.{Dynamic, Static, Page, Nowhere}
use Rattle.bus.specs.Memory.{Memory, place, read, write, lost, at, peek8, poke8, dropped8}
use Rattle.bus.specs.Sized.{Power, Sized, Left}

module _ (n a : ℕ) where
  pub place_low : a < 0x4000_0000 → place n a ≡ Nowhere
  unfolding place
  place_low h = simp (lt-ltb a 0x4000_0000 h)

  pub place_dynamic : 0x4000_0000 ≤ a → a < 0x8000_0000 → place n a ≡ Dynamic (a % n)
  unfolding place
  place_dynamic l h = simp (le-ltb a 0x4000_0000 l, lt-ltb a 0x8000_0000 h)

  pub place_static : 0x8000_0000 ≤ a → a < 0x8C00_0000 → place n a ≡ Static (a % 65536)
  unfolding place
  place_static l h =
      simp (le-ltb a 0x4000_0000 (omega arith), le-ltb a 0x8000_0000 l, lt-ltb a 0x8C00_0000 h)

  pub place_gap : 0x8C00_0000 ≤ a → a < 0xFC0B_0000 → place n a ≡ Nowhere
  unfolding place
  place_gap l h =
      simp
      (le-ltb a 0x4000_0000 (omega arith), le-ltb a 0x8000_0000 (omega arith), le-ltb a 0x8C00_0000 l, lt-ltb a 0xFC0B_0000 h)

  pub place_page : 0xFC0B_0000 ≤ a → a < 0xFC0B_1000 → place n a ≡ Page (a - 0xFC0B_0000)
  unfolding place
  place_page l h =
      simp
      (le-ltb a 0x4000_0000 (omega arith), le-ltb a 0x8000_0000 (omega arith), le-ltb a 0x8C00_0000 (omega arith), le-ltb a 0xFC0B_0000 l, lt-ltb a 0xFC0B_1000 h)

  pub place_high : 0xFC0B_1000 ≤ a → place n a ≡ Nowhere
  unfolding place
  place_high l =
      simp
      (le-ltb a 0x4000_0000 (omega arith), le-ltb a 0x8000_0000 (omega arith), le-ltb a 0x8C00_0000 (omega arith), le-ltb a 0xFC0B_0000 (omega arith), le-ltb a 0xFC0B_1000 l)

pick_case : (P : Place → Type 0) (b : Bool) (x y : Place) → (b ≡ true → P x) → (b ≡ false → P y) → P (pick b x y)
pick_case P true x y t f = t refl
pick_case P false x y t f = f refl

-- what holds of each place that an address can lead to holds of its place
pub place_case : (P : Place → Type 0) (n a : ℕ) → P Nowhere → P (Dynamic (a % n)) → P (Static (a % 65536))
    → (0xFC0B_0000 ≤ a → a < 0xFC0B_1000 → P (Page (a - 0xFC0B_0000))) → P (place n a)
unfolding place
place_case P n a none dy fi pa =
    pick_case P (ltb a 0x4000_0000) _ _ (λ _. none)
    (λ _. pick_case P (ltb a 0x8000_0000) _ _ (λ _. dy)
    (λ _. pick_case P (ltb a 0x8C00_0000) _ _ (λ _. fi)
    (λ _. pick_case P (ltb a 0xFC0B_0000) _ _ (λ _. none)
    (λ l. pick_case P (ltb a 0xFC0B_1000) _ _ (λ h. pa (ltb-false a 0xFC0B_0000 l) (ltb-true a 0xFC0B_1000 h)) (λ _. none)))))

-- a place is within its window
abbrev pub Inside : Memory → Place → Type 0
Inside m (Dynamic i) = i < length m.dynamic
Inside m (Static i) = i < length m.sram
Inside m (Page i) = i < length m.page
Inside m Nowhere = Unit {0}

pub power_pos : {n : ℕ} → Power n → 0 < n
power_pos w = subst (λ (k : ℕ). 0 < k) (sym w.power) (pow_pos w.exponent)

-- a mask of a power of two is a remainder
pub masked : {n : ℕ} → Power n → (a : ℕ) → bit_and a (n - 1) ≡ a % n
masked w a = subst (λ (k : ℕ). bit_and a (k - 1) ≡ a % k) (sym w.power) (and_mask a w.exponent)

pub inside : {m : Memory} → Sized m → (a : ℕ) → Inside m (at m a)
unfolding at
inside {m} s a =
    place_case (Inside m) (length m.dynamic) a tt (mod-lt a (power_pos s.dynamic_length))
    (subst (λ (k : ℕ). a % 65536 < k) (sym s.sram_length) (mod-lt a (lit< tt)))
    (λ l h. omega (arith, s.page_length))

-- ---- once the place of an address is known

module _ (m : Memory) (a : ℕ) (q : Place) (e : at m a ≡ q) where
  pub peek_at : peek8 m a ≡ read m q
  unfolding peek8
  peek_at = ap (read m) e

  pub poke_at : (v : ℕ) → poke8 m a v ≡ write m q v
  unfolding poke8
  poke_at v = ap (λ (p : Place). write m p v) e

-- whether a byte is dropped does not depend on the length of dynamic memory
lost_any : (n k a : ℕ) → lost (place n a) ≡ lost (place k a)
unfolding place lost
lost_any n k a =
    both (ltb a 0x4000_0000) _ _ _ _ refl (both (ltb a 0x8000_0000) _ _ _ _ refl refl)
  where
    both : (b : Bool) (x y x' y' : Place) → lost x ≡ lost x' → lost y ≡ lost y' → lost (pick b x y) ≡ lost (pick b x' y')
    both true x y x' y' p q = p
    both false x y x' y' p q = q

pub lost_at : (n a : ℕ) (q : Place) → q ≡ place n a → dropped8 a ≡ lost q
unfolding dropped8
lost_at n a q e = lost_any 1 n a ∙ ap lost (sym e)

pub dropped_at : (m : Memory) (a : ℕ) (q : Place) → at m a ≡ q → dropped8 a ≡ lost q
unfolding at
dropped_at m a q e = lost_at (length m.dynamic) a q (sym e)

-- ---- a write keeps the three lengths

pub record Kept (m m' : Memory) : Type 0 where
  pub dynamic : length m'.dynamic ≡ length m.dynamic
  pub sram : length m'.sram ≡ length m.sram
  pub page : length m'.page ≡ length m.page

pub kept_refl : (m : Memory) → Kept m m
kept_refl m = record { dynamic = refl; sram = refl; page = refl }

pub kept_trans : {m m' m'' : Memory} → Kept m m' → Kept m' m'' → Kept m m''
kept_trans k l =
    record { dynamic = l.dynamic ∙ k.dynamic; sram = l.sram ∙ k.sram; page = l.page ∙ k.page }

pub sized_kept : {m m' : Memory} → Kept m m' → Sized m → Sized m'
sized_kept k s =
    record {
      dynamic_length = subst Power (sym k.dynamic) s.dynamic_length;
      sram_length = k.sram ∙ s.sram_length;
      page_length = k.page ∙ s.page_length;
    }

pub kept_write : (m : Memory) (q : Place) (v : ℕ) → Kept m (write m q v)
unfolding write
kept_write m (Dynamic i) v = record { dynamic = length-set m.dynamic i v; sram = refl; page = refl }
kept_write m (Static i) v = record { dynamic = refl; sram = length-set m.sram i v; page = refl }
kept_write m (Page i) v = record { dynamic = refl; sram = refl; page = length-set m.page i v }
kept_write m Nowhere v = kept_refl m

pub kept_poke8 : (m : Memory) (a v : ℕ) → Kept m (poke8 m a v)
unfolding poke8
kept_poke8 m a v = kept_write m (at m a) v

-- what a function leaves, from what it is and that the lengths are kept
pub left : {m m' said : Memory} → Sized m → Kept m said → m' ≡ said → Left m' said
left s k e = record { is = e; sized = subst Sized (sym e) (sized_kept k s) }

-- ---- the converse: what leads into dynamic memory

pick_into : (b : Bool) (x y q : Place) → pick b x y ≡ q → ((b ≡ true) × (x ≡ q)) ⊎ ((b ≡ false) × (y ≡ q))
pick_into true x y q e = inl (refl, e)
pick_into false x y q e = inr (refl, e)

-- address a leads to byte o of dynamic memory, which has n bytes
pub record Leads (n a o : ℕ) : Type 0 where
  pub low : 0x4000_0000 ≤ a
  pub high : a < 0x8000_0000
  pub offset : o ≡ a % n

pub leads : (n a o : ℕ) → place n a ≡ Dynamic o → Leads n a o
unfolding place
leads n a o e =
    ⊎_elim (λ w. absurd (never w.1))
    (λ w. ⊎_elim (λ v. record { low = ltb-false a 0x4000_0000 w.0; high = ltb-true a 0x8000_0000 v.0; offset = same v.1 })
    (λ v. absurd (others v.1)) (pick_into (ltb a 0x8000_0000) _ _ _ w.1))
    (pick_into (ltb a 0x4000_0000) _ _ _ e)
  where
    never : Nowhere ≡ Dynamic o → ⊥
    never q = let z : ◌≡◌ {A = ℕ} 0 1 = cc in omega arith

    same : Dynamic (a % n) ≡ Dynamic o → o ≡ a % n
    same q = cc

    sram_never : (i : ℕ) → Static i ≡ Dynamic o → ⊥
    sram_never i q = let z : ◌≡◌ {A = ℕ} 0 1 = cc in omega arith

    page_never : (i : ℕ) → Page i ≡ Dynamic o → ⊥
    page_never i q = let z : ◌≡◌ {A = ℕ} 0 1 = cc in omega arith

    others : pick (ltb a 0x8C00_0000) (Static (a % 65536)) (pick (ltb a 0xFC0B_0000) Nowhere (pick (ltb a 0xFC0B_1000) (Page (a - 0xFC0B_0000)) Nowhere)) ≡ Dynamic o → ⊥
    others q =
        ⊎_elim (λ w. sram_never _ w.1)
        (λ w. ⊎_elim (λ v. never v.1)
        (λ v. ⊎_elim (λ u. page_never _ u.1) (λ u. never u.1) (pick_into (ltb a 0xFC0B_1000) _ _ _ v.1))
        (pick_into (ltb a 0xFC0B_0000) _ _ _ w.1))
        (pick_into (ltb a 0x8C00_0000) _ _ _ q)

-- the k-th byte after one that leads into dynamic memory leads to the k-th byte after it, where the window holds that byte before its end
pub room : {n : ℕ} (a o k : ℕ) → Power n → Leads n a o → o + k < n → Leads n (a + k) (o + k)
room {n} a o k w l h =
    record {
      low = omega (arith, l.low);
      high = subst (λ (z : ℕ). a + k < z) whole (omega (arith, parts, rows));
      offset = sym (ap (λ (z : ℕ). z % n) further ∙ mul-add-mod_self_right q n (o + k) ∙ mod-eq_of_lt h);
    }
  where
    q : ℕ
    q = a / n

    c : ℕ
    c = 2 ^ (31 - w.exponent)

    exponents : 31 - w.exponent + w.exponent ≡ 31
    exponents = omega (arith, w.high)

    whole : c * n ≡ 0x8000_0000
    whole = ap (λ (z : ℕ). c * z) w.power ∙ sym (pow-add 2 (31 - w.exponent) w.exponent) ∙ ap (λ (z : ℕ). 2 ^ z) exponents

    parts : q * n + o ≡ a
    parts = ap (λ (z : ℕ). q * n + z) l.offset ∙ div-add-mod' a n

    further : a + k ≡ q * n + (o + k)
    further = omega (arith, parts)

    rows : q * n + n ≤ c * n
    rows = subst (λ (z : ℕ). z ≤ c * n) (suc-mul q n) (mul-le-mul_right n ((div-lt_iff_lt-mul (power_pos w)).1 (subst (λ (z : ℕ). a < z) (sym whole) l.high)))
