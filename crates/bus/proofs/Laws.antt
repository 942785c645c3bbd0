-- The laws of memory that later proofs cite: what a read gives after a write.
use Rattle.std.proofs.Common.{◌≡◌, ℕ, ◌-◌, ◌%◌, ◌^◌, sym, refl, ap, ◌∙◌, sub-add_cancel, arith, get_or-set_other, get_or-set_same}
use native.Mathlib.Decide.{ℕ_discrete}
use lib.Pow.{mod-mod-pow}
use Rattle.bus.specs.declared.Place.{Place}
use Rattle.bus.specs.declared.Place.TheVariants.{Dynamic, Static, Page, Nowhere}
use Rattle.bus.specs.Memory.{Memory, place, read, write, lost, at, peek8, poke8, dropped8}
use Rattle.bus.specs.Sized.{Power, Sized}
use Rattle.bus.proofs.Places.{Inside, inside, Kept, kept_poke8, place_case, dropped_at}

zero_one : ◌≡◌ {A = ℕ} 0 1 → ⊥
zero_one e = omega arith

-- ---- at places

pub read_same : (m : Memory) (q : Place) (v : ℕ) → Inside m q → lost q ≡ 0 → read (write m q v) q ≡ v
unfolding read write lost
read_same m (Dynamic i) v h e = get_or-set_same m.dynamic i v 0 h
read_same m (Static i) v h e = get_or-set_same m.sram i v 0 h
read_same m (Page i) v h e = get_or-set_same m.page i v 0 h
read_same m Nowhere v h e = let z : ◌≡◌ {A = ℕ} 1 0 = e in absurd (omega arith)

-- a write shows at no other place
pub read_other : (m : Memory) (p q : Place) (v : ℕ) → (p ≡ q → lost p ≡ 1) → read (write m p v) q ≡ read m q
unfolding read write lost
read_other m (Dynamic i) (Dynamic j) v h = get_or-set_other m.dynamic i j v 0 (λ e. zero_one (h (ap Dynamic (sym e))))
read_other m (Dynamic i) (Static j) v h = refl
read_other m (Dynamic i) (Page j) v h = refl
read_other m (Dynamic i) Nowhere v h = refl
read_other m (Static i) (Dynamic j) v h = refl
read_other m (Static i) (Static j) v h = get_or-set_other m.sram i j v 0 (λ e. zero_one (h (ap Static (sym e))))
read_other m (Static i) (Page j) v h = refl
read_other m (Static i) Nowhere v h = refl
read_other m (Page i) (Dynamic j) v h = refl
read_other m (Page i) (Static j) v h = refl
read_other m (Page i) (Page j) v h = get_or-set_other m.page i j v 0 (λ e. zero_one (h (ap Page (sym e))))
read_other m (Page i) Nowhere v h = refl
read_other m Nowhere q v h = refl

-- ---- at addresses: bytes

-- a write moves no place
pub at_kept : {m m' : Memory} → Kept m m' → (a : ℕ) → at m' a ≡ at m a
unfolding at
at_kept k a = ap (λ (n : ℕ). place n a) k.dynamic

pub at_poke8 : (m : Memory) (b v a : ℕ) → at (poke8 m b v) a ≡ at m a
at_poke8 m b v a = at_kept (kept_poke8 m b v) a

pub peek8_same : (m : Memory) (a v : ℕ) → Sized m → dropped8 a ≡ 0 → peek8 (poke8 m a v) a ≡ v
unfolding peek8
peek8_same m a v s e =
    ap (read (poke8 m a v)) (at_poke8 m a v a)
    ∙ (unfold poke8 in read_same m (at m a) v (inside s a) (sym (dropped_at m a (at m a) refl) ∙ e))

pub peek8_other : (m : Memory) (a b v : ℕ) → (at m a ≡ at m b → lost (at m a) ≡ 1) → peek8 (poke8 m a v) b ≡ peek8 m b
unfolding peek8
peek8_other m a b v h =
    ap (read (poke8 m a v)) (at_poke8 m a v b) ∙ (unfold poke8 in read_other m (at m a) (at m b) v h)

-- ---- addresses that differ in their low 12 bits lead to different places: each window is a multiple of 4,096 bytes and starts at one

abbrev pub offset : Place → ℕ
offset (Dynamic i) = i
offset (Static i) = i
offset (Page i) = i
offset Nowhere = 0

pub low12 : {n : ℕ} → Power n → (a : ℕ) → lost (place n a) ≡ 0 → offset (place n a) % 4096 ≡ a % 4096
unfolding lost
low12 {n} w a =
    place_case (λ q. lost q ≡ 0 → offset q % 4096 ≡ a % 4096) n a (λ e. absurd (zero_one (sym e)))
    (λ e. ap (λ (k : ℕ). a % k % 4096) (w.power ∙ ap (λ (k : ℕ). 2 ^ k) (sym (sub-add_cancel w.low))) ∙ mod-mod-pow a (w.exponent - 12) 12)
    (λ e. mod-mod-pow a 4 12) (λ l h e. omega arith)

lost_cases : (q : Place) → (lost q ≡ 1 → ⊥) → lost q ≡ 0
unfolding lost
lost_cases (Dynamic i) h = refl
lost_cases (Static i) h = refl
lost_cases (Page i) h = refl
lost_cases Nowhere h = absurd (h refl)

pub apart : (m : Memory) (a b : ℕ) → Sized m → (a % 4096 ≡ b % 4096 → ⊥) → at m a ≡ at m b → lost (at m a) ≡ 1
unfolding at
apart m a b s h e =
    elim (ℕ_discrete (lost (at m a)) 1) [ yes p ↦ p | no p ↦ absurd (h (agree (lost_cases (at m a) p))) ]
  where
    agree : lost (at m a) ≡ 0 → a % 4096 ≡ b % 4096
    agree z =
        sym (low12 s.dynamic_length a z) ∙ ap (λ (q : Place). offset q % 4096) e
        ∙ low12 s.dynamic_length b (ap lost (sym e) ∙ z)

pub peek8_apart : (m : Memory) (a b v : ℕ) → Sized m → (a % 4096 ≡ b % 4096 → ⊥) → peek8 (poke8 m a v) b ≡ peek8 m b
peek8_apart m a b v s h = peek8_other m a b v (apart m a b s h)
