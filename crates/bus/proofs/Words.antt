-- Words: four bytes at an address and the three after it.
use Rattle.std.proofs.Common.{◌≡◌, ℕ, ◌+◌, ◌/◌, ◌%◌, ◌^◌, ◌<◌, ◌≤◌, length, get_or, sym, ap, ◌∙◌, lt_trans, mod-eq_of_lt, arith, lit<}
use Rattle.bus.specs.declared.Place.TheVariants.{Dynamic}
use Rattle.bus.specs.Memory.{Memory, after, at, read, word, peek8, peek32, poke8, poke32, dropped8, lost, place}
use Rattle.bus.specs.Sized.{Sized}
use Rattle.bus.proofs.Places.{Kept, kept_trans, kept_poke8, place_case, place_dynamic, Leads, leads, room, peek_at}

-- poke32 in its steps
pub poke32_steps : (m : Memory) (a v : ℕ) {m₁ m₂ m₃ m₄ : Memory} {b₁ b₂ b₃ : ℕ}
    → m₁ ≡ poke8 m a (v / 2 ^ 24)
    → b₁ ≡ after a 1 → m₂ ≡ poke8 m₁ b₁ (v / 2 ^ 16 % 256)
    → b₂ ≡ after a 2 → m₃ ≡ poke8 m₂ b₂ (v / 2 ^ 8 % 256)
    → b₃ ≡ after a 3 → m₄ ≡ poke8 m₃ b₃ (v % 256)
    → m₄ ≡ poke32 m a v
unfolding poke32
poke32_steps m a v e₁ f₁ e₂ f₂ e₃ f₃ e₄ = cc

pub kept_poke32 : (m : Memory) (a v : ℕ) → Kept m (poke32 m a v)
unfolding poke32
kept_poke32 m a v =
    kept_trans (kept_poke8 _ _ _) (kept_trans (kept_poke8 _ _ _) (kept_trans (kept_poke8 _ _ _) (kept_poke8 _ _ _)))

pub lost_le : (n a : ℕ) → lost (place n a) ≤ 1
unfolding lost
lost_le n a = place_case (λ q. lost q ≤ 1) n a (omega arith) (omega arith) (omega arith) (λ l h. omega arith)

pub dropped8_le : (a : ℕ) → dropped8 a ≤ 1
unfolding dropped8
dropped8_le a = lost_le 1 a

-- ---- the short path of peek32: a word that dynamic memory holds whole

-- the k-th byte of such a word
short_byte : (m : Memory) (a o k : ℕ) → Sized m → at m a ≡ Dynamic o → k < 4 → o + k < length m.dynamic
    → peek8 m (after a k) ≡ get_or m.dynamic (o + k) 0
unfolding at read after
short_byte m a o k s e few h =
    peek_at m (after a k) (Dynamic (o + k)) there
  where
    l : Leads (length m.dynamic) (a + k) (o + k)
    l = room a o k s.dynamic_length (leads (length m.dynamic) a o e) h

    small : after a k ≡ a + k
    small = mod-eq_of_lt (lt_trans l.high (lit< tt))

    there : at m (after a k) ≡ Dynamic (o + k)
    there =
        ap (place (length m.dynamic)) small ∙ place_dynamic (length m.dynamic) (a + k) l.low l.high
        ∙ ap Dynamic (sym l.offset)

pub short_word : (m : Memory) (a o : ℕ) → Sized m → at m a ≡ Dynamic o → o + 4 ≤ length m.dynamic
    → peek32 m a ≡ word (get_or m.dynamic o 0) (get_or m.dynamic (o + 1) 0) (get_or m.dynamic (o + 2) 0) (get_or m.dynamic (o + 3) 0)
unfolding peek32 read
short_word m a o s e h =
    cc
    (peek_at m a (Dynamic o) e, short_byte m a o 1 s e (lit< tt) (omega arith), short_byte m a o 2 s e (lit< tt) (omega arith), short_byte m a o 3 s e (lit< tt) (omega arith))

-- the byte path in its steps
pub peek32_steps : (m : Memory) (a : ℕ) {b₁ b₂ b₃ x₀ x₁ x₂ x₃ r : ℕ}
    → x₀ ≡ peek8 m a
    → b₁ ≡ after a 1 → x₁ ≡ peek8 m b₁
    → b₂ ≡ after a 2 → x₂ ≡ peek8 m b₂
    → b₃ ≡ after a 3 → x₃ ≡ peek8 m b₃
    → r ≡ word x₀ x₁ x₂ x₃ → r ≡ peek32 m a
unfolding peek32
peek32_steps m a e₀ f₁ e₁ f₂ e₂ f₃ e₃ e = cc
