-- A word that lies in one page is a word of one window.
use Rattle.std.proofs.Common.{◌≡◌, ℕ, ◌+◌, ◌*◌, ◌/◌, ◌%◌, ◌^◌, ◌<◌, ◌≤◌, refl, ap, ◌∙◌, mod-eq_of_lt, arith}
use Rattle.bus.specs.declared.Place.{Place}
use Rattle.bus.specs.declared.Place.TheVariants.{Dynamic, Static, Page, Nowhere}
use Rattle.bus.specs.Memory.{Memory, memory, at, read, write, lost, word, after, poke8, peek32, poke32, dropped32}
use Rattle.bus.specs.Sized.{Sized}
use Rattle.bus.proofs.Places.{peek_at, poke_at, dropped_at, Kept, kept_poke8, kept_trans}
use Rattle.bus.proofs.Laws.{at_kept}
use Rattle.bus.proofs.Pages.{shift, at_shift}
use Rattle.bus.specs.Words.{word_at, word_put}

-- what a word at a place is
abbrev pub word_of : Memory → Place → ℕ
word_of m (Dynamic i) = word_at m.dynamic i
word_of m (Static i) = word_at m.sram i
word_of m (Page i) = word_at m.page i
word_of m Nowhere = 0

-- the memory with a word at a place
abbrev pub put : Memory → Place → ℕ → Memory
put m (Dynamic i) v = memory (word_put m.dynamic i v) m.sram m.page
put m (Static i) v = memory m.dynamic (word_put m.sram i v) m.page
put m (Page i) v = memory m.dynamic m.sram (word_put m.page i v)
put m Nowhere v = m

pub lost_shift : (q : Place) (k : ℕ) → lost (shift q k) ≡ lost q
unfolding lost
lost_shift (Dynamic i) k = refl
lost_shift (Static i) k = refl
lost_shift (Page i) k = refl
lost_shift Nowhere k = refl

module _ (m : Memory) (a : ℕ) (q : Place) (e : at m a ≡ q) (s : Sized m) (h : a % 4096 ≤ 4092) (fits : a < 2 ^ 32) where
  next : (k : ℕ) → k < 4 → after a k ≡ a + k
  unfolding after
  next k b = mod-eq_of_lt (omega arith)

  there : (k : ℕ) → k < 4 → at m (after a k) ≡ shift q k
  there k b = ap (at m) (next k b) ∙ at_shift m a k s (omega arith) ∙ ap (λ (p : Place). shift p k) e

  by_bytes : peek32 m a ≡ word (read m q) (read m (shift q 1)) (read m (shift q 2)) (read m (shift q 3))
  unfolding peek32
  by_bytes =
      cc
      (peek_at m a q e, peek_at m (after a 1) (shift q 1) (there 1 (omega arith)), peek_at m (after a 2) (shift q 2) (there 2 (omega arith)), peek_at m (after a 3) (shift q 3) (there 3 (omega arith)))

  pub dropped_word : dropped32 a ≡ 4 * lost q
  unfolding dropped32
  dropped_word =
      omega
      (arith, dropped_at m a q e, dropped_at m (after a 1) (shift q 1) (there 1 (omega arith)), dropped_at m (after a 2) (shift q 2) (there 2 (omega arith)), dropped_at m (after a 3) (shift q 3) (there 3 (omega arith)), lost_shift q 1, lost_shift q 2, lost_shift q 3)

  by_writes : (v : ℕ) → poke32 m a v ≡ write (write (write (write m q (v / 2 ^ 24)) (shift q 1) (v / 2 ^ 16 % 256)) (shift q 2) (v / 2 ^ 8 % 256)) (shift q 3) (v % 256)
  unfolding poke32
  by_writes v = cc (w₀, w₁, w₂, w₃)
    where
      m₁ : Memory
      m₁ = poke8 m a (v / 2 ^ 24)

      m₂ : Memory
      m₂ = poke8 m₁ (after a 1) (v / 2 ^ 16 % 256)

      m₃ : Memory
      m₃ = poke8 m₂ (after a 2) (v / 2 ^ 8 % 256)

      w₀ : m₁ ≡ write m q (v / 2 ^ 24)
      w₀ = poke_at m a q e (v / 2 ^ 24)

      w₁ : m₂ ≡ write m₁ (shift q 1) (v / 2 ^ 16 % 256)
      w₁ = poke_at m₁ (after a 1) (shift q 1) (at_kept (kept_poke8 m a (v / 2 ^ 24)) (after a 1) ∙ there 1 (omega arith)) (v / 2 ^ 16 % 256)

      k₂ : Kept m m₂
      k₂ = kept_trans (kept_poke8 m a (v / 2 ^ 24)) (kept_poke8 m₁ (after a 1) (v / 2 ^ 16 % 256))

      w₂ : m₃ ≡ write m₂ (shift q 2) (v / 2 ^ 8 % 256)
      w₂ = poke_at m₂ (after a 2) (shift q 2) (at_kept k₂ (after a 2) ∙ there 2 (omega arith)) (v / 2 ^ 8 % 256)

      w₃ : poke8 m₃ (after a 3) (v % 256) ≡ write m₃ (shift q 3) (v % 256)
      w₃ = poke_at m₃ (after a 3) (shift q 3) (at_kept (kept_trans k₂ (kept_poke8 m₂ (after a 2) (v / 2 ^ 8 % 256))) (after a 3) ∙ there 3 (omega arith)) (v % 256)

bytes_word : (m : Memory) (q : Place) → word (read m q) (read m (shift q 1)) (read m (shift q 2)) (read m (shift q 3)) ≡ word_of m q
unfolding read word word_at
bytes_word m (Dynamic i) = refl
bytes_word m (Static i) = refl
bytes_word m (Page i) = refl
bytes_word m Nowhere = refl

writes_word : (m : Memory) (q : Place) (v : ℕ) → write (write (write (write m q (v / 2 ^ 24)) (shift q 1) (v / 2 ^ 16 % 256)) (shift q 2) (v / 2 ^ 8 % 256)) (shift q 3) (v % 256) ≡ put m q v
unfolding write word_put
writes_word m (Dynamic i) v = refl
writes_word m (Static i) v = refl
writes_word m (Page i) v = refl
writes_word m Nowhere v = refl

pub peek_word : (m : Memory) (a : ℕ) (q : Place) → at m a ≡ q → Sized m → a % 4096 ≤ 4092 → a < 2 ^ 32 → peek32 m a ≡ word_of m q
peek_word m a q e s h fits = by_bytes m a q e s h fits ∙ bytes_word m q

pub poke_word : (m : Memory) (a : ℕ) (q : Place) → at m a ≡ q → Sized m → a % 4096 ≤ 4092 → a < 2 ^ 32 → (v : ℕ) → poke32 m a v ≡ put m q v
poke_word m a q e s h fits v = by_writes m a q e s h fits v ∙ writes_word m q v
