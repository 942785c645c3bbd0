-- Words of one window by index, and that a word of the register page is the word of memory at its address, read and written.
use Rattle.std.proofs.Common.{◌≡◌, ℕ, ◌+◌, ◌-◌, ◌/◌, ◌%◌, ◌^◌, ◌<◌, ◌≤◌, ◌⊎◌, List, [], length, get_or, set, ap, ◌∙◌, ⊎_elim, arith, lit<, length-set, get_or-set_other, get_or-set_same}
use Rattle.bus.specs.declared.Place.TheVariants.{Page}
use Rattle.bus.specs.Memory.{Memory, memory, read, write, lost, at, after, word, peek32, poke8, poke32, dropped32}
use Rattle.bus.specs.Words.{word_at, word_put}
use Rattle.bus.proofs.Places.{place_page, peek_at, poke_at, dropped_at}
use Rattle.bus.proofs.WordLaws.{set_lt}

pub length_put : (l : List ℕ) (i v : ℕ) → length (word_put l i v) ≡ length l
unfolding word_put
length_put l i v = simp length-set

-- ---- a list while the four bytes of a word are stored

module _ (l : List ℕ) (i v : ℕ) where
  abbrev one : List ℕ
  one = set l i (v / 2 ^ 24)

  abbrev two : List ℕ
  two = set one (i + 1) (v / 2 ^ 16 % 256)

  abbrev three : List ℕ
  three = set two (i + 2) (v / 2 ^ 8 % 256)

-- a byte outside the word
pub byte_apart : (l : List ℕ) (i v j : ℕ) → ((k : ℕ) → k < 4 → j ≡ i + k → ⊥) → get_or (word_put l i v) j 0 ≡ get_or l j 0
unfolding word_put
byte_apart l i v j h =
    get_or-set_other (three l i v) (i + 3) j (v % 256) 0 (h 3 (lit< tt))
    ∙ get_or-set_other (two l i v) (i + 2) j (v / 2 ^ 8 % 256) 0 (h 2 (lit< tt))
    ∙ get_or-set_other (one l i v) (i + 1) j (v / 2 ^ 16 % 256) 0 (h 1 (lit< tt))
    ∙ get_or-set_other l i j (v / 2 ^ 24) 0 (λ e. h 0 (lit< tt) (omega arith))

-- a word that shares no byte with the stored one
pub word_apart : (l : List ℕ) (i v j : ℕ) → (j + 4 ≤ i) ⊎ (i + 4 ≤ j) → word_at (word_put l i v) j ≡ word_at l j
unfolding word_at
word_apart l i v j h =
    cc
    (byte_apart l i v j (λ k b e. away 0 k (lit< tt) b (omega arith)), byte_apart l i v (j + 1) (λ k b e. away 1 k (lit< tt) b e), byte_apart l i v (j + 2) (λ k b e. away 2 k (lit< tt) b e), byte_apart l i v (j + 3) (λ k b e. away 3 k (lit< tt) b e))
  where
    away : (n k : ℕ) → n < 4 → k < 4 → j + n ≡ i + k → ⊥
    away n k a b e = ⊎_elim (λ p. omega arith) (λ p. omega arith) h

-- the word that was stored
pub word_same : (l : List ℕ) (i v : ℕ) → i + 4 ≤ length l → v < 2 ^ 32 → word_at (word_put l i v) i ≡ v
unfolding word_at word_put word
word_same l i v h b = omega (arith, b₀, b₁, b₂, b₃)
  where
    s₁ : length (one l i v) ≡ length l
    s₁ = length-set l i (v / 2 ^ 24)

    s₂ : length (two l i v) ≡ length l
    s₂ = length-set (one l i v) (i + 1) (v / 2 ^ 16 % 256) ∙ s₁

    s₃ : length (three l i v) ≡ length l
    s₃ = length-set (two l i v) (i + 2) (v / 2 ^ 8 % 256) ∙ s₂

    b₃ : get_or (word_put l i v) (i + 3) 0 ≡ v % 256
    b₃ = get_or-set_same (three l i v) (i + 3) (v % 256) 0 (omega (arith, s₃))

    b₂ : get_or (word_put l i v) (i + 2) 0 ≡ v / 2 ^ 8 % 256
    b₂ =
        get_or-set_other (three l i v) (i + 3) (i + 2) (v % 256) 0 (λ e. omega arith)
        ∙ get_or-set_same (two l i v) (i + 2) (v / 2 ^ 8 % 256) 0 (omega (arith, s₂))

    b₁ : get_or (word_put l i v) (i + 1) 0 ≡ v / 2 ^ 16 % 256
    b₁ =
        get_or-set_other (three l i v) (i + 3) (i + 1) (v % 256) 0 (λ e. omega arith)
        ∙ get_or-set_other (two l i v) (i + 2) (i + 1) (v / 2 ^ 8 % 256) 0 (λ e. omega arith)
        ∙ get_or-set_same (one l i v) (i + 1) (v / 2 ^ 16 % 256) 0 (omega (arith, s₁))

    b₀ : get_or (word_put l i v) i 0 ≡ v / 2 ^ 24
    b₀ =
        get_or-set_other (three l i v) (i + 3) i (v % 256) 0 (λ e. omega arith)
        ∙ get_or-set_other (two l i v) (i + 2) i (v / 2 ^ 8 % 256) 0 (λ e. omega arith)
        ∙ get_or-set_other (one l i v) (i + 1) i (v / 2 ^ 16 % 256) 0 (λ e. omega arith)
        ∙ get_or-set_same l i (v / 2 ^ 24) 0 (omega arith)

-- ---- bytes stay bytes, and words are words

pub word_lt : (l : List ℕ) (i : ℕ) → ((j : ℕ) → get_or l j 0 < 256) → word_at l i < 2 ^ 32
unfolding word_at word
word_lt l i h = omega (arith, h i, h (i + 1), h (i + 2), h (i + 3))

pub put_lt : (l : List ℕ) (i v : ℕ) → ((j : ℕ) → get_or l j 0 < 256) → v < 2 ^ 32 → (j : ℕ) → get_or (word_put l i v) j 0 < 256
unfolding word_put
put_lt l i v h b =
    set_lt (three l i v) (i + 3) (v % 256)
    (set_lt (two l i v) (i + 2) (v / 2 ^ 8 % 256)
    (set_lt (one l i v) (i + 1) (v / 2 ^ 16 % 256) (set_lt l i (v / 2 ^ 24) h (omega arith)) (omega arith)) (omega arith))
    (omega arith)

-- ---- the register page in memory

pub page_at : (m : Memory) (k : ℕ) → k < 4096 → at m (0xFC0B_0000 + k) ≡ Page k
unfolding at
page_at m k h =
    let e : 0xFC0B_0000 + k - 0xFC0B_0000 ≡ k = omega arith in
    place_page (length m.dynamic) (0xFC0B_0000 + k) (omega arith) (omega arith) ∙ ap Page e

page_after : (m : Memory) (k i : ℕ) → k + i < 4096 → at m (after (0xFC0B_0000 + k) i) ≡ Page (k + i)
unfolding after
page_after m k i h =
    let e : (0xFC0B_0000 + k + i) % 2 ^ 32 ≡ 0xFC0B_0000 + (k + i) = omega arith in
    ap (at m) e ∙ page_at m (k + i) h

pub peek32_register : (m : Memory) (k : ℕ) → k + 4 ≤ 4096 → peek32 m (0xFC0B_0000 + k) ≡ word_at m.page k
unfolding peek32 word_at read
peek32_register m k h =
    cc
    (peek_at m (0xFC0B_0000 + k) (Page k) (page_at m k (omega arith)), peek_at m (after (0xFC0B_0000 + k) 1) (Page (k + 1)) (page_after m k 1 (omega arith)), peek_at m (after (0xFC0B_0000 + k) 2) (Page (k + 2)) (page_after m k 2 (omega arith)), peek_at m (after (0xFC0B_0000 + k) 3) (Page (k + 3)) (page_after m k 3 (omega arith)))

store_at : (d f p : List ℕ) (k i v : ℕ) → k + i < 4096 → poke8 (memory d f p) (after (0xFC0B_0000 + k) i) v ≡ memory d f (set p (k + i) v)
unfolding write
store_at d f p k i v h = poke_at (memory d f p) (after (0xFC0B_0000 + k) i) (Page (k + i)) (page_after (memory d f p) k i h) v

pub poke32_register : (d f p : List ℕ) (k v : ℕ) → k + 4 ≤ 4096 → poke32 (memory d f p) (0xFC0B_0000 + k) v ≡ memory d f (word_put p k v)
unfolding poke32 word_put write
poke32_register d f p k v h =
    ap (λ (m : Memory). poke8 (poke8 (poke8 m a₁ v₁) a₂ v₂) a₃ v₃) (poke_at (memory d f p) (0xFC0B_0000 + k) (Page k) (page_at (memory d f p) k (omega arith)) (v / 2 ^ 24))
    ∙ ap (λ (m : Memory). poke8 (poke8 m a₂ v₂) a₃ v₃) (store_at d f p₀ k 1 v₁ (omega arith))
    ∙ ap (λ (m : Memory). poke8 m a₃ v₃) (store_at d f p₁ k 2 v₂ (omega arith)) ∙ store_at d f p₂ k 3 v₃ (omega arith)
  where
    a₁ : ℕ
    a₁ = after (0xFC0B_0000 + k) 1

    a₂ : ℕ
    a₂ = after (0xFC0B_0000 + k) 2

    a₃ : ℕ
    a₃ = after (0xFC0B_0000 + k) 3

    v₁ : ℕ
    v₁ = v / 2 ^ 16 % 256

    v₂ : ℕ
    v₂ = v / 2 ^ 8 % 256

    v₃ : ℕ
    v₃ = v % 256

    p₀ : List ℕ
    p₀ = set p k (v / 2 ^ 24)

    p₁ : List ℕ
    p₁ = set p₀ (k + 1) v₁

    p₂ : List ℕ
    p₂ = set p₁ (k + 2) v₂

-- no byte of a register is dropped
pub dropped_register : (k : ℕ) → k + 4 ≤ 4096 → dropped32 (0xFC0B_0000 + k) ≡ 0
unfolding dropped32 lost
dropped_register k h =
    omega
    (arith, dropped_at any (0xFC0B_0000 + k) (Page k) (page_at any k (omega arith)), dropped_at any (after (0xFC0B_0000 + k) 1) (Page (k + 1)) (page_after any k 1 (omega arith)), dropped_at any (after (0xFC0B_0000 + k) 2) (Page (k + 2)) (page_after any k 2 (omega arith)), dropped_at any (after (0xFC0B_0000 + k) 3) (Page (k + 3)) (page_after any k 3 (omega arith)))
  where
    any : Memory
    any = memory [] [] []
