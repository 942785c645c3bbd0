-- The laws of words that later proofs cite: what a word is after a write of a word.
use Rattle.std.proofs.Common.{◌≡◌, ℕ, zero, suc, ◌+◌, ◌/◌, ◌%◌, ◌^◌, ◌<◌, ◌≤◌, List, [], ◌∷◌, get_or, set, sym, ap, ◌∙◌, arith, lit<}
use Rattle.bus.specs.declared.Place.{Place}
use Rattle.bus.specs.declared.Place.TheVariants.{Dynamic, Static, Page, Nowhere}
use Rattle.bus.specs.Memory.{Memory, read, write, lost, at, peek8, poke8, after, word, peek32, poke32, dropped32}
use Rattle.bus.specs.Sized.{Sized}
use Rattle.bus.proofs.Places.{Kept, kept_refl, kept_trans, kept_poke8, sized_kept}
use Rattle.bus.proofs.Laws.{at_kept, peek8_same, peek8_other, peek8_apart, apart}

-- the address of byte k of the word at a
abbrev pub addr : ℕ → ℕ → ℕ
addr a zero = a
addr a (suc k) = after a (suc k)

-- a write at a shows at b only if it is lost
abbrev pub Apart : Memory → ℕ → ℕ → Type 0
Apart m a b = at m a ≡ at m b → lost (at m a) ≡ 1

other : {m₀ m : Memory} → Kept m₀ m → (a b v : ℕ) → Apart m₀ a b → peek8 (poke8 m a v) b ≡ peek8 m b
other k a b v h =
    peek8_other _ a b v (λ e. ap lost (at_kept k a) ∙ h (sym (at_kept k a) ∙ e ∙ at_kept k b))

-- a byte that a write of a word does not reach
pub peek8_poke32 : (m : Memory) (a v b : ℕ) → ((i : ℕ) → i < 4 → Apart m (addr a i) b) → peek8 (poke32 m a v) b ≡ peek8 m b
unfolding poke32
peek8_poke32 m a v b h =
    other k₃ (after a 3) b (v % 256) (h 3 (lit< tt)) ∙ other k₂ (after a 2) b (v / 2 ^ 8 % 256) (h 2 (lit< tt))
    ∙ other k₁ (after a 1) b (v / 2 ^ 16 % 256) (h 1 (lit< tt)) ∙ other (kept_refl m) a b (v / 2 ^ 24) (h 0 (lit< tt))
  where
    k₁ : Kept m (poke8 m a (v / 2 ^ 24))
    k₁ = kept_poke8 _ _ _

    k₂ : Kept m (poke8 (poke8 m a (v / 2 ^ 24)) (after a 1) (v / 2 ^ 16 % 256))
    k₂ = kept_trans k₁ (kept_poke8 _ _ _)

    k₃ : Kept m (poke8 (poke8 (poke8 m a (v / 2 ^ 24)) (after a 1) (v / 2 ^ 16 % 256)) (after a 2) (v / 2 ^ 8 % 256))
    k₃ = kept_trans k₂ (kept_poke8 _ _ _)

-- a word that a write of a word does not reach
pub peek32_other : (m : Memory) (a v b : ℕ) → ((i j : ℕ) → i < 4 → j < 4 → Apart m (addr a i) (addr b j)) → peek32 (poke32 m a v) b ≡ peek32 m b
unfolding peek32
peek32_other m a v b h =
    cc
    (peek8_poke32 m a v b (λ i l. h i 0 l (lit< tt)), peek8_poke32 m a v (after b 1) (λ i l. h i 1 l (lit< tt)), peek8_poke32 m a v (after b 2) (λ i l. h i 2 l (lit< tt)), peek8_poke32 m a v (after b 3) (λ i l. h i 3 l (lit< tt)))

-- the low 12 bits of the address of a byte of a word
addr_low : (a i : ℕ) → addr a i % 4096 ≡ (a + i) % 4096
unfolding after
addr_low a zero = omega arith
addr_low a (suc i) = omega arith

-- words whose addresses modulo 4,096 are at least four apart, either way round
pub peek32_apart : (m : Memory) (a v b : ℕ) → Sized m → a % 4096 + 4 ≤ b % 4096 → b % 4096 + 4 ≤ a % 4096 + 4096 → peek32 (poke32 m a v) b ≡ peek32 m b
peek32_apart m a v b s l h =
    peek32_other m a v b (λ i j p q. apart m (addr a i) (addr b j) s (λ e. omega (arith, addr_low a i, addr_low b j)))

pub peek32_apart' : (m : Memory) (a v b : ℕ) → Sized m → b % 4096 + 4 ≤ a % 4096 → a % 4096 + 4 ≤ b % 4096 + 4096 → peek32 (poke32 m a v) b ≡ peek32 m b
peek32_apart' m a v b s l h =
    peek32_other m a v b (λ i j p q. apart m (addr a i) (addr b j) s (λ e. omega (arith, addr_low a i, addr_low b j)))

-- the word that was written, where no byte of it is dropped: in one window, across the end of one, or across two
pub peek32_same : (m : Memory) (a v : ℕ) → Sized m → v < 2 ^ 32 → dropped32 a ≡ 0 → peek32 (poke32 m a v) a ≡ v
unfolding peek32 poke32 dropped32 word
peek32_same m a v s h e = omega (arith, b₀, b₁, b₂, b₃)
  where
    m₁ : Memory
    m₁ = poke8 m a (v / 2 ^ 24)

    m₂ : Memory
    m₂ = poke8 m₁ (after a 1) (v / 2 ^ 16 % 256)

    m₃ : Memory
    m₃ = poke8 m₂ (after a 2) (v / 2 ^ 8 % 256)

    s₁ : Sized m₁
    s₁ = sized_kept (kept_poke8 _ _ _) s

    s₂ : Sized m₂
    s₂ = sized_kept (kept_poke8 _ _ _) s₁

    s₃ : Sized m₃
    s₃ = sized_kept (kept_poke8 _ _ _) s₂

    -- a write of a later byte of the word does not reach an earlier one
    later : (m : Memory) (i j w : ℕ) → Sized m → i < j → j < 4 → peek8 (poke8 m (addr a j) w) (addr a i) ≡ peek8 m (addr a i)
    later m i j w s l k = peek8_apart m (addr a j) (addr a i) w s (λ e. omega (arith, addr_low a i, addr_low a j))

    b₃ : peek8 (poke32 m a v) (after a 3) ≡ v % 256
    b₃ = peek8_same m₃ (after a 3) (v % 256) s₃ (omega (arith, e))

    b₂ : peek8 (poke32 m a v) (after a 2) ≡ v / 2 ^ 8 % 256
    b₂ = later m₃ 2 3 (v % 256) s₃ (lit< tt) (lit< tt) ∙ peek8_same m₂ (after a 2) (v / 2 ^ 8 % 256) s₂ (omega (arith, e))

    b₁ : peek8 (poke32 m a v) (after a 1) ≡ v / 2 ^ 16 % 256
    b₁ =
        later m₃ 1 3 (v % 256) s₃ (lit< tt) (lit< tt) ∙ later m₂ 1 2 (v / 2 ^ 8 % 256) s₂ (lit< tt) (lit< tt)
        ∙ peek8_same m₁ (after a 1) (v / 2 ^ 16 % 256) s₁ (omega (arith, e))

    b₀ : peek8 (poke32 m a v) a ≡ v / 2 ^ 24
    b₀ =
        later m₃ 0 3 (v % 256) s₃ (lit< tt) (lit< tt) ∙ later m₂ 0 2 (v / 2 ^ 8 % 256) s₂ (lit< tt) (lit< tt)
        ∙ later m₁ 0 1 (v / 2 ^ 16 % 256) s₁ (lit< tt) (lit< tt) ∙ peek8_same m a (v / 2 ^ 24) s (omega (arith, e))

-- ---- bytes are below 256, and words below 2^32

pub record Bytes (m : Memory) : Type 0 where
  pub dynamic : (i : ℕ) → get_or m.dynamic i 0 < 256
  pub sram : (i : ℕ) → get_or m.sram i 0 < 256
  pub page : (i : ℕ) → get_or m.page i 0 < 256

pub read_lt : {m : Memory} → Bytes m → (q : Place) → read m q < 256
unfolding read
read_lt b (Dynamic i) = b.dynamic i
read_lt b (Static i) = b.sram i
read_lt b (Page i) = b.page i
read_lt b Nowhere = lit< tt

pub peek8_lt : {m : Memory} → Bytes m → (a : ℕ) → peek8 m a < 256
unfolding peek8
peek8_lt {m} b a = read_lt b (at m a)

pub peek32_lt : {m : Memory} → Bytes m → (a : ℕ) → peek32 m a < 2 ^ 32
unfolding peek32 word
peek32_lt b a = omega (arith, peek8_lt b a, peek8_lt b (after a 1), peek8_lt b (after a 2), peek8_lt b (after a 3))

pub set_lt : (l : List ℕ) (i v : ℕ) → ((j : ℕ) → get_or l j 0 < 256) → v < 256 → (j : ℕ) → get_or (set l i v) j 0 < 256
set_lt [] i v h k j = h j
set_lt (x ∷ l) zero v h k zero = k
set_lt (x ∷ l) zero v h k (suc j) = h (suc j)
set_lt (x ∷ l) (suc i) v h k zero = h zero
set_lt (x ∷ l) (suc i) v h k (suc j) = set_lt l i v (λ j. h (suc j)) k j

pub bytes_write : {m : Memory} → Bytes m → (q : Place) (v : ℕ) → v < 256 → Bytes (write m q v)
unfolding write
bytes_write {m} b (Dynamic i) v k = record { dynamic = set_lt m.dynamic i v b.dynamic k; sram = b.sram; page = b.page }
bytes_write {m} b (Static i) v k = record { dynamic = b.dynamic; sram = set_lt m.sram i v b.sram k; page = b.page }
bytes_write {m} b (Page i) v k = record { dynamic = b.dynamic; sram = b.sram; page = set_lt m.page i v b.page k }
bytes_write b Nowhere v k = b

pub bytes_poke8 : {m : Memory} → Bytes m → (a v : ℕ) → v < 256 → Bytes (poke8 m a v)
unfolding poke8
bytes_poke8 {m} b a v k = bytes_write b (at m a) v k

pub bytes_poke32 : {m : Memory} → Bytes m → (a v : ℕ) → v < 2 ^ 32 → Bytes (poke32 m a v)
unfolding poke32
bytes_poke32 b a v k =
    bytes_poke8 (bytes_poke8 (bytes_poke8 (bytes_poke8 b a _ (omega arith)) (after a 1) _ (omega arith)) (after a 2) _ (omega arith)) (after a 3) _
    (omega arith)
