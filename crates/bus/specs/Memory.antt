-- The three windows of memory, and what reading and writing at an address mean (document 01, "Memory windows"; bus.rs 216-222, 400-480).
use Rattle.std.specs.Prelude.{ℕ, ◌+◌, ◌-◌, ◌*◌, ◌/◌, ◌%◌, ◌^◌, List, length, nat_lt, slice_index, slice_set}
use Rattle.bits.specs.Pick.{pick}
use Rattle.bus.specs.declared.Place.{Place}
use Rattle.bus.specs.declared.Place.TheVariants.{Dynamic, Static, Page, Nowhere}

-- the bytes of dynamic memory, of static memory (`static` is a word of the language, so it is `sram`, as in the source) and of the register page
pub record Memory : Type 0 where
  pub dynamic : List ℕ
  pub sram : List ℕ
  pub page : List ℕ

abbrev pub memory : List ℕ → List ℕ → List ℕ → Memory
memory d f p = record { dynamic = d; sram = f; page = p }

-- what references to the three windows show
abbrev pub shown : List ℕ → List ℕ → List ℕ → Memory
shown d f p = memory d f p

-- where address a leads if dynamic memory has n bytes: the windows from the lowest address up
unfoldable pub place : ℕ → ℕ → Place
place n a =
    pick (nat_lt a 0x4000_0000) Nowhere
    (pick (nat_lt a 0x8000_0000) (Dynamic (a % n))
    (pick (nat_lt a 0x8C00_0000) (Static (a % 65536))
    (pick (nat_lt a 0xFC0B_0000) Nowhere
    (pick (nat_lt a 0xFC0B_1000) (Page (a - 0xFC0B_0000)) Nowhere))))

-- the byte at a place
unfoldable pub read : Memory → Place → ℕ
read m (Dynamic i) = slice_index m.dynamic i
read m (Static i) = slice_index m.sram i
read m (Page i) = slice_index m.page i
read m Nowhere = 0

-- the memory with v at a place
unfoldable pub write : Memory → Place → ℕ → Memory
write m (Dynamic i) v = memory (slice_set m.dynamic i v) m.sram m.page
write m (Static i) v = memory m.dynamic (slice_set m.sram i v) m.page
write m (Page i) v = memory m.dynamic m.sram (slice_set m.page i v)
write m Nowhere v = m

-- how many bytes a write at a place loses
unfoldable pub lost : Place → ℕ
lost (Dynamic i) = 0
lost (Static i) = 0
lost (Page i) = 0
lost Nowhere = 1

-- the place of address a in m
unfoldable pub at : Memory → ℕ → Place
at m a = place (length m.dynamic) a

-- bus.rs 400-428: a byte, 0 where no window has the address
unfoldable pub peek8 : Memory → ℕ → ℕ
peek8 m a = read m (at m a)

-- bus.rs 431-457: the memory with a byte stored, as it was where no window has the address
unfoldable pub poke8 : Memory → ℕ → ℕ → Memory
poke8 m a v = write m (at m a) v

-- how many bytes a store of one loses: 1 outside the windows, whatever the lengths
unfoldable pub dropped8 : ℕ → ℕ
dropped8 a = lost (place 1 a)

-- the k-th address after a, modulo 2^32
unfoldable pub after : ℕ → ℕ → ℕ
after a k = (a + k) % 2 ^ 32

-- four bytes as a big-endian word
unfoldable pub word : ℕ → ℕ → ℕ → ℕ → ℕ
word b₀ b₁ b₂ b₃ = b₀ * 2 ^ 24 + b₁ * 2 ^ 16 + b₂ * 2 ^ 8 + b₃

-- bus.rs 459-461, 469: a big-endian word, byte by byte
unfoldable pub peek32 : Memory → ℕ → ℕ
peek32 m a = word (peek8 m a) (peek8 m (after a 1)) (peek8 m (after a 2)) (peek8 m (after a 3))

-- bus.rs 472-480: the memory with a big-endian word stored, byte by byte from the first
unfoldable pub poke32 : Memory → ℕ → ℕ → Memory
poke32 m a v =
    poke8 (poke8 (poke8 (poke8 m a (v / 2 ^ 24)) (after a 1) (v / 2 ^ 16 % 256)) (after a 2) (v / 2 ^ 8 % 256)) (after a 3)
    (v % 256)

-- each byte of a word that lies outside counts
unfoldable pub dropped32 : ℕ → ℕ
dropped32 a = dropped8 a + dropped8 (after a 1) + dropped8 (after a 2) + dropped8 (after a 3)
