-- A big-endian word at an index of one window, and the source's own way to read a word of memory.
use Rattle.std.specs.Prelude.{ℕ, ◌+◌, ◌/◌, ◌%◌, ◌^◌, List, length, nat_le, slice_index, slice_set}
use Rattle.bits.specs.Pick.{pick}
use Rattle.bus.specs.declared.Place.{Place}
use Rattle.bus.specs.declared.Place.TheVariants.{Dynamic, Static, Page, Nowhere}
use Rattle.bus.specs.Memory.{Memory, at, word, peek32}

-- the word at index i
unfoldable pub word_at : List ℕ → ℕ → ℕ
word_at l i = word (slice_index l i) (slice_index l (i + 1)) (slice_index l (i + 2)) (slice_index l (i + 3))

-- the list with v at index i
unfoldable pub word_put : List ℕ → ℕ → ℕ → List ℕ
word_put l i v =
    slice_set (slice_set (slice_set (slice_set l i (v / 2 ^ 24)) (i + 1) (v / 2 ^ 16 % 256)) (i + 2) (v / 2 ^ 8 % 256)) (i + 3) (v % 256)

-- bus.rs 463-470: the source reads a word of dynamic memory at once where it ends within the window, and any other byte by byte
unfoldable pub short_path : Memory → ℕ → Place → ℕ
short_path m a (Dynamic o) = pick (nat_le (o + 4) (length m.dynamic)) (word_at m.dynamic o) (peek32 m a)
short_path m a (Static i) = peek32 m a
short_path m a (Page i) = peek32 m a
short_path m a Nowhere = peek32 m a

unfoldable pub source_peek32 : Memory → ℕ → ℕ
source_peek32 m a = short_path m a (at m a)
