-- What the arms of the reads and the writes know: the place of an address, in windows which are a value and so are sized.
use Rattle.std.proofs.Common.{◌≡◌, ℕ, ◌*◌, ◌%◌, ◌^◌, ◌<◌, ◌≤◌, length, sym}
use Rattle.bus.specs.declared.Place.{Place}
use Rattle.bus.specs.Memory.{place, at, write, lost, poke8, peek32, poke32, dropped32}
use Rattle.bus.specs.Windows.{viewed, memory_of}
use Rattle.bus.specs.declared.windows.Windows.{Windows}
use Rattle.bus.specs.declared.windows.View.{View}
use Rattle.bus.proofs.Places.{poke_at}
use Rattle.bus.proofs.PageWords.{word_of, put, peek_word, poke_word, dropped_word}
use Rattle.bus.proofs.Lengths.{sized_of, sized_view}

pub word_read : (v : View) (a : ℕ) (q : Place) → q ≡ place (length v.dynamic.now) a → a % 4096 ≤ 4092 → a < 2 ^ 32
    → peek32 (viewed v) a ≡ word_of (viewed v) q
unfolding at
word_read v a q e h fits = peek_word (viewed v) a q (sym e) (sized_view v) h fits

module _ (w : Windows) (a : ℕ) (q : Place) (e : q ≡ place (length w.dynamic.now) a) where
  pub byte_written : (v : ℕ) → poke8 (memory_of w) a v ≡ write (memory_of w) q v
  unfolding at
  byte_written v = poke_at (memory_of w) a q (sym e) v

  pub word_written : (v : ℕ) → a % 4096 ≤ 4092 → a < 2 ^ 32 → poke32 (memory_of w) a v ≡ put (memory_of w) q v
  unfolding at
  word_written v h fits = poke_word (memory_of w) a q (sym e) (sized_of w) h fits v

  pub word_dropped : a % 4096 ≤ 4092 → a < 2 ^ 32 → dropped32 a ≡ 4 * lost q
  unfolding at
  word_dropped h fits = dropped_word (memory_of w) a q (sym e) (sized_of w) h fits
