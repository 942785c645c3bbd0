-- Words of a window, across its wrap and across windows, for every length at once; and the source's short path.
use Rattle.std.proofs.Common.{◌≡◌, ℕ, ◌+◌, ◌%◌, ◌^◌, ◌<◌, ◌≤◌, Bool, true, false, leb, length, get_or, sym, refl, ap, ◌∙◌, mod-eq_of_lt, arith, leb-true}
use Rattle.bits.specs.Pick.{pick}
use Rattle.bus.specs.declared.Place.{Place}
use Rattle.bus.specs.declared.Place.TheVariants.{Dynamic, Static, Page, Nowhere}
use Rattle.bus.specs.Memory.{Memory, read, at, after, word, peek8, peek32}
use Rattle.bus.specs.Sized.{Sized}
use Rattle.bus.specs.Words.{word_at, short_path, source_peek32}
use Rattle.bus.proofs.Places.{place_dynamic, place_static, peek_at}
use Rattle.bus.proofs.Words.{short_word}

-- the byte k after address a, where it still lies in dynamic memory, and where it lies in static memory: each window's bytes by its own remainder
module _ (m : Memory) (a k : ℕ) where
  pub byte_dynamic : 0x4000_0000 ≤ a + k → a + k < 0x8000_0000 → peek8 m (after a k) ≡ get_or m.dynamic ((a + k) % length m.dynamic) 0
  unfolding after at read
  byte_dynamic l h =
      peek_at m ((a + k) % 2 ^ 32) (Dynamic ((a + k) % length m.dynamic))
      (ap (at m) (mod-eq_of_lt (omega arith)) ∙ place_dynamic (length m.dynamic) (a + k) l h)

  pub byte_static : 0x8000_0000 ≤ a + k → a + k < 0x8C00_0000 → peek8 m (after a k) ≡ get_or m.sram ((a + k) % 65536) 0
  unfolding after at read
  byte_static l h =
      peek_at m ((a + k) % 2 ^ 32) (Static ((a + k) % 65536))
      (ap (at m) (mod-eq_of_lt (omega arith)) ∙ place_static (length m.dynamic) (a + k) l h)

first : (m : Memory) (a : ℕ) → a < 2 ^ 32 → peek8 m a ≡ peek8 m (after a 0)
unfolding after
first m a h = let e : (a + 0) % 2 ^ 32 ≡ a = omega arith in sym (ap (peek8 m) e)

-- a word of dynamic memory, across the window's wrap too: each byte's index is reduced by itself
pub peek32_dynamic : (m : Memory) (a : ℕ) → 0x4000_0000 ≤ a → a + 3 < 0x8000_0000
    → peek32 m a ≡ word (get_or m.dynamic ((a + 0) % length m.dynamic) 0) (get_or m.dynamic ((a + 1) % length m.dynamic) 0)
    (get_or m.dynamic ((a + 2) % length m.dynamic) 0) (get_or m.dynamic ((a + 3) % length m.dynamic) 0)
unfolding peek32
peek32_dynamic m a l h =
    cc
    (first m a (omega arith), byte_dynamic m a 0 (omega arith) (omega arith), byte_dynamic m a 1 (omega arith) (omega arith), byte_dynamic m a 2 (omega arith) (omega arith), byte_dynamic m a 3 (omega arith) (omega arith))

-- a word of static memory, across its wrap too
pub peek32_static : (m : Memory) (a : ℕ) → 0x8000_0000 ≤ a → a + 3 < 0x8C00_0000
    → peek32 m a ≡ word (get_or m.sram ((a + 0) % 65536) 0) (get_or m.sram ((a + 1) % 65536) 0) (get_or m.sram ((a + 2) % 65536) 0) (get_or m.sram ((a + 3) % 65536) 0)
unfolding peek32
peek32_static m a l h =
    cc
    (first m a (omega arith), byte_static m a 0 (omega arith) (omega arith), byte_static m a 1 (omega arith) (omega arith), byte_static m a 2 (omega arith) (omega arith), byte_static m a 3 (omega arith) (omega arith))

-- the word that begins two bytes before the end of dynamic memory's addresses: two bytes of each window
pub peek32_across : (m : Memory)
    → peek32 m 0x7FFF_FFFE ≡ word (get_or m.dynamic (0x7FFF_FFFE % length m.dynamic) 0) (get_or m.dynamic (0x7FFF_FFFF % length m.dynamic) 0) (get_or m.sram 0 0) (get_or m.sram 1 0)
unfolding peek32
peek32_across m =
    cc
    (first m 0x7FFF_FFFE (omega arith), byte_dynamic m 0x7FFF_FFFE 0 (omega arith) (omega arith), byte_dynamic m 0x7FFF_FFFE 1 (omega arith) (omega arith), byte_static m 0x7FFF_FFFE 2 (omega arith) (omega arith), byte_static m 0x7FFF_FFFE 3 (omega arith) (omega arith))

-- ---- bus.rs 463-470: the source's short path agrees with the byte path

taken : (t : Bool) (x y : ℕ) → (t ≡ true → x ≡ y) → pick t x y ≡ y
taken true x y f = f refl
taken false x y f = refl

by_place : (m : Memory) (a : ℕ) (q : Place) → at m a ≡ q → Sized m → short_path m a q ≡ peek32 m a
unfolding short_path word_at
by_place m a (Dynamic o) e s =
    taken (leb (o + 4) (length m.dynamic)) _ _ (λ t. sym (short_word m a o s e (leb-true (o + 4) (length m.dynamic) t)))
by_place m a (Static i) e s = refl
by_place m a (Page i) e s = refl
by_place m a Nowhere e s = refl

pub peek32_short : (m : Memory) (a : ℕ) → Sized m → source_peek32 m a ≡ peek32 m a
unfolding source_peek32
peek32_short m a s = by_place m a (at m a) refl s
