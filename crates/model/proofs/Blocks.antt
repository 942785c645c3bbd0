-- What the blocks of a received run are, which of them are good, and what their frames are, by the indices of the run's bytes
-- (document 01, "Streams"; usbhost.rs 876-890).
use Prim.Native.Nat.{ℕ, zero, suc, ◌+◌, ◌-◌, ◌*◌, ◌/◌, ◌≤◌, ◌<◌, min}
use mathlib.Core.Path.{◌≡◌, refl, ap, sym, subst, ◌∙◌}
use mathlib.Core.Logic.{◌↔◌}
use mathlib.Core.Bool.{Bool, true, false}
use mathlib.Core.List.{List, [], ◌∷◌, ◌++◌, append_assoc, flatten, flat_map}
use native.Mathlib.Omega.{arith}
use native.Mathlib.Nat.{min-eq_left, min-eq_right}
use borrow.Author.Tests.{leb-true, eqb-true, le-leb, eq-eqb}
use lib.Dec.{eqb, leb}
use lib.ListN.{length, get_or, take, drop, length-append, length-take, length-drop, take-append-drop, get_or-append}
use lib.Seq.{get_or-take, get_or-drop, get_or-append_seam, get_or-append-add, drop-drop, drop-nil}
use Rattle.bits.specs.Pick.{pick}
use Rattle.bits.proofs.Tests.{and_first, and_second, and_both}
use Rattle.bus.specs.Memory.{word}
use Rattle.transfer.proofs.Laws.{get_d_tabulate, length_tabulate}
use Rattle.model.specs.Audio.{blocks, blocks_of, good, words_of}
use Rattle.model.specs.Earned.{good_blocks}
use Rattle.model.specs.Index.{big_endian}
use Rattle.model.specs.Ring.{frames_from, frames_of_block, frames_of_blocks, frames_read}

-- ---- the blocks of a run; n is fuel

flatten_fuel : (n : ℕ) (bs : List ℕ) → length bs ≤ n → flatten (blocks n bs) ≡ bs
unfolding blocks flatten
flatten_fuel zero [] h = refl
flatten_fuel zero (x ∷ bs) h = absurd (omega arith)
flatten_fuel (suc n) [] h = refl
flatten_fuel (suc n) (x ∷ bs) h =
    ap (λ (l : List ℕ). take 368 (x ∷ bs) ++ l) (flatten_fuel n (drop 368 (x ∷ bs)) (omega (arith, length-drop 368 (x ∷ bs))))
    ∙ take-append-drop 368 (x ∷ bs)

-- one behind the other they are the run
pub blocks_flatten : (bs : List ℕ) → flatten (blocks_of bs) ≡ bs
blocks_flatten bs = flatten_fuel (length bs) bs (omega arith)

at_fuel : (n : ℕ) (bs : List ℕ) (i : ℕ) → length bs ≤ n → get_or (blocks n bs) i [] ≡ take 368 (drop (368 * i) bs)
unfolding blocks
at_fuel zero [] i h = sym (ap (take 368) (drop-nil (368 * i)))
at_fuel zero (x ∷ bs) i h = absurd (omega arith)
at_fuel (suc n) [] i h = sym (ap (take 368) (drop-nil (368 * i)))
at_fuel (suc n) (x ∷ bs) zero h = refl
at_fuel (suc n) (x ∷ bs) (suc i) h =
    let e : 368 + 368 * i ≡ 368 * suc i = omega arith in
    at_fuel n (drop 368 (x ∷ bs)) i (omega (arith, length-drop 368 (x ∷ bs)))
    ∙ ap (take 368) (drop-drop (368 * i) 368 (x ∷ bs) ∙ ap (λ (k : ℕ). drop k (x ∷ bs)) e)

-- block i is the bytes from 368 i on: 368 of them, or as many as there are
pub block_at : (bs : List ℕ) (i : ℕ) → get_or (blocks_of bs) i [] ≡ take 368 (drop (368 * i) bs)
block_at bs i = at_fuel (length bs) bs i (omega arith)

count_fuel : (n : ℕ) (bs : List ℕ) → length bs ≤ n → length (blocks n bs) ≡ (length bs + 367) / 368
unfolding blocks
count_fuel zero [] h = refl
count_fuel zero (x ∷ bs) h = absurd (omega arith)
count_fuel (suc n) [] h = refl
count_fuel (suc n) (x ∷ bs) h =
    let rest = drop 368 (x ∷ bs) in
    omega (arith, count_fuel n rest (omega (arith, length-drop 368 (x ∷ bs))), length-drop 368 (x ∷ bs))

-- how many: the run's length over 368, rounded up
pub blocks_count : (bs : List ℕ) → length (blocks_of bs) ≡ (length bs + 367) / 368
blocks_count bs = count_fuel (length bs) bs (omega arith)

-- ---- a block b of a run: xs stand before it, ys behind it

module _ (bs : List ℕ) (xs : List (List ℕ)) (b : List ℕ) (ys : List (List ℕ)) (is : blocks_of bs ≡ xs ++ (b ∷ ys)) where
  block_bytes : b ≡ take 368 (drop (368 * length xs) bs)
  block_bytes =
      sym (get_or-append_seam xs b ys [])
      ∙ ap (λ (l : List (List ℕ)). get_or l (length xs) []) (sym is)
      ∙ block_at bs (length xs)

  block_size : length b ≡ min 368 (length bs - 368 * length xs)
  block_size =
      ap length block_bytes
      ∙ length-take 368 (drop (368 * length xs) bs)
      ∙ ap (min 368) (length-drop (368 * length xs) bs)

  block_many : length xs + length (b ∷ ys) ≡ (length bs + 367) / 368
  block_many = sym (length-append xs (b ∷ ys)) ∙ ap length (sym is) ∙ blocks_count bs

-- every block but the last has 368 bytes
pub block_full : (bs : List ℕ) (xs : List (List ℕ)) (b c : List ℕ) (ys : List (List ℕ)) → blocks_of bs ≡ xs ++ (b ∷ c ∷ ys) → length b ≡ 368
block_full bs xs b c ys is =
    block_size bs xs b (c ∷ ys) is ∙ min-eq_left (omega (arith, block_many bs xs b (c ∷ ys) is))

-- the last has from 1 to 368
pub block_last : (bs : List ℕ) (xs : List (List ℕ)) (b : List ℕ) → blocks_of bs ≡ xs ++ (b ∷ []) → (1 ≤ length b) × (length b ≤ 368)
block_last bs xs b is =
    let many = block_many bs xs b [] is in
    let size : length b ≡ length bs - 368 * length xs = block_size bs xs b [] is ∙ min-eq_right (omega (arith, many)) in (
      omega (arith, many, size),
      omega (arith, many, size),
    )

block_few : (bs : List ℕ) (xs : List (List ℕ)) (b : List ℕ) (ys : List (List ℕ)) → blocks_of bs ≡ xs ++ (b ∷ ys) → length b ≤ 368
block_few bs xs b [] is = (block_last bs xs b is).1
block_few bs xs b (c ∷ ys) is = omega (arith, block_full bs xs b c ys is)

-- a block is good exactly if it has 368 bytes and the first is 07
pub block_good : (bs : List ℕ) (xs : List (List ℕ)) (b : List ℕ) (ys : List (List ℕ)) → blocks_of bs ≡ xs ++ (b ∷ ys)
    → (good b ≡ true) ↔ ((length b ≡ 368) × (get_or b 0 0 ≡ 7))
unfolding good
block_good bs xs b ys is = (
  λ g.
      let least : 368 ≤ length b = leb-true 368 (length b) (and_first (leb 368 (length b)) (eqb (get_or b 0 0) 7) g) in
      let most : length b ≤ 368 = block_few bs xs b ys is in (
        omega (arith, least, most),
        eqb-true (get_or b 0 0) 7 (and_second (leb 368 (length b)) (eqb (get_or b 0 0) 7) g),
      ),
  λ p.
      and_both (leb 368 (length b)) (eqb (get_or b 0 0) 7) (le-leb 368 (length b) (omega (arith, p.0))) (eq-eqb (get_or b 0 0) 7 p.1),
)

-- ---- words and frames

-- word c of some bytes is the big-endian word of bytes 4 c to 4 c + 3
pub word_at : (bs : List ℕ) (c : ℕ) → c < 12 → get_or (words_of bs) c 0 ≡ big_endian bs (4 * c)
unfolding word
word_at bs c h = get_d_tabulate 12 _ c 0 h

pub words_twelve : (bs : List ℕ) → length (words_of bs) ≡ 12
words_twelve bs = length_tabulate 12 _

-- a byte of a part
part_byte : (n o k : ℕ) (bs : List ℕ) → k < n → get_or (take n (drop o bs)) k 0 ≡ get_or bs (o + k) 0
part_byte n o k bs h = get_or-take n (drop o bs) k 0 h ∙ get_or-drop o bs k 0

-- a word that lies in a part
part_word : (n o k : ℕ) (bs : List ℕ) → k + 3 < n → big_endian (take n (drop o bs)) k ≡ big_endian bs (o + k)
part_word n o k bs h =
    let e₁ : o + (k + 1) ≡ o + k + 1 = omega arith in
    let e₂ : o + (k + 2) ≡ o + k + 2 = omega arith in
    let e₃ : o + (k + 3) ≡ o + k + 3 = omega arith in
    let p₀ = part_byte n o k bs (omega arith) in
    let p₁ = part_byte n o (k + 1) bs (omega arith) ∙ ap (λ (j : ℕ). get_or bs j 0) e₁ in
    let p₂ = part_byte n o (k + 2) bs (omega arith) ∙ ap (λ (j : ℕ). get_or bs j 0) e₂ in
    let p₃ = part_byte n o (k + 3) bs (omega arith) ∙ ap (λ (j : ℕ). get_or bs j 0) e₃ in
    omega (arith, p₀, p₁, p₂, p₃)

from_count : (n i : ℕ) (b : List ℕ) → length (frames_from n i b) ≡ n
unfolding frames_from
from_count zero i b = refl
from_count (suc n) i b = ap suc (from_count n (suc i) b)

from_at : (n i : ℕ) (b : List ℕ) (j : ℕ) → j < n → get_or (frames_from n i b) j [] ≡ words_of (take 48 (drop (32 + 48 * (i + j)) b))
unfolding frames_from
from_at zero i b j h = absurd (omega arith)
from_at (suc n) i b zero h = let e : i ≡ i + 0 = omega arith in ap (λ (k : ℕ). words_of (take 48 (drop (32 + 48 * k) b))) e
from_at (suc n) i b (suc j) h =
    let e : suc i + j ≡ i + suc j = omega arith in
    from_at n (suc i) b j (omega arith) ∙ ap (λ (k : ℕ). words_of (take 48 (drop (32 + 48 * k) b))) e

-- seven frames of twelve words each: word c of frame i is the big-endian word of bytes 32 + 48 i + 4 c on of b
pub record SevenFrames (b : List ℕ) (frames : List (List ℕ)) : Type 0 where
  pub seven : length frames ≡ 7
  pub twelve : (i : ℕ) → i < 7 → length (get_or frames i []) ≡ 12
  pub word : (i c : ℕ) → i < 7 → c < 12 → get_or (get_or frames i []) c 0 ≡ big_endian b (32 + 48 * i + 4 * c)

seven_from : (b : List ℕ) → SevenFrames b (frames_from 7 0 b)
seven_from b =
    record {
      seven = from_count 7 0 b;
      twelve = λ i h. ap length (there i h) ∙ words_twelve (take 48 (drop (32 + 48 * i) b));
      word =
          λ i c h k.
          ap (λ (f : List ℕ). get_or f c 0) (there i h)
          ∙ word_at (take 48 (drop (32 + 48 * i) b)) c k
          ∙ part_word 48 (32 + 48 * i) (4 * c) b (omega arith);
    }
  where
    there : (i : ℕ) → i < 7 → get_or (frames_from 7 0 b) i [] ≡ words_of (take 48 (drop (32 + 48 * i) b))
    there i h = let e : 0 + i ≡ i = omega arith in from_at 7 0 b i h ∙ ap (λ (k : ℕ). words_of (take 48 (drop (32 + 48 * k) b))) e

-- the frames of a good block, and of a bad one
pub frames_good : (b : List ℕ) → good b ≡ true → SevenFrames b (frames_of_block b)
unfolding frames_of_block
frames_good b g = subst (λ (t : Bool). SevenFrames b (pick t (frames_from 7 0 b) [])) (sym g) (seven_from b)

pub frames_bad : (b : List ℕ) → good b ≡ false → frames_of_block b ≡ []
unfolding frames_of_block
frames_bad b g = ap (λ (t : Bool). pick t (frames_from 7 0 b) []) g

-- ---- the frames of a run

frames_flat : (bs : List (List ℕ)) → frames_of_blocks bs ≡ flat_map frames_of_block bs
unfolding frames_of_blocks flat_map
frames_flat [] = refl
frames_flat (b ∷ bs) = ap (λ (l : List (List ℕ)). frames_of_block b ++ l) (frames_flat bs)

-- those of its blocks, in order
pub frames_read_lem : (bs : List ℕ) → frames_read bs ≡ flat_map frames_of_block (blocks_of bs)
frames_read_lem bs = frames_flat (blocks_of bs)

frames_one : (b : List ℕ) → length (frames_of_block b) ≡ 7 * pick (good b) 1 0
unfolding frames_of_block
frames_one b = by (good b)
  where
    by : (t : Bool) → length (pick t (frames_from 7 0 b) []) ≡ 7 * pick t 1 0
    by true = from_count 7 0 b
    by false = refl

frames_many : (bs : List (List ℕ)) → length (frames_of_blocks bs) ≡ 7 * good_blocks bs
unfolding frames_of_blocks good_blocks
frames_many [] = refl
frames_many (b ∷ bs) =
    omega (arith, length-append (frames_of_block b) (frames_of_blocks bs), frames_one b, frames_many bs)

-- seven for each good block
pub frames_count : (bs : List ℕ) → length (frames_read bs) ≡ 7 * good_blocks (blocks_of bs)
frames_count bs = frames_many (blocks_of bs)

frames_split : (xs ys : List (List ℕ)) → frames_of_blocks (xs ++ ys) ≡ frames_of_blocks xs ++ frames_of_blocks ys
unfolding frames_of_blocks
frames_split [] ys = refl
frames_split (x ∷ xs) ys =
    ap (λ (l : List (List ℕ)). frames_of_block x ++ l) (frames_split xs ys) ∙ sym (append_assoc (frames_of_block x) (frames_of_blocks xs) (frames_of_blocks ys))

-- where blocks xs stand before a block of 368 bytes that begins with 07, word c of its frame i is that of the run's bytes from
-- 368 length xs + 32 + 48 i + 4 c on, and the frame stands behind seven for each good block of xs
pub run_word : (bs : List ℕ) (xs : List (List ℕ)) (b : List ℕ) (ys : List (List ℕ)) → blocks_of bs ≡ xs ++ (b ∷ ys)
    → length b ≡ 368 → get_or b 0 0 ≡ 7 → (i c : ℕ) → i < 7 → c < 12
    → get_or (get_or (frames_read bs) (7 * good_blocks xs + i) []) c 0 ≡ big_endian bs (368 * length xs + (32 + 48 * i + 4 * c))
unfolding frames_of_blocks
run_word bs xs b ys is size first i c hi hc =
    let g = (block_good bs xs b ys is).1 (size, first) in
    let seven = frames_good b g in
    let there : get_or (frames_read bs) (7 * good_blocks xs + i) [] ≡ get_or (frames_of_block b) i [] =
    ap (λ (l : List (List ℕ)). get_or (frames_of_blocks l) (7 * good_blocks xs + i) []) is
    ∙ ap (λ (l : List (List ℕ)). get_or l (7 * good_blocks xs + i) []) (frames_split xs (b ∷ ys))
    ∙ ap (λ (k : ℕ). get_or (frames_of_blocks xs ++ (frames_of_block b ++ frames_of_blocks ys)) (k + i) []) (sym (frames_many xs))
    ∙ get_or-append-add (frames_of_blocks xs) (frames_of_block b ++ frames_of_blocks ys) i []
    ∙ get_or-append (frames_of_block b) (frames_of_blocks ys) [] i (omega (arith, seven.seven)) in
    ap (λ (f : List ℕ). get_or f c 0) there
    ∙ seven.word i c hi hc
    ∙ ap (λ (l : List ℕ). big_endian l (32 + 48 * i + 4 * c)) (block_bytes bs xs b ys is)
    ∙ part_word 368 (368 * length xs) (32 + 48 * i + 4 * c) bs (omega arith)
