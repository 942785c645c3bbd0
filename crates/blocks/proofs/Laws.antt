-- The received ring and the blocks of a run: what one frame, one block and the loops over them leave.
use Rattle.std.proofs.Common.{◌≡◌, ℕ, zero, suc, ◌+◌, ◌-◌, ◌*◌, ◌/◌, ◌%◌, ◌<◌, ◌≤◌, true, false, List, [], ◌∷◌, length, get_or, take, drop, set, sym, refl, ap, ◌∙◌, subst, add-one, arith, length-drop, drop_of_length-le, length-take, get_or-drop, drop-cons, get_or-take, drop-drop}
use lib.Seq.{sets}
use Rattle.bus.specs.Memory.{Memory, word}
use Rattle.bus.specs.Words.{word_at}
use Rattle.bus.specs.Steps.{exec_then}
use Rattle.transfer.specs.Transfer.{bytes_in, bytes_from}
use Rattle.transfer.proofs.Laws.{length_tabulate, get_d_tabulate, length_bytes_in, from_in}
use Rattle.record.specs.declared.Ring.{Ring}
use Rattle.record.specs.Record.{wrapped, raised, in_frames}
use Rattle.record.specs.World.{World}
use Rattle.record.specs.Change.{count, credit, frame, apply, left, nothing, one, ringed, ringed_place}
use Rattle.record.specs.Did.{Leads}
use Rattle.record.proofs.Laws.{in_turn, once}
use Rattle.model.specs.Streams.{nonempty}
use Rattle.model.specs.Audio.{blocks, blocks_of, good, words_of, keeps_frames, keeps_good, keeps_block, keeps_blocks}
use Rattle.blocks.specs.declared.Decoded.{Decoded}
use Rattle.blocks.specs.Promises.{InRing, at_ring, KeepsFrames, at_blocks, Keeps, one_bad, one_good}

-- ---- places

pub ring_inside : (r : Ring) → InRing r → InRing (ringed_place r)
unfolding ringed_place
ring_inside r i = record { start = grind arith; len = grind arith }

-- ---- a frame's words

pub twelve_words : (bs : List ℕ) → length (words_of bs) ≡ 12
twelve_words bs = length_tabulate 12 (λ c. word (get_or bs (4 * c) 0) (get_or bs (4 * c + 1) 0) (get_or bs (4 * c + 2) 0) (get_or bs (4 * c + 3) 0))

-- where a loop stands that stores the words of the bytes bs: what is left to store from here makes the whole
pub record Wording (bs l₀ l : List ℕ) (at c : ℕ) : Type 0 where
  pub few : c ≤ 12
  pub same : sets l (at * 12 + c) (drop c (words_of bs)) ≡ sets l₀ (at * 12) (words_of bs)

module _ {bs l₀ l : List ℕ} {at c : ℕ} (inv : Wording bs l₀ l at c) where
  pub wording_step : (v : ℕ) → v ≡ get_or (words_of bs) c 0 → c < 12 → Wording bs l₀ (set l (12 * at + c) v) at (c + 1)
  wording_step v e h =
      record {
        few = omega arith;
        same =
            let i : 12 * at + c ≡ at * 12 + c = omega arith in
            let j : at * 12 + (c + 1) ≡ suc (at * 12 + c) = omega arith in
            cc (add-one c, drop-cons (words_of bs) c 0 (omega (arith, twelve_words bs)), inv.same);
      }

  pub wording_end : 12 ≤ c → l ≡ sets l₀ (at * 12) (words_of bs)
  wording_end h = ap (sets l (at * 12 + c)) (sym (drop_of_length-le (words_of bs) (omega (arith, twelve_words bs)))) ∙ inv.same

module _ (b : List ℕ) (f : ℕ) where
  -- the bytes of frame f
  abbrev pub frame_of : List ℕ
  frame_of = take 48 (drop (48 * f) (drop 32 b))

  byte_at : (j i : ℕ) → j < 48 → i ≡ 32 + (48 * f + j) → get_or b i 0 ≡ get_or frame_of j 0
  byte_at j i h e =
      cc (get_or-take 48 (drop (48 * f) (drop 32 b)) j 0 h, get_or-drop (48 * f) (drop 32 b) j 0, get_or-drop 32 b (48 * f + j) 0)

  pub word_of : (c : ℕ) → c < 12 → word_at b (32 + 4 * (12 * f + c)) ≡ get_or (words_of frame_of) c 0
  unfolding word_at
  word_of c h =
      let i = 32 + 4 * (12 * f + c) in
      let e₀ = byte_at (4 * c) i (omega arith) (omega arith) in
      let e₁ = byte_at (4 * c + 1) (i + 1) (omega arith) (omega arith) in
      let e₂ = byte_at (4 * c + 2) (i + 2) (omega arith) (omega arith) in
      let e₃ = byte_at (4 * c + 3) (i + 3) (omega arith) (omega arith) in
      cc
      (get_d_tabulate 12 (λ k. word (get_or frame_of (4 * k) 0) (get_or frame_of (4 * k + 1) 0) (get_or frame_of (4 * k + 2) 0) (get_or frame_of (4 * k + 3) 0)) c 0 h)

-- ---- the frames of a block

frames_step : (n : ℕ) (bs : List ℕ) (w : World) (r : Ring) (l : List ℕ)
    → left (keeps_frames (suc n) bs) (at_ring w r l) ≡ left (keeps_frames n (drop 48 bs)) (at_ring w (ringed_place r) (ringed l r (words_of (take 48 bs))))
unfolding keeps_frames one apply
frames_step n bs w r l = exec_then apply (one (λ v. frame (words_of (take 48 bs)))) (keeps_frames n (drop 48 bs)) (at_ring w r l)

-- where a loop over them stands: what is left from here makes the whole
pub record Framing (bs : List ℕ) (r₀ : Ring) (l₀ : List ℕ) (r : Ring) (l : List ℕ) (f : ℕ) : Type 0 where
  pub few : f ≤ 7
  pub inside : InRing r
  pub same : (w : World) → left (keeps_frames (7 - f) (drop (48 * f) bs)) (at_ring w r l) ≡ left (keeps_frames 7 bs) (at_ring w r₀ l₀)

module _ {bs : List ℕ} {r₀ : Ring} {l₀ : List ℕ} {r : Ring} {l : List ℕ} {f : ℕ} (inv : Framing bs r₀ l₀ r l f) where
  pub framing_step : f < 7 → (at : ℕ) → at ≡ (r.start + r.len) % 48000
      → (l' : List ℕ) → l' ≡ sets l (at * 12) (words_of (take 48 (drop (48 * f) bs)))
      → (r' : Ring) → r' ≡ ringed_place r
      → Framing bs r₀ l₀ r' l' (f + 1)
  unfolding ringed
  framing_step h at ea l' el r' er =
      let one_more : 7 - f ≡ suc (7 - (f + 1)) = omega arith in
      let further : 48 * f + 48 ≡ 48 * (f + 1) = omega arith in
      record {
        few = omega arith;
        inside = subst InRing (sym er) (ring_inside r inv.inside);
        same = λ w. cc (drop-drop 48 (48 * f) bs, frames_step (7 - (f + 1)) (drop (48 * f) bs) w r l, inv.same w);
      }

  pub framing_end : 7 ≤ f → KeepsFrames bs r₀ l₀ r l
  unfolding keeps_frames nothing
  framing_end h =
      let none : 7 - f ≡ 0 = omega arith in
      record {
        leads = λ w. record { is = ap (λ (n : ℕ). left (keeps_frames n (drop (48 * f) bs)) (at_ring w r l)) (sym none) ∙ inv.same w };
        inside = inv.inside;
      }

-- ---- one block

bad_leads : (b : List ℕ) (d : Decoded) (l : List ℕ) → good b ≡ false → (w : World) → Leads (keeps_block b) (at_blocks w d l) (at_blocks w (one_bad d) l)
unfolding keeps_block apply raised one
bad_leads b d l e w = record { is = simp e }

-- one block of 368 bytes in the code's words
module _ (b c : List ℕ) (d r : Decoded) (l : List ℕ) (is : b ≡ c) (long : length c ≡ 368) where
  pub block_bad : (get_or b 0 0 ≡ 7 → ⊥) → InRing d.ring → r ≡ one_bad d → Keeps (keeps_block c) d l r l
  unfolding good
  block_bad h i e =
      let bad : good c ≡ false = grind arith in
      subst (λ (x : Decoded). Keeps (keeps_block c) d l x l) (sym e) (record { leads = bad_leads c d l bad; inside = i })

  pub block_good : get_or b 0 0 ≡ 7 → (ring : Ring) (l' : List ℕ) → KeepsFrames (drop 32 b) d.ring l ring l' → r ≡ one_good d ring → Keeps (keeps_block c) d l r l'
  unfolding good keeps_block keeps_good apply raised
  block_good h ring l' p e =
      let is-good : good c ≡ true = grind arith in
      let k = subst (λ (x : List ℕ). KeepsFrames (drop 32 x) d.ring l ring l') is p in
      let counted : Decoded = record { ring = ring; credit = d.credit; frames = wrapped (d.frames + 7); bad = d.bad } in
      subst (λ (x : Decoded). Keeps (keeps_block c) d l x l') (sym e)
      (record {
        leads = λ w.
            rw is-good
            (in_turn (k.leads (at_blocks w d l))
            (in_turn (once (λ v. count in_frames 7) (at_ring (at_blocks w d l) ring l') (at_blocks w counted l') refl)
            (once (λ v. credit (wrapped (v.state.audio.credit + 7))) (at_blocks w counted l') (at_blocks w (one_good d ring) l') refl)));
        inside = p.inside;
      })

-- ---- the blocks of a run

blocks_none : (n : ℕ) → blocks n [] ≡ []
unfolding blocks
blocks_none zero = refl
blocks_none (suc n) = refl

some : (bs : List ℕ) → 0 < length bs → nonempty bs ≡ true
some [] h = absurd (omega arith)
some (b ∷ bs) h = refl

blocks_more : (n : ℕ) (bs : List ℕ) → 0 < length bs → blocks (suc n) bs ≡ take 368 bs ∷ blocks n (drop 368 bs)
unfolding blocks
blocks_more n bs h = simp (some bs h)

keeps_more : (b : List ℕ) (bs : List (List ℕ)) (w : World) → left (keeps_blocks (b ∷ bs)) w ≡ left (keeps_blocks bs) (left (keeps_block b) w)
unfolding keeps_blocks
keeps_more b bs w = exec_then apply (keeps_block b) (keeps_blocks bs) w

module _ (m : Memory) (ps : List ℕ) (total : ℕ) where
  -- what is left of the run's blocks from block i on
  abbrev rest : ℕ → List (List ℕ)
  rest i = blocks (total - i) (drop (368 * i) (bytes_in m ps total))

  left_long : (i : ℕ) → length (drop (368 * i) (bytes_in m ps total)) ≡ total - 368 * i
  left_long i = length-drop (368 * i) (bytes_in m ps total) ∙ ap (λ (n : ℕ). n - 368 * i) (length_bytes_in m ps total)

  -- where a loop over them stands: what is left from here makes the whole
  pub record Decoding (d₀ : Decoded) (l₀ : List ℕ) (d : Decoded) (l : List ℕ) (i : ℕ) : Type 0 where
    pub few : i ≤ total / 368
    pub inside : InRing d.ring
    pub same : (w : World) → left (keeps_blocks (rest i)) (at_blocks w d l) ≡ left (keeps_blocks (blocks_of (bytes_in m ps total))) (at_blocks w d₀ l₀)

  pub decoding_none : (d : Decoded) (l : List ℕ) → InRing d.ring → Decoding d l d l 0
  decoding_none d l i =
      let whole : total - 0 ≡ length (bytes_in m ps total) = omega (arith, length_bytes_in m ps total) in
      record {
        few = omega arith;
        inside = i;
        same = λ w. ap (λ (n : ℕ). left (keeps_blocks (blocks n (bytes_in m ps total))) (at_blocks w d l)) whole;
      }

  module _ {d₀ : Decoded} {l₀ : List ℕ} {d : Decoded} {l : List ℕ} {i : ℕ} (inv : Decoding d₀ l₀ d l i) where
    rest_more : i < total / 368 → rest i ≡ bytes_from m ps (368 * i) 368 ∷ rest (i + 1)
    rest_more h =
        let n : total - i ≡ suc (total - (i + 1)) = omega arith in
        let k : 368 * i + 368 ≡ 368 * (i + 1) = omega arith in
        cc
        (n, blocks_more (total - (i + 1)) (drop (368 * i) (bytes_in m ps total)) (omega (arith, left_long i)), from_in m ps (368 * i) 368 total (omega arith), drop-drop 368 (368 * i) (bytes_in m ps total), k)

    pub decoding_step : i < total / 368 → (d' : Decoded) (l' : List ℕ) → Keeps (keeps_block (bytes_from m ps (368 * i) 368)) d l d' l' → Decoding d₀ l₀ d' l' (i + 1)
    decoding_step h d' l' p =
        record {
          few = omega arith;
          inside = p.inside;
          same = λ w. cc ((p.leads w).is, keeps_more (bytes_from m ps (368 * i) 368) (rest (i + 1)) (at_blocks w d l), rest_more h, inv.same w);
        }

    module _ (all : total / 368 ≤ i) where
      at_end : i ≡ total / 368
      at_end = omega (arith, inv.few)

      -- no short block
      pub decoding_even : total % 368 ≡ 0 → Keeps (keeps_blocks (blocks_of (bytes_in m ps total))) d₀ l₀ d l
      unfolding keeps_blocks nothing
      decoding_even h =
          let none : rest i ≡ [] = ap (blocks (total - i)) (drop_of_length-le (bytes_in m ps total) (omega (arith, length_bytes_in m ps total, at_end))) ∙ blocks_none (total - i) in
          record {
            leads = λ w. record { is = ap (λ (x : List (List ℕ)). left (keeps_blocks x) (at_blocks w d l)) (sym none) ∙ inv.same w };
            inside = inv.inside;
          }

      -- the short block at the end
      abbrev short : List ℕ
      short = drop (368 * i) (bytes_in m ps total)

      rest_short : (total % 368 ≡ 0 → ⊥) → rest i ≡ take 368 short ∷ []
      rest_short h =
          let some_left : 0 < total % 368 = omega arith in
          let n : total - i ≡ suc (total - (i + 1)) = omega (arith, at_end) in
          cc
          (n, blocks_more (total - (i + 1)) short (omega (arith, left_long i, at_end)), drop_of_length-le short {i = 368} (omega (arith, left_long i, at_end)), blocks_none (total - (i + 1)))

      pub decoding_short : (total % 368 ≡ 0 → ⊥) → (r : Decoded) → r ≡ one_bad d → Keeps (keeps_blocks (blocks_of (bytes_in m ps total))) d₀ l₀ r l
      unfolding keeps_blocks nothing good
      decoding_short h r e =
          let few : length (take 368 short) < 368 = omega (arith, length-take 368 short, left_long i, at_end) in
          let bad : good (take 368 short) ≡ false = grind arith in
          subst (λ (x : Decoded). Keeps (keeps_blocks (blocks_of (bytes_in m ps total))) d₀ l₀ x l) (sym e)
          (record {
            leads = λ w. record { is = cc ((bad_leads (take 368 short) d l bad w).is, keeps_more (take 368 short) [] (at_blocks w d l), rest_short h, inv.same w) };
            inside = inv.inside;
          })
