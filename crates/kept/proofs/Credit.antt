-- The credit: a multiple of seven that rises by at most 623 in a microframe, 89 blocks of seven frames (document 01, number 5), and exactly so.
use Prim.Native.Nat.{ℕ, zero, suc, ◌+◌, ◌-◌, ◌*◌, ◌%◌, ◌^◌, ◌≤◌, min}
use mathlib.Core.Path.{◌≡◌, refl, ap, ◌∙◌}
use mathlib.Core.Bool.{Bool, true, false, ◌&&◌}
use mathlib.Core.List.{List, [], ◌∷◌}
use native.Mathlib.Omega.{arith}
use lib.Dec.{leb}
use lib.ListN.{length, take, drop, length-take, length-drop}
use borrow.Author.Tests.{leb-true}
use Rattle.bits.specs.Pick.{pick}
use Rattle.record.specs.World.{World, bus_of}
use Rattle.record.specs.Change.{left}
use Rattle.model.specs.Audio.{audio_in, BLOCK_FRAMES, blocks, good, stream_in}
use Rattle.model.specs.Reach.{stream_by, input_by, output_by, back_by, left_by, paced, input_ready, output_ready, bytes_at}
use Rattle.model.specs.Earned.{Counts, counts_of, one_earned, earned, sent_one, zeroed, good_blocks, blocks_read, reset_counts, heard_counts, sent_counts}
use Rattle.bits.proofs.Tests.{and_first}
use Rattle.model.proofs.Bytes.{run_bytes}

-- ---- at most 89 good blocks in a run

one_good_lem : (t : Bool) (b : List ℕ) (k l : ℕ) → good b ≡ t → length b ≤ l → k ≤ l - length b → 368 * pick t 1 0 + k ≤ l
unfolding good
one_good_lem true b k l e h j = omega (arith, leb-true 368 (length b) (and_first _ _ e))
one_good_lem false b k l e h j = omega arith

good_le : (n : ℕ) (bs : List ℕ) → 368 * good_blocks (blocks n bs) ≤ length bs
unfolding good_blocks blocks
good_le zero bs = omega arith
good_le (suc n) [] = omega arith
good_le (suc n) (b ∷ bs) =
    let rest : 368 * good_blocks (blocks n (drop 368 (b ∷ bs))) ≤ length (drop 368 (b ∷ bs)) = good_le n (drop 368 (b ∷ bs)) in
    let lt : length (take 368 (b ∷ bs)) ≡ min 368 (length (b ∷ bs)) = length-take 368 (b ∷ bs) in
    let ld : length (drop 368 (b ∷ bs)) ≡ length (b ∷ bs) - 368 = length-drop 368 (b ∷ bs) in
    let g = one_good_lem (good (take 368 (b ∷ bs))) (take 368 (b ∷ bs)) (368 * good_blocks (blocks n (drop 368 (b ∷ bs)))) (length (b ∷ bs)) refl (omega arith) (omega arith) in
    omega (arith, g)

pub blocks_few : (u : World) → blocks_read u ≤ 89
unfolding blocks_read bytes_at
blocks_few u =
    let a = good_le (length (bytes_at (paced u))) (bytes_at (paced u)) in
    let b = run_bytes audio_in refl [] (bus_of (paced u)) in
    omega arith

-- ---- the counts are sums, and do not wrap, while they are small

abbrev pub SMALL : ℕ
SMALL = 2 ^ 60

abbrev pub added : ℕ → Counts → Counts
added n m = record { credit = m.credit + 7 * n; received = m.received + 7 * n; sent = m.sent }

pub earned_sum : (n : ℕ) (m : Counts) → n ≤ 89 → m.credit ≤ SMALL + 7 * (89 - n) → m.received ≤ SMALL + 7 * (89 - n) → earned n m ≡ added n m
unfolding earned
earned_sum zero m h p q = λ i. record { credit = zero_credit i; received = zero_received i; sent = m.sent }
  where
    zero_credit : m.credit ≡ m.credit + 7 * 0
    zero_credit = omega arith

    zero_received : m.received ≡ m.received + 7 * 0
    zero_received = omega arith
earned_sum (suc n) m h p q =
    let c : (m.credit + 7) % 2 ^ 64 ≡ m.credit + 7 = omega arith in
    let r : (m.received + 7) % 2 ^ 64 ≡ m.received + 7 = omega arith in
    let one : one_earned m ≡ record { credit = m.credit + 7; received = m.received + 7; sent = m.sent } = λ i. record { credit = c i; received = r i; sent = m.sent } in
    let c' : m.credit + 7 + 7 * n ≡ m.credit + 7 * suc n = omega arith in
    let r' : m.received + 7 + 7 * n ≡ m.received + 7 * suc n = omega arith in
    ap (earned n) one
    ∙ earned_sum n (record { credit = m.credit + 7; received = m.received + 7; sent = m.sent }) (omega arith) (omega arith) (omega arith)
    ∙ (λ i. record { credit = c' i; received = r' i; sent = m.sent })

-- ---- a microframe's credit

pick_le : (t : Bool) (m m' : Counts) (n : ℕ) → m.credit ≤ n → m'.credit ≤ n → (pick t m m').credit ≤ n
pick_le true m m' n p q = p
pick_le false m m' n p q = q

pick_received : (t : Bool) (m m' : Counts) (n : ℕ) → m.received ≡ n → m'.received ≡ n → (pick t m m').received ≡ n
pick_received true m m' n p q = p
pick_received false m m' n p q = q

pick_seven : (t : Bool) (m m' : Counts) → m.credit % 7 ≡ 0 → m'.credit % 7 ≡ 0 → (pick t m m').credit % 7 ≡ 0
pick_seven true m m' p q = p
pick_seven false m m' p q = q

module _ (rs g s : Bool) (w : World) (small : (counts_of w).credit ≤ SMALL) (few : (counts_of w).received ≤ SMALL) where
  pub reset_le : (reset_counts rs g s w).credit ≤ (counts_of w).credit
  unfolding reset_counts
  reset_le =
      pick_le (left_by rs g s w) (zeroed (pick (back_by g w) (zeroed (counts_of w)) (counts_of w))) _ _ (omega arith)
      (pick_le (back_by g w) (zeroed (counts_of w)) (counts_of w) _ (omega arith) (omega arith))

  pub reset_received : (reset_counts rs g s w).received ≡ (counts_of w).received
  unfolding reset_counts
  reset_received =
      pick_received (left_by rs g s w) (zeroed (pick (back_by g w) (zeroed (counts_of w)) (counts_of w))) (pick (back_by g w) (zeroed (counts_of w)) (counts_of w)) _
      (pick_received (back_by g w) (zeroed (counts_of w)) (counts_of w) _ refl refl)
      (pick_received (back_by g w) (zeroed (counts_of w)) (counts_of w) _ refl refl)

  -- what is earned is a plain sum
  pub earned_plain : earned (blocks_read (stream_by rs w)) (reset_counts rs g s w) ≡ added (blocks_read (stream_by rs w)) (reset_counts rs g s w)
  earned_plain =
      let a = reset_le in
      let b = reset_received in
      let c = blocks_few (stream_by rs w) in
      earned_sum (blocks_read (stream_by rs w)) (reset_counts rs g s w) c (omega arith) (omega arith)

  pub heard_plain : heard_counts rs g s w ≡ pick (input_by rs g s w && input_ready (paced (stream_by rs w))) (added (blocks_read (stream_by rs w)) (reset_counts rs g s w)) (reset_counts rs g s w)
  unfolding heard_counts
  heard_plain = ap (λ (m : Counts). pick (input_by rs g s w && input_ready (paced (stream_by rs w))) m (reset_counts rs g s w)) earned_plain

  heard_le : (heard_counts rs g s w).credit ≤ (counts_of w).credit + 623
  heard_le =
      let a = reset_le in
      let b = blocks_few (stream_by rs w) in
      rw heard_plain
      (pick_le (input_by rs g s w && input_ready (paced (stream_by rs w))) (added (blocks_read (stream_by rs w)) (reset_counts rs g s w)) (reset_counts rs g s w) _ (omega arith) (omega arith))

  pub sent_le : (sent_counts rs g s w).credit ≤ (counts_of w).credit + 623
  unfolding sent_counts sent_one
  sent_le =
      let a = heard_le in
      pick_le (output_by rs g s w && (output_ready (left stream_in (stream_by rs w)) && leb BLOCK_FRAMES (heard_counts rs g s w).credit)) _ _ _ (omega arith) (omega arith)

  module _ (sevens : (counts_of w).credit % 7 ≡ 0) where
    reset_seven : (reset_counts rs g s w).credit % 7 ≡ 0
    unfolding reset_counts
    reset_seven =
        pick_seven (left_by rs g s w) (zeroed (pick (back_by g w) (zeroed (counts_of w)) (counts_of w))) (pick (back_by g w) (zeroed (counts_of w)) (counts_of w)) refl
        (pick_seven (back_by g w) (zeroed (counts_of w)) (counts_of w) refl sevens)

    heard_seven : (heard_counts rs g s w).credit % 7 ≡ 0
    heard_seven =
        let a = reset_seven in
        rw heard_plain
        (pick_seven (input_by rs g s w && input_ready (paced (stream_by rs w))) (added (blocks_read (stream_by rs w)) (reset_counts rs g s w)) (reset_counts rs g s w) (omega arith) a)

    seven_less : (n : ℕ) → n % 7 ≡ 0 → (n - 7) % 7 ≡ 0
    seven_less n h = omega arith

    pub sent_seven : (sent_counts rs g s w).credit % 7 ≡ 0
    unfolding sent_counts sent_one
    sent_seven =
        let a = heard_seven in
        pick_seven (output_by rs g s w && (output_ready (left stream_in (stream_by rs w)) && leb BLOCK_FRAMES (heard_counts rs g s w).credit)) (sent_one (heard_counts rs g s w)) (heard_counts rs g s w) (seven_less (heard_counts rs g s w).credit a) a
