-- What a microframe does to the credit and to the two counters of frames, by the tests that say which steps it reaches
-- (document 01, "Host record").
use Rattle.std.specs.Prelude.{ℕ, zero, suc, ◌+◌, ◌-◌, ◌/◌, ◌%◌, ◌^◌, min, Bool, ◌&&◌, List, [], ◌∷◌, leb, length}
use Rattle.bits.specs.Pick.{pick}
use Rattle.record.specs.Record.{wrapped, counter_of, in_frames, out_frames}
use Rattle.record.specs.declared.Ring.{Ring}
use Rattle.record.specs.World.{World}
use Rattle.record.specs.Sizes.{WORDS}
use Rattle.record.specs.Change.{left, taken_from}
use Rattle.model.specs.Audio.{BLOCK_FRAMES, good, blocks_of, stream_in}
use Rattle.model.specs.Reach.{stream_by, output_by, input_by, back_by, left_by, paced, input_ready, output_ready, bytes_at}

-- the credit (221), and the frames counted in and out (295-296)
pub record Counts : Type 0 where
  pub credit : ℕ
  pub received : ℕ
  pub sent : ℕ

abbrev pub counts_of : World → Counts
counts_of w =
    record { credit = w.state.audio.credit; received = counter_of in_frames w.state.stats; sent = counter_of out_frames w.state.stats }

-- the stream counter, the place of the sending ring, which has room for so many frames, and the frames counted as sent
pub record Out : Type 0 where
  pub counter : ℕ
  pub sending : Ring
  pub capacity : ℕ
  pub sent : ℕ

abbrev pub out_of : World → Out
out_of w =
    record {
      counter = w.state.audio.counter;
      sending = w.state.audio.sending;
      capacity = length w.lent.sending / WORDS;
      sent = counter_of out_frames w.state.stats;
    }

-- 932, 934, 951: a block sent: the counter goes up by seven, modulo 2^16, seven frames leave the ring, or all that it has, and seven are counted
unfoldable pub sent_out : Out → Out
sent_out o =
    record {
      counter = (o.counter + BLOCK_FRAMES) % 2 ^ 16;
      sending = taken_from o.capacity (min BLOCK_FRAMES o.sending.len) o.sending;
      capacity = o.capacity;
      sent = wrapped (o.sent + BLOCK_FRAMES);
    }

-- 889-890: one good block, and n of them
abbrev pub one_earned : Counts → Counts
one_earned m =
    record { credit = wrapped (m.credit + BLOCK_FRAMES); received = wrapped (m.received + BLOCK_FRAMES); sent = m.sent }

unfoldable pub earned : ℕ → Counts → Counts
earned zero m = m
earned (suc n) m = earned n (one_earned m)

-- 947, 951: one block sent
unfoldable pub sent_one : Counts → Counts
sent_one m = record { credit = m.credit - BLOCK_FRAMES; received = m.received; sent = wrapped (m.sent + BLOCK_FRAMES) }

-- 400, 441: a reset of the credit
abbrev pub zeroed : Counts → Counts
zeroed m = record { credit = 0; received = m.received; sent = m.sent }

-- 878: how many blocks of a list are good
unfoldable pub good_blocks : List (List ℕ) → ℕ
good_blocks [] = 0
good_blocks (b ∷ bs) = pick (good b) 1 0 + good_blocks bs

-- the good blocks of the run at the input step, from the World at the stream step
unfoldable pub blocks_read : World → ℕ
blocks_read u = good_blocks (blocks_of (bytes_at (paced u)))

-- ---- a microframe: the resets, then the input step, then the output step

unfoldable pub reset_counts : Bool → Bool → Bool → World → Counts
reset_counts rs g s w =
    pick (left_by rs g s w) (zeroed (pick (back_by g w) (zeroed (counts_of w)) (counts_of w))) (pick (back_by g w) (zeroed (counts_of w)) (counts_of w))

unfoldable pub heard_counts : Bool → Bool → Bool → World → Counts
heard_counts rs g s w =
    pick (input_by rs g s w && input_ready (paced (stream_by rs w)))
    (earned (blocks_read (stream_by rs w)) (reset_counts rs g s w))
    (reset_counts rs g s w)

unfoldable pub sent_counts : Bool → Bool → Bool → World → Counts
sent_counts rs g s w =
    pick (output_by rs g s w && (output_ready (left stream_in (stream_by rs w)) && leb BLOCK_FRAMES (heard_counts rs g s w).credit))
    (sent_one (heard_counts rs g s w))
    (heard_counts rs g s w)
