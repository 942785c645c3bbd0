-- The two rings as lists of frames, oldest first, and the frames that a run of the input endpoint brings (demand 3; document 01, "Streams").
use Rattle.std.specs.Prelude.{ℕ, zero, suc, ◌+◌, ◌-◌, ◌*◌, ◌/◌, ◌%◌, ◌≤◌, ◌<◌, ◌≡◌, ◌||◌, List, [], ◌∷◌, ◌++◌, map, length, take, drop}
use Rattle.bits.specs.Pick.{pick}
use Rattle.bus.specs.Stores.{Store, dropped_by}
use Rattle.usbdev.specs.Transfer.{total_of}
use Rattle.transfer.specs.Transfer.{pointers, bytes_in}
use Rattle.dtd.specs.Dtd.{bit_of, queue_head, next_dtd, token_of, interrupts, descriptor, finishing}
use Rattle.record.specs.declared.Ring.{Ring}
use Rattle.record.specs.Record.{wrapped, in_transfers, in_frames, bad_blocks}
use Rattle.record.specs.World.{World, bus_of}
use Rattle.record.specs.Sizes.{FRAMES, WORDS}
use Rattle.record.specs.Change.{Change, bus, ran, lost, count, credit, frame}
use Rattle.model.specs.Streams.{nonempty}
use Rattle.model.specs.Audio.{audio_in, BLOCK_FRAMES, good, words_of, blocks_of}

-- the i-th frame of a ring's words
unfoldable pub frame_in : List ℕ → ℕ → List ℕ
frame_in ring i = take WORDS (drop (i * WORDS) ring)

-- the frames at start, start + 1, .. modulo the capacity, so many of them: oldest first
unfoldable pub oldest_first : ℕ → List ℕ → ℕ → ℕ → List (List ℕ)
oldest_first capacity ring start zero = []
oldest_first capacity ring start (suc len) = frame_in ring start ∷ oldest_first capacity ring ((start + 1) % capacity) len

-- those of a ring with room for 48,000
abbrev pub contents : List ℕ → ℕ → ℕ → List (List ℕ)
contents ring start len = oldest_first FRAMES ring start len

-- what the received ring holds
abbrev pub ring_frames : World → List (List ℕ)
ring_frames w = contents w.lent.received w.state.audio.received.start w.state.audio.received.len

-- those of a sending ring, which has room for a frame in every twelve of its words (`to_rytm`, 373)
abbrev pub sending_frames : List ℕ → Ring → List (List ℕ)
sending_frames ring place = oldest_first (length ring / WORDS) ring place.start place.len

-- the frames that wait to be sent
abbrev pub waiting_frames : World → List (List ℕ)
waiting_frames w = sending_frames w.lent.sending w.state.audio.sending

-- a ring with room for 48,000 frames, and a place that lies in it
pub record InOrder (ring : List ℕ) (place : Ring) : Type 0 where
  pub room : length ring ≡ 576000
  pub starts : place.start < FRAMES
  pub holds : place.len ≤ FRAMES

abbrev pub RingInOrder : World → Type 0
RingInOrder w = InOrder w.lent.received w.state.audio.received

-- 882-887: n frames of a block from the i-th on, behind its header of 32 bytes, 48 bytes each
unfoldable pub frames_from : ℕ → ℕ → List ℕ → List (List ℕ)
frames_from zero i b = []
frames_from (suc n) i b = words_of (take 48 (drop (32 + 48 * i) b)) ∷ frames_from n (suc i) b

-- 878-882: the seven frames of a good block, and none of a bad one
unfoldable pub frames_of_block : List ℕ → List (List ℕ)
frames_of_block b = pick (good b) (frames_from BLOCK_FRAMES 0 b) []

-- those of some blocks, in order
unfoldable pub frames_of_blocks : List (List ℕ) → List (List ℕ)
frames_of_blocks [] = []
frames_of_blocks (b ∷ bs) = frames_of_block b ++ frames_of_blocks bs

-- those of a run's bytes
abbrev pub frames_read : List ℕ → List (List ℕ)
frames_read bs = frames_of_blocks (blocks_of bs)

-- 893-895: the last n of a list, or all of it
abbrev pub last_of : ℕ → List (List ℕ) → List (List ℕ)
last_of n l = drop (length l - n) l

-- ---- the descriptor that the input step retires

-- the pointer to the endpoint's next descriptor, its token, and how many bytes it moves
abbrev pub in_pointer : World → ℕ
in_pointer x = next_dtd audio_in x.lent.memory

abbrev pub in_token : World → ℕ
in_token x = token_of (in_pointer x) x.lent.memory

abbrev pub in_moved : World → ℕ
in_moved x = total_of (in_token x)

-- the bytes at its addresses
abbrev pub in_bytes : World → List ℕ
in_bytes x = bytes_in x.lent.memory (pointers x.lent.memory (descriptor (in_pointer x))) (in_moved x)

-- its retirement, and what follows it
abbrev pub in_stores : World → List Store
in_stores x =
    finishing (queue_head audio_in x.lent.memory.page) (in_pointer x) (in_token x) (in_moved x) (bit_of audio_in) (bus_of x)

-- 876-891: what becomes of a block, where the credit was c, and of some blocks in order
unfoldable pub block_changes : ℕ → List ℕ → List Change
block_changes c b =
    pick (good b)
    (map frame (frames_from BLOCK_FRAMES 0 b) ++ (count in_frames BLOCK_FRAMES ∷ credit (wrapped (c + BLOCK_FRAMES)) ∷ []))
    (count bad_blocks 1 ∷ [])

unfoldable pub blocks_changes : ℕ → List (List ℕ) → List Change
blocks_changes c [] = []
blocks_changes c (b ∷ bs) = block_changes c b ++ blocks_changes (pick (good b) (wrapped (c + BLOCK_FRAMES)) c) bs

-- 870-896: all that the input step changes then, in order
abbrev pub one_run : World → List Change
one_run x =
    map bus (in_stores x)
    ++ (ran audio_in 1 (in_moved x)
    ∷ lost (dropped_by (in_stores x))
    ∷ pick (interrupts (in_token x) || nonempty (in_bytes x))
    (count in_transfers 1 ∷ blocks_changes x.state.audio.credit (blocks_of (in_bytes x))) [])
