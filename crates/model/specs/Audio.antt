-- The audio stream: blocks in, and a block out for each that was earned (document 01, "Streams"; usbhost.rs 855-952).
use Rattle.std.specs.Prelude.{ℕ, zero, suc, ◌+◌, ◌-◌, ◌*◌, ◌/◌, ◌%◌, ◌^◌, min, Bool, true, false, not, ◌&&◌, List, [], ◌∷◌, ◌++◌, eqb, leb, ltb, length, get_or, take, drop, replicate}
use Rattle.bits.specs.Pick.{pick}
use Rattle.bits.specs.Word.{clear}
use Rattle.bus.specs.Memory.{word}
use Rattle.usbdev.specs.Offsets.{EPSR}
use Rattle.transfer.specs.Transfer.{tabulate}
use Rattle.dtd.specs.Dtd.{Endpoint, endpoint, primed, terminates, next_dtd, next_active, Run}
use Rattle.record.specs.Record.{wrapped, in_transfers, out_transfers, in_frames, out_frames, bad_blocks, out_underruns}
use Rattle.record.specs.World.{World}
use Rattle.record.specs.Sizes.{WORDS}
use Rattle.record.specs.Change.{count, credit, budget, counter, frame, taken, Step, ◌then◌, nothing, if, when, one, here, on_page, runs}
use Rattle.model.specs.Phases.{changing}
use Rattle.model.specs.Streams.{next_total, brought, nonempty}

-- 859, 870; 907, 949: endpoint 3, from the device and towards it
abbrev pub audio_in : Endpoint
audio_in = endpoint 3 true

abbrev pub audio_out : Endpoint
audio_out = endpoint 3 false

-- 54-56: frames of a block, and bytes of one that comes in
abbrev pub BLOCK_FRAMES : ℕ
BLOCK_FRAMES = 7

abbrev pub BLOCK : ℕ
BLOCK = 368

-- ---- the input budget (858-868): one packet's bytes a microframe, whether the next descriptor is active or not

-- 858-861: a descriptor is named
unfoldable pub named : World → Bool
named w = primed audio_in w.lent.memory.page && not (terminates (next_dtd audio_in w.lent.memory))

-- 863: one packet's bytes more
unfoldable pub adds_budget : Step
adds_budget = when named (one (λ w. budget (wrapped (w.state.audio.budget + BLOCK))))

-- 864: its bytes exceed the budget
unfoldable pub over_budget : World → Bool
over_budget w = named w && ltb w.state.audio.budget (next_total audio_in w)

-- 867: the budget is met, and starts anew
unfoldable pub clears_budget : Step
clears_budget = when named (one (λ w. budget 0))

-- ---- blocks in (870-896)

-- 876: a run's bytes in blocks of 368, of which the last may be short; n is fuel
unfoldable pub blocks : ℕ → List ℕ → List (List ℕ)
blocks zero bs = []
blocks (suc n) bs = pick (nonempty bs) (take BLOCK bs ∷ blocks n (drop BLOCK bs)) []

-- all blocks of a run's bytes
abbrev pub blocks_of : List ℕ → List (List ℕ)
blocks_of bs = blocks (length bs) bs

-- 878: neither short nor with another first byte than 07
unfoldable pub good : List ℕ → Bool
good b = leb BLOCK (length b) && eqb (get_or b 0 0) 7

-- 883-887: a frame's twelve words, big-endian
abbrev pub words_of : List ℕ → List ℕ
words_of bs = tabulate WORDS (λ c. word (get_or bs (4 * c) 0) (get_or bs (4 * c + 1) 0) (get_or bs (4 * c + 2) 0) (get_or bs (4 * c + 3) 0))

-- 882-888: n frames from bs on go to the ring
unfoldable pub keeps_frames : ℕ → List ℕ → Step
keeps_frames zero bs = nothing
keeps_frames (suc n) bs = one (λ w. frame (words_of (take 48 bs))) then keeps_frames n (drop 48 bs)

-- 882-890: a good block: its frames, behind a header of 32 bytes, are kept, counted and credited
unfoldable pub keeps_good : List ℕ → Step
keeps_good b =
    keeps_frames BLOCK_FRAMES (drop 32 b)
    then one (λ w. count in_frames BLOCK_FRAMES)
    then one (λ w. credit (wrapped (w.state.audio.credit + BLOCK_FRAMES)))

-- 876-891: one block, and all of a run
unfoldable pub keeps_block : List ℕ → Step
keeps_block b = pick (good b) (keeps_good b) (one (λ w. count bad_blocks 1))

unfoldable pub keeps_blocks : List (List ℕ) → Step
keeps_blocks [] = nothing
keeps_blocks (b ∷ bs) = keeps_block b then keeps_blocks bs

-- 871-896: a run that brought something is counted, and its blocks are kept
unfoldable pub keeps_run : Run → Step
keeps_run r = when (λ w. brought r) (one (λ w. count in_transfers 1) then keeps_blocks (blocks_of r.bytes))

-- 870-896: the run of the input endpoint
unfoldable pub inputs : Step
inputs = runs audio_in [] keeps_run

-- 855-896: `stream` up to the output step
unfoldable pub stream_in : Step
stream_in = adds_budget then if over_budget nothing (clears_budget then inputs)

-- ---- a block out (902-952)

-- frames that the sending ring has room for
abbrev pub capacity : World → ℕ
capacity w = length w.lent.sending / WORDS

-- 934-940: the i-th frame that waits in the sending ring, or silence
unfoldable pub frame_at : World → ℕ → List ℕ
frame_at w i =
    pick (ltb i w.state.audio.sending.len)
    (take WORDS (drop ((w.state.audio.sending.start + i) % capacity w * WORDS) w.lent.sending))
    (replicate WORDS 0)

-- a word's bytes, big-endian
abbrev pub bytes_of : ℕ → List ℕ
bytes_of v = v / 2 ^ 24 % 256 ∷ v / 2 ^ 16 % 256 ∷ v / 2 ^ 8 % 256 ∷ v % 256 ∷ []

-- 941-944: a frame's first n channels; past its twelve words there is silence
unfoldable pub channel_bytes : ℕ → List ℕ → List ℕ
channel_bytes zero ws = []
channel_bytes (suc n) ws = bytes_of (get_or ws 0 0) ++ channel_bytes n (drop 1 ws)

-- 933-945: n frames from the i-th on
unfoldable pub frame_bytes : ℕ → ℕ → World → List ℕ
frame_bytes i zero w = []
frame_bytes i (suc n) w = channel_bytes w.state.audio.channels (frame_at w i) ++ frame_bytes (suc i) n w

-- 926-946: 07 FF, the stream counter, a header of 32 bytes in all, seven frames, and zeros up to the block's length
unfoldable pub block_of : World → List ℕ
block_of w =
    take w.state.audio.block
    (7 ∷ 0xFF ∷ w.state.audio.counter / 2 ^ 8 ∷ w.state.audio.counter % 2 ^ 8 ∷ replicate 28 0
    ++ frame_bytes 0 BLOCK_FRAMES w ++ replicate 2048 0)

-- 932-951: counter, underruns, frames taken, credit, the run, and the counts
unfoldable pub sends_block : List ℕ → Step
sends_block bs =
    one (λ w. counter ((w.state.audio.counter + BLOCK_FRAMES) % 2 ^ 16))
    then one (λ w. count out_underruns (BLOCK_FRAMES - w.state.audio.sending.len))
    then one (λ w. taken (min BLOCK_FRAMES w.state.audio.sending.len))
    then one (λ w. credit (w.state.audio.credit - BLOCK_FRAMES))
    then runs audio_out bs (λ r. one (λ w. count out_transfers 1) then one (λ w. count out_frames BLOCK_FRAMES))

-- 909-919: an ended list, or one whose next descriptor is not active, is un-primed
unfoldable pub unprimes : Step
unprimes = on_page (changing EPSR (λ v. clear v 8))

-- 902-952: `stream_out`
unfoldable pub stream_out : Step
stream_out =
    when (λ w. primed audio_out w.lent.memory.page && leb BLOCK_FRAMES w.state.audio.credit)
    (if (λ w. next_active audio_out w.lent.memory) (here (λ v. sends_block (block_of v))) unprimes)

-- 855-952: `stream`
unfoldable pub streams : Step
streams = stream_in then stream_out
