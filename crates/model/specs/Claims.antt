-- Demand 3 of one microframe (document 01, "Host record"): one block sent, or none; what the output step's changes are in each case.
use Rattle.std.specs.Prelude.{ℕ, ◌+◌, ◌-◌, ◌%◌, ◌^◌, min, Bool, ◌&&◌, List, [], ◌∷◌, ◌++◌, map, leb, length}
use Rattle.bits.specs.Word.{clear}
use Rattle.bus.specs.Words.{word_at}
use Rattle.bus.specs.Stores as S
use Rattle.bus.specs.Stores.{BusStep, dropped_by}
use Rattle.usbdev.specs.Offsets.{BASE, EPSR}
use Rattle.usbdev.specs.Transfer.{total_of}
use Rattle.transfer.specs.Transfer.{pointers, sending}
use Rattle.dtd.specs.Dtd.{bit_of, queue_head, next_dtd, token_of, descriptor, finishing}
use Rattle.record.specs.Record.{out_transfers, out_frames, out_underruns}
use Rattle.record.specs.World.{World, bus_of}
use Rattle.record.specs.Change.{Change, bus, ran, lost, count, credit, counter, taken}
use Rattle.model.specs.Audio.{audio_out, BLOCK_FRAMES, block_of}
use Rattle.model.specs.Reach.{reaches_output, at_output, output_ready}

-- the output step is reached, primed, its next descriptor active, and the credit at least seven
abbrev pub sends_at : ℕ → World → Bool
sends_at t w = reaches_output t w && (output_ready (at_output w) && leb BLOCK_FRAMES (at_output w).state.audio.credit)

-- the descriptor that the output step retires: its pointer, its token, and how many bytes it takes (577)
abbrev pub out_pointer : World → ℕ
out_pointer x = next_dtd audio_out x.lent.memory

abbrev pub out_token : World → ℕ
out_token x = token_of (out_pointer x) x.lent.memory

abbrev pub out_moved : World → ℕ
out_moved x = min (total_of (out_token x)) (length (block_of x))

-- 579-581, 585-619: the block's first bytes, as many as its total allows, at its addresses, and then its retirement
abbrev pub block_stores : World → BusStep
block_stores x =
    S.◌then◌ (sending (pointers x.lent.memory (descriptor (out_pointer x))) (block_of x) (out_moved x))
    (finishing (queue_head audio_out x.lent.memory.page) (out_pointer x) (out_token x) (out_moved x) (bit_of audio_out))

-- 932-947: what the output step changes before it stores
abbrev pub block_first : World → List Change
block_first x =
    counter ((x.state.audio.counter + BLOCK_FRAMES) % 2 ^ 16)
    ∷ count out_underruns (BLOCK_FRAMES - x.state.audio.sending.len)
    ∷ taken (min BLOCK_FRAMES x.state.audio.sending.len)
    ∷ credit (x.state.audio.credit - BLOCK_FRAMES)
    ∷ []

-- 932-951: all that the output step changes then, in order
abbrev pub one_block : World → List Change
one_block x =
    block_first x
    ++ (map bus (block_stores x (bus_of x))
    ++ (ran audio_out 1 (out_moved x)
    ∷ lost (dropped_by (block_stores x (bus_of x)))
    ∷ count out_transfers 1
    ∷ count out_frames BLOCK_FRAMES
    ∷ []))

-- 910-911, 916-917: the one store that an ended or inactive list gets
abbrev pub unprimed : World → List Change
unprimed x = bus (S.word (BASE + EPSR) (clear (word_at x.lent.memory.page EPSR) 8)) ∷ []
