-- Bytes of a run by their index: the words in which laws say what blocks, frames and packets are.
use Rattle.std.specs.Prelude.{ℕ, ◌+◌, ◌*◌, ◌/◌, ◌%◌, ◌^◌, true, length, get_or}
use mathlib.Core.List.{List, [], ◌∷◌, ◌++◌, flat_map}
use Rattle.midi.specs.Packer.{byte_count}
use Rattle.transfer.specs.Transfer.{tabulate}
use Rattle.dtd.specs.Dtd.{endpoint, Run}
use Rattle.record.specs.Record.{midi_dtds}
use Rattle.record.specs.Change.{Change, count, cabled, received, ran_stores}

-- the big-endian word of the four bytes from index o on
abbrev pub big_endian : List ℕ → ℕ → ℕ
big_endian bs o = get_or bs o 0 * 2 ^ 24 + get_or bs (o + 1) 0 * 2 ^ 16 + get_or bs (o + 2) 0 * 2 ^ 8 + get_or bs (o + 3) 0

-- USB MIDI 1.0, section 4: packet i has its code in the low half of byte 4 i, and its MIDI bytes, as many as the code says, from byte 4 i + 1 on
abbrev pub bytes_of_packet : List ℕ → ℕ → List ℕ
bytes_of_packet bs i = tabulate (byte_count (get_or bs (4 * i) 0 % 16)) (λ j. get_or bs (4 * i + 1 + j) 0)

-- section 4: the cable of packet i is the high half of byte 4 i; it stands beside each MIDI byte of the packet (S-2)
abbrev pub cables_of_packet : List ℕ → ℕ → List ℕ
cables_of_packet bs i = tabulate (byte_count (get_or bs (4 * i) 0 % 16)) (λ j. get_or bs (4 * i) 0 / 16)

-- 792-806: what a read of the MIDI endpoint changes whose run brought something: the run, one read counted, and the bytes of its whole packets, their
-- cables first (S-2)
abbrev pub one_read : Run → List Change
one_read r =
    ran_stores (endpoint 1 true) r
    ++ (count midi_dtds 1
    ∷ cabled (flat_map (cables_of_packet r.bytes) (tabulate (length r.bytes / 4) (λ i. i)))
    ∷ received (flat_map (bytes_of_packet r.bytes) (tabulate (length r.bytes / 4) (λ i. i)))
    ∷ [])
