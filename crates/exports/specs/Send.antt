-- A MIDI send for C, with numbers 8, 5 and 7 in the order of the host's call: its answer, and the queue to its last byte.
use Rattle.std.specs.Prelude.{ℕ, ◌%◌, Bool, ◌&&◌, List, eqb, leb}
use Rattle.bits.specs.Pick.{pick}
use Rattle.midi.specs.declared.Packer.{Packer}
use Rattle.midi.specs.Packer.{Sent, QUEUE, is_cable, sent_of, queue_after}
use Rattle.bounds.specs.Bounds.{packer_ok}

-- document 01, number 5, of what a send is given: a packer inside its bound, and a MIDI queue not over 4,096 and a multiple of four
unfoldable pub bounded : Packer → ℕ → Bool
bounded p held = packer_ok p && (leb held QUEUE && eqb (held % 4) 0)

-- 8 and then 5 with all as it was, and otherwise what number 7 decides
unfoldable pub midi_sent : ℕ → Packer → List ℕ → ℕ → Sent
midi_sent cable p bs held =
    pick (is_cable cable)
    (pick (bounded p held) (sent_of p bs held) (record { refusal = 5; packer = p; held = held }))
    (record { refusal = 8; packer = p; held = held })

unfoldable pub midi_queue : ℕ → Packer → List ℕ → ℕ → List ℕ → List ℕ
midi_queue cable p bs held q = pick (is_cable cable) (pick (bounded p held) (queue_after cable p bs held q) q) q
