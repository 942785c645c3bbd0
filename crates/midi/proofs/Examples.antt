-- The packer and the queue at their edges, by computation; the crate worked has the marked examples.
use mathlib.Core.Path.{◌≡◌, refl}
use mathlib.Core.Bool.{false}
use mathlib.Core.List.{[], ◌∷◌, flat_map}
use Rattle.midi.specs.Packer.{fresh, feed_of, fed_all, message_length, message_code, running_of, events_of, packet_count, packets_of, sent_of}

-- F6 clears the status and not the bytes held; the queue's last space; a cable's number in the first byte
pub record Edges : Type 0 where
  pub tune : fed_all fresh (0x90 ∷ 0x3C ∷ 0xF6 ∷ []) ≡ record { status = 0; first = 0x90; second = 0x3C; held = 2; sysex = false }
  pub space : sent_of fresh (0xF8 ∷ []) 4092 ≡ record { refusal = 0; packer = fresh; held = 4096 }
  pub full : sent_of fresh (0xF8 ∷ []) 4096 ≡ record { refusal = 7; packer = fresh; held = 4096 }
  pub cable : packets_of 3 fresh (0x90 ∷ 0x3C ∷ 0x40 ∷ []) ≡ 0x39 ∷ 0x90 ∷ 0x3C ∷ 0x40 ∷ []

pub edges : Edges
unfolding feed_of fed_all message_length message_code running_of events_of packet_count packets_of sent_of flat_map
edges = record { tune = refl; space = refl; full = refl; cable = refl }
