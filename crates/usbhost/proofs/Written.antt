-- S-3, of the host's call: an accepted MIDI send writes the packets that it counted, each at its place in the queue, and nothing else there.
use Prim.Native.Nat.{ℕ, ◌+◌, ◌*◌}
use mathlib.Core.Path.{◌≡◌, sym, ap, subst, ◌∙◌}
use mathlib.Core.List.{List}
use native.Mathlib.Omega.{arith}
use lib.Dec.{eqb}
use lib.ListN.{length}
use lib.Seq.{sets}
use borrow.Author.Tests.{leb-true}
use Rattle.bits.specs.Pick.{pick}
use Rattle.midi.specs.Packer.{packer_at, packet_count, packets_of, queue_after}
use Rattle.midi.specs.Claims.{Written}
use Rattle.midi.proofs.Laws.{queue_fits}
use Rattle.midi.proofs.Written.{packets_written}
use Rattle.usbhost.specs.declared.Host.{Host}
use Rattle.usbhost.specs.Calls.{midi_number, midi_queued, midi_sent}
use Rattle.usbhost.proofs.Kept.{midi_room}

module _ (h : Host) (cable : ℕ) (bs : List ℕ) where
  abbrev next : Host
  next = (midi_sent h cable bs).next

  -- from the bytes held before to those held then, by the packer of its cable
  pub send_written : midi_number h cable bs ≡ 0 → length h.midi ≡ 4096
      → Written cable (packer_at h.packers cable) bs h.lengths.midi next.lengths.midi h.midi next.midi
  unfolding midi_sent midi_queued queue_after
  send_written e long =
      let p = packer_at h.packers cable in
      let held = h.lengths.midi in
      let room = midi_room h cable bs e in
      let fits = leb-true (held + 4 * packet_count p bs) 4096 room in
      let sent : next ≡ midi_queued h cable bs = ap (λ (n : ℕ). pick (eqb n 0) (midi_queued h cable bs) h) e in
      let queue : sets h.midi held (packets_of cable p bs) ≡ queue_after cable p bs held h.midi = simp room in
      subst (λ (g : Host). Written cable p bs held g.lengths.midi h.midi g.midi) (sym sent)
      (packets_written cable p bs held h.midi (sets h.midi held (packets_of cable p bs)) (omega (arith, fits, long)) (queue ∙ queue_fits cable p bs held h.midi fits long))
