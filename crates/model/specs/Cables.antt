-- MIDI bytes that came and the cables beside them (S-2): the packets that a microframe's reads bring, and what they leave in the two areas.
use Rattle.std.specs.Prelude.{ℕ, zero, suc, ◌+◌, ◌*◌, ◌/◌, ◌≤◌, ◌≡◌, Bool, true, not, ◌&&◌, List, [], ◌∷◌, ◌++◌, length, take, drop, replicate}
use Rattle.std.proofs.lemmas.List.Edits.{sets}
use Rattle.bits.specs.Pick.{pick}
use Rattle.bus.specs.Steps.{replay}
use Rattle.midi.specs.Packer.{byte_count, packet, packet_bytes}
use Rattle.dtd.specs.Dtd.{endpoint, run_dtds}
use Rattle.record.specs.declared.Settings.{Settings}
use Rattle.record.specs.World.{World, bus_of}
use Rattle.record.specs.Change.{apply, left}
use Rattle.model.specs.Phases.{now, within}
use Rattle.model.specs.Streams.{brought, decoded, cables_of, reads_at, naks}
use Rattle.model.specs.Audio.{streams}
use Rattle.model.specs.Reach.{reaches_output, at_stream}
use Rattle.model.specs.Index.{one_read}

-- ---- the packets

-- 797: the whole packets of a run's bytes
abbrev pub whole_packets : List ℕ → List ℕ
whole_packets bs = take (4 * (length bs / 4)) bs

-- 791-807: the whole packets that at most n reads bring, one read behind the other
unfoldable pub packets_read : ℕ → World → List ℕ
packets_read zero w = []
packets_read (suc n) w =
    let r = run_dtds (endpoint 1 true) [] (bus_of w) in
    pick (brought r) (whole_packets r.bytes ++ packets_read n (replay apply (one_read r) w)) []

-- 501, 776: the host takes MIDI, and the time lies outside its sleep span
abbrev pub reads_midi : Settings → ℕ → Bool
reads_midi c t = c.midi_in && not (within c.sleep t)

-- 501, 785: the World at the first read: past the streams and the NAK; u: the World at the stream step
abbrev pub at_reads : World → World
at_reads u = left naks (left streams u)

-- those of a microframe, from its stream step on, and of a whole one
abbrev pub packets_from : Settings → ℕ → World → List ℕ
packets_from c t u = pick (reads_midi c t) (packets_read (reads_at c.midi_every (now (at_reads u))) (at_reads u)) []

abbrev pub packets_in : ℕ → World → List ℕ
packets_in t w = pick (reaches_output t w) (packets_from w.settings t (at_stream w)) []

-- ---- what they leave

-- S-2: the MIDI bytes of n packets stand behind those there are, and at the same places of the other area their cables; eight reads of at most 24,573
pub record Beside (packets : List ℕ) (w v : World) : Type 0 where
  pub n : ℕ
  pub whole : length packets ≡ 4 * n
  pub few : length (decoded n packets) ≤ 196584
  pub received : v.state.answer.received ≡ w.state.answer.received + length (decoded n packets)
  pub bytes : v.lent.receive ≡ sets w.lent.receive w.state.answer.received (decoded n packets)
  pub cables : v.lent.cables ≡ sets w.lent.cables w.state.answer.received (cables_of n packets)

-- the same where none are there yet and both areas have room: both begin with what came, and behind it are as they were
pub record Fronts (packets : List ℕ) (w v : World) : Type 0 where
  pub n : ℕ
  pub whole : length packets ≡ 4 * n
  pub few : v.state.answer.received ≤ 196584
  pub received : v.state.answer.received ≡ length (decoded n packets)
  pub bytes : take v.state.answer.received v.lent.receive ≡ decoded n packets
  pub bytes_behind : drop v.state.answer.received v.lent.receive ≡ drop v.state.answer.received w.lent.receive
  pub cables : take v.state.answer.received v.lent.cables ≡ cables_of n packets
  pub cables_behind : drop v.state.answer.received v.lent.cables ≡ drop v.state.answer.received w.lent.cables

-- ---- a packet that is sent

-- S-2: read back, a packet of a cable gives its bytes, and the cable beside each
pub record Returns (cable code x y z : ℕ) : Type 0 where
  pub bytes : decoded 1 (packet_bytes cable (packet code (x ∷ y ∷ z ∷ []))) ≡ take (byte_count code) (x ∷ y ∷ z ∷ [])
  pub cables : cables_of 1 (packet_bytes cable (packet code (x ∷ y ∷ z ∷ []))) ≡ replicate (byte_count code) cable
