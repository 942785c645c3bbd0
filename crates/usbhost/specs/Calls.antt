-- The calls on a host record but the microframe: their numbers of refusal in the order of their tests, and what an accepted one leaves
-- (document 01, "Numbers of refusal", and document 02; usbhost.rs 362-364, usbdev.rs; frames given and taken are the caller's queues in the source).
use Rattle.std.specs.Prelude.{ℕ, ◌+◌, ◌*◌, ◌/◌, ◌%◌, Bool, not, ◌&&◌, List, eqb, leb, ltb, length, take, drop, set, replicate}
use Rattle.std.proofs.lemmas.List.Edits.{sets}
use Rattle.bits.specs.Pick.{pick}
use Rattle.bus.specs.Sized.{PAGE}
use Rattle.usbdev.specs.Registers.{Registers, registers}
use Rattle.usbdev.specs.Access.{fits, read_sized, write_sized}
use Rattle.midi.specs.Packer.{is_cable, packer_at, fed_all, packet_count, packets_of, room_for}
use Rattle.record.specs.Record.{with_line, with_midi, with_serial, with_received, with_sending, with_port, with_audio, with_lengths}
use Rattle.record.specs.World.{own_midi, own_serial}
use Rattle.record.specs.Sizes.{QUEUE, FRAMES, WORDS, RING}
use Rattle.record.specs.Change.{taken_from}
use Rattle.bounds.specs.Bounds.{in_bounds, received_ok, sending_ok}
use Rattle.usbhost.specs.declared.Host.{Host}
use Rattle.usbhost.specs.Answers.{Sent, sent, Taken, Read}
use Rattle.usbhost.specs.Host.{state_of, host_of, own_of, host_with}

-- ---- numbers 3 and 5 of a record

-- 3: at most 16 gone spans
abbrev pub few_spans : Host → Bool
few_spans h = leb h.settings.spans 16

-- 5: what no area bounds
abbrev pub bounded : Host → Bool
bounded h = in_bounds (state_of h) h.packers h.setups

-- a test that fails gives its number, and otherwise what follows decides
abbrev pub unless : ℕ → Bool → ℕ → ℕ
unless number test next = pick test next number

-- an answer: refused, the record is as it was
abbrev pub answered : ℕ → Host → Host → Sent Host
answered number next h = sent number (pick (eqb number 0) next h)

-- the accepted area, or as it was
abbrev pub kept : ℕ → List ℕ → List ℕ → List ℕ
kept number next area = pick (eqb number 0) next area

-- ---- MIDI send on a cable: 3, 8, 5, 7

-- S-2: 8 asks of the cable alone, so an empty send meets it too
unfoldable pub midi_number : Host → ℕ → List ℕ → ℕ
midi_number h cable bs =
    unless 3 (few_spans h)
    (unless 8 (is_cable cable) (unless 5 (bounded h) (unless 7 (room_for (packer_at h.packers cable) bs h.lengths.midi) 0)))

-- 362-364, S-2: the cable's packer fed, and its packets behind those that wait; the other packers stay
unfoldable pub midi_queued : Host → ℕ → List ℕ → Host
midi_queued r cable bs =
    let p = packer_at r.packers cable in
    host_of (with_lengths (state_of r) (with_midi r.lengths (r.lengths.midi + 4 * packet_count p bs))) r.settings (set r.packers cable (fed_all p bs))
    (own_midi (own_of r) (sets r.midi r.lengths.midi (packets_of cable p bs)))

unfoldable pub midi_sent : Host → ℕ → List ℕ → Sent Host
midi_sent h cable bs = answered (midi_number h cable bs) (midi_queued h cable bs) h

-- ---- serial send: 3, 5, 7

unfoldable pub serial_number : Host → List ℕ → ℕ
serial_number h bs = unless 3 (few_spans h) (unless 5 (bounded h) (unless 7 (leb (h.lengths.serial + length bs) QUEUE) 0))

-- the bytes behind those that wait (`cdc_to_device`, 285)
unfoldable pub serial_queued : Host → List ℕ → Host
serial_queued r bs =
    host_of (with_lengths (state_of r) (with_serial r.lengths (r.lengths.serial + length bs))) r.settings r.packers
    (own_serial (own_of r) (sets r.serial r.lengths.serial bs))

unfoldable pub serial_sent : Host → List ℕ → Sent Host
serial_sent h bs = answered (serial_number h bs) (serial_queued h bs) h

-- ---- frame given: 2, 3, 5, 7

-- 2: the sending ring has a multiple of 12 words, from 84 to 576,000
unfoldable pub sending_length : ℕ → Bool
sending_length n = leb 84 n && (leb n RING && eqb (n % WORDS) 0)

unfoldable pub give_number : Host → List ℕ → List ℕ → ℕ
give_number h frame sending =
    unless 2 (sending_length (length sending) && eqb (length frame) WORDS)
    (unless 3 (few_spans h)
    (unless 5 (bounded h && sending_ok (state_of h) (length sending))
    (unless 7 (ltb h.audio.sending.len (length sending / WORDS)) 0)))

-- behind the newest frame (`to_rytm`, 373)
unfoldable pub frame_put : Host → List ℕ → List ℕ → List ℕ
frame_put h frame sending =
    sets sending ((h.audio.sending.start + h.audio.sending.len) % (length sending / WORDS) * WORDS) frame

unfoldable pub frame_given : Host → Host
frame_given r =
    host_with r (with_audio (state_of r) (with_sending r.audio (record { start = r.audio.sending.start; len = r.audio.sending.len + 1 })))

unfoldable pub given : Host → List ℕ → List ℕ → Sent Host
given h frame sending = answered (give_number h frame sending) (frame_given h) h

unfoldable pub given_ring : Host → List ℕ → List ℕ → List ℕ
given_ring h frame sending = kept (give_number h frame sending) (frame_put h frame sending) sending

-- ---- frame taken: 2, 3, 5

unfoldable pub take_number : Host → List ℕ → ℕ
take_number h received =
    unless 2 (eqb (length received) (FRAMES * WORDS)) (unless 3 (few_spans h) (unless 5 (bounded h && received_ok (state_of h)) 0))

-- the oldest frame leaves (`from_rytm`, 219)
unfoldable pub frame_taken : Host → Host
frame_taken r =
    host_with r (with_audio (state_of r) (with_received r.audio (taken_from FRAMES 1 r.audio.received)))

-- the oldest frame
unfoldable pub oldest : Host → List ℕ → List ℕ
oldest h received = take WORDS (drop (h.audio.received.start * WORDS) received)

-- whether a frame is answered: the call is accepted, and the ring holds one
unfoldable pub holds_frame : Host → List ℕ → Bool
holds_frame h received = eqb (take_number h received) 0 && not (eqb h.audio.received.len 0)

-- "empty" exactly from an empty ring; where refused or empty the frame is zeros and the record as it was
unfoldable pub taken_frame : Host → List ℕ → Taken Host
taken_frame h received =
    record {
      refusal = take_number h received;
      empty = eqb (take_number h received) 0 && eqb h.audio.received.len 0;
      frame = pick (holds_frame h received) (oldest h received) (replicate WORDS 0);
      next = pick (holds_frame h received) (frame_taken h) h;
    }

-- ---- device access: 1 (page only), 3, 4, 5

unfoldable pub access_number : Host → ℕ → ℕ → ℕ → ℕ
access_number h len off size =
    unless 1 (eqb len PAGE) (unless 3 (few_spans h) (unless 4 (fits off size) (unless 5 (bounded h) 0)))

-- a read changes nothing (bus.rs 910-916)
unfoldable pub device_read : Host → List ℕ → ℕ → ℕ → Read
device_read h page off size =
    record {
      refusal = access_number h (length page) off size;
      value = pick (eqb (access_number h (length page) off size) 0) (read_sized page off size) 0;
      host = h;
    }

-- the page, with the line's flag of the record
abbrev pub registers_of : Host → List ℕ → Registers
registers_of h page = registers page h.port.line

-- the record with the line's flag (bus.rs 971)
unfoldable pub with_flag : Host → Bool → Host
with_flag r x =
    host_with r (with_port (state_of r) (with_line r.port x))

-- a write: the record with the flag that it leaves, and the page (bus.rs 963-973)
unfoldable pub device_written : Host → List ℕ → ℕ → ℕ → ℕ → Sent Host
device_written h page off size v =
    answered (access_number h (length page) off size) (with_flag h (write_sized (registers_of h page) off size v).line) h

unfoldable pub written_page : Host → List ℕ → ℕ → ℕ → ℕ → List ℕ
written_page h page off size v = kept (access_number h (length page) off size) (write_sized (registers_of h page) off size v).page page
