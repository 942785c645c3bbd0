-- Laws of the calls: a record in bounds stays so, a refused call leaves all as it was, a new host is in bounds, and what a record in bounds accepts.
use mathlib.Core.Path.{◌≡◌, refl, ap, ◌∙◌}
use mathlib.Core.Bool.{Bool, true, false, ◌&&◌}
use mathlib.Core.List.{List}
use Prim.Native.Nat.{ℕ, ◌+◌, ◌-◌, ◌*◌, ◌/◌, ◌%◌, ◌≤◌, ◌<◌}
use native.Mathlib.Nat.{mod-lt}
use native.Mathlib.Omega.{arith}
use lib.Dec.{eqb, leb, ltb}
use lib.ListN.{length, set, replicate}
use lib.Seq.{length-sets}
use borrow.Author.Tests.{eq-eqb, ne_eqb, le-leb, lt-leb, lt-ltb, eqb-true, leb-true, ltb-true}
use Rattle.bits.specs.Pick.{pick, pick_both}
use Rattle.bus.proofs.Sizes.{and_true}
use Rattle.midi.specs.declared.Packer.{Packer}
use Rattle.midi.specs.Packer.{is_cable, packer_at, packet_count, room_for, fed_all}
use Rattle.midi.proofs.Bounds.{fed_all_bound}
use Rattle.usbdev.specs.Access.{fits, read_sized, write_sized}
use Rattle.record.specs.declared.Lengths.{Lengths}
use Rattle.record.specs.declared.Ring.{Ring}
use Rattle.record.specs.declared.Settings.{Settings}
use Rattle.record.specs.Record.{with_midi, with_serial, counter_at}
use Rattle.record.specs.Change.{taken_from}
use Rattle.bounds.specs.Bounds.{in_bounds, asked_ok, held_ok, counted_ok, audio_ok, setups_ok, all_made, none_asks, enumerating_ok, request_ok, queues_ok, packer_ok, each_packer, packers_ok, counts_ok, none_above, counters_ok, credit_ok, timers_ok, timer_ok, ring_ok, received_ok, sending_ok}
use Rattle.bounds.proofs.Laws.{packer_bound, packer_ok_lem, each_one, packers_set}
use Rattle.usbhost.specs.declared.Host.{Host}
use Rattle.usbhost.specs.Host.{state_of, settled, no_settings, new_host, created}
use Rattle.usbhost.specs.Calls.{unless, few_spans, bounded, midi_number, midi_queued, midi_sent, serial_number, serial_queued, serial_sent, sending_length, give_number, frame_put, frame_given, given, given_ring, take_number, frame_taken, holds_frame, taken_frame, access_number, device_read, registers_of, with_flag, device_written, written_page}
use Rattle.usbhost.proofs.Laws.{met, by_test}

-- ---- what a call keeps

-- the settings; that the record is in bounds; and the bounds of the received ring, and of a sending ring of n words
pub record Kept (n : ℕ) (h g : Host) : Type 0 where
  pub settings : g.settings ≡ h.settings
  pub bounds : bounded h ≡ true → bounded g ≡ true
  pub received : received_ok (state_of h) ≡ true → received_ok (state_of g) ≡ true
  pub sending : sending_ok (state_of h) n ≡ true → sending_ok (state_of g) n ≡ true

same : (n : ℕ) (h : Host) → Kept n h h
same n h = record { settings = refl; bounds = λ e. e; received = λ e. e; sending = λ e. e }

-- refused, the record is as it was
either : (n : ℕ) (h next : Host) (t : Bool) → (t ≡ true → Kept n h next) → Kept n h (pick t next h)
either n h next true f = f refl
either n h next false f = same n h

-- ---- MIDI send

-- a test in the middle that stays true
middle : (a b b' c : Bool) → (b ≡ true → b' ≡ true) → (a && (b && c)) ≡ true → (a && (b' && c)) ≡ true
middle a b b' c f e =
    let outer = and_true a (b && c) e in
    let inner = and_true b c outer.1 in
    simp (outer.0, f inner.0, inner.1)

queues_midi : (l : Lengths) (k : ℕ) → l.midi + 4 * k ≤ 4096 → queues_ok l ≡ true → queues_ok (with_midi l (l.midi + 4 * k)) ≡ true
unfolding queues_ok
queues_midi l k h e =
    let first = and_true (leb l.midi 4096) _ e in
    let fours = and_true (eqb (l.midi % 4) 0) (leb l.serial 4096 && leb l.device 64) first.1 in
    let whole : (l.midi + 4 * k) % 4 ≡ 0 = omega (arith, eqb-true (l.midi % 4) 0 fours.0) in
    simp (le-leb (l.midi + 4 * k) 4096 h, whole, fours.1)

-- an accepted send has a cable, and had room for its packets
module _ (h : Host) (cable : ℕ) (bs : List ℕ) (e : midi_number h cable bs ≡ 0) where
  abbrev sender : Packer
  sender = packer_at h.packers cable

  abbrev seven : ℕ
  seven = unless 7 (room_for sender bs h.lengths.midi) 0

  unfolded : unless 3 (few_spans h) (unless 8 (is_cable cable) (unless 5 (bounded h) seven)) ≡ 0
  unfolding midi_number
  unfolded = e

  eight : (is_cable cable ≡ true) × (unless 5 (bounded h) seven ≡ 0)
  eight = met 8 (is_cable cable) (unless 5 (bounded h) seven) (omega arith) (met 3 (few_spans h) (unless 8 (is_cable cable) (unless 5 (bounded h) seven)) (omega arith) unfolded).1

  pub midi_cable : cable < 16
  midi_cable = ltb-true cable 16 eight.0

  pub midi_room : room_for (packer_at h.packers cable) bs h.lengths.midi ≡ true
  midi_room = (met 7 (room_for sender bs h.lengths.midi) 0 (omega arith) (met 5 (bounded h) seven (omega arith) eight.1).1).0

-- every packer in its bounds stays so when one is fed
fed_packers : (packers : List Packer) (cable : ℕ) (bs : List ℕ) → cable < 16 → packers_ok packers ≡ true
    → packers_ok (set packers cable (fed_all (packer_at packers cable) bs)) ≡ true
fed_packers packers cable bs there ok =
    let p = packer_at packers cable in
    packers_set packers cable (fed_all p bs) ok
    (packer_ok_lem (fed_all p bs) (fed_all_bound p bs (packer_bound p (each_one packer_ok packers 16 ok cable there))))

-- and so under any send, refused or not
pub packers_kept : (h : Host) (cable : ℕ) (bs : List ℕ) → packers_ok h.packers ≡ true → packers_ok (midi_sent h cable bs).next.packers ≡ true
unfolding midi_sent midi_queued
packers_kept h cable bs ok =
    by_test (eqb (midi_number h cable bs) 0)
    (λ z. ap (λ (t : Bool). packers_ok (pick t (midi_queued h cable bs) h).packers) z ∙ fed_packers h.packers cable bs (midi_cable h cable bs (eqb-true (midi_number h cable bs) 0 z)) ok)
    (λ m. ap (λ (t : Bool). packers_ok (pick t (midi_queued h cable bs) h).packers) m ∙ ok)

midi_held : (h : Host) (cable : ℕ) (bs : List ℕ) → cable < 16 → room_for (packer_at h.packers cable) bs h.lengths.midi ≡ true
    → held_ok (state_of h) h.packers ≡ true → held_ok (state_of (midi_queued h cable bs)) (midi_queued h cable bs).packers ≡ true
unfolding midi_queued
midi_held h cable bs there room e =
    let both = and_true (queues_ok h.lengths) (packers_ok h.packers) e in
    let k = packet_count (packer_at h.packers cable) bs in
    let queues = queues_midi h.lengths k (leb-true (h.lengths.midi + 4 * k) 4096 room) both.0 in
    simp (queues, fed_packers h.packers cable bs there both.1)

midi_queued_lem : (n : ℕ) (h : Host) (cable : ℕ) (bs : List ℕ) → cable < 16 → room_for (packer_at h.packers cable) bs h.lengths.midi ≡ true → Kept n h (midi_queued h cable bs)
unfolding midi_queued in_bounds enumerating_ok counts_ok
midi_queued_lem n h cable bs there room =
    record {
      settings = refl;
      bounds = middle (asked_ok (state_of h) h.setups) (held_ok (state_of h) h.packers) _ (counted_ok (state_of h) && audio_ok h.audio) (midi_held h cable bs there room);
      received = λ e. e;
      sending = λ e. e;
    }

pub midi_kept : (n : ℕ) (h : Host) (cable : ℕ) (bs : List ℕ) → Kept n h (midi_sent h cable bs).next
unfolding midi_sent
midi_kept n h cable bs =
    either n h (midi_queued h cable bs) (eqb (midi_number h cable bs) 0)
    (λ t. let z = eqb-true (midi_number h cable bs) 0 t in midi_queued_lem n h cable bs (midi_cable h cable bs z) (midi_room h cable bs z))

-- ---- serial send

-- an accepted send had room for its bytes
pub serial_room : (h : Host) (bs : List ℕ) → serial_number h bs ≡ 0 → h.lengths.serial + length bs ≤ 4096
unfolding serial_number
serial_room h bs e =
    let room = leb (h.lengths.serial + length bs) 4096 in
    let three = met 3 (few_spans h) (unless 5 (bounded h) (unless 7 room 0)) (omega arith) e in
    let five = met 5 (bounded h) (unless 7 room 0) (omega arith) three.1 in
    leb-true (h.lengths.serial + length bs) 4096 (met 7 room 0 (omega arith) five.1).0

queues_serial : (l : Lengths) (k : ℕ) → l.serial + k ≤ 4096 → queues_ok l ≡ true → queues_ok (with_serial l (l.serial + k)) ≡ true
unfolding queues_ok
queues_serial l k h e =
    let first = and_true (leb l.midi 4096) _ e in
    let fours = and_true (eqb (l.midi % 4) 0) (leb l.serial 4096 && leb l.device 64) first.1 in
    let last = and_true (leb l.serial 4096) (leb l.device 64) fours.1 in
    simp (first.0, fours.0, le-leb (l.serial + k) 4096 h, last.1)

serial_held : (h : Host) (bs : List ℕ) → h.lengths.serial + length bs ≤ 4096
    → held_ok (state_of h) h.packers ≡ true → held_ok (state_of (serial_queued h bs)) h.packers ≡ true
unfolding serial_queued
serial_held h bs room e =
    let both = and_true (queues_ok h.lengths) (packers_ok h.packers) e in
    simp (queues_serial h.lengths (length bs) room both.0, both.1)

serial_queued_lem : (n : ℕ) (h : Host) (bs : List ℕ) → h.lengths.serial + length bs ≤ 4096 → Kept n h (serial_queued h bs)
unfolding serial_queued in_bounds enumerating_ok counts_ok
serial_queued_lem n h bs room =
    record {
      settings = refl;
      bounds = middle (asked_ok (state_of h) h.setups) (held_ok (state_of h) h.packers) _ (counted_ok (state_of h) && audio_ok h.audio) (serial_held h bs room);
      received = λ e. e;
      sending = λ e. e;
    }

pub serial_kept : (n : ℕ) (h : Host) (bs : List ℕ) → Kept n h (serial_sent h bs).next
unfolding serial_sent
serial_kept n h bs =
    either n h (serial_queued h bs) (eqb (serial_number h bs) 0) (λ t. serial_queued_lem n h bs (serial_room h bs (eqb-true (serial_number h bs) 0 t)))

-- ---- frame given

-- an accepted frame had room
pub give_room : (h : Host) (frame sending : List ℕ) → give_number h frame sending ≡ 0 → h.audio.sending.len < length sending / 12
unfolding give_number
give_room h frame sending e =
    let room = ltb h.audio.sending.len (length sending / 12) in
    let ok = bounded h && sending_ok (state_of h) (length sending) in
    let two = met 2 (sending_length (length sending) && eqb (length frame) 12) (unless 3 (few_spans h) (unless 5 ok (unless 7 room 0))) (omega arith) e in
    let three = met 3 (few_spans h) (unless 5 ok (unless 7 room 0)) (omega arith) two.1 in
    let five = met 5 ok (unless 7 room 0) (omega arith) three.1 in
    ltb-true h.audio.sending.len (length sending / 12) (met 7 room 0 (omega arith) five.1).0

longer : (r : Ring) (n : ℕ) → r.len < n → ring_ok r n ≡ true → ring_ok (record { start = r.start; len = r.len + 1 }) n ≡ true
unfolding ring_ok
longer r n l e =
    let both = and_true (ltb r.start n) (leb r.len n) e in
    simp (both.0, le-leb (r.len + 1) n (omega arith))

frame_given_lem : (n : ℕ) (h : Host) → h.audio.sending.len < n / 12 → Kept n h (frame_given h)
unfolding frame_given in_bounds enumerating_ok counts_ok audio_ok
frame_given_lem n h room =
    record { settings = refl; bounds = λ e. e; received = λ e. e; sending = longer h.audio.sending (n / 12) room }

pub give_kept : (h : Host) (frame sending : List ℕ) → Kept (length sending) h (given h frame sending).next
unfolding given
give_kept h frame sending =
    either (length sending) h (frame_given h) (eqb (give_number h frame sending) 0)
    (λ t. frame_given_lem (length sending) h (give_room h frame sending (eqb-true (give_number h frame sending) 0 t)))

-- the ring keeps its length
pub ring_kept : (h : Host) (frame sending : List ℕ) → length (given_ring h frame sending) ≡ length sending
unfolding given_ring frame_put
ring_kept h frame sending =
    pick_both (λ (l : List ℕ). length l ≡ length sending) (eqb (give_number h frame sending) 0)
    (length-sets sending ((h.audio.sending.start + h.audio.sending.len) % (length sending / 12) * 12) frame) refl

-- ---- frame taken

shorter : (r : Ring) (n : ℕ) → ring_ok r n ≡ true → ring_ok (taken_from n 1 r) n ≡ true
unfolding ring_ok taken_from
shorter r n e =
    let both = and_true (ltb r.start n) (leb r.len n) e in
    let inside = ltb-true r.start n both.0 in
    let next : (r.start + 1) % n < n = mod-lt (r.start + 1) {m = n} (omega arith) in
    simp (lt-ltb ((r.start + 1) % n) n next, le-leb (r.len - 1) n (omega (arith, leb-true r.len n both.1)))

frame_taken_lem : (n : ℕ) (h : Host) → Kept n h (frame_taken h)
unfolding frame_taken in_bounds enumerating_ok counts_ok audio_ok
frame_taken_lem n h = record { settings = refl; bounds = λ e. e; received = shorter h.audio.received 48000; sending = λ e. e }

pub take_kept : (n : ℕ) (h : Host) (received : List ℕ) → Kept n h (taken_frame h received).next
unfolding taken_frame
take_kept n h received = either n h (frame_taken h) (holds_frame h received) (λ t. frame_taken_lem n h)

-- ---- device access

with_flag_lem : (n : ℕ) (h : Host) (l : Bool) → Kept n h (with_flag h l)
unfolding with_flag in_bounds enumerating_ok counts_ok
with_flag_lem n h l = record { settings = refl; bounds = λ e. e; received = λ e. e; sending = λ e. e }

pub read_kept : (n : ℕ) (h : Host) (page : List ℕ) (off size : ℕ) → Kept n h (device_read h page off size).host
unfolding device_read
read_kept n h page off size = same n h

pub write_kept : (n : ℕ) (h : Host) (page : List ℕ) (off size v : ℕ) → Kept n h (device_written h page off size v).next
unfolding device_written
write_kept n h page off size v =
    let line = (write_sized (registers_of h page) off size v).line in
    either n h (with_flag h line) (eqb (access_number h (length page) off size) 0) (λ t. with_flag_lem n h line)

-- ---- a new host

-- in bounds, and its rings too, where a frame fits them
pub new_bounded : (c : Settings) → bounded (new_host c) ≡ true
unfolding new_host in_bounds setups_ok all_made none_asks enumerating_ok request_ok queues_ok packer_ok each_packer counts_ok counters_ok none_above counter_at credit_ok timers_ok timer_ok audio_ok
new_bounded c = refl

pub new_packers : (c : Settings) → packers_ok (new_host c).packers ≡ true
unfolding new_host packer_ok each_packer
new_packers c = refl

pub new_received : (c : Settings) → received_ok (state_of (new_host c)) ≡ true
unfolding new_host ring_ok
new_received c = refl

pub new_sending : (c : Settings) (n : ℕ) → 12 ≤ n → sending_ok (state_of (new_host c)) n ≡ true
unfolding new_host ring_ok
new_sending c n h = simp (lt-ltb 0 (n / 12) (omega arith), le-leb 0 (n / 12) (omega arith))

-- `new` refuses more than 16 spans alone, and its host has at most 16
pub new_accepts : (c : Settings) → c.spans ≤ 16 → created c ≡ record { refusal = 0; host = new_host (settled c) }
unfolding created
new_accepts c h = simp (le-leb c.spans 16 h)

pub new_refuses : (c : Settings) → 16 < c.spans → created c ≡ record { refusal = 3; host = new_host no_settings }
unfolding created
new_refuses c h = simp (lt-leb c.spans 16 h)

pub new_few : (c : Settings) → few_spans (created c).host ≡ true
unfolding created new_host settled
new_few c = by_test (leb c.spans 16) (λ few. simp few) (λ many. simp many)

-- ---- refused, all is as it was

-- a choice by a number that is not 0
other : {A : Type 0} (n : ℕ) (next a : A) → (n ≡ 0 → ⊥) → pick (eqb n 0) next a ≡ a
other n next a m = simp (ne_eqb n 0 m)

pub midi_refused : (h : Host) (cable : ℕ) (bs : List ℕ) → ((midi_sent h cable bs).refusal ≡ 0 → ⊥) → (midi_sent h cable bs).next ≡ h
unfolding midi_sent
midi_refused h cable bs m = other (midi_number h cable bs) (midi_queued h cable bs) h m

pub serial_refused : (h : Host) (bs : List ℕ) → ((serial_sent h bs).refusal ≡ 0 → ⊥) → (serial_sent h bs).next ≡ h
unfolding serial_sent
serial_refused h bs m = other (serial_number h bs) (serial_queued h bs) h m

module _ (h : Host) (frame sending : List ℕ) (m : (given h frame sending).refusal ≡ 0 → ⊥) where
  pub give_refused : (given h frame sending).next ≡ h
  unfolding given
  give_refused = other (give_number h frame sending) (frame_given h) h m

  pub ring_refused : given_ring h frame sending ≡ sending
  unfolding given given_ring
  ring_refused = other (give_number h frame sending) (frame_put h frame sending) sending m

pub take_refused : (h : Host) (received : List ℕ) → ((taken_frame h received).refusal ≡ 0 → ⊥)
    → taken_frame h received ≡ record { refusal = take_number h received; empty = false; frame = replicate 12 0; next = h }
unfolding taken_frame holds_frame
take_refused h received m = simp (ne_eqb (take_number h received) 0 m)

-- an empty ring answers so, and all stays as it was
pub take_empty : (h : Host) (received : List ℕ) → take_number h received ≡ 0 → h.audio.received.len ≡ 0
    → taken_frame h received ≡ record { refusal = 0; empty = true; frame = replicate 12 0; next = h }
unfolding taken_frame holds_frame
take_empty h received e z = simp (e, eq-eqb h.audio.received.len 0 z)

pub read_refused : (h : Host) (page : List ℕ) (off size : ℕ) → ((device_read h page off size).refusal ≡ 0 → ⊥) → (device_read h page off size).value ≡ 0
unfolding device_read
read_refused h page off size m = other (access_number h (length page) off size) (read_sized page off size) 0 m

module _ (h : Host) (page : List ℕ) (off size v : ℕ) (m : (device_written h page off size v).refusal ≡ 0 → ⊥) where
  pub write_refused : (device_written h page off size v).next ≡ h
  unfolding device_written
  write_refused = other (access_number h (length page) off size) (with_flag h (write_sized (registers_of h page) off size v).line) h m

  pub page_refused : written_page h page off size v ≡ page
  unfolding device_written written_page
  page_refused = other (access_number h (length page) off size) (write_sized (registers_of h page) off size v).page page m

-- ---- a record in bounds accepts: a send is refused for its cable or for room alone, a frame given too, and no other call is

module _ (h : Host) (few : few_spans h ≡ true) (ok : bounded h ≡ true) where
  pub midi_accepts : (cable : ℕ) (bs : List ℕ)
      → (midi_sent h cable bs).refusal ≡ unless 8 (is_cable cable) (unless 7 (room_for (packer_at h.packers cable) bs h.lengths.midi) 0)
  unfolding midi_sent midi_number
  midi_accepts cable bs = simp (few, ok)

  pub serial_accepts : (bs : List ℕ) → (serial_sent h bs).refusal ≡ unless 7 (leb (h.lengths.serial + length bs) 4096) 0
  unfolding serial_sent serial_number
  serial_accepts bs = simp (few, ok)

  pub give_accepts : (frame sending : List ℕ) → sending_length (length sending) ≡ true → length frame ≡ 12 → sending_ok (state_of h) (length sending) ≡ true
      → (given h frame sending).refusal ≡ unless 7 (ltb h.audio.sending.len (length sending / 12)) 0
  unfolding given give_number
  give_accepts frame sending right whole inside = simp (right, whole, few, ok, inside)

  pub take_accepts : (received : List ℕ) → length received ≡ 576000 → received_ok (state_of h) ≡ true → (taken_frame h received).refusal ≡ 0
  unfolding taken_frame take_number
  take_accepts received long inside = simp (long, few, ok, inside)

  pub read_accepts : (page : List ℕ) (off size : ℕ) → length page ≡ 4096 → fits off size ≡ true → (device_read h page off size).refusal ≡ 0
  unfolding device_read access_number
  read_accepts page off size whole fit = simp (whole, few, fit, ok)

  pub write_accepts : (page : List ℕ) (off size v : ℕ) → length page ≡ 4096 → fits off size ≡ true → (device_written h page off size v).refusal ≡ 0
  unfolding device_written access_number
  write_accepts page off size v whole fit = simp (whole, few, fit, ok)
