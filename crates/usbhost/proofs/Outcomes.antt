-- The promise of each call on parts, by its ways from the number of refusal on; and what a call that is accepted knows.
use Rattle.std.specs.Prelude.{Result, Ok, Err, IfOk}
use mathlib.Core.Path.{◌≡◌, refl, sym, ap, subst, ◌∙◌}
use mathlib.Core.Bool.{Bool, true, false, ◌&&◌}
use mathlib.Core.List.{List, []}
use Prim.Native.Nat.{ℕ, ◌+◌, ◌*◌, ◌/◌, ◌%◌, ◌≤◌, ◌<◌}
use native.Mathlib.Nat.{mod-lt}
use native.Mathlib.Omega.{arith}
use lib.Dec.{eqb, leb, ltb}
use lib.ListN.{length, take, drop, set, replicate}
use lib.Seq.{sets, set-get_or}
use borrow.Author.Tests.{eq-eqb, ne_eqb, le-leb, lt-leb, lt-ltb, eqb-true, leb-true, ltb-true}
use Rattle.bounds.proofs.Laws.{in_ring}
use Rattle.bus.proofs.Sizes.{and_true}
use Rattle.refusal.specs.declared.Refusal.{Refusal}
use Rattle.refusal.specs.Number.{number, number_of}
use Rattle.midi.specs.declared.Packer.{Packer}
use Rattle.midi.specs.Packer as Midi
use Rattle.midi.specs.Packer.{is_cable, packer_at, fresh, Sends, room_for, sent_of, queue_after, sent_on, queue_on}
use Rattle.usbdev.specs.Answers.{Written, value_of}
use Rattle.usbdev.specs.Registers.{registers}
use Rattle.usbdev.specs.Access.{fits, refusal, read_sized, writing, written}
use Rattle.record.specs.declared.Lengths.{Lengths}
use Rattle.record.specs.declared.Settings.{Settings}
use Rattle.record.specs.declared.State.{State}
use Rattle.record.specs.Record.{with_lengths, with_midi, with_serial, with_audio, with_received, with_sending, with_port, with_line}
use Rattle.record.specs.Change.{taken_from}
use Rattle.bounds.specs.Bounds.{in_bounds, asked_ok, held_ok, counted_ok, audio_ok, queues_ok, packers_ok, received_ok, sending_ok}
use Rattle.record.specs.World.{Own, own, own_setups, own_midi, own_serial}
use Rattle.usbhost.specs.declared.Host.{Host}
use Rattle.usbhost.specs.Answers.{sent, Read}
use Rattle.usbhost.specs.Host.{host_of, state_of, no_settings}
use Rattle.usbhost.specs.Calls.{unless, few_spans, bounded, midi_number, midi_queued, midi_sent, serial_number, serial_queued, serial_sent, sending_length, give_number, frame_put, frame_given, given, given_ring, take_number, frame_taken, oldest, holds_frame, taken_frame, access_number, device_read, with_flag, device_written, written_page}
use Rattle.usbhost.specs.Promises.{with_spans, bare, MidiPromise, SerialPromise, GivePromise, TakePromise, ReadPromise, WritePromise}
use Rattle.usbhost.proofs.Laws.{cable_stands, cable_stops, record_stands, record_stops, met, goes, stops, refused, by_test, same_bounds}

-- ---- sends

-- where numbers 3, 8 and 5 are not met, what follows them decides; a call on no cable passes 8
follows : (s : State) (c : Settings) (packers : List Packer) (o : Own) (k : Bool) (x : ℕ) {n : ℕ}
    → n ≡ unless 3 (leb c.spans 16) (unless 8 k (unless 5 (in_bounds s packers o.setups) 0)) → n ≡ 0
    → unless 3 (leb c.spans 16) (unless 8 k (unless 5 (bounded (host_of s c packers o)) x)) ≡ x
follows s c packers o k x e z =
    rw (same_bounds s c packers o) (cable_stands (leb c.spans 16) k (in_bounds s packers o.setups) x (sym e ∙ z))

-- where one is met, it is the number
stays : (s : State) (c : Settings) (packers : List Packer) (o : Own) (k : Bool) (x : ℕ) {n : ℕ}
    → n ≡ unless 3 (leb c.spans 16) (unless 8 k (unless 5 (in_bounds s packers o.setups) 0)) → (n ≡ 0 → ⊥)
    → unless 3 (leb c.spans 16) (unless 8 k (unless 5 (bounded (host_of s c packers o)) x)) ≡ n
stays s c packers o k x e m =
    rw (same_bounds s c packers o) (cable_stops (leb c.spans 16) k (in_bounds s packers o.setups) x _ e m)

module _ (s : State) (spans : ℕ) (packers : List Packer) (cable : ℕ) (bs setups midi : List ℕ) {n : ℕ}
    (e : n ≡ unless 3 (leb spans 16) (unless 8 (is_cable cable) (unless 5 (in_bounds s packers setups) 0))) where
  -- where none of them is met the cable has a packer
  pub cable_there : n ≡ 0 → cable < 16
  cable_there z =
      let eight = (met 3 (leb spans 16) (unless 8 (is_cable cable) (unless 5 (in_bounds s packers setups) 0)) (omega arith) (sym e ∙ z)).1 in
      ltb-true cable 16 (met 8 (is_cable cable) (unless 5 (in_bounds s packers setups) 0) (omega arith) eight).0

  pub midi_stops : (n ≡ 0 → ⊥) → MidiPromise s spans packers cable bs setups midi (record { refusal = n; state = s; packers = packers }) midi
  unfolding midi_sent midi_number
  midi_stops m =
      record {
        answer = refl;
        done = λ k o.
            let h = host_of s (with_spans k spans) packers (own_midi (own_setups o setups) midi) in
            sym (stops (midi_number h cable bs) n (midi_queued h cable bs) h (stays s (with_spans k spans) packers (own_midi (own_setups o setups) midi) (is_cable cable) _ e m) m);
      }

  pub midi_goes : n ≡ 0 → (r : Midi.Sent) (midi' : List ℕ) → Sends cable (packer_at packers cable) bs s.lengths.midi midi midi' r
      → MidiPromise s spans packers cable bs setups midi (record { refusal = r.refusal; state = with_lengths s (with_midi s.lengths r.held); packers = set packers cable r.packer }) midi'
  unfolding midi_sent midi_number midi_queued sent_of queue_after sent_on queue_on
  midi_goes z r midi' d =
      let p = packer_at packers cable in
      let there : is_cable cable ≡ true = lt-ltb cable 16 (cable_there z) in
      record {
        answer = refl;
        done = λ k o.
            let h = host_of s (with_spans k spans) packers (own_midi (own_setups o setups) midi) in
            let number : midi_number h cable bs ≡ unless 7 (room_for p bs s.lengths.midi) 0 = follows s (with_spans k spans) packers (own_midi (own_setups o setups) midi) (is_cable cable) _ e z in
            by_test (room_for p bs s.lengths.midi)
            (λ room. rw (d.answer, d.queue, number) (simp (there, room)))
            (λ full. rw (d.answer, d.queue, number) (simp (there, full, set-get_or packers cable fresh)));
      }

  -- a send that does not fit leaves all as it was
  pub midi_full : n ≡ 0 → (r : Refusal) (midi' : List ℕ)
      → Sends cable (packer_at packers cable) bs s.lengths.midi midi midi' (record { refusal = number r; packer = packer_at packers cable; held = s.lengths.midi })
      → MidiPromise s spans packers cable bs setups midi (record { refusal = number r; state = s; packers = packers }) midi'
  midi_full z r midi' d =
      subst (λ (ps : List Packer). MidiPromise s spans packers cable bs setups midi (record { refusal = number r; state = s; packers = ps }) midi')
      (set-get_or packers cable fresh)
      (midi_goes z _ midi' d)

bounded_queues : (s : State) (packers : List Packer) (setups : List ℕ) → in_bounds s packers setups ≡ true → queues_ok s.lengths ≡ true
unfolding in_bounds
bounded_queues s packers setups e =
    let rest = (and_true (asked_ok s setups) (held_ok s packers && (counted_ok s && audio_ok s.audio)) e).1 in
    let held = (and_true (held_ok s packers) (counted_ok s && audio_ok s.audio) rest).0 in
    (and_true (queues_ok s.lengths) (packers_ok packers) held).0

queues_serial : (l : Lengths) → queues_ok l ≡ true → l.serial ≤ 4096
unfolding queues_ok
queues_serial l e =
    let fours = (and_true (leb l.midi 4096) _ e).1 in
    let rest = (and_true (eqb (l.midi % 4) 0) (leb l.serial 4096 && leb l.device 64) fours).1 in
    leb-true l.serial 4096 (and_true (leb l.serial 4096) (leb l.device 64) rest).0

module _ (s : State) (spans : ℕ) (packers : List Packer) (bs setups serial : List ℕ) {n : ℕ} (e : n ≡ unless 3 (leb spans 16) (unless 5 (in_bounds s packers setups) 0)) where
  -- a record in bounds holds at most 4,096 serial bytes
  pub serial_few : n ≡ 0 → s.lengths.serial ≤ 4096
  serial_few z =
      let five = (met 3 (leb spans 16) (unless 5 (in_bounds s packers setups) 0) (omega arith) (sym e ∙ z)).1 in
      queues_serial s.lengths (bounded_queues s packers setups (met 5 (in_bounds s packers setups) 0 (omega arith) five).0)

  pub serial_stops : (n ≡ 0 → ⊥) → SerialPromise s spans packers bs setups serial (sent n s) serial
  unfolding serial_sent serial_number
  serial_stops m =
      record {
        answer = refl;
        done = λ k o.
            let h = host_of s (with_spans k spans) packers (own_serial (own_setups o setups) serial) in
            sym (stops (serial_number h bs) n (serial_queued h bs) h (stays s (with_spans k spans) packers (own_serial (own_setups o setups) serial) true _ e m) m);
      }

  pub serial_full : n ≡ 0 → 4096 < s.lengths.serial + length bs → SerialPromise s spans packers bs setups serial (sent 7 s) serial
  unfolding serial_sent serial_number
  serial_full z m =
      let full = lt-leb (s.lengths.serial + length bs) 4096 m in
      record {
        answer = refl;
        done = λ k o.
            let h = host_of s (with_spans k spans) packers (own_serial (own_setups o setups) serial) in
            let number = follows s (with_spans k spans) packers (own_serial (own_setups o setups) serial) true _ e z ∙ ap (λ t. unless 7 t 0) full in
            sym (stops (serial_number h bs) 7 (serial_queued h bs) h number (λ y. omega arith));
      }

  pub serial_goes : n ≡ 0 → s.lengths.serial + length bs ≤ 4096 → (serial' : List ℕ) → serial' ≡ sets serial s.lengths.serial bs
      → SerialPromise s spans packers bs setups serial (sent 0 (with_lengths s (with_serial s.lengths (s.lengths.serial + length bs)))) serial'
  unfolding serial_sent serial_number serial_queued
  serial_goes z m serial' d =
      let room = le-leb (s.lengths.serial + length bs) 4096 m in
      record {
        answer = refl;
        done = λ k o.
            let h = host_of s (with_spans k spans) packers (own_serial (own_setups o setups) serial) in
            let number = follows s (with_spans k spans) packers (own_serial (own_setups o setups) serial) true _ e z ∙ ap (λ t. unless 7 t 0) room in
            rw d (sym (goes (serial_number h bs) (serial_queued h bs) h number));
      }

-- ---- frames given

-- lengths of frame and ring, a place in the ring, and room
pub record Gives (s : State) (frame sending : List ℕ) : Type 0 where
  pub whole : length frame ≡ 12
  pub least : 84 ≤ length sending
  pub most : length sending ≤ 576000
  pub inside : s.audio.sending.start < length sending / 12
  pub room : s.audio.sending.len < length sending / 12

sending_lengths : (n : ℕ) → sending_length n ≡ true → (84 ≤ n) × (n ≤ 576000)
unfolding sending_length
sending_lengths n e =
    let a = and_true (leb 84 n) _ e in
    (leb-true 84 n a.0, leb-true n 576000 (and_true (leb n 576000) (eqb (n % 12) 0) a.1).0)

accepted_gives : (h : Host) (frame sending : List ℕ) → give_number h frame sending ≡ 0 → Gives (state_of h) frame sending
unfolding give_number
accepted_gives h frame sending e =
    let seven = unless 7 (ltb h.audio.sending.len (length sending / 12)) 0 in
    let five = unless 5 (bounded h && sending_ok (state_of h) (length sending)) seven in
    let two = met 2 (sending_length (length sending) && eqb (length frame) 12) (unless 3 (few_spans h) five) (omega arith) e in
    let three = met 3 (few_spans h) five (omega arith) two.1 in
    let bounds = met 5 (bounded h && sending_ok (state_of h) (length sending)) seven (omega arith) three.1 in
    let right = and_true (sending_length (length sending)) (eqb (length frame) 12) two.0 in
    let long = sending_lengths (length sending) right.0 in
    record {
      whole = eqb-true (length frame) 12 right.1;
      least = long.0;
      most = long.1;
      inside = (in_ring h.audio.sending (length sending / 12) (and_true (bounded h) _ bounds.0).1).0;
      room = ltb-true _ _ (met 7 (ltb h.audio.sending.len (length sending / 12)) 0 (omega arith) bounds.1).0;
    }

module _ (s : State) (spans : ℕ) (packers : List Packer) (setups frame sending : List ℕ) (two : (sending_length (length sending) && eqb (length frame) 12) ≡ true)
    {n : ℕ} (e : n ≡ unless 3 (leb spans 16) (unless 5 (in_bounds s packers setups) 0)) where
  -- number 3 or 5 of the record is the call's
  pub give_asks : (n ≡ 0 → ⊥) → n ≡ give_number (bare s spans packers setups) frame sending
  unfolding give_number
  give_asks m =
      rw (two, same_bounds s (with_spans no_settings spans) packers (own setups [] [] [])) (record_stops (leb spans 16) (in_bounds s packers setups) _ _ n e m)

  -- where neither is met, the ring decides
  pub give_rest : n ≡ 0 → give_number (bare s spans packers setups) frame sending ≡ unless 5 (sending_ok s (length sending)) (unless 7 (ltb s.audio.sending.len (length sending / 12)) 0)
  unfolding give_number
  give_rest z =
      rw (two, same_bounds s (with_spans no_settings spans) packers (own setups [] [] [])) (record_stands (leb spans 16) (in_bounds s packers setups) _ _ (sym e ∙ z))

-- the place of the next frame
abbrev pub newest : State → ℕ → ℕ
newest s n = (s.audio.sending.start + s.audio.sending.len) % (n / 12)

module _ (s : State) (spans : ℕ) (packers : List Packer) (setups frame sending : List ℕ) {n : ℕ} (e : n ≡ give_number (bare s spans packers setups) frame sending) where
  pub gives : n ≡ 0 → Gives s frame sending
  gives z =
      let g = accepted_gives (bare s spans packers setups) frame sending (sym e ∙ z) in
      record { whole = g.whole; least = g.least; most = g.most; inside = g.inside; room = g.room }

  pub newest_inside : n ≡ 0 → newest s (length sending) < length sending / 12
  newest_inside z =
      let g = gives z in
      mod-lt (s.audio.sending.start + s.audio.sending.len) {m = length sending / 12} (omega (arith, g.least))

  -- the number reads no settings but their count, and no arrays that are not lent
  given_number : (k : Settings) (o : Own) → give_number (host_of s (with_spans k spans) packers (own_setups o setups)) frame sending ≡ n
  unfolding give_number
  given_number k o = sym e

  pub give_stops : (n ≡ 0 → ⊥) → GivePromise s spans packers frame setups sending (sent n s) sending
  unfolding given given_ring
  give_stops m =
      record {
        answer = refl;
        done = λ k o.
            let h = host_of s (with_spans k spans) packers (own_setups o setups) in
            sym (stops (give_number h frame sending) n (frame_given h) h (given_number k o) m);
        ring = λ k o. simp (given_number k o, ne_eqb n 0 m);
      }

  pub give_goes : n ≡ 0 → (sending' : List ℕ) → sending' ≡ sets sending (newest s (length sending) * 12) frame
      → GivePromise s spans packers frame setups sending (sent 0 (with_audio s (with_sending s.audio (record { start = s.audio.sending.start; len = s.audio.sending.len + 1 })))) sending'
  unfolding given given_ring frame_given frame_put
  give_goes z sending' d =
      record {
        answer = refl;
        done = λ k o.
            let h = host_of s (with_spans k spans) packers (own_setups o setups) in
            sym (goes (give_number h frame sending) (frame_given h) h (given_number k o ∙ z));
        ring = λ k o. let number = given_number k o ∙ z in simp (number, d);
      }

-- ---- frames taken

pub record Takes (s : State) (received : List ℕ) : Type 0 where
  pub long : length received ≡ 576000
  pub inside : s.audio.received.start < 48000
  pub few : s.audio.received.len ≤ 48000

accepted_takes : (h : Host) (received : List ℕ) → take_number h received ≡ 0 → Takes (state_of h) received
unfolding take_number
accepted_takes h received e =
    let five = unless 5 (bounded h && received_ok (state_of h)) 0 in
    let two = met 2 (eqb (length received) 576000) (unless 3 (few_spans h) five) (omega arith) e in
    let three = met 3 (few_spans h) five (omega arith) two.1 in
    let bounds = met 5 (bounded h && received_ok (state_of h)) 0 (omega arith) three.1 in
    let ring = in_ring h.audio.received 48000 (and_true (bounded h) _ bounds.0).1 in
    record { long = eqb-true (length received) 576000 two.0; inside = ring.0; few = ring.1 }

-- where numbers 2, 3 and 5 of the record are not met, the ring decides
pub take_rest : (s : State) (spans : ℕ) (packers : List Packer) (setups received : List ℕ) → eqb (length received) 576000 ≡ true
    → 0 ≡ unless 3 (leb spans 16) (unless 5 (in_bounds s packers setups) 0) → take_number (bare s spans packers setups) received ≡ unless 5 (received_ok s) 0
unfolding take_number
take_rest s spans packers setups received two e =
    rw (two, same_bounds s (with_spans no_settings spans) packers (own setups [] [] [])) (record_stands (leb spans 16) (in_bounds s packers setups) _ _ (sym e))

module _ (s : State) (spans : ℕ) (packers : List Packer) (setups received : List ℕ) {n : ℕ} (e : n ≡ take_number (bare s spans packers setups) received) where
  pub takes : n ≡ 0 → Takes s received
  takes z =
      let t = accepted_takes (bare s spans packers setups) received (sym e ∙ z) in
      record { long = t.long; inside = t.inside; few = t.few }

  taken_number : (k : Settings) (o : Own) → take_number (host_of s (with_spans k spans) packers (own_setups o setups)) received ≡ n
  unfolding take_number
  taken_number k o = sym e

  pub take_stops : (n ≡ 0 → ⊥) → TakePromise s spans packers setups received (record { refusal = n; empty = false; frame = replicate 12 0; next = s })
  unfolding taken_frame holds_frame
  take_stops m =
      record { answer = refl; done = λ k o. simp (taken_number k o, ne_eqb n 0 m) }

  pub take_empty : n ≡ 0 → s.audio.received.len ≡ 0
      → TakePromise s spans packers setups received (record { refusal = 0; empty = true; frame = replicate 12 0; next = s })
  unfolding taken_frame holds_frame
  take_empty z l =
      record {
        answer = refl;
        done = λ k o.
            let number = taken_number k o ∙ z in
            simp (number, eq-eqb s.audio.received.len 0 l);
      }

  pub take_goes : n ≡ 0 → (s.audio.received.len ≡ 0 → ⊥) → (frame : List ℕ) → frame ≡ take 12 (drop (s.audio.received.start * 12) received)
      → TakePromise s spans packers setups received
      (record { refusal = 0; empty = false; frame = frame; next = with_audio s (with_received s.audio (taken_from 48000 1 s.audio.received)) })
  unfolding taken_frame holds_frame oldest frame_taken
  take_goes z m frame d =
      record {
        answer = refl;
        done = λ k o.
            let number = taken_number k o ∙ z in
            rw d (simp (number, ne_eqb s.audio.received.len 0 m));
      }

-- ---- device access

-- an accepted access is one that the register page accepts
accepted_access : (len spans off size : ℕ) (ok : Bool) → unless 1 (eqb len 4096) (unless 3 (leb spans 16) (unless 4 (fits off size) (unless 5 ok 0))) ≡ 0 → refusal len off size ≡ 0
unfolding refusal
accepted_access len spans off size ok e =
    let five = unless 5 ok 0 in
    let one = met 1 (eqb len 4096) (unless 3 (leb spans 16) (unless 4 (fits off size) five)) (omega arith) e in
    let three = met 3 (leb spans 16) (unless 4 (fits off size) five) (omega arith) one.1 in
    simp (one.0, (met 4 (fits off size) five (omega arith) three.1).0)

module _ (s : State) (spans : ℕ) (packers : List Packer) (setups page : List ℕ) (off size : ℕ) {n : ℕ} (e : n ≡ unless 1 (eqb (length page) 4096) (unless 3 (leb spans 16) (unless 4 (fits off size) (unless 5 (in_bounds s packers setups) 0)))) where
  pub accepts : n ≡ 0 → refusal (length page) off size ≡ 0
  accepts z = accepted_access (length page) spans off size (in_bounds s packers setups) (sym e ∙ z)

  accessed_number : (k : Settings) (o : Own) → access_number (host_of s (with_spans k spans) packers (own_setups o setups)) (length page) off size ≡ n
  unfolding access_number
  accessed_number k o = rw (same_bounds s (with_spans k spans) packers (own_setups o setups)) (sym e)

  pub read_stops : (n ≡ 0 → ⊥) → ReadPromise s spans packers setups page off size (record { refusal = n; value = 0 })
  unfolding device_read
  read_stops m = record { done = λ k o. simp (accessed_number k o, ne_eqb n 0 m) }

  pub read_goes : n ≡ 0 → (v : ℕ) → v ≡ read_sized page off size → ReadPromise s spans packers setups page off size (record { refusal = 0; value = v })
  unfolding device_read
  read_goes z v d =
      record {
        done = λ k o.
            let number = accessed_number k o ∙ z in
            rw d (simp number);
      }

  module _ (v : ℕ) where
    pub write_stops : (n ≡ 0 → ⊥) → WritePromise s spans packers setups page off size v (sent n s) page
    unfolding device_written written_page
    write_stops m =
        record {
          answer = refl;
          done = λ k o. simp (accessed_number k o, ne_eqb n 0 m);
          written = λ k o. simp (accessed_number k o, ne_eqb n 0 m);
        }

    pub write_goes : n ≡ 0 → (w : Written) (page' : List ℕ)
        → (w ≡ writing (registers page s.port.line) off size v) × (page' ≡ written (registers page s.port.line) off size v)
        → WritePromise s spans packers setups page off size v (sent 0 (with_port s (with_line s.port w.line))) page'
    unfolding device_written written_page with_flag writing written
    write_goes z w page' d =
        let right = accepts z in
        record {
          answer = refl;
          done = λ k o.
              let number = accessed_number k o ∙ z in
              rw d.0 (simp (right, number));
          written = λ k o.
              let number = accessed_number k o ∙ z in
              rw d.1 (simp (right, number));
        }

number_read : (r : Result ℕ Refusal) → number_of r ≡ (value_of r).refusal
number_read (Ok v) = refl
number_read (Err r) = refl

-- a read, by what it answers
pub read_promise : (s : State) (spans : ℕ) (packers : List Packer) (setups page : List ℕ) (off size : ℕ) (r : Result ℕ Refusal)
    → number_of r ≡ unless 1 (eqb (length page) 4096) (unless 3 (leb spans 16) (unless 4 (fits off size) (unless 5 (in_bounds s packers setups) 0)))
    → IfOk r (λ v. v ≡ read_sized page off size) → ReadPromise s spans packers setups page off size (value_of r)
read_promise s spans packers setups page off size (Ok v) e d = read_goes s spans packers setups page off size e refl v d
read_promise s spans packers setups page off size (Err r) e d = read_stops s spans packers setups page off size e (refused r)

-- and its number, by the promise
pub read_number : (s : State) (spans : ℕ) (packers : List Packer) (setups page : List ℕ) (off size : ℕ) (r : Result ℕ Refusal)
    → ReadPromise s spans packers setups page off size (value_of r)
    → number_of r ≡ unless 1 (eqb (length page) 4096) (unless 3 (leb spans 16) (unless 4 (fits off size) (unless 5 (in_bounds s packers setups) 0)))
unfolding device_read access_number
read_number s spans packers setups page off size r d =
    let o = own setups [] [] [] in
    rw (same_bounds s (with_spans no_settings spans) packers o) at (number_read r ∙ ap (λ (x : Read). x.refusal) (d.done no_settings o))
