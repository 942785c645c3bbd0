-- What every list of calls from a new host meets: its record stays in bounds, every call gets the number that is due, and so it is refused nothing that
-- document 01 lets pass.
use Prim.Native.Nat.{ℕ, zero, suc, ◌+◌, ◌*◌, ◌/◌, ◌^◌, ◌≤◌, ◌<◌}
use mathlib.Core.Path.{◌≡◌, refl, ap, sym, subst, ◌∙◌}
use mathlib.Core.Bool.{Bool, true, false, ◌&&◌, ◌||◌}
use mathlib.Core.List.{List, [], ◌∷◌}
use native.Mathlib.Numerals.{add-one}
use native.Mathlib.Omega.{arith}
use borrow.Author.Tests.{eqb-true, lt-ltb, ltb-true, leb-true, leb-false, le-ltb}
use lib.Dec.{eqb, leb, lit<}
use lib.ListN.{length, replicate, length-replicate}
use lib.Seq.{length-sets}
use Rattle.bits.specs.Pick.{pick}
use Rattle.bits.proofs.Tests.{and_first, and_second}
use Rattle.bus.specs.Memory.{memory}
use Rattle.bus.specs.Sized.{is_power, is_sized}
use Rattle.usbdev.specs.Access.{fits, write_sized}
use Rattle.midi.specs.Packer.{is_cable, packer_at, packets_of}
use Rattle.midi.proofs.Laws.{packets_size}
use Rattle.config.specs.Config.{Bytes}
use Rattle.record.specs.declared.Settings.{Settings}
use Rattle.record.specs.Sizes.{FRAMES, WORDS}
use Rattle.record.specs.Change.{left}
use Rattle.model.specs.Microframe as M
use Rattle.record.specs.Record.{counter_at}
use Rattle.bounds.specs.Bounds.{none_above, MOST, in_bounds, setups_ok, all_made, none_asks, enumerating_ok, request_ok, queues_ok, packer_ok, each_packer, counts_ok, counters_ok, credit_ok, timers_ok, timer_ok, audio_ok, ring_ok, areas_ok, received_ok, sending_ok}
use Rattle.kept.proofs.Shape.{Shape, shape_kept}
use Rattle.kept.proofs.Rings.{sending_kept}
use Rattle.kept.proofs.Setups.{Entry}
use Rattle.kept.proofs.Whole.{Bounded, bounds_kept, lasts, areas_fit}
use Rattle.usbhost.specs.declared.Host.{Host}
use Rattle.usbhost.specs.Answers.{Created, Framed, Taken}
use Rattle.usbhost.specs.Host.{state_of, settled, no_settings, new_host, created}
use Rattle.usbhost.specs.Calls as C
use Rattle.usbhost.specs.Calls.{unless, few_spans, bounded, sending_length, midi_number, midi_queued, midi_sent, serial_number, serial_queued, serial_sent, give_number, frame_given, given, take_number, holds_frame, frame_taken, taken_frame, access_number, registers_of, with_flag, device_written}
use Rattle.usbhost.specs.Frame.{world_of, host_in, lengths_ok, area_lengths, bounds_ok, frame_number, framed, frame_answer}
use Rattle.record.specs.World.{Lent}
use Rattle.usbhost.proofs.Laws.{same_bounds}
use Rattle.usbhost.proofs.Frame.{Accepted, accepted_tests, frame_refused}
use Rattle.usbhost.proofs.Kept.{Kept, midi_kept, serial_kept, give_kept, take_kept, write_kept, midi_refused, serial_refused, give_refused, take_refused, write_refused, new_bounded, new_received, new_sending, new_few}
use Rattle.history.specs.Calls.{Call, microframe, midi_send, serial_send, frame_give, frame_take, device_read, device_write, step, after}
use Rattle.history.specs.Accepts.{number_of, input_number, state_number, due_number, fine, BytesLent, BytesCall, RightRing, RightAreas, RightInput, RingCall, AllCalls, frames_of, frames_in, WithinBounds, AtEach, Due, Accepts}
use Rattle.history.proofs.History.{by_test}
use Rattle.history.proofs.Input.{areas_right, input_right, right_input}

-- ---- a refused call changes nothing

pub refused_stays : (h : Host) (c : Call) → (number_of h c ≡ 0 → ⊥) → step h c ≡ h
unfolding step number_of frame_answer midi_sent serial_sent given taken_frame C.device_read device_written
refused_stays h (microframe t l) m = ap (λ (x : Framed). x.host) (frame_refused t h l m)
refused_stays h (midi_send cable bs) m = midi_refused h cable bs m
refused_stays h (serial_send bs) m = serial_refused h bs m
refused_stays h (frame_give f sending) m = give_refused h f sending m
refused_stays h (frame_take received) m = ap (λ (x : Taken Host). x.next) (take_refused h received m)
refused_stays h (device_read page off size) m = refl
refused_stays h (device_write page off size v) m = write_refused h page off size v m

-- ---- what every call keeps, whatever its lengths: the bounds of number 5 that no area bounds, and what those of the areas come from

record Sound (h : Host) : Type 0 where
  few : few_spans h ≡ true
  bounds : bounded h ≡ true
  received : received_ok (state_of h) ≡ true
  setups_length : length h.setups ≡ 2056
  setups_bytes : Bytes h.setups
  midi_length : length h.midi ≡ 4096
  serial_length : length h.serial ≡ 4096
  config : h.lengths.config ≤ 65535
  second : h.control.second < 2 ^ 32

-- the configuration and the reply lie in any areas of the right lengths
sound_areas : (h : Host) → Sound h → (reply config : ℕ) → 65535 ≤ reply → 65535 ≤ config → areas_ok (state_of h) reply config ≡ true
sound_areas h s reply config long wide =
    areas_fit (state_of h) h.packers h.setups reply config s.bounds s.second s.config long wide

-- ---- calls but the microframe

-- what they leave alone of it
record Rests (h g : Host) : Type 0 where
  setups : g.setups ≡ h.setups
  midi : length g.midi ≡ length h.midi
  serial : length g.serial ≡ length h.serial
  config : g.lengths.config ≡ h.lengths.config
  second : g.control.second ≡ h.control.second
  uf : g.port.uf ≡ h.port.uf

same : (h : Host) → Rests h h
same h = record { setups = refl; midi = refl; serial = refl; config = refl; second = refl; uf = refl }

either : (t : Bool) (h next : Host) → Rests h next → Rests h (pick t next h)
either true h next r = r
either false h next r = same h

midi_rests : (h : Host) (cable : ℕ) (bs : List ℕ) → Rests h (midi_sent h cable bs).next
unfolding midi_sent midi_queued
midi_rests h cable bs =
    either (eqb (midi_number h cable bs) 0) h (midi_queued h cable bs)
    (record { setups = refl; midi = length-sets h.midi h.lengths.midi (packets_of cable (packer_at h.packers cable) bs); serial = refl; config = refl; second = refl; uf = refl })

serial_rests : (h : Host) (bs : List ℕ) → Rests h (serial_sent h bs).next
unfolding serial_sent serial_queued
serial_rests h bs =
    either (eqb (serial_number h bs) 0) h (serial_queued h bs)
    (record { setups = refl; midi = refl; serial = length-sets h.serial h.lengths.serial bs; config = refl; second = refl; uf = refl })

give_rests : (h : Host) (frame sending : List ℕ) → Rests h (given h frame sending).next
unfolding given frame_given
give_rests h frame sending =
    either (eqb (give_number h frame sending) 0) h (frame_given h)
    (record { setups = refl; midi = refl; serial = refl; config = refl; second = refl; uf = refl })

take_rests : (h : Host) (received : List ℕ) → Rests h (taken_frame h received).next
unfolding taken_frame frame_taken
take_rests h received =
    either (holds_frame h received) h (frame_taken h)
    (record { setups = refl; midi = refl; serial = refl; config = refl; second = refl; uf = refl })

write_rests : (h : Host) (page : List ℕ) (off size v : ℕ) → Rests h (device_written h page off size v).next
unfolding device_written with_flag
write_rests h page off size v =
    either (eqb (access_number h (length page) off size) 0) h (with_flag h (write_sized (registers_of h page) off size v).line)
    (record { setups = refl; midi = refl; serial = refl; config = refl; second = refl; uf = refl })

-- the record after a call that counts at most n microframes
record After (n : ℕ) (h g : Host) : Type 0 where
  sound : Sound g
  uf : g.port.uf ≤ h.port.uf + n

sound_kept : (k : ℕ) (h g : Host) → Kept k h g → Rests h g → Sound h → After 0 h g
sound_kept k h g p r s =
    record {
      sound =
          record {
            few = ap (λ (c : Settings). leb c.spans 16) p.settings ∙ s.few;
            bounds = p.bounds s.bounds;
            received = p.received s.received;
            setups_length = ap length r.setups ∙ s.setups_length;
            setups_bytes = subst Bytes (sym r.setups) s.setups_bytes;
            midi_length = r.midi ∙ s.midi_length;
            serial_length = r.serial ∙ s.serial_length;
            config = omega (arith, r.config, s.config);
            second = omega (arith, r.second, s.second);
          };
      uf = omega (arith, r.uf);
    }

-- ---- the microframe

-- an accepted one: its lengths are right and its bounds met by its own tests
module _ (h : Host) (l : Lent) (s : Sound h) (b : BytesLent l) (a : Accepted h l) where
  accepted_bounded : Bounded (world_of h l)
  unfolding bounds_ok
  accepted_bounded =
      let areas = and_second (bounded h) _ a.bounds in
      let rings = and_second (areas_ok (state_of h) (length l.reply) (length l.config)) _ areas in
      record {
        record_bounds = s.bounds;
        areas = and_first (areas_ok (state_of h) (length l.reply) (length l.config)) _ areas;
        received = s.received;
        sending = and_second (received_ok (state_of h)) _ rings;
        second = s.second;
      }

  accepted_entry : Entry (world_of h l)
  accepted_entry =
      let right = areas_right l a.sized a.lengths in
      record {
        uf = ltb-true h.port.uf MOST a.before;
        setups_length = s.setups_length;
        reply_length = right.reply;
        config_length = right.config;
        memory_bytes = record { dynamic = b.dynamic; sram = b.sram; page = b.page };
        setups_bytes = s.setups_bytes;
        reply_bytes = b.reply;
      }

  sound_left : (t : ℕ) → After 1 h (host_in (left (M.microframe t) (world_of h l)))
  sound_left t =
      let w = world_of h l in
      let v = left (M.microframe t) w in
      let shape = shape_kept t w in
      let next = bounds_kept t w accepted_entry accepted_bounded in
      let z = lasts t w accepted_entry accepted_bounded (omega (arith, s.midi_length)) (omega (arith, s.serial_length)) in
      record {
        sound =
            record {
              few = ap (λ (x : Shape). leb x.settings.spans 16) shape ∙ s.few;
              bounds = same_bounds v.state v.settings v.packers v.own ∙ next.record_bounds;
              received = next.received;
              setups_length = z.arrays.setups ∙ s.setups_length;
              setups_bytes = z.setups_bytes;
              midi_length = z.arrays.midi ∙ s.midi_length;
              serial_length = z.arrays.serial ∙ s.serial_length;
              config = z.config s.config;
              second = next.second;
            };
        uf = omega (arith, z.number);
      }

-- and a refused one changes nothing
sound_frame : (h : Host) (l : Lent) (t : ℕ) → Sound h → BytesLent l → After 1 h (step h (microframe t l))
unfolding step framed
sound_frame h l t s b =
    by_test (λ x. After 1 h (host_in (pick x (left (M.microframe t) (world_of h l)) (world_of h l)))) (eqb (frame_number h l) 0)
    (λ ok. sound_left h l s b (accepted_tests h l (eqb-true (frame_number h l) 0 ok)) t)
    (λ no. record { sound = s; uf = omega arith })

-- ---- any call

sound_step : (h : Host) → Sound h → (c : Call) → BytesCall c → After (frames_of c) h (step h c)
unfolding step BytesCall frames_of C.device_read
sound_step h s (microframe t l) b = sound_frame h l t s b
sound_step h s (midi_send cable bs) b = sound_kept 0 h _ (midi_kept 0 h cable bs) (midi_rests h cable bs) s
sound_step h s (serial_send bs) b = sound_kept 0 h _ (serial_kept 0 h bs) (serial_rests h bs) s
sound_step h s (frame_give f sending) b = sound_kept (length sending) h _ (give_kept h f sending) (give_rests h f sending) s
sound_step h s (frame_take received) b = sound_kept 0 h _ (take_kept 0 h received) (take_rests h received) s
sound_step h s (device_read page off size) b = record { sound = s; uf = omega arith }
sound_step h s (device_write page off size v) b = sound_kept 0 h _ (write_kept 0 h page off size v) (write_rests h page off size v) s

-- ---- the sending ring, of k words in every call of right input

module _ (k : ℕ) (h : Host) (s : sending_ok (state_of h) k ≡ true) where
  ring_frame : (t : ℕ) (l : Lent) → RingCall k (microframe t l) → sending_ok (state_of (step h (microframe t l))) k ≡ true
  unfolding step framed RingCall
  ring_frame t l r =
      by_test (λ x. sending_ok (state_of (host_in (pick x (left (M.microframe t) (world_of h l)) (world_of h l)))) k ≡ true) (eqb (frame_number h l) 0)
      (λ ok.
      let a = accepted_tests h l (eqb-true (frame_number h l) 0 ok) in
      let e = r (areas_right l a.sized a.lengths) in
      sym (ap (λ (n : ℕ). sending_ok (left (M.microframe t) (world_of h l)).state n) e)
      ∙ sending_kept t (world_of h l) (ap (λ (n : ℕ). sending_ok (state_of h) n) e ∙ s))
      (λ no. s)

  ring_give : (f sending : List ℕ) → RingCall k (frame_give f sending) → sending_ok (state_of (given h f sending).next) k ≡ true
  unfolding given give_number RingCall input_number
  ring_give f sending r = by_lengths (sending_length (length sending) && eqb (length f) WORDS) refl
    where
      by_lengths : (b : Bool) → (sending_length (length sending) && eqb (length f) WORDS) ≡ b → sending_ok (state_of (given h f sending).next) k ≡ true
      by_lengths true e =
          let m = r (input_right (frame_give f sending) (simp e)) in
          subst (λ (n : ℕ). sending_ok (state_of (given h f sending).next) n ≡ true) m
          ((give_kept h f sending).sending (ap (λ (n : ℕ). sending_ok (state_of h) n) m ∙ s))
      by_lengths false e = rw e s

  ring_step : (c : Call) → RingCall k c → sending_ok (state_of (step h c)) k ≡ true
  unfolding step C.device_read
  ring_step (microframe t l) r = ring_frame t l r
  ring_step (midi_send cable bs) r = (midi_kept k h cable bs).sending s
  ring_step (serial_send bs) r = (serial_kept k h bs).sending s
  ring_step (frame_give f sending) r = ring_give f sending r
  ring_step (frame_take received) r = (take_kept k h received).sending s
  ring_step (device_read page off size) r = s
  ring_step (device_write page off size v) r = (write_kept k h page off size v).sending s

-- ---- the number that is due

-- the lengths decide first, and behind right ones what follows
lengths_first : (a b : Bool) (x y : ℕ) → (a ≡ true → b ≡ true → x ≡ y)
    → unless 1 a (unless 2 b x) ≡ pick (eqb (unless 1 a (unless 2 b 0)) 0) y (unless 1 a (unless 2 b 0))
lengths_first true true x y f = f refl refl
lengths_first true false x y f = refl
lengths_first false b x y f = refl

-- so does a cable
eight_first : (b : Bool) (x : ℕ) → unless 8 b x ≡ pick (eqb (unless 8 b 0) 0) x (unless 8 b 0)
eight_first true x = refl
eight_first false x = refl

-- the cables are those up to 15
cable_fifteen : (cable : ℕ) → is_cable cable ≡ leb cable 15
cable_fifteen cable =
    by_test (λ t. is_cable cable ≡ t) (leb cable 15) (λ e. lt-ltb cable 16 (omega (arith, leb-true cable 15 e))) (λ e. le-ltb cable 16 (omega (arith, leb-false cable 15 e)))

-- an access asks nothing of the state
input_alone : (a b : Bool) → unless 1 a (unless 4 b 0) ≡ pick (eqb (unless 1 a (unless 4 b 0)) 0) 0 (unless 1 a (unless 4 b 0))
input_alone true true = refl
input_alone true false = refl
input_alone false b = refl

module _ (k : ℕ) (h : Host) (s : Sound h) (ring : sending_ok (state_of h) k ≡ true) where
  frame_due : (t : ℕ) (l : Lent) → RingCall k (microframe t l) → number_of h (microframe t l) ≡ due_number h (microframe t l)
  unfolding number_of due_number input_number state_number RingCall frame_number bounds_ok
  frame_due t l r =
      lengths_first (is_sized l.memory) (area_lengths l) _ _ (λ e f.
      let right = areas_right l e f in
      let areas = sound_areas h s (length l.reply) (length l.config) right.reply right.config in
      simp (s.few, s.bounds, areas, s.received, r right, ring))

  access_due : (len off size : ℕ) → access_number h len off size ≡ pick (eqb (unless 1 (eqb len 4096) (unless 4 (fits off size) 0)) 0) 0 (unless 1 (eqb len 4096) (unless 4 (fits off size) 0))
  unfolding access_number
  access_due len off size =
      let own : access_number h len off size ≡ unless 1 (eqb len 4096) (unless 4 (fits off size) 0) = simp (s.few, s.bounds) in
      own ∙ input_alone (eqb len 4096) (fits off size)

  number_due : (c : Call) → RingCall k c → number_of h c ≡ due_number h c
  unfolding number_of due_number input_number state_number RingCall midi_number serial_number give_number take_number
  number_due (microframe t l) r = frame_due t l r
  number_due (midi_send cable bs) r =
      let sender = packer_at h.packers cable in
      let room = leb (h.lengths.midi + length (packets_of cable sender bs)) 4096 in
      let own : midi_number h cable bs ≡ unless 8 (leb cable 15) (unless 7 room 0) = simp (s.few, s.bounds, packets_size cable sender bs, cable_fifteen cable) in
      own ∙ eight_first (leb cable 15) (unless 7 room 0)
  number_due (serial_send bs) r = simp (s.few, s.bounds)
  number_due (frame_give f sending) r =
      lengths_first true (sending_length (length sending) && eqb (length f) WORDS) _ _ (λ e g. simp (s.few, s.bounds, r (input_right (frame_give f sending) (simp g)), ring, add-one))
  number_due (frame_take received) r = lengths_first true (eqb (length received) (FRAMES * WORDS)) _ _ (λ e g. simp (s.few, s.bounds, s.received))
  number_due (device_read page off size) r = access_due (length page) off size
  number_due (device_write page off size v) r = access_due (length page) off size

-- ---- every list of calls

after_sound : (h : Host) (cs : List Call) → Sound h → AllCalls BytesCall cs → Sound (after h cs)
unfolding after AllCalls
after_sound h [] s b = s
after_sound h (c ∷ cs) s b = after_sound (step h c) cs (sound_step h s c b.0).sound b.1

-- what holds of a call on a sound record with such a ring, with at most m microframes in all, holds of each call of a list
module _ (k m : ℕ) (P : Host → Call → Type 0)
    (holds : (h : Host) (c : Call) → Sound h → sending_ok (state_of h) k ≡ true → RingCall k c → h.port.uf + frames_of c ≤ m → P h c) where
  at_each : (h : Host) (cs : List Call) → Sound h → sending_ok (state_of h) k ≡ true → AllCalls BytesCall cs → AllCalls (RingCall k) cs
      → h.port.uf + frames_in cs ≤ m → AtEach P h cs
  unfolding AtEach AllCalls frames_in
  at_each h [] s o b r n = tt
  at_each h (c ∷ cs) s o b r n =
      let next = sound_step h s c b.0 in
      (holds h c s o r.0 (omega arith), at_each (step h c) cs next.sound (ring_step k h o c r.0) b.1 r.1 (omega (arith, next.uf)))

-- ---- a new host

zero_bytes : (n : ℕ) → Bytes (replicate n 0)
zero_bytes zero i = lit< tt
zero_bytes (suc n) zero = lit< tt
zero_bytes (suc n) (suc i) = zero_bytes n i

sound_new : (c : Settings) → few_spans (new_host c) ≡ true → Sound (new_host c)
unfolding new_host
sound_new c few =
    record {
      few = few;
      bounds = new_bounded c;
      received = new_received c;
      setups_length = length-replicate {A = ℕ} 2056 0;
      setups_bytes = zero_bytes 2056;
      midi_length = length-replicate {A = ℕ} 4096 0;
      serial_length = length-replicate {A = ℕ} 4096 0;
      config = omega arith;
      second = omega arith;
    }

-- whatever `new` answers, refused or not, its host is a new one
of_created : (P : Host → Type 0) (c : Settings) → ((s : Settings) → P (new_host s)) → P (created c).host
unfolding created
of_created P c f = by_spans (leb c.spans 16)
  where
    by_spans : (b : Bool) → P (pick {A = Created} b (record { refusal = 0; host = new_host (settled c) }) (record { refusal = 3; host = new_host no_settings })).host
    by_spans true = f (settled c)
    by_spans false = f no_settings

sound_created : (c : Settings) → Sound (created c).host
sound_created c = of_created (λ h. few_spans h ≡ true → Sound h) c sound_new (new_few c)

ring_created : (c : Settings) (k : ℕ) → RightRing k → sending_ok (state_of (created c).host) k ≡ true
ring_created c k ring = of_created (λ h. sending_ok (state_of h) k ≡ true) c (λ x. new_sending x k (omega (arith, ring.least)))

-- from `new`
from_new : (c : Settings) (k m : ℕ) → RightRing k → (P : Host → Call → Type 0)
    → ((h : Host) (c : Call) → Sound h → sending_ok (state_of h) k ≡ true → RingCall k c → h.port.uf + frames_of c ≤ m → P h c)
    → (cs : List Call) → AllCalls BytesCall cs → AllCalls (RingCall k) cs → frames_in cs ≤ m → AtEach P (created c).host cs
from_new c k m ring P holds cs b r n =
    at_each k m P holds (created c).host cs (sound_created c) (ring_created c k ring) b r
    (of_created (λ h. h.port.uf + frames_in cs ≤ m) c (λ s. unfold new_host in omega arith))

-- ---- the number that is due of a call of right input is fine

seven_fine : (b : Bool) → (eqb (unless 7 b 0) 0 || eqb (unless 7 b 0) 7) ≡ true
seven_fine true = refl
seven_fine false = refl

state_fine : (h : Host) (c : Call) → h.port.uf + frames_of c ≤ MOST → fine c (state_number h c) ≡ true
unfolding fine state_number frames_of
state_fine h (microframe t l) n = simp (lt-ltb h.port.uf MOST (omega arith))
state_fine h (midi_send cable bs) n = seven_fine (leb (h.lengths.midi + length (packets_of cable (packer_at h.packers cable) bs)) 4096)
state_fine h (serial_send bs) n = seven_fine (leb (h.lengths.serial + length bs) 4096)
state_fine h (frame_give f sending) n = seven_fine (leb (h.audio.sending.len + 1) (length sending / 12))
state_fine h (frame_take received) n = refl
state_fine h (device_read page off size) n = refl
state_fine h (device_write page off size v) n = refl

due_fine : (h : Host) (c : Call) → h.port.uf + frames_of c ≤ MOST → RightInput c → fine c (due_number h c) ≡ true
unfolding due_number
due_fine h c n r = rw (right_input c r) (state_fine h c n)

-- ---- the claims

-- from `new`, with bytes in memory and reply areas and whatever else is lent, refused calls or not: the record meets every bound that no area bounds
pub record_bounded : (c : Settings) (cs : List Call) → AllCalls BytesCall cs → WithinBounds (after (created c).host cs)
record_bounded c cs b =
    let h = after (created c).host cs in
    let s = after_sound (created c).host cs (sound_created c) b in
    record { spans = s.few; bounds = s.bounds; received = s.received; areas = sound_areas h s }

-- and with one length of the sending ring in the calls of right input: every call gets the number that is due
pub numbers_due : (c : Settings) (k : ℕ) (cs : List Call) → RightRing k → AllCalls BytesCall cs → AllCalls (RingCall k) cs → Due (created c).host cs
numbers_due c k cs ring b r =
    from_new c k (frames_in cs) ring (λ h x. number_of h x ≡ due_number h x) (λ h x s o q n. number_due k h s o x q) cs b r (omega arith)

-- and with fewer than 2^40 microframes before each: of the calls of right input no microframe, no frame taken and no device access is refused, and sends
-- and frames given are refused with 7 alone
pub accepts : (c : Settings) (k : ℕ) (cs : List Call) → RightRing k → AllCalls BytesCall cs → AllCalls (RingCall k) cs → frames_in cs ≤ MOST
    → Accepts (created c).host cs
accepts c k cs ring b r n =
    from_new c k MOST ring (λ h x. RightInput x → fine x (number_of h x) ≡ true)
    (λ h x s o q m e. ap (fine x) (number_due k h s o x q) ∙ due_fine h x m e) cs b r n

-- one length of the ring is asked for with reason: with eight frames in a ring of eight, one of seven frames is refused with 5
pub other_ring : number_of (after (new_host no_settings) (replicate 8 (frame_give (replicate 12 0) (replicate 96 0)))) (frame_give (replicate 12 0) (replicate 84 0)) ≡ 5
unfolding number_of after step given give_number frame_given sending_length new_host in_bounds setups_ok all_made none_asks enumerating_ok request_ok queues_ok packer_ok each_packer counts_ok counters_ok none_above counter_at credit_ok timers_ok timer_ok audio_ok ring_ok
other_ring = refl

-- ---- such areas can be had: zeros, of any right lengths

unfoldable pub zeros : ℕ → ℕ → ℕ → ℕ → ℕ → ℕ → ℕ → ℕ → ℕ → Lent
zeros dynamic sram page reply config receive cables received sending =
    record {
      memory = memory (replicate dynamic 0) (replicate sram 0) (replicate page 0);
      reply = replicate reply 0;
      config = replicate config 0;
      receive = replicate receive 0;
      cables = replicate cables 0;
      received = replicate received 0;
      sending = replicate sending 0;
    }

zeros_right : (d m p a b c x e k : ℕ) → is_power d ≡ true → m ≡ 65536 → p ≡ 4096 → lengths_ok a b c x e k ≡ true → RightAreas (zeros d m p a b c x e k)
unfolding zeros is_sized
zeros_right d m p a b c x e k power static page areas =
    areas_right (zeros d m p a b c x e k) (simp (length-replicate {A = ℕ}, power, static, page)) (simp (length-replicate {A = ℕ}, areas))

pub zeros_bytes : (d m p a b c x e k : ℕ) → BytesLent (zeros d m p a b c x e k)
unfolding zeros
zeros_bytes d m p a b c x e k = record { dynamic = zero_bytes d; sram = zero_bytes m; page = zero_bytes p; reply = zero_bytes a }

-- the shortest
pub shortest_right : RightAreas (zeros 4096 65536 4096 65535 65535 196608 196608 576000 84)
unfolding is_power lengths_ok sending_length
shortest_right = zeros_right 4096 65536 4096 65535 65535 196608 196608 576000 84 refl refl refl refl
