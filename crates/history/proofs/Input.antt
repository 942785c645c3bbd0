-- The tests of numbers 1, 2 and 4 decide what document 01 asks of the input: a call gets none of them exactly where its input is right.
use Prim.Native.Nat.{ℕ, ◌+◌, ◌*◌, ◌%◌}
use mathlib.Core.Logic.{inl, inr, ⊎_elim}
use mathlib.Core.Path.{◌≡◌, refl}
use mathlib.Core.Bool.{true, ◌||◌}
use native.Mathlib.Omega.{arith}
use borrow.Author.Tests.{eq-eqb, eqb-true, le-leb, leb-true}
use lib.Dec.{eqb, leb}
use lib.ListN.{length}
use Rattle.bits.proofs.Tests.{and_first, and_second, and_both, or_case}
use Rattle.bus.specs.Sized.{is_sized}
use Rattle.bus.proofs.Sizes.{is_sized_lem, sized_is}
use Rattle.usbdev.specs.Access.{fits}
use Rattle.record.specs.Sizes.{FRAMES, WORDS}
use Rattle.usbhost.specs.Calls.{unless, sending_length}
use Rattle.usbhost.specs.Frame.{lengths_ok, area_lengths}
use Rattle.usbhost.proofs.Frame.{lengths_long}
use Rattle.record.specs.World.{Lent}
use Rattle.usbhost.proofs.Laws.{met}
use Rattle.history.specs.Calls.{Call, microframe, midi_send, serial_send, frame_give, frame_take, device_read, device_write}
use Rattle.history.specs.Accepts.{input_number, RightRing, RightAreas, RightAccess, RightInput}

ring_right : (n : ℕ) → sending_length n ≡ true → RightRing n
unfolding sending_length
ring_right n e =
    let rest = and_second (leb 84 n) _ e in
    record {
      least = leb-true 84 n (and_first (leb 84 n) _ e);
      most = leb-true n 576000 (and_first (leb n 576000) _ rest);
      frames = eqb-true (n % WORDS) 0 (and_second (leb n 576000) _ rest);
    }

right_ring : (n : ℕ) → RightRing n → sending_length n ≡ true
unfolding sending_length
right_ring n r = and_both _ _ (le-leb 84 n r.least) (and_both _ _ (le-leb n 576000 r.most) (eq-eqb (n % WORDS) 0 r.frames))

pub areas_right : (l : Lent) → is_sized l.memory ≡ true → area_lengths l ≡ true → RightAreas l
areas_right l w e =
    let k = lengths_long _ _ _ _ _ _ e in
    record {
      windows = is_sized_lem l.memory w;
      reply = k.reply_long;
      config = k.config_long;
      receive = k.receive_long;
      cables = k.cables_long;
      received = k.received_whole;
      sending = ring_right (length l.sending) k.sending_right;
    }

right_areas : (l : Lent) → RightAreas l → area_lengths l ≡ true
unfolding lengths_ok
right_areas l r =
    and_both _ _ (le-leb 65535 (length l.reply) r.reply)
    (and_both _ _ (le-leb 65535 (length l.config) r.config)
    (and_both _ _ (le-leb 196608 (length l.receive) r.receive)
    (and_both _ _ (le-leb 196608 (length l.cables) r.cables)
    (and_both _ _ (eq-eqb (length l.received) (FRAMES * WORDS) r.received) (right_ring (length l.sending) r.sending)))))

access_right : (off size : ℕ) → fits off size ≡ true → RightAccess off size
unfolding fits
access_right off size e =
    let width = and_first (eqb size 1 || (eqb size 2 || eqb size 4)) _ e in
    let rest = and_second (eqb size 1 || (eqb size 2 || eqb size 4)) _ e in
    record {
      width = or_case (eqb size 1) _ width (λ x. inl (eqb-true size 1 x)) (λ x. inr (or_case (eqb size 2) _ x (λ y. inl (eqb-true size 2 y)) (λ y. inr (eqb-true size 4 y))));
      aligned = eqb-true (off % size) 0 (and_first (eqb (off % size) 0) _ rest);
      inside = leb-true (off + size) 4096 (and_second (eqb (off % size) 0) _ rest);
    }

right_access : (off size : ℕ) → RightAccess off size → fits off size ≡ true
unfolding fits
right_access off size r =
    let width : (eqb size 1 || (eqb size 2 || eqb size 4)) ≡ true = ⊎_elim (λ (e : size ≡ 1). simp e) (λ x. ⊎_elim (λ (e : size ≡ 2). simp e) (λ (e : size ≡ 4). simp e) x) r.width in
    and_both _ _ width (and_both _ _ (eq-eqb (off % size) 0 r.aligned) (le-leb (off + size) 4096 r.inside))

-- ---- any call

page_right : (len off size : ℕ) → unless 1 (eqb len 4096) (unless 4 (fits off size) 0) ≡ 0 → (len ≡ 4096) × RightAccess off size
page_right len off size e =
    let one = met 1 (eqb len 4096) (unless 4 (fits off size) 0) (omega arith) e in
    (eqb-true len 4096 one.0, access_right off size (met 4 (fits off size) 0 (omega arith) one.1).0)

pub input_right : (c : Call) → input_number c ≡ 0 → RightInput c
unfolding input_number RightInput
input_right (microframe t l) e =
    let one = met 1 (is_sized l.memory) (unless 2 (area_lengths l) 0) (omega arith) e in
    areas_right l one.0 (met 2 (area_lengths l) 0 (omega arith) one.1).0
input_right (midi_send cable bs) e = leb-true cable 15 (met 8 (leb cable 15) 0 (omega arith) e).0
input_right (serial_send bs) e = tt
input_right (frame_give f sending) e =
    let both = (met 2 _ 0 (omega arith) e).0 in
    (ring_right (length sending) (and_first (sending_length (length sending)) _ both), eqb-true (length f) WORDS (and_second (sending_length (length sending)) _ both))
input_right (frame_take received) e = eqb-true (length received) (FRAMES * WORDS) (met 2 _ 0 (omega arith) e).0
input_right (device_read page off size) e = page_right (length page) off size e
input_right (device_write page off size v) e = page_right (length page) off size e

pub right_input : (c : Call) → RightInput c → input_number c ≡ 0
unfolding input_number RightInput
right_input (microframe t l) r = simp (sized_is l.memory r.windows, right_areas l r)
right_input (midi_send cable bs) r = simp (le-leb cable 15 r)
right_input (serial_send bs) r = refl
right_input (frame_give f sending) r = simp (right_ring (length sending) r.0, eq-eqb (length f) WORDS r.1)
right_input (frame_take received) r = simp (eq-eqb (length received) (FRAMES * WORDS) r)
right_input (device_read page off size) r = simp (r.0, right_access off size r.1)
right_input (device_write page off size v) r = simp (r.0, right_access off size r.1)
