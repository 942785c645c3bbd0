-- The two rings in the calls, as lists, oldest first: frames given, taken and sent; and what the block of an accepted microframe holds.
use Prim.Native.Nat.{ℕ, suc, ◌+◌, ◌-◌, ◌*◌, ◌/◌, ◌%◌, ◌^◌, ◌≤◌, ◌<◌}
use mathlib.Core.Path.{◌≡◌, refl, ap, ap₂, sym, subst, ◌∙◌}
use mathlib.Core.Logic.{◌↔◌}
use mathlib.Core.Bool.{Bool, true, false, not, ◌&&◌}
use mathlib.Core.List.{List, [], ◌∷◌, ◌++◌}
use native.Mathlib.Numerals.{add-one}
use native.Mathlib.Omega.{arith}
use borrow.Author.Tests.{ne_eqb, eqb-true, leb-true}
use lib.Dec.{eqb, leb, ltb}
use lib.ListN.{length, get_or, drop, replicate}
use lib.Seq.{sets, length-sets}
use Rattle.bits.specs.Pick.{pick, pick_both}
use Rattle.bits.proofs.Tests.{and_first, and_second}
use Rattle.usbdev.specs.Access.{write_sized}
use Rattle.record.specs.declared.Settings.{Settings}
use Rattle.record.specs.World.{Lent, World}
use Rattle.record.specs.Sizes.{FRAMES, WORDS}
use Rattle.record.specs.Change.{left, taken_from}
use Rattle.model.specs.Microframe as M
use Rattle.model.specs.Audio.{BLOCK_FRAMES, block_of}
use Rattle.model.specs.Reach.{at_output}
use Rattle.model.specs.Earned.{Out, out_of, sent_out}
use Rattle.model.specs.Claims.{sends_at}
use Rattle.model.specs.Ring.{frame_in, oldest_first, sending_frames}
use Rattle.model.specs.SentBlock.{BlockBytes}
use Rattle.model.proofs.OldestFirst.{ring_length, ring_nth, ring_whole, ring_drop, ring_appends}
use Rattle.model.proofs.OneBlock.{out_output, out_microframe}
use Rattle.model.proofs.SentBlock.{sent_block_lem}
use Rattle.model.proofs.SendingRing.{words_microframe, waiting_output, waiting_microframe}
use Rattle.bounds.specs.Bounds.{asked_ok, held_ok, counted_ok, audio_ok, areas_ok, in_bounds, received_ok, sending_ok}
use Rattle.bounds.proofs.Laws.{in_ring}
use Rattle.kept.proofs.Audio.{audio_output}
use Rattle.usbhost.specs.declared.Host.{Host}
use Rattle.usbhost.specs.Answers.{Created}
use Rattle.usbhost.specs.Host.{state_of, new_host, settled, no_settings, created}
use Rattle.usbhost.specs.Calls as C
use Rattle.usbhost.specs.Calls.{unless, few_spans, bounded, midi_number, midi_queued, midi_sent, serial_number, serial_queued, serial_sent, sending_length, give_number, frame_put, frame_given, given, given_ring, take_number, frame_taken, oldest, holds_frame, taken_frame, access_number, registers_of, with_flag, device_written}
use Rattle.usbhost.specs.Frame.{world_of, host_in, bounds_ok, frame_number, framed}
use Rattle.usbhost.proofs.Laws.{met}
use Rattle.usbhost.proofs.Kept.{give_room, give_refused, ring_refused, take_empty}
use Rattle.usbhost.proofs.Frame.{accepted_tests}
use Rattle.history.specs.Calls.{Call, microframe, midi_send, serial_send, frame_give, frame_take, device_read, device_write, step, after}
use Rattle.history.specs.Rings.{to_send, to_take}

-- ---- a frame given

-- what an accepted one knows
record Accepts (h : Host) (frame ring : List ℕ) : Type 0 where
  whole : length frame ≡ WORDS
  inside : h.audio.sending.start < length ring / WORDS

accepts : (h : Host) (frame ring : List ℕ) → give_number h frame ring ≡ 0 → Accepts h frame ring
unfolding give_number
accepts h frame ring e =
    let seven = unless 7 (ltb h.audio.sending.len (length ring / WORDS)) 0 in
    let five = unless 5 (bounded h && sending_ok (state_of h) (length ring)) seven in
    let two = met 2 (sending_length (length ring) && eqb (length frame) WORDS) (unless 3 (few_spans h) five) (omega arith) e in
    let three = met 3 (few_spans h) five (omega arith) two.1 in
    let ok = met 5 (bounded h && sending_ok (state_of h) (length ring)) seven (omega arith) three.1 in
    record {
      whole = eqb-true (length frame) WORDS (and_second (sending_length (length ring)) _ two.0);
      inside = (in_ring h.audio.sending (length ring / WORDS) (and_second (bounded h) _ ok.0)).0;
    }

put_behind : (h : Host) (frame ring : List ℕ) → h.audio.sending.start < length ring / WORDS → h.audio.sending.len < length ring / WORDS → length frame ≡ WORDS
    → to_send (frame_given h) (frame_put h frame ring) ≡ to_send h ring ++ (frame ∷ [])
unfolding frame_given frame_put
put_behind h frame ring inside room whole =
    let n = length ring / WORDS in
    let r = h.audio.sending in
    let put = sets ring ((r.start + r.len) % n * WORDS) frame in
    ap₂ (λ (k j : ℕ). oldest_first (k / WORDS) put r.start j) (length-sets ring ((r.start + r.len) % n * WORDS) frame) (add-one r.len)
    ∙ ring_appends n ring r.start r.len frame inside room (omega arith) whole

-- accepted, it stands behind all that wait
pub give_appends : (h : Host) (frame ring : List ℕ) → give_number h frame ring ≡ 0
    → to_send (step h (frame_give frame ring)) (given_ring h frame ring) ≡ to_send h ring ++ (frame ∷ [])
unfolding step given given_ring
give_appends h frame ring e =
    let a = accepts h frame ring e in
    ap (λ (n : ℕ). to_send (pick (eqb n 0) (frame_given h) h) (pick (eqb n 0) (frame_put h frame ring) ring)) e
    ∙ put_behind h frame ring a.inside (give_room h frame ring e) a.whole

-- refused, the same wait as before
pub give_leaves : (h : Host) (frame ring : List ℕ) → (give_number h frame ring ≡ 0 → ⊥)
    → to_send (step h (frame_give frame ring)) (given_ring h frame ring) ≡ to_send h ring
unfolding step given
give_leaves h frame ring m = ap₂ to_send (give_refused h frame ring m) (ring_refused h frame ring m)

-- ---- a microframe

-- what an accepted one knows of its stream
record Streams (h : Host) (l : Lent) : Type 0 where
  audio : audio_ok h.audio ≡ true
  inside : h.audio.sending.start < length l.sending / WORDS

streams : (h : Host) (l : Lent) → frame_number h l ≡ 0 → Streams h l
unfolding bounds_ok in_bounds
streams h l e =
    let b = (accepted_tests h l e).bounds in
    let whole = and_first (bounded h) _ b in
    let areas = and_second (areas_ok (state_of h) (length l.reply) (length l.config)) _ (and_second (bounded h) _ b) in
    let held = and_second (asked_ok (state_of h) h.setups) _ whole in
    let counted = and_second (held_ok (state_of h) h.packers) _ held in
    record {
      audio = and_second (counted_ok (state_of h)) _ counted;
      inside = (in_ring h.audio.sending (length l.sending / WORDS) (and_second (received_ok (state_of h)) _ areas)).0;
    }

-- it writes no word of the sending ring, accepted or not
pub microframe_words : (h : Host) (t : ℕ) (l : Lent) → (framed t h l).lent.sending ≡ l.sending
unfolding framed
microframe_words h t l = by (eqb (frame_number h l) 0)
  where
    by : (b : Bool) → (pick b (left (M.microframe t) (world_of h l)) (world_of h l)).lent.sending ≡ l.sending
    by true = words_microframe t (world_of h l)
    by false = refl

-- where it sends a block the first seven frames leave, or all if fewer wait; otherwise none does
pub microframe_takes : (h : Host) (t : ℕ) (l : Lent)
    → to_send (step h (microframe t l)) l.sending ≡ drop (pick (eqb (frame_number h l) 0 && sends_at t (world_of h l)) 7 0) (to_send h l.sending)
unfolding step framed
microframe_takes h t l = by (eqb (frame_number h l) 0) refl
  where
    taken : (b : Bool) → pick b (drop BLOCK_FRAMES (to_send h l.sending)) (to_send h l.sending) ≡ drop (pick b BLOCK_FRAMES 0) (to_send h l.sending)
    taken true = refl
    taken false = refl

    by : (b : Bool) → eqb (frame_number h l) 0 ≡ b
        → to_send (host_in (pick b (left (M.microframe t) (world_of h l)) (world_of h l))) l.sending ≡ drop (pick (b && sends_at t (world_of h l)) BLOCK_FRAMES 0) (to_send h l.sending)
    by true ok =
        let w = world_of h l in
        ap (λ (ring : List ℕ). sending_frames ring (left (M.microframe t) w).state.audio.sending) (sym (words_microframe t w))
        ∙ waiting_microframe t w (streams h l (eqb-true (frame_number h l) 0 ok)).inside
        ∙ taken (sends_at t w)
    by false refused = refl

-- the frames that wait when one is accepted have twelve words each
pub microframe_whole : (h : Host) (l : Lent) → frame_number h l ≡ 0 → (i : ℕ) → i < length (to_send h l.sending) → length (get_or (to_send h l.sending) i []) ≡ WORDS
microframe_whole h l e i less =
    let n = length l.sending / WORDS in
    let r = h.audio.sending in
    ring_whole n l.sending r.start r.len i (streams h l e).inside (omega (arith, ring_length n l.sending r.start r.len)) (omega arith)

-- the block at the output step of an accepted one: its bytes, of the frames that wait and of the counter as they are at entry
pub microframe_block : (h : Host) (l : Lent) → frame_number h l ≡ 0
    → BlockBytes (at_output (world_of h l)).state.audio.block (at_output (world_of h l)).state.audio.channels h.audio.counter (to_send h l.sending) (block_of (at_output (world_of h l)))
unfolding audio_ok
microframe_block h l e =
    let x = at_output (world_of h l) in
    let a = x.state.audio in
    let s = streams h l e in
    let ok = audio_output (world_of h l) s.audio in
    let low = and_second (leb 33 a.block) _ ok in
    let high = and_second (leb a.budget 32766) _ low in
    let out = out_output (world_of h l) in
    subst (λ (n : ℕ). BlockBytes a.block a.channels n (to_send h l.sending) (block_of x)) (ap (λ (o : Out). o.counter) out)
    (subst (λ (fs : List (List ℕ)). BlockBytes a.block a.channels a.counter fs (block_of x)) (waiting_output (world_of h l))
    (sent_block_lem x
    (leb-true 33 a.block (and_first (leb 33 a.block) _ ok))
    (leb-true a.block 2047 (and_first (leb a.block 2047) _ high))
    (eqb-true a.channels ((a.block - 32) / 28) (and_second (leb a.block 2047) _ high))
    (subst (λ (o : Out). o.sending.start < o.capacity) (sym out) s.inside)))

-- ---- a frame taken

take_start : (h : Host) (ring : List ℕ) → take_number h ring ≡ 0 → h.audio.received.start < FRAMES
unfolding take_number
take_start h ring e =
    let five = unless 5 (bounded h && received_ok (state_of h)) 0 in
    let two = met 2 (eqb (length ring) (FRAMES * WORDS)) (unless 3 (few_spans h) five) (omega arith) e in
    let three = met 3 (few_spans h) five (omega arith) two.1 in
    let ok = met 5 (bounded h && received_ok (state_of h)) 0 (omega arith) three.1 in
    (in_ring h.audio.received FRAMES (and_second (bounded h) _ ok.0)).0

take_room : (h : Host) (ring : List ℕ) → take_number h ring ≡ 0 → length ring ≡ FRAMES * WORDS
unfolding take_number
take_room h ring e = eqb-true (length ring) (FRAMES * WORDS) (met 2 (eqb (length ring) (FRAMES * WORDS)) _ (omega arith) e).0

take-length : (h : Host) (ring : List ℕ) → length (to_take h ring) ≡ h.audio.received.len
take-length h ring = ring_length FRAMES ring h.audio.received.start h.audio.received.len

none_left : (h : Host) (ring : List ℕ) → h.audio.received.len ≡ 0 → to_take h ring ≡ []
unfolding oldest_first
none_left h ring e = ap (oldest_first FRAMES ring h.audio.received.start) e

-- an accepted call answers "empty" exactly where no frame waits
pub take_answers_empty : (h : Host) (ring : List ℕ) → take_number h ring ≡ 0 → (to_take h ring ≡ []) ↔ ((taken_frame h ring).empty ≡ true)
unfolding taken_frame
take_answers_empty h ring e = (
  λ none.
      let few : h.audio.received.len ≡ 0 = sym (take-length h ring) ∙ ap length none in
      simp (e, few),
  λ said. none_left h ring (eqb-true h.audio.received.len 0 (and_second (eqb (take_number h ring) 0) _ said)),
)

-- and then nothing changes, and the frame is zeros
pub take_none : (h : Host) (ring : List ℕ) → take_number h ring ≡ 0 → to_take h ring ≡ []
    → taken_frame h ring ≡ record { refusal = 0; empty = true; frame = replicate WORDS 0; next = h }
take_none h ring e none = take_empty h ring e (sym (take-length h ring) ∙ ap length none)

holds_frame_lem : (h : Host) (ring : List ℕ) → take_number h ring ≡ 0 → 1 ≤ h.audio.received.len → holds_frame h ring ≡ true
unfolding holds_frame
holds_frame_lem h ring e some =
    let filled : eqb h.audio.received.len 0 ≡ false = ne_eqb h.audio.received.len 0 (λ z. omega arith) in
    ap₂ (λ (n : ℕ) (b : Bool). eqb n 0 && not b) e filled

-- otherwise it answers the oldest frame, and the others wait
pub record TakesFirst (h : Host) (ring f : List ℕ) (fs : List (List ℕ)) : Type 0 where
  pub filled : (taken_frame h ring).empty ≡ false
  pub frame : (taken_frame h ring).frame ≡ f
  pub whole : length f ≡ WORDS
  pub others : to_take (step h (frame_take ring)) ring ≡ fs

pub take_first : (h : Host) (ring f : List ℕ) (fs : List (List ℕ)) → take_number h ring ≡ 0 → to_take h ring ≡ f ∷ fs → TakesFirst h ring f fs
unfolding step taken_frame frame_taken taken_from oldest frame_in
take_first h ring f fs e is =
    let r = h.audio.received in
    let inside = take_start h ring e in
    let long : r.len ≡ suc (length fs) = sym (take-length h ring) ∙ ap length is in
    let some : 1 ≤ r.len = omega arith in
    let holds = holds_frame_lem h ring e some in
    let first : get_or (to_take h ring) 0 [] ≡ f = ap (λ (l : List (List ℕ)). get_or l 0 []) is in
    let filled : eqb r.len 0 ≡ false = ne_eqb r.len 0 (λ z. omega arith) in
    record {
      filled = simp (e, filled);
      whole = ap length (sym first) ∙ ring_whole FRAMES ring r.start r.len 0 inside some (omega (arith, take_room h ring e));
      frame =
          ap (λ (b : Bool). pick b (oldest h ring) (replicate WORDS 0)) holds
          ∙ ap (frame_in ring) (sym (start_same r.start inside))
          ∙ sym (ring_nth FRAMES ring r.start r.len 0 inside some)
          ∙ first;
      others =
          ap (λ (b : Bool). to_take (pick b (frame_taken h) h) ring) holds
          ∙ ring_drop FRAMES ring r.start r.len 1 inside some
          ∙ ap (drop 1) is;
    }
  where
    start_same : (s : ℕ) → s < FRAMES → (s + 0) % FRAMES ≡ s
    start_same s h = omega arith

-- ---- the other calls

same_by : {A : Type 0} (of : Host → A) (b : Bool) (g h : Host) → of g ≡ of h → of (pick b g h) ≡ of h
same_by of true g h e = e
same_by of false g h e = refl

-- a send or a device access changes nothing of the stream, a frame taken no frame that waits to be sent, a frame given none that waits to be taken
pub record Apart (h : Host) : Type 0 where
  pub midi : (cable : ℕ) (bs : List ℕ) → (step h (midi_send cable bs)).audio ≡ h.audio
  pub serial : (bs : List ℕ) → (step h (serial_send bs)).audio ≡ h.audio
  pub reads : (page : List ℕ) (off size : ℕ) → (step h (device_read page off size)).audio ≡ h.audio
  pub writes : (page : List ℕ) (off size v : ℕ) → (step h (device_write page off size v)).audio ≡ h.audio
  pub takes : (received ring : List ℕ) → to_send (step h (frame_take received)) ring ≡ to_send h ring
  pub gives : (frame sending ring : List ℕ) → to_take (step h (frame_give frame sending)) ring ≡ to_take h ring

pub rings_apart : (h : Host) → Apart h
unfolding step midi_sent serial_sent given taken_frame device_written midi_queued serial_queued frame_given frame_taken with_flag C.device_read
rings_apart h =
    record {
      midi = λ cable bs. same_by (λ (g : Host). g.audio) (eqb (midi_number h cable bs) 0) (midi_queued h cable bs) h refl;
      serial = λ bs. same_by (λ (g : Host). g.audio) (eqb (serial_number h bs) 0) (serial_queued h bs) h refl;
      reads = λ page off size. refl;
      writes =
          λ page off size v.
          same_by (λ (g : Host). g.audio) (eqb (access_number h (length page) off size) 0) (with_flag h (write_sized (registers_of h page) off size v).line) h refl;
      takes = λ received ring. same_by (λ (g : Host). to_send g ring) (holds_frame h received) (frame_taken h) h refl;
      gives = λ frame sending ring. same_by (λ (g : Host). to_take g ring) (eqb (give_number h frame sending) 0) (frame_given h) h refl;
    }

-- ---- the stream counter has 16 bits, after every list of calls from `new` (document 01, "Streams")

counter_frame : (t : ℕ) (w : World) → w.state.audio.counter < 2 ^ 16 → (left (M.microframe t) w).state.audio.counter < 2 ^ 16
unfolding sent_out
counter_frame t w less = subst (λ (o : Out). o.counter < 2 ^ 16) (sym (out_microframe t w)) (by (sends_at t w))
  where
    by : (b : Bool) → (pick b (sent_out (out_of w)) (out_of w)).counter < 2 ^ 16
    by true = omega arith
    by false = less

counter_step : (h : Host) (c : Call) → h.audio.counter < 2 ^ 16 → (step h c).audio.counter < 2 ^ 16
unfolding step framed midi_sent serial_sent given taken_frame device_written midi_queued serial_queued frame_given frame_taken with_flag C.device_read
counter_step h (microframe t l) less =
    pick_both (λ (w : World). w.state.audio.counter < 2 ^ 16) (eqb (frame_number h l) 0) (counter_frame t (world_of h l) less) less
counter_step h (midi_send cable bs) less = pick_both (λ (g : Host). g.audio.counter < 2 ^ 16) (eqb (midi_number h cable bs) 0) {a = midi_queued h cable bs} {b = h} less less
counter_step h (serial_send bs) less = pick_both (λ (g : Host). g.audio.counter < 2 ^ 16) (eqb (serial_number h bs) 0) {a = serial_queued h bs} {b = h} less less
counter_step h (frame_give f sending) less = pick_both (λ (g : Host). g.audio.counter < 2 ^ 16) (eqb (give_number h f sending) 0) {a = frame_given h} {b = h} less less
counter_step h (frame_take received) less = pick_both (λ (g : Host). g.audio.counter < 2 ^ 16) (holds_frame h received) {a = frame_taken h} {b = h} less less
counter_step h (device_read page off size) less = less
counter_step h (device_write page off size v) less =
    pick_both (λ (g : Host). g.audio.counter < 2 ^ 16) (eqb (access_number h (length page) off size) 0)
    {a = with_flag h (write_sized (registers_of h page) off size v).line} {b = h} less less

counter_after : (h : Host) (cs : List Call) → h.audio.counter < 2 ^ 16 → (after h cs).audio.counter < 2 ^ 16
unfolding after
counter_after h [] less = less
counter_after h (c ∷ cs) less = counter_after (step h c) cs (counter_step h c less)

pub stream_counter : (c : Settings) (cs : List Call) → (after (created c).host cs).audio.counter < 2 ^ 16
unfolding created new_host
stream_counter c cs =
    pick_both (λ (x : Created). (after x.host cs).audio.counter < 2 ^ 16) (leb c.spans 16)
    {a = record { refusal = 0; host = new_host (settled c) }} {b = record { refusal = 3; host = new_host no_settings }}
    (counter_after (new_host (settled c)) cs (omega arith)) (counter_after (new_host no_settings) cs (omega arith))
