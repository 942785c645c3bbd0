-- S-2: a MIDI send on a cable hangs on no other cable's packer, number 5 apart, and changes none; number 8 is that of the cable alone; on each cable it is a send
-- by the definitions of one packer; and what a microframe leaves in the area of cables.
use Prim.Native.Nat.{ℕ, ◌<◌}
use mathlib.Core.Path.{◌≡◌, refl, sym, ap, subst, ◌∙◌}
use mathlib.Core.Logic.{◌≢◌}
use mathlib.Core.Bool.{Bool, true, false}
use mathlib.Core.List.{List}
use native.Mathlib.Omega.{arith}
use lib.Dec.{eqb}
use lib.ListN.{length}
use lib.Seq.{get_or-set_same, get_or-set_other}
use borrow.Author.Tests.{lt-ltb, le-ltb, ltb-true, ltb-false}
use Rattle.bits.specs.Pick.{pick, pick_both}
use Rattle.midi.specs.declared.Packer.{Packer}
use Rattle.midi.specs.Packer.{CABLES, is_cable, fresh, packer_at, fed_all, room_for, sent_of, queue_after}
use Rattle.record.specs.Record.{with_lengths, with_midi}
use Rattle.record.specs.World.{Lent, World, own_midi}
use Rattle.record.specs.Change.{left}
use Rattle.model.specs.Microframe as M
use Rattle.model.specs.Cables.{packets_in, Fronts}
use Rattle.model.proofs.Cables.{cables_front, cables_serial}
use Rattle.usbhost.specs.declared.Host.{Host}
use Rattle.usbhost.specs.Host.{state_of, host_of, own_of, with_packers}
use Rattle.usbhost.specs.Calls.{unless, few_spans, bounded, midi_number, midi_queued, midi_sent}
use Rattle.usbhost.proofs.Laws.{by_test}
use Rattle.usbhost.specs.Frame.{world_of, frame_number, framed}
use Rattle.usbhost.proofs.Frame.{accepted_long}

-- ---- number 8

-- exactly where few spans and a cable above 15, for any bytes, none too
pub cable_refused : (h : Host) (cable : ℕ) (bs : List ℕ) → few_spans h ≡ true → 15 < cable → midi_number h cable bs ≡ 8
unfolding midi_number
cable_refused h cable bs few above = simp (few, le-ltb cable 16 (omega arith))

eight_only : (few there ok room : Bool) → unless 3 few (unless 8 there (unless 5 ok (unless 7 room 0))) ≡ 8 → (few ≡ true) × (there ≡ false)
eight_only true true true true e = absurd (omega arith)
eight_only true true true false e = absurd (omega arith)
eight_only true true false room e = absurd (omega arith)
eight_only true false ok room e = (refl, refl)
eight_only false there ok room e = absurd (omega arith)

pub refused_cable : (h : Host) (cable : ℕ) (bs : List ℕ) → midi_number h cable bs ≡ 8 → (few_spans h ≡ true) × (15 < cable)
unfolding midi_number
refused_cable h cable bs e =
    let is = eight_only (few_spans h) (is_cable cable) (bounded h) (room_for (packer_at h.packers cable) bs h.lengths.midi) e in
    (is.0, omega (arith, ltb-false cable 16 is.1))

-- ---- what a send leaves alone

module _ (h : Host) (cable : ℕ) (bs : List ℕ) where
  abbrev next : Host
  next = (midi_sent h cable bs).next

  -- every packer but its own
  pub send_others : (k : ℕ) → k ≢ cable → packer_at next.packers k ≡ packer_at h.packers k
  unfolding midi_sent midi_queued
  send_others k other =
      pick_both (λ (g : Host). packer_at g.packers k ≡ packer_at h.packers k) (eqb (midi_number h cable bs) 0)
      (get_or-set_other h.packers cable k (fed_all (packer_at h.packers cable) bs) fresh other) refl

  -- and of the rest all but the queue and its length
  pub send_rest : next ≡ host_of (with_lengths (state_of h) (with_midi h.lengths next.lengths.midi)) h.settings next.packers (own_midi (own_of h) next.midi)
  unfolding midi_sent midi_queued
  send_rest =
      pick_both (λ (g : Host). g ≡ host_of (with_lengths (state_of h) (with_midi h.lengths g.lengths.midi)) h.settings g.packers (own_midi (own_of h) g.midi))
      (eqb (midi_number h cable bs) 0) refl refl

-- ---- a send by the packer of its cable

-- what one packer's definitions say of a send on a cable: its number, the queue, the bytes held, and the cable's packer
pub record Packed (h : Host) (cable : ℕ) (bs : List ℕ) (p : Packer) : Type 0 where
  pub number : (midi_sent h cable bs).refusal ≡ (sent_of p bs h.lengths.midi).refusal
  pub queue : (midi_sent h cable bs).next.midi ≡ queue_after cable p bs h.lengths.midi h.midi
  pub held : (midi_sent h cable bs).next.lengths.midi ≡ (sent_of p bs h.lengths.midi).held
  pub packer : packer_at (midi_sent h cable bs).next.packers cable ≡ (sent_of p bs h.lengths.midi).packer

module _ (h : Host) (few : few_spans h ≡ true) (ok : bounded h ≡ true) (whole : length h.packers ≡ CABLES) (cable : ℕ) (there : cable < 16) (bs : List ℕ) where
  abbrev own : Packer
  own = packer_at h.packers cable

  pub cable_packed : Packed h cable bs own
  unfolding midi_sent midi_number midi_queued sent_of queue_after
  cable_packed =
      let is : is_cable cable ≡ true = lt-ltb cable 16 there in
      by_test (room_for own bs h.lengths.midi)
      (λ room.
      record {
        number = simp (few, ok, is, room);
        queue = simp (few, ok, is, room);
        held = simp (few, ok, is, room);
        packer = simp (few, ok, is, room) (get_or-set_same h.packers cable (fed_all own bs) fresh (omega (arith, there, whole)));
      })
      (λ full.
      record {
        number = simp (few, ok, is, full);
        queue = simp (few, ok, is, full);
        held = simp (few, ok, is, full);
        packer = simp (few, ok, is, full);
      })

-- on cable 0: the definitions as they stood with one cable
pub cable_zero : (h : Host) → few_spans h ≡ true → bounded h ≡ true → length h.packers ≡ CABLES → (bs : List ℕ) → Packed h 0 bs (packer_at h.packers 0)
cable_zero h few ok whole bs = cable_packed h few ok whole 0 (omega arith) bs

-- ---- a send hangs on no other cable's packer

-- what two sends of the same bytes on a cable have alike
pub record Alike (g h : Host) (cable : ℕ) (bs : List ℕ) : Type 0 where
  pub number : (midi_sent g cable bs).refusal ≡ (midi_sent h cable bs).refusal
  pub queue : (midi_sent g cable bs).next.midi ≡ (midi_sent h cable bs).next.midi
  pub held : (midi_sent g cable bs).next.lengths.midi ≡ (midi_sent h cable bs).next.lengths.midi
  pub packer : packer_at (midi_sent g cable bs).next.packers cable ≡ packer_at (midi_sent h cable bs).next.packers cable

-- other packers for other cables, where neither record meets 5
pub send_alone : (h : Host) (packers : List Packer) (cable : ℕ) (bs : List ℕ) → length h.packers ≡ CABLES → length packers ≡ CABLES
    → packer_at packers cable ≡ packer_at h.packers cable → bounded h ≡ true → bounded (with_packers h packers) ≡ true
    → Alike (with_packers h packers) h cable bs
unfolding midi_sent midi_number midi_queued
send_alone h packers cable bs whole full same ok ok' =
    by_test (few_spans h)
    (λ few.
    by_test (is_cable cable)
    (λ is.
    let there = ltb-true cable 16 is in
    let p = cable_packed h few ok whole cable there bs in
    let q = subst (Packed (with_packers h packers) cable bs) same (cable_packed (with_packers h packers) few ok' full cable there bs) in
    record { number = q.number ∙ sym p.number; queue = q.queue ∙ sym p.queue; held = q.held ∙ sym p.held; packer = q.packer ∙ sym p.packer })
    (λ none.
    record { number = simp (few, none); queue = simp (few, none); held = simp (few, none); packer = simp (few, none) same }))
    (λ many. record { number = simp many; queue = simp many; held = simp many; packer = simp many same })

-- ---- the area of cables after a microframe

module _ (t : ℕ) (h : Host) (l : Lent) where
  -- accepted, with no serial device: the cables of the bytes that came, beside them, and behind them all as it was
  pub frame_cables : frame_number h l ≡ 0 → h.settings.cdc ≡ false → Fronts (packets_in t (world_of h l)) (world_of h l) (framed t h l)
  unfolding framed
  frame_cables e audio =
      let long = accepted_long h l e in
      let w = world_of h l in
      subst (Fronts (packets_in t w) w) (sym (ap (λ (n : ℕ). pick (eqb n 0) (left (M.microframe t) w) w) e))
      (cables_front t w audio refl (omega (arith, long.receive_long)) (omega (arith, long.cables_long)))

  -- with a serial device all of it as it was, refused or not; a refused microframe leaves it so too (`lent_refused`)
  pub frame_cables_serial : h.settings.cdc ≡ true → (framed t h l).lent.cables ≡ l.cables
  unfolding framed
  frame_cables_serial serial =
      pick_both (λ (w : World). w.lent.cables ≡ l.cables) (eqb (frame_number h l) 0) {a = left (M.microframe t) (world_of h l)} {b = world_of h l}
      (cables_serial t (world_of h l) serial) refl
