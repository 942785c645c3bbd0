-- The rings of frames: each start lies in its ring, and a ring holds no more than it has room for (document 01, number 5), whatever the changes.
use Prim.Native.Nat.{ℕ, ◌+◌, ◌/◌, ◌%◌, ◌≤◌, ◌<◌}
use mathlib.Core.Path.{◌≡◌, refl, ap, subst, sym}
use mathlib.Core.Bool.{Bool, true, false}
use mathlib.Core.List.{List, [], ◌∷◌}
use native.Mathlib.Omega.{arith}
use native.Mathlib.Nat.{mod-lt}
use lib.Dec.{eqb}
use lib.ListN.{length}
use borrow.Author.Tests.{le-leb, lt-ltb, eqb-false}
use Rattle.bounds.proofs.Laws.{in_ring}
use Rattle.bits.specs.Pick.{pick}
use Rattle.bus.specs.Steps.{replay}
use Rattle.record.specs.declared.Ring.{Ring}
use Rattle.record.specs.World.{World}
use Rattle.record.specs.Parts as Part
use Rattle.record.specs.Sizes.{FRAMES, WORDS}
use Rattle.record.specs.Change.{Change, bus, ran, lost, count, timers, ringed_place, taken_from, apply, left, port, audio, request, stream}
use Rattle.record.proofs.Beside.{port_beside, request_beside, stream_beside}
use Rattle.model.specs.Microframe.{microframe}
use Rattle.bounds.specs.Bounds.{ring_ok}
use Rattle.kept.proofs.Shape.{Shape, shape_kept}

ring_is : (r : Ring) (n : ℕ) → r.start < n → r.len ≤ n → ring_ok r n ≡ true
unfolding ring_ok
ring_is r n p q = simp (lt-ltb r.start n p, le-leb r.len n q)

-- a frame more
framed : (r : Ring) → ring_ok r FRAMES ≡ true → ring_ok (ringed_place r) FRAMES ≡ true
unfolding ringed_place
framed r e = by_full (eqb r.len FRAMES) refl
  where
    by_full : (b : Bool) → eqb r.len FRAMES ≡ b → ring_ok (pick b (record { start = (r.start + 1) % FRAMES; len = FRAMES }) (record { start = r.start; len = r.len + 1 })) FRAMES ≡ true
    by_full true f = ring_is _ FRAMES (omega arith) (omega arith)
    by_full false f =
        let b = in_ring r FRAMES e in
        let d = eqb-false r.len FRAMES f in
        ring_is _ FRAMES b.0 (omega (arith, d))

-- n frames fewer
fewer : (capacity n : ℕ) (r : Ring) → ring_ok r capacity ≡ true → ring_ok (taken_from capacity n r) capacity ≡ true
unfolding taken_from
fewer capacity n r e =
    let b = in_ring r capacity e in
    ring_is _ capacity (mod-lt (r.start + n) (omega arith)) (omega arith)

-- ---- every change, and every list of them

abbrev ReceivedOk : World → Type 0
ReceivedOk w = ring_ok w.state.audio.received FRAMES ≡ true

abbrev SendingOk : World → Type 0
SendingOk w = ring_ok w.state.audio.sending (length w.lent.sending / WORDS) ≡ true

-- what keeps the one, and what keeps the other
abbrev Keeping : World → World → Type 0
Keeping w v = (ReceivedOk w → ReceivedOk v) × (SendingOk w → SendingOk v)

change_rings : (c : Change) (w : World) → Keeping w (apply c w)
unfolding apply
change_rings (bus s) w = (λ h. h, λ h. h)
change_rings (ran e k n) w = (λ h. h, λ h. h)
change_rings (lost n) w = (λ h. h, λ h. h)
change_rings (count c n) w = (λ h. h, λ h. h)
change_rings (timers ts) w = (λ h. h, λ h. h)
change_rings (port c) w = (subst ReceivedOk (sym (port_beside c w)), subst SendingOk (sym (port_beside c w)))
change_rings (audio (Part.credit n)) w = (λ h. h, λ h. h)
change_rings (audio (Part.budget n)) w = (λ h. h, λ h. h)
change_rings (audio (Part.counter n)) w = (λ h. h, λ h. h)
change_rings (audio (Part.block n c)) w = (λ h. h, λ h. h)
change_rings (audio (Part.frame f)) w = (framed w.state.audio.received, λ h. h)
change_rings (audio (Part.taken n)) w = (λ h. h, fewer (length w.lent.sending / WORDS) n w.state.audio.sending)
change_rings (request c) w = (subst ReceivedOk (sym (request_beside c w)), subst SendingOk (sym (request_beside c w)))
change_rings (stream c) w = (subst ReceivedOk (sym (stream_beside c w)), subst SendingOk (sym (stream_beside c w)))

list_rings : (cs : List Change) (w : World) → Keeping w (replay apply cs w)
list_rings [] w = (λ h. h, λ h. h)
list_rings (c ∷ cs) w =
    let one = change_rings c w in
    let rest = list_rings cs (apply c w) in
    (λ h. rest.0 (one.0 h), λ h. rest.1 (one.1 h))

-- ---- a microframe

pub received_kept : (t : ℕ) (w : World) → ring_ok w.state.audio.received FRAMES ≡ true → ring_ok (left (microframe t) w).state.audio.received FRAMES ≡ true
received_kept t w = (list_rings (microframe t w) w).0

-- the ring that is lent keeps its length
pub sending_kept : (t : ℕ) (w : World) → ring_ok w.state.audio.sending (length w.lent.sending / WORDS) ≡ true → ring_ok (left (microframe t) w).state.audio.sending (length w.lent.sending / WORDS) ≡ true
sending_kept t w h =
    let same : length (left (microframe t) w).lent.sending ≡ length w.lent.sending = ap (λ (z : Shape). z.sending) (shape_kept t w) in
    rw same at ((list_rings (microframe t w) w).1 h)
