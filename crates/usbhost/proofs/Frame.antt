-- The microframe's promise, by its ways from the number of refusal on; what an accepted one knows; and the call by value.
use Prim.Native.Nat.{ℕ, suc, ◌≤◌}
use mathlib.Core.Path.{◌≡◌, refl, sym, ap, ◌∙◌}
use mathlib.Core.Bool.{Bool, true, false, ◌&&◌}
use mathlib.Core.List.{List}
use native.Mathlib.Omega.{arith}
use lib.Dec.{eqb, leb, ltb}
use lib.ListN.{length}
use borrow.Author.Tests.{eqb-true, leb-true, ne_eqb}
use Rattle.bits.specs.Pick.{pick}
use Rattle.bus.specs.Sized.{Sized, is_sized}
use Rattle.bus.proofs.Sizes.{and_true, is_sized_lem}
use Rattle.refusal.specs.declared.Refusal.{Refusal}
use Rattle.refusal.specs.Number.{number}
use Rattle.midi.specs.declared.Packer.{Packer}
use Rattle.record.specs.declared.Settings.{Settings}
use Rattle.record.specs.declared.State.{State}
use Rattle.record.specs.Record.{with_answer}
use Rattle.record.specs.Did.{Leads}
use Rattle.bounds.specs.Bounds.{MOST, areas_ok, received_ok, sending_ok, in_bounds, enumerating_ok, counts_ok}
use Rattle.model.specs.Microframe as M
use Rattle.frames.specs.Promises.{Fit, Frame}
use Rattle.frames.proofs.Fit.{fit_of}
use Rattle.record.specs.World.{Own, Lent, World, world}
use Rattle.usbhost.specs.declared.Host.{Host}
use Rattle.usbhost.specs.Answers.{Sent, sent, Framed}
use Rattle.usbhost.specs.Host.{state_of, host_of, own_of, host_with}
use Rattle.usbhost.specs.Calls.{unless, bounded, few_spans, sending_length}
use Rattle.usbhost.specs.Frame.{world_of, lengths_ok, Long, area_lengths, bounds_ok, frame_bounds, frame_number, framed, frame_answer}
use Rattle.usbhost.specs.Promises.{bare, FramePromise}
use Rattle.usbhost.proofs.Laws.{refused}

-- ---- an accepted microframe

-- a chain of tests that gives 0 has passed them all
passed : (n : ℕ) (t : Bool) (k : ℕ) → pick t k (suc n) ≡ 0 → (t ≡ true) × (k ≡ 0)
passed n true k e = (refl, e)
passed n false k e = absurd (omega arith)

pub record Accepted (h : Host) (l : Lent) : Type 0 where
  pub sized : is_sized l.memory ≡ true
  pub lengths : area_lengths l ≡ true
  pub spans : few_spans h ≡ true
  pub bounds : frame_bounds h l ≡ true
  pub before : ltb h.port.uf MOST ≡ true

pub accepted_tests : (h : Host) (l : Lent) → frame_number h l ≡ 0 → Accepted h l
unfolding frame_number
accepted_tests h l e =
    let six : ℕ = pick (ltb h.port.uf MOST) 0 6 in
    let five : ℕ = pick (frame_bounds h l) six 5 in
    let three : ℕ = pick (few_spans h) five 3 in
    let two : ℕ = pick (area_lengths l) three 2 in
    let p₁ = passed 0 (is_sized l.memory) two e in
    let p₂ = passed 1 (area_lengths l) three p₁.1 in
    let p₃ = passed 2 (few_spans h) five p₂.1 in
    let p₄ = passed 4 (frame_bounds h l) six p₃.1 in
    let p₅ = passed 5 (ltb h.port.uf MOST) 0 p₄.1 in
    record { sized = p₁.0; lengths = p₂.0; spans = p₃.0; bounds = p₄.0; before = p₅.0 }

-- the lengths that number 2 tests
pub lengths_long : (reply config receive cables received sending : ℕ) → lengths_ok reply config receive cables received sending ≡ true → Long reply config receive cables received sending
unfolding lengths_ok
lengths_long reply config receive cables received sending e =
    let a = and_true (leb 65535 reply) _ e in
    let b = and_true (leb 65535 config) _ a.1 in
    let d = and_true (leb 196608 receive) _ b.1 in
    let k = and_true (leb 196608 cables) _ d.1 in
    let f = and_true (eqb received 576000) _ k.1 in
    record {
      reply_long = leb-true 65535 reply a.0;
      config_long = leb-true 65535 config b.0;
      receive_long = leb-true 196608 receive d.0;
      cables_long = leb-true 196608 cables k.0;
      received_whole = eqb-true received 576000 f.0;
      sending_right = f.1;
    }

module _ (h : Host) (l : Lent) (e : frame_number h l ≡ 0) where
  pub accepted_long : Long (length l.reply) (length l.config) (length l.receive) (length l.cables) (length l.received) (length l.sending)
  accepted_long = lengths_long _ _ _ _ _ _ (accepted_tests h l e).lengths

  pub accepted_sized : Sized l.memory
  accepted_sized = is_sized_lem l.memory (accepted_tests h l e).sized

  pub accepted_fit : Fit (state_of h) (length l.sending)
  unfolding bounds_ok sending_length
  accepted_fit =
      let n = length l.sending in
      let most = and_true (leb n 576000) _ (and_true (leb 84 n) _ accepted_long.sending_right).1 in
      let a = and_true (bounded h) _ (accepted_tests h l e).bounds in
      let b = and_true (areas_ok (state_of h) (length l.reply) (length l.config)) _ a.1 in
      let d = and_true (received_ok (state_of h)) (sending_ok (state_of h) (length l.sending)) b.1 in
      fit_of (state_of h) h.packers h.setups (length l.sending) a.0 d.0 d.1 (leb-true n 576000 most.0) refl

  pub accepted_spans : h.settings.spans ≤ 16
  accepted_spans = leb-true h.settings.spans 16 (accepted_tests h l e).spans

-- ---- the ways of the call on parts

-- the number reads no settings but their count, no arrays but the setups, and not the state's answer
pub bare_number : (s : State) (c : Settings) (packers : List Packer) (o : Own) (l : Lent)
    → frame_number (bare (with_answer s (record { received = 0; dropped = 0; retired = 0 })) c.spans packers o.setups) l ≡ frame_number (host_of s c packers o) l
unfolding frame_number bounds_ok in_bounds enumerating_ok counts_ok areas_ok
bare_number s c packers o l = refl

-- it is 1 where the windows have other lengths, and else given by the tests of its parts
module _ (f : State) (spans : ℕ) (packers : List Packer) (setups : List ℕ) (l : Lent) where
  pub frame_unsized : is_sized l.memory ≡ false → 1 ≡ frame_number (bare f spans packers setups) l
  unfolding frame_number
  frame_unsized e = rw e refl

  pub frame_tests : is_sized l.memory ≡ true
      → unless 2 (area_lengths l) (unless 3 (leb spans 16)
      (unless 5 (in_bounds f packers setups && (areas_ok f (length l.reply) (length l.config) && (received_ok f && sending_ok f (length l.sending))))
      (unless 6 (ltb f.port.uf MOST) 0)))
      ≡ frame_number (bare f spans packers setups) l
  unfolding frame_number bounds_ok in_bounds enumerating_ok counts_ok areas_ok
  frame_tests e = rw e refl

module _ (t : ℕ) (h : Host) (l : Lent) {n : ℕ} (e : n ≡ frame_number h l) where
  pub frame_stops : (n ≡ 0 → ⊥) → FramePromise t h l (sent n (state_of h)) (own_of h) l
  unfolding framed
  frame_stops m = record { number = e; outcome = simp (sym e, ne_eqb n 0 m) }

  pub frame_goes : n ≡ 0 → (s : State) (o : Own) (l' : Lent) → Leads (M.microframe t) (world_of h l) (world h.settings h.packers s o l')
      → FramePromise t h l (sent 0 s) o l'
  unfolding framed
  frame_goes z s o l' d =
      let none : frame_number h l ≡ 0 = sym e ∙ z in
      record { number = sym none; outcome = d.is ∙ simp none }

-- over parts; f: the state with nothing received and nothing dropped
module _ (t : ℕ) (s : State) (c : Settings) (packers : List Packer) (o : Own) (l : Lent) {f : State} (u : f ≡ with_answer s (record { received = 0; dropped = 0; retired = 0 })) {n : ℕ}
    (e : n ≡ frame_number (bare f c.spans packers o.setups) l) where
  abbrev whole : Host
  whole = host_of s c packers o

  number_of : n ≡ frame_number whole l
  number_of = rw u at e ∙ bare_number s c packers o l

  pub parts_stop : (n ≡ 0 → ⊥) → FramePromise t whole l (sent n f) o l
  parts_stop m = rw u (frame_stops t whole l number_of m)

  pub parts_ask : n ≡ 0 → Sized l.memory × (Long (length l.reply) (length l.config) (length l.receive) (length l.cables) (length l.received) (length l.sending) × (Fit f (length l.sending) × (c.spans ≤ 16)))
  parts_ask z =
      let none : frame_number whole l ≡ 0 = sym number_of ∙ z in
      (accepted_sized whole l none, (accepted_long whole l none, (rw u (accepted_fit whole l none), accepted_spans whole l none)))

  -- the windows and the areas as two values hold what was lent, and what is left is what they hold
  pub parts_go : n ≡ 0 → {o₁ o₂ o₃ : Own} {l₁ l₂ l₃ : Lent} (s' : State) → Frame t c f o₁ l₁ s' o₂ l₂
      → o₁ ≡ o → l₁ ≡ l → o₃ ≡ o₂ → l₃ ≡ l₂ → FramePromise t whole l (sent 0 s') o₃ l₃
  parts_go z s' d p q p' q' =
      rw (p', q') (frame_goes t whole l number_of z s' _ _ ((rw (u, p, q) at d).leads packers))

-- ---- the call by value

pub frame_entry : (t : ℕ) (h : Host) (l : Lent) {s : State} → s ≡ state_of h → (r : Sent State) (o : Own) (l' : Lent)
    → FramePromise t (host_with h s) l r o l'
    → {g : Host} → g ≡ host_of r.next h.settings h.packers o
    → ◌≡◌ {A = Framed} (record { refusal = r.refusal; received = r.next.answer.received; dropped = r.next.answer.dropped; retired = r.next.answer.retired; host = g }) (frame_answer t h l) × (l' ≡ (framed t h l).lent)
unfolding frame_answer
frame_entry t h l e r o l' d f =
    let p = rw e at d in
    (rw (f, p.number, sym p.outcome) refl, ap (λ (w : World). w.lent) p.outcome)

-- ---- a refused microframe: the number alone, and the record and all that was lent as they were

module _ (t : ℕ) (h : Host) (l : Lent) (m : frame_number h l ≡ 0 → ⊥) where
  stays : framed t h l ≡ world_of h l
  unfolding framed
  stays = simp (ne_eqb (frame_number h l) 0 m)

  pub frame_refused : frame_answer t h l ≡ record { refusal = frame_number h l; received = 0; dropped = 0; retired = 0; host = h }
  unfolding frame_answer
  frame_refused = rw stays refl

  pub lent_refused : (framed t h l).lent ≡ l
  lent_refused = ap (λ (w : World). w.lent) stays

-- the call by value, where it is refused
pub frame_entry_refused : (t : ℕ) (h : Host) (l : Lent) {s s' : State} → s ≡ state_of h → (r : Refusal) (o : Own) (l' : Lent)
    → FramePromise t (host_with h s) l (sent (number r) s') o l'
    → ◌≡◌ {A = Framed} (record { refusal = number r; received = 0; dropped = 0; retired = 0; host = h }) (frame_answer t h l) × (l' ≡ (framed t h l).lent)
frame_entry_refused t h l e r o l' d =
    let p = rw e at d in
    (rw (frame_refused t h l (λ z. refused r (p.number ∙ z)), p.number) refl, ap (λ (w : World). w.lent) p.outcome)
