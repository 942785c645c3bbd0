-- Where a list of calls leads: from every host of a standing that is in bounds to one of another standing, and from sums to sums.
use Prim.Native.Nat.{ℕ, ◌/◌, ◌≤◌, ◌<◌}
use mathlib.Core.Path.{◌≡◌, refl, ap, ap₂, sym, subst, ◌∙◌}
use mathlib.Core.Bool.{true}
use mathlib.Core.List.{List, [], ◌∷◌, ◌++◌}
use native.Mathlib.Omega.{arith}
use lib.Dec.{eqb, leb}
use lib.ListN.{length, get_or}
use borrow.Author.Tests.{leb-true, lt-ltb}
use Rattle.bits.specs.Pick.{pick}
use Rattle.bus.specs.Memory.{Memory, memory}
use Rattle.bus.specs.Sized.{is_sized}
use Rattle.bus.proofs.WordLaws.{Bytes}
use Rattle.record.specs.declared.Settings.{Settings}
use Rattle.record.specs.World.{World}
use Rattle.record.specs.Change.{left}
use Rattle.model.specs.Microframe as M
use Rattle.bits.proofs.Tests.{and_first, and_second}
use Rattle.bounds.specs.Bounds.{MOST, in_bounds, enumerating_ok, counts_ok, audio_ok, counted_ok, asked_ok, held_ok, areas_ok, ring_ok}
use Rattle.kept.proofs.Shape.{Shape, shape_kept}
use Rattle.kept.proofs.Setups.{Entry}
use Rattle.kept.proofs.Whole.{Bounded, bounds_kept}
use Rattle.usbhost.specs.declared.Host.{Host}
use Rattle.usbhost.specs.Host.{state_of}
use Rattle.usbhost.specs.Calls.{few_spans}
use Rattle.usbhost.specs.Frame.{world_of, host_in, area_lengths, bounds_ok, frame_number, framed}
use Rattle.usbhost.proofs.Frame.{lengths_long}
use Rattle.history.specs.Calls.{Call, microframe, step, after}
use Rattle.history.specs.Sums.{Tally, summed, tallied, tally}
use Rattle.history.specs.Accepts.{number_of, AtEach}
use Rattle.reached.specs.Claims.{NoneRefused}
use Rattle.reached.specs.Lists.{Areas, lend}
use Rattle.reached.proofs.Standing.{Stand, stand_of}
use Rattle.reached.proofs.Page.{Stopped}
use Rattle.reached.proofs.Summed.{tally_of}

-- ---- what a call is lent

-- accepted windows, which hold bytes, and no timer runs
pub record Fit (m : Memory) : Type 0 where
  pub sized : is_sized m ≡ true
  pub bytes : Bytes m
  pub timers : Stopped m.page

abbrev pub blank : Memory
blank = memory [] [] []

-- accepted areas, and bytes in the reply
pub record Long (a : Areas) : Type 0 where
  pub lengths : area_lengths (lend a blank) ≡ true
  pub bytes : (k : ℕ) → get_or a.reply k 0 < 256

-- ---- a host of a standing

-- the array of setups
pub record Queue (q : List ℕ) : Type 0 where
  pub long : length q ≡ 2056
  pub bytes : (k : ℕ) → get_or q k 0 < 256

pub record On (c : Settings) (a : Areas) (k : Stand) (h : Host) : Type 0 where
  pub settings : h.settings ≡ c
  pub stands : stand_of (world_of h (lend a blank)) ≡ k
  pub queue : Queue h.setups
  pub bounds : Bounded (world_of h (lend a blank))

-- the World of an accepted microframe that is lent m
pub record Enters (c : Settings) (k : Stand) (m : Memory) (w : World) : Type 0 where
  pub settings : w.settings ≡ c
  pub stands : stand_of w ≡ k
  pub memory : w.lent.memory ≡ m
  pub budget : w.state.audio.budget ≤ 32766

-- what it comes to
pub record Goes (t : ℕ) (w : World) (k : Stand) (y y' : Tally) : Type 0 where
  pub stands : stand_of (left (M.microframe t) w) ≡ k
  pub queue : Queue w.own.setups → Queue (left (M.microframe t) w).own.setups
  pub sums : tally_of t w y ≡ y'

-- ---- lists

pub record Leads (c : Settings) (a : Areas) (cs : List Call) (k k' : Stand) (y y' : Tally) : Type 0 where
  pub host : (h : Host) → On c a k h → On c a k' (after h cs)
  pub sums : (h : Host) → On c a k h → tally h y cs ≡ y'
  pub numbers : (h : Host) → On c a k h → NoneRefused h cs

pub leads_none : (c : Settings) (a : Areas) (k : Stand) (y : Tally) → Leads c a [] k k y y
unfolding after tally AtEach
leads_none c a k y = record { host = λ h o. o; sums = λ h o. refl; numbers = λ h o. tt }

pub after_append : (h : Host) (cs ds : List Call) → after h (cs ++ ds) ≡ after (after h cs) ds
unfolding after
after_append h [] ds = refl
after_append h (c ∷ cs) ds = after_append (step h c) cs ds

pub tally_append : (h : Host) (y : Tally) (cs ds : List Call) → tally h y (cs ++ ds) ≡ tally (after h cs) (tally h y cs) ds
unfolding after tally
tally_append h y [] ds = refl
tally_append h y (c ∷ cs) ds = tally_append (step h c) (tallied h y c) cs ds

pub accepted_append : (h : Host) (cs ds : List Call) → NoneRefused h cs → NoneRefused (after h cs) ds → NoneRefused h (cs ++ ds)
unfolding after AtEach
accepted_append h [] ds p q = q
accepted_append h (c ∷ cs) ds p q = (p.0, accepted_append (step h c) cs ds p.1 q)

pub leads_then : {c : Settings} {a : Areas} {cs ds : List Call} {k k' k'' : Stand} {y y' y'' : Tally} → Leads c a cs k k' y y' → Leads c a ds k' k'' y' y'' → Leads c a (cs ++ ds) k k'' y y''
leads_then {c} {a} {cs} {ds} {k} {k'} {k''} {y} {y'} {y''} p q =
    record {
      host = λ h o. subst (On c a k'') (sym (after_append h cs ds)) (q.host (after h cs) (p.host h o));
      sums = λ h o.
          tally_append h y cs ds ∙ ap (λ (x : Tally). tally (after h cs) x ds) (p.sums h o) ∙ q.sums (after h cs) (p.host h o);
      numbers = λ h o. accepted_append h cs ds (p.numbers h o) (q.numbers (after h cs) (p.host h o));
    }

-- ---- one microframe

module _ (c : Settings) (a : Areas) (long : Long a) (few : leb c.spans 16 ≡ true) (t : ℕ) (m : Memory) (fit : Fit m) (k : Stand) (before : k.uf < MOST) where
  module _ (h : Host) (o : On c a k h) where
    abbrev w : World
    w = world_of h (lend a m)

    before_h : h.port.uf < MOST
    before_h = omega (arith, ap (λ (x : Stand). x.uf) o.stands, before)

    bounded_w : Bounded w
    bounded_w =
        let b = o.bounds in
        record { record_bounds = b.record_bounds; areas = b.areas; received = b.received; sending = b.sending; second = b.second }

    pub enters : Enters c k m w
    unfolding in_bounds audio_ok
    enters =
        let s = state_of h in
        let e₁ = and_second (asked_ok s h.setups) _ o.bounds.record_bounds in
        let e₂ = and_second (held_ok s h.packers) _ e₁ in
        let e₃ = and_second (counted_ok s) _ e₂ in
        let e₄ = and_second (leb 33 h.audio.block) _ e₃ in
        record {
          settings = o.settings;
          stands = o.stands;
          memory = refl;
          budget = leb-true h.audio.budget 32766 (and_first _ _ e₄);
        }

    entry : Entry w
    entry =
        let k = lengths_long _ _ _ _ _ _ long.lengths in
        record {
          uf = before_h;
          setups_length = o.queue.long;
          reply_length = k.reply_long;
          config_length = k.config_long;
          memory_bytes = fit.bytes;
          setups_bytes = o.queue.bytes;
          reply_bytes = long.bytes;
        }

    -- no test refuses it
    pub accepted : frame_number h (lend a m) ≡ 0
    unfolding frame_number bounds_ok
    accepted =
        let spans : few_spans h ≡ true = ap (λ (s : Settings). leb s.spans 16) o.settings ∙ few in
        simp (fit.sized, long.lengths, spans, o.bounds.record_bounds, o.bounds.areas, o.bounds.received, o.bounds.sending, lt-ltb h.port.uf MOST before_h)

    pub framed_is : framed t h (lend a m) ≡ left (M.microframe t) w
    unfolding framed
    framed_is = ap (λ (n : ℕ). pick (eqb n 0) (left (M.microframe t) w) w) accepted

    pub step_is : step h (microframe t (lend a m)) ≡ host_in (left (M.microframe t) w)
    unfolding step
    step_is = ap host_in framed_is

    pub tallied_is : (y : Tally) → tallied h y (microframe t (lend a m)) ≡ tally_of t w y
    unfolding tallied summed
    tallied_is y =
        ap (λ (n : ℕ). record { since = pick (eqb n 0) (tally_of t w y).since y.since; ever = pick (eqb n 0) (tally_of t w y).ever y.ever }) accepted

    next_bounds : Bounded (world_of (host_in (left (M.microframe t) w)) (lend a blank))
    unfolding in_bounds enumerating_ok counts_ok areas_ok
    next_bounds =
        let b = bounds_kept t w entry bounded_w in
        let v = left (M.microframe t) w in
        let lens = shape_kept t w in
        record {
          record_bounds = b.record_bounds;
          areas = sym (ap₂ (λ (x y : ℕ). areas_ok v.state x y) (ap (λ (z : Shape). z.reply) lens) (ap (λ (z : Shape). z.config) lens)) ∙ b.areas;
          received = b.received;
          sending = sym (ap (λ (z : Shape). ring_ok v.state.audio.sending (z.sending / 12)) lens) ∙ b.sending;
          second = b.second;
        }

    pub next : (k' : Stand) (y y' : Tally) → Goes t w k' y y' → On c a k' (step h (microframe t (lend a m)))
    next k' y y' p =
        subst (On c a k') (sym step_is)
        (record {
          settings = ap (λ (z : Shape). z.settings) (shape_kept t w) ∙ o.settings;
          stands = p.stands;
          queue = p.queue o.queue;
          bounds = next_bounds;
        })

  pub leads_one : (k' : Stand) (y y' : Tally) → ((w : World) → Enters c k m w → Goes t w k' y y') → Leads c a (microframe t (lend a m) ∷ []) k k' y y'
  unfolding after tally AtEach number_of
  leads_one k' y y' p =
      record {
        host = λ h o. next h o k' y y' (p (w h o) (enters h o));
        sums = λ h o. tallied_is h o y ∙ (p (w h o) (enters h o)).sums;
        numbers = λ h o. (accepted h o, tt);
      }
