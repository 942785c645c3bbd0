-- The microframes that reset the sums: the cable goes and the host is back, and the firmware leaves the bus.
use lib.ListN.{take}
use Prim.Native.Nat.{ℕ, ◌+◌, ◌<◌}
use mathlib.Core.Path.{◌≡◌, refl, ap, ap₂, sym, subst, ◌∙◌}
use mathlib.Core.Bool.{Bool, true, false, not, ◌&&◌}
use mathlib.Core.List.{[], ◌∷◌}
use native.Mathlib.Omega.{arith}
use lib.Dec.{leb}
use Rattle.bits.proofs.Tests.{and_false}
use Rattle.bits.specs.Pick.{pick}
use Rattle.bits.specs.Word.{any}
use Rattle.bus.specs.Memory.{Memory}
use Rattle.bus.specs.Words.{word_at}
use Rattle.bus.specs.Steps.{and_then}
use Rattle.usbdev.specs.Offsets.{USBCMD}
use Rattle.record.specs.declared.Phase.{Phase}
use Rattle.record.specs.declared.Phase.TheVariants.{Idle, Vbus}
use Rattle.record.specs.declared.Settings.{Settings}
use Rattle.record.specs.Record.{wrapped}
use Rattle.record.specs.World.{World}
use Rattle.record.specs.Change.{apply, left, ◌then◌, when, one, here}
use Rattle.record.specs.Change as Ch
use Rattle.model.specs.Phases.{within, any_span, longer, counts, ticks, drops_request, forgets, unplugging, returns, cable, sleeps, suspends, enters, departs, leaves, powers}
use Rattle.model.specs.Microframe as M
use Rattle.model.specs.Microframe.{rs_set, gone_at, asleep_at, opens, frame_of, by_phase, at_phase}
use Rattle.model.specs.Reach.{streams_in, output_by, within_budget, input_by, back_by, left_by, to_phase, phase_by, stream_by, reaches_output, comes_back, device_left, at_input, at_output, input_ready, output_ready}
use Rattle.model.proofs.Fields.{fields_then, keeps_page}
use Rattle.model.proofs.Progress.{when_true, when_false, frame_plain}
use Rattle.bounds.specs.Bounds.{MOST}
use Rattle.history.specs.Calls.{Call, microframe}
use Rattle.history.specs.Sums.{Sums, Tally, none, reset}
use Rattle.reached.specs.Lists.{Areas, lend}
use Rattle.reached.proofs.Standing.{Stand, Held, held_of, held}
use Rattle.reached.proofs.Keeping.{keeps_sleeps}
use Rattle.reached.proofs.Opening.{phase_plain, held_counts, held_leaves, counting, seeing}
use Rattle.reached.proofs.Early.{entered_held, held_idles}
use Rattle.reached.proofs.Summed.{Tested, played, tested_tally}
use Rattle.reached.proofs.Leading.{Fit, Long, Queue, Enters, Goes, Leads, leads_one}
use Rattle.reached.proofs.Waits.{standing, seen_is}

-- ---- the tests of the sums, where the stream is not reached

pub unreached : (t : ℕ) (w : World) (r : Bool) → reaches_output t w ≡ false → ((g : Sums) → reset t w g ≡ pick r none g) → Tested t w r false 0 false
unfolding input_by
unreached t w r out fresh =
    record {
      fresh = fresh;
      heard = ap (λ (b : Bool). (b && within_budget w.state.audio.budget (stream_by (rs_set w) w)) && input_ready (at_input w)) out;
      read = λ g. refl;
      answers = ap (λ (b : Bool). b && output_ready (at_output w)) out;
    }

-- the host is gone: the sums stay
tested_gone : (t : ℕ) (w : World) → gone_at t w ≡ true → Tested t w false false 0 false
unfolding left_by back_by output_by
tested_gone t w e =
    unreached t w false (ap (λ (b : Bool). output_by (rs_set w) b (asleep_at t w) w) e)
    (λ g. ap₂ (λ (a b : Bool). pick a none (pick b none g)) (ap (λ (b : Bool). left_by (rs_set w) b (asleep_at t w) w) e) (ap (λ (b : Bool). back_by b w) e))

-- it is back: a reset
tested_back : (t : ℕ) (w : World) → gone_at t w ≡ false → w.state.port.gone ≡ true → Tested t w true false 0 false
unfolding back_by output_by
tested_back t w e f =
    unreached t w true out (λ g. ap (λ (b : Bool). pick (device_left t w) none (pick b none g)) (ap₂ (λ (a b : Bool). not a && b) e f) ∙ same (device_left t w))
  where
    same : (b : Bool) → pick b none none ≡ none
    same true = refl
    same false = refl

    out : reaches_output t w ≡ false
    out =
        ap (λ (b : Bool). not (gone_at t w) && (not (asleep_at t w) && (not b && (rs_set w && (not w.settings.cdc && streams_in w))))) f
        ∙ ap (λ (b : Bool). not (gone_at t w) && b) (and_false (not (asleep_at t w)))
        ∙ and_false (not (gone_at t w))

-- the firmware left the bus: a reset
tested_left : (t : ℕ) (w : World) → gone_at t w ≡ false → asleep_at t w ≡ false → rs_set w ≡ false → w.settings.device_stack ≡ true → w.state.port.was_running ≡ true → w.state.port.gone ≡ false
    → Tested t w true false 0 false
unfolding left_by output_by
tested_left t w e₁ e₂ e₃ e₄ e₅ e₆ = unreached t w true out (λ g. ap (λ (b : Bool). pick b none (pick (comes_back t w) none g)) went)
  where
    went : device_left t w ≡ true
    went =
        ap₂ (λ (a b : Bool). left_by (rs_set w) a b w) e₁ e₂
        ∙ ap (λ (b : Bool). not b && (w.settings.device_stack && w.state.port.was_running)) e₃
        ∙ ap₂ (λ (a b : Bool). a && b) e₄ e₅

    out : reaches_output t w ≡ false
    out =
        ap₂ (λ (a b : Bool). output_by (rs_set w) a b w) e₁ e₂
        ∙ ap₂ (λ (a b : Bool). not a && (b && (not w.settings.cdc && streams_in w))) e₆ e₃

-- ---- where the host stands then

abbrev gone_held : Held → Held
gone_held k =
    record {
      stand = record { phase = k.stand.phase; on = k.stand.on; waiting = k.stand.waiting; uf = k.stand.uf; t = k.stand.t; gone = true; suspended = k.stand.suspended; was_running = k.stand.was_running };
      queue = k.queue;
    }

held_gone : (v : World) → held_of (left (one (λ x. Ch.gone true)) v) ≡ gone_held (held_of v)
unfolding one apply
held_gone v = refl

held_unplugs : (v : World) → v.state.port.gone ≡ false → held_of (left (cable true) v) ≡ gone_held (held_of v)
unfolding cable
held_unplugs v e =
    ap held_of (when_true (λ x. not x.state.port.gone) _ v (ap not e))
    ∙ fields_then held _ _ v ∙ keeps_page held unplugging _ ∙ held_gone v

opens_gone : (c : Settings) (w : World) → c.midi_in ≡ false → w.state.port.gone ≡ false
    → held_of (left (opens c true) w) ≡ gone_held (counting (wrapped (w.state.port.uf + 1)) (held_of w))
unfolding opens
opens_gone c w e f =
    fields_then held counts _ w
    ∙ fields_then held (when (λ v. c.midi_in) ticks) (cable true) (left counts w)
    ∙ ap (λ (v : World). held_of (left (cable true) v)) (when_false (λ v. c.midi_in) ticks (left counts w) e)
    ∙ held_unplugs (left counts w) (ap (λ (k : Held). k.stand.gone) (held_counts w) ∙ f)
    ∙ ap gone_held (held_counts w)

by_gone : (t : ℕ) (rs g s : Bool) (w : World) → g ≡ true → held_of (left (frame_of w.settings t rs g s) w) ≡ held_of (left (opens w.settings true) w)
unfolding frame_of
by_gone t rs true s w e = fields_then held (opens w.settings true) sleeps w ∙ keeps_sleeps _
by_gone t rs false s w e = let z : ◌≡◌ {A = ℕ} 0 1 = cc in absurd (omega arith)

frame_gone : (t : ℕ) (w : World) → gone_at t w ≡ true → w.settings.midi_in ≡ false → w.state.port.gone ≡ false → w.state.port.uf < MOST
    → held_of (left (M.microframe t) w) ≡ gone_held (counting (w.state.port.uf + 1) (held_of w))
unfolding M.microframe here
frame_gone t w e f g few =
    let more : wrapped (w.state.port.uf + 1) ≡ w.state.port.uf + 1 = omega arith in
    by_gone t (rs_set w) (gone_at t w) (asleep_at t w) w e
    ∙ opens_gone w.settings w f g
    ∙ ap (λ (n : ℕ). gone_held (counting n (held_of w))) more

-- a fresh host
abbrev fresh_held : Held → Held
fresh_held k =
    record {
      stand = record { phase = Idle; on = false; waiting = 0; uf = k.stand.uf; t = k.stand.t; gone = false; suspended = k.stand.suspended; was_running = k.stand.was_running };
      queue = k.queue;
    }

held_returns : (v : World) → held_of (left (one (λ x. Ch.gone false) then returns) v) ≡ fresh_held (held_of v)
unfolding returns forgets drops_request and_then one apply
held_returns v = refl

opens_back : (c : Settings) (w : World) → c.midi_in ≡ false → w.state.port.gone ≡ true
    → held_of (left (opens c false) w) ≡ fresh_held (counting (wrapped (w.state.port.uf + 1)) (held_of w))
unfolding opens cable
opens_back c w e f =
    fields_then held counts _ w
    ∙ fields_then held (when (λ v. c.midi_in) ticks) (cable false) (left counts w)
    ∙ ap (λ (v : World). held_of (left (cable false) v)) (when_false (λ v. c.midi_in) ticks (left counts w) e)
    ∙ ap held_of (when_true (λ x. x.state.port.gone) _ (left counts w) (ap (λ (k : Held). k.stand.gone) (held_counts w) ∙ f))
    ∙ held_returns (left counts w)
    ∙ ap fresh_held (held_counts w)

phase_back : (w : World) → w.settings.midi_in ≡ false → w.state.port.gone ≡ true → w.state.port.suspended ≡ false → w.state.port.uf < MOST
    → held_of (phase_by true w) ≡ seeing (pick w.settings.device_stack true w.state.port.was_running) (fresh_held (counting (w.state.port.uf + 1) (held_of w)))
unfolding phase_by to_phase suspends
phase_back w e f g few =
    let c = w.settings in
    let o = left (opens c false) w in
    let more : wrapped (w.state.port.uf + 1) ≡ w.state.port.uf + 1 = omega arith in
    let back = opens_back c w e f ∙ ap (λ (n : ℕ). fresh_held (counting n (held_of w))) more in
    fields_then held (opens c false) _ w
    ∙ fields_then held (suspends false) (leaves c.device_stack true) o
    ∙ ap (λ (v : World). held_of (left (leaves c.device_stack true) v)) (when_false (λ v. v.state.port.suspended) _ o (ap (λ (k : Held). k.stand.suspended) back ∙ g))
    ∙ held_leaves c.device_stack o
    ∙ ap (λ (k : Held). seeing (pick c.device_stack true k.stand.was_running) k) back

-- it is Idle, and so in Vbus once the microframe ends
frame_back : (t : ℕ) (w : World) → gone_at t w ≡ false → asleep_at t w ≡ false → rs_set w ≡ true → w.settings.midi_in ≡ false → w.state.port.gone ≡ true → w.state.port.suspended ≡ false
    → w.state.port.uf < MOST
    → held_of (left (M.microframe t) w) ≡ entered_held Vbus (seeing (pick w.settings.device_stack true w.state.port.was_running) (fresh_held (counting (w.state.port.uf + 1) (held_of w))))
unfolding by_phase here
frame_back t w e₁ e₂ e₃ e₄ e₅ e₆ few =
    let v = phase_by true w in
    let back = phase_back w e₄ e₅ e₆ few in
    ap held_of (frame_plain t w e₁ e₂ ∙ ap (λ (b : Bool). left (by_phase w.settings t b) (phase_by b w)) e₃)
    ∙ ap (λ (x : Phase). held_of (left (at_phase w.settings t true x) v)) (ap (λ (k : Held). k.stand.phase) back)
    ∙ held_idles v
    ∙ ap (entered_held Vbus) back

-- the firmware left the bus: no request, no setup, VBUS since now
abbrev parted_held : Held → Held
parted_held k =
    record {
      stand = record { phase = Vbus; on = false; waiting = 0; uf = k.stand.uf; t = k.stand.uf; gone = k.stand.gone; suspended = k.stand.suspended; was_running = false };
      queue = k.queue;
    }

held_departs : (v : World) → held_of (left departs v) ≡ parted_held (held_of v)
unfolding departs enters forgets drops_request and_then one apply
held_departs v = refl

parts : (stack : Bool) (v : World) → stack ≡ true → v.state.port.was_running ≡ true → held_of (left (leaves stack false) v) ≡ parted_held (held_of v)
unfolding leaves
parts true v e f = ap held_of (when_true (λ x. x.state.port.was_running) departs v f) ∙ held_departs v
parts false v e f = let z : ◌≡◌ {A = ℕ} 0 1 = cc in absurd (omega arith)

waits_powers : (v : World) → left (powers false) v ≡ v
unfolding powers
waits_powers v = when_false (λ x. false && longer 400 x) _ v refl

frame_left : (t : ℕ) (w : World) → gone_at t w ≡ false → asleep_at t w ≡ false → rs_set w ≡ false → w.settings.midi_in ≡ false → w.settings.device_stack ≡ true
    → w.state.port.gone ≡ false → w.state.port.suspended ≡ false → w.state.port.was_running ≡ true → w.state.port.uf < MOST
    → held_of (left (M.microframe t) w) ≡ parted_held (counting (w.state.port.uf + 1) (held_of w))
unfolding by_phase here
frame_left t w e₁ e₂ e₃ e₄ e₅ e₆ e₇ e₈ few =
    let v = phase_by false w in
    let more : wrapped (w.state.port.uf + 1) ≡ w.state.port.uf + 1 = omega arith in
    let parted : held_of v ≡ parted_held (counting (w.state.port.uf + 1) (held_of w)) =
    ap held_of (phase_plain false w e₄ e₆ e₇)
    ∙ parts w.settings.device_stack (left counts w) e₅ (ap (λ (k : Held). k.stand.was_running) (held_counts w) ∙ e₈)
    ∙ ap parted_held (held_counts w ∙ ap (λ (n : ℕ). counting n (held_of w)) more) in
    ap held_of (frame_plain t w e₁ e₂ ∙ ap (λ (b : Bool). left (by_phase w.settings t b) (phase_by b w)) e₃)
    ∙ ap (λ (x : Phase). held_of (left (at_phase w.settings t false x) v)) (ap (λ (k : Held). k.stand.phase) parted)
    ∙ ap held_of (waits_powers v)
    ∙ parted

-- ---- as calls

module _ (c : Settings) (a : Areas) (long : Long a) (few : leb c.spans 16 ≡ true) (midi : c.midi_in ≡ false) (t : ℕ) (m : Memory) (fit : Fit m) (q : Phase) (u s : ℕ) (early : u < MOST) where
  abbrev call : Call
  call = microframe t (lend a m)

  abbrev stack : Bool
  stack = c.device_stack

  -- in the stream, and gone
  abbrev pub Gone : ℕ → Stand
  Gone n = record { phase = q; on = false; waiting = 0; uf = n; t = s; gone = true; suspended = false; was_running = stack }

  of_settings : {X : Type 0} (f : Settings → X) {k : Stand} {w : World} → Enters c k m w → f w.settings ≡ f c
  of_settings f e = ap f e.settings

  goes : (k k' : Stand) (r : Bool) (y : Tally) (f : Held → Held) (w : World) → Enters c k m w → held_of (left (M.microframe t) w) ≡ f (held_of w)
      → f (record { stand = k; queue = w.own.setups }) ≡ record { stand = k'; queue = w.own.setups }
      → Tested t w r false 0 false → Goes t w k' y (played r false 0 false y)
  goes k k' r y f w e law is sum =
      let now = law ∙ ap (λ (x : Stand). f (record { stand = x; queue = w.own.setups })) e.stands ∙ is in
      record {
        stands = ap (λ (x : Held). x.stand) now;
        queue = λ h. subst Queue (sym (ap (λ (x : Held). x.queue) now)) h;
        sums = tested_tally t w r false 0 false sum y;
      }

  pub leads_gone : any_span (take c.spans c.gone) t ≡ true → (y : Tally) → Leads c a (call ∷ []) (standing q false 0 u s stack) (Gone (u + 1)) y y
  leads_gone away y =
      leads_one c a long few t m fit (standing q false 0 u s stack) early (Gone (u + 1)) y y (λ w e.
      let spans : gone_at t w ≡ true = of_settings (λ x. any_span (take x.spans x.gone) t) e ∙ away in
      goes (standing q false 0 u s stack) (Gone (u + 1)) false y (λ k. gone_held (counting (k.stand.uf + 1) k)) w e
      (frame_gone t w spans (of_settings (λ x. x.midi_in) e ∙ midi) (ap (λ (x : Stand). x.gone) e.stands) (omega (arith, ap (λ (x : Stand). x.uf) e.stands, early)))
      refl (tested_gone t w spans))

  -- with RS set on the page that it is lent: the host is back
  pub leads_back : any_span (take c.spans c.gone) t ≡ false → within c.suspend t ≡ false → any (word_at m.page USBCMD) 1 ≡ true
      → (y : Tally) → Leads c a (call ∷ []) (Gone u) (standing Vbus false 0 (u + 1) (u + 1) stack) y (played true false 0 false y)
  leads_back near awake set y =
      leads_one c a long few t m fit (Gone u) early (standing Vbus false 0 (u + 1) (u + 1) stack) y (played true false 0 false y) (λ w e.
      let spans : gone_at t w ≡ false = of_settings (λ x. any_span (take x.spans x.gone) t) e ∙ near in
      let away : w.state.port.gone ≡ true = ap (λ (x : Stand). x.gone) e.stands in
      goes (Gone u) (standing Vbus false 0 (u + 1) (u + 1) stack) true y (λ k. entered_held Vbus (seeing (pick stack true k.stand.was_running) (fresh_held (counting (k.stand.uf + 1) k)))) w e
      (frame_back t w spans (of_settings (λ x. within x.suspend t) e ∙ awake) (ap (λ (x : Memory). any (word_at x.page USBCMD) 1) e.memory ∙ set)
      (of_settings (λ x. x.midi_in) e ∙ midi) away (ap (λ (x : Stand). x.suspended) e.stands) (omega (arith, ap (λ (x : Stand). x.uf) e.stands, early))
      ∙ ap (λ (b : Bool). entered_held Vbus (seeing (pick b true w.state.port.was_running) (fresh_held (counting (w.state.port.uf + 1) (held_of w))))) (of_settings (λ x. x.device_stack) e))
      (ap (λ (b : Bool). record { stand = standing Vbus false 0 (u + 1) (u + 1) b; queue = w.own.setups }) (seen_is stack))
      (tested_back t w spans away))

  -- with RS clear and a device stack that has seen it set
  pub leads_left : stack ≡ true → any_span (take c.spans c.gone) t ≡ false → within c.suspend t ≡ false → any (word_at m.page USBCMD) 1 ≡ false
      → (y : Tally) → Leads c a (call ∷ []) (standing q false 0 u s stack) (standing Vbus false 0 (u + 1) (u + 1) false) y (played true false 0 false y)
  leads_left has near awake clear y =
      leads_one c a long few t m fit (standing q false 0 u s stack) early (standing Vbus false 0 (u + 1) (u + 1) false) y (played true false 0 false y) (λ w e.
      let spans : gone_at t w ≡ false = of_settings (λ x. any_span (take x.spans x.gone) t) e ∙ near in
      let woken : asleep_at t w ≡ false = of_settings (λ x. within x.suspend t) e ∙ awake in
      let rs : rs_set w ≡ false = ap (λ (x : Memory). any (word_at x.page USBCMD) 1) e.memory ∙ clear in
      let device : w.settings.device_stack ≡ true = of_settings (λ x. x.device_stack) e ∙ has in
      let still : w.state.port.gone ≡ false = ap (λ (x : Stand). x.gone) e.stands in
      let ran : w.state.port.was_running ≡ true = ap (λ (x : Stand). x.was_running) e.stands ∙ has in
      goes (standing q false 0 u s stack) (standing Vbus false 0 (u + 1) (u + 1) false) true y (λ k. parted_held (counting (k.stand.uf + 1) k)) w e
      (frame_left t w spans woken rs (of_settings (λ x. x.midi_in) e ∙ midi) device still (ap (λ (x : Stand). x.suspended) e.stands) ran (omega (arith, ap (λ (x : Stand). x.uf) e.stands, early)))
      refl
      (tested_left t w spans woken rs device ran still))
