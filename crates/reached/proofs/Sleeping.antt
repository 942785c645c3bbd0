-- Microframes in the suspend span and in the sleep span: the phase, the setups and the sums stay, and each is counted as one without MIDI.
use Prim.Native.Nat.{ℕ, zero, suc, ◌+◌, ◌<◌}
use mathlib.Core.Path.{◌≡◌, refl, ap, ap₂, sym, subst, ◌∙◌}
use mathlib.Core.Bool.{Bool, true, false, not, ◌&&◌}
use mathlib.Core.List.{[], ◌∷◌}
use native.Mathlib.Omega.{arith}
use lib.Dec.{eqb, leb}
use lib.ListN.{replicate, take}
use Rattle.bits.specs.Pick.{pick}
use Rattle.bits.proofs.Tests.{false_true}
use Rattle.bus.specs.Memory.{Memory}
use Rattle.bus.specs.Steps.{exec_then}
use Rattle.record.specs.declared.Phase.{Phase}
use Rattle.record.specs.declared.Phase.TheVariants.{Stream}
use Rattle.record.specs.declared.Settings.{Settings}
use Rattle.record.specs.Record.{wrapped, counter_of, midi_asleep}
use Rattle.record.specs.World.{Lent, World}
use Rattle.record.specs.Change.{apply, left, ◌then◌, one, here}
use Rattle.record.specs.Change as Ch
use Rattle.model.specs.Phases.{within, any_span, sleeps, suspending, suspends}
use Rattle.model.specs.Streams.{midi_in, serial_step, midi_out, reads_vendor}
use Rattle.model.specs.Audio.{streams}
use Rattle.model.specs.Microframe as M
use Rattle.model.specs.Microframe.{rs_set, gone_at, asleep_at, streaming, opens, frame_of, midi_steps, stack_steps, others, bridge_steps, transfers, enumerates, talks}
use Rattle.model.specs.Reach.{output_by, back_by, left_by, phase_by, stream_by}
use Rattle.model.proofs.Fields.{fields_then, keeps_page}
use Rattle.model.proofs.OneBlock.{streaming_stream}
use Rattle.model.proofs.Plain.{still_streams}
use Rattle.model.proofs.Progress.{if_false, when_true, when_false}
use Rattle.bounds.specs.Bounds.{MOST}
use Rattle.kept.proofs.Shape.{Shape, shape_kept}
use Rattle.usbhost.specs.declared.Host.{Host}
use Rattle.usbhost.specs.Frame.{world_of, host_in, frame_number, framed}
use Rattle.history.specs.Calls.{microframe, step, after}
use Rattle.history.specs.Sums.{Sums, Tally, none}
use Rattle.reached.specs.Lists.{Areas, lend}
use Rattle.reached.proofs.Standing.{Stand, Held, held_of, held}
use Rattle.reached.proofs.Keeping.{keeps_sleeps}
use Rattle.reached.proofs.Aside.{Aside, aside_of, aside, aside_ignored, aside_plain, slept, sleeps_once, aside_stream, aside_awake}
use Rattle.reached.proofs.Opening.{ticked, ticked_held, opens_ticked, held_counts, counting, frame_in_lem}
use Rattle.reached.proofs.Summed.{Tested, Streams, tested_tally}
use Rattle.reached.proofs.Leading.{Fit, Long, Queue, Leads, leads_one}
use Rattle.reached.proofs.Waits.{standing, marked}
use Rattle.reached.proofs.Resets.{unreached}

-- ---- the suspend span

abbrev suspended_held : Held → Held
suspended_held k =
    record {
      stand = record { phase = k.stand.phase; on = k.stand.on; waiting = k.stand.waiting; uf = k.stand.uf; t = k.stand.t; gone = k.stand.gone; suspended = true; was_running = k.stand.was_running };
      queue = k.queue;
    }

held_mark : (v : World) → held_of (left (one (λ w. Ch.suspended true)) v) ≡ suspended_held (held_of v)
unfolding one apply
held_mark v = refl

held_suspends : (v : World) → v.state.port.suspended ≡ false → held_of (left (suspends true) v) ≡ suspended_held (held_of v)
unfolding suspends
held_suspends v e =
    ap held_of (when_true (λ w. not w.state.port.suspended) suspending v (ap not e))
    ∙ fields_then held (one (λ w. Ch.suspended true)) _ v ∙ keeps_page held _ _ ∙ held_mark v

by_suspend : (t : ℕ) (rs g s : Bool) (w : World) → g ≡ false → s ≡ true → held_of (left (frame_of w.settings t rs g s) w) ≡ held_of (left (suspends true) (left (opens w.settings false) w))
unfolding frame_of
by_suspend t rs true s w e f = absurd (false_true (sym e))
by_suspend t rs false false w e f = absurd (false_true f)
by_suspend t rs false true w e f =
    fields_then held (opens w.settings false) _ w
    ∙ fields_then held (suspends true) sleeps (left (opens w.settings false) w)
    ∙ keeps_sleeps _

frame_suspends : (t : ℕ) (w : World) → gone_at t w ≡ false → asleep_at t w ≡ true → w.state.port.gone ≡ false → w.state.port.suspended ≡ false → w.state.port.uf < MOST
    → held_of (left (M.microframe t) w) ≡ suspended_held (counting (w.state.port.uf + 1) (held_of w))
unfolding M.microframe here
frame_suspends t w e f still woken few =
    let c = w.settings in
    let more : wrapped (w.state.port.uf + 1) ≡ w.state.port.uf + 1 = omega arith in
    let opened = ticked_held c w ∙ held_counts w in
    by_suspend t (rs_set w) (gone_at t w) (asleep_at t w) w e f
    ∙ ap (λ (v : World). held_of (left (suspends true) v)) (opens_ticked c w still)
    ∙ held_suspends (ticked c w) (ap (λ (k : Held). k.stand.suspended) opened ∙ woken)
    ∙ ap suspended_held opened
    ∙ ap (λ (n : ℕ). suspended_held (counting n (held_of w))) more

-- nothing is reset, nothing heard and nothing answered
tested_suspended : (t : ℕ) (w : World) → gone_at t w ≡ false → asleep_at t w ≡ true → w.state.port.gone ≡ false → Tested t w false false 0 false
unfolding left_by back_by output_by
tested_suspended t w e f still =
    unreached t w false (ap₂ (λ (g s : Bool). output_by (rs_set w) g s w) e f)
    (λ x. ap₂ (λ (a b : Bool). pick {A = Sums} a none (pick b none x)) (ap₂ (λ (g s : Bool). left_by (rs_set w) g s w) e f) (ap₂ (λ (g b : Bool). not g && b) e still))

module _ (c : Settings) (a : Areas) (long : Long a) (few : leb c.spans 16 ≡ true) (t : ℕ) (m : Memory) (fit : Fit m) (q : Phase) (u s : ℕ) (early : u < MOST) where
  abbrev stack : Bool
  stack = c.device_stack

  pub leads_suspends : any_span (take c.spans c.gone) t ≡ false → within c.suspend t ≡ true
      → (y : Tally) → Leads c a (microframe t (lend a m) ∷ []) (standing q false 0 u s stack) (marked true q (u + 1) s stack) y y
  leads_suspends near asleep y =
      leads_one c a long few t m fit (standing q false 0 u s stack) early (marked true q (u + 1) s stack) y y (λ w e.
      let spans : gone_at t w ≡ false = ap (λ (x : Settings). any_span (take x.spans x.gone) t) e.settings ∙ near in
      let sleeping : asleep_at t w ≡ true = ap (λ (x : Settings). within x.suspend t) e.settings ∙ asleep in
      let still : w.state.port.gone ≡ false = ap (λ (x : Stand). x.gone) e.stands in
      let now =
      frame_suspends t w spans sleeping still (ap (λ (x : Stand). x.suspended) e.stands) (omega (arith, ap (λ (x : Stand). x.uf) e.stands, early))
      ∙ ap (λ (x : Stand). suspended_held (counting (x.uf + 1) (record { stand = x; queue = w.own.setups }))) e.stands in
      record {
        stands = ap (λ (x : Held). x.stand) now;
        queue = λ h. subst Queue (sym (ap (λ (x : Held). x.queue) now)) h;
        sums = tested_tally t w false false 0 false (tested_suspended t w spans sleeping still) y;
      })

-- ---- the sleep span: MIDI input is not read (775-776)

pub aside_asleep : (t : ℕ) (w : World) → Streams t w → w.state.phase ≡ Stream → w.settings.device_stack ≡ false → w.settings.midi_in ≡ true → within w.settings.sleep t ≡ true
    → aside_of (left (M.microframe t) w) ≡ slept (aside_of w)
unfolding talks transfers others midi_in stream_by
aside_asleep t w s ph stack midi asleep =
    let c = w.settings in
    let u = stream_by true w in
    ap aside_of (frame_in_lem t w s.plain Stream ph ∙ when_true (λ v. true) (enumerates c then transfers c t) (phase_by true w) refl ∙ exec_then apply (enumerates c) (transfers c t) (phase_by true w))
    ∙ ap aside_of (when_true (λ v. streaming v.state.phase) _ u (streaming_stream w s.plain.still ∙ s.streams) ∙ if_false (λ v. c.cdc) serial_step (bridge_steps c t) u s.plain.audio)
    ∙ fields_then aside streams (others c t) u
    ∙ fields_then aside (midi_steps c t) (stack_steps c.device_stack) (left streams u)
    ∙ ap aside_of (when_false (λ v. c.device_stack) (midi_out then reads_vendor) (left (midi_steps c t) (left streams u)) stack)
    ∙ ap aside_of (when_true (λ v. c.midi_in) (midi_in (within c.sleep t) c.midi_every) (left streams u) midi)
    ∙ ap (λ (b : Bool). aside_of (left (midi_in b c.midi_every) (left streams u))) asleep
    ∙ sleeps_once (left streams u)
    ∙ ap slept (still_streams aside_ignored aside aside_plain u ∙ aside_stream true w stack)

-- ---- of calls

abbrev pub aside_host : Host → Aside
aside_host h = record { block = h.audio.block; channels = h.audio.channels; asleep = counter_of midi_asleep h.stats }

-- settings without the device stack, and a time in none of their spans
pub record Awake (c : Settings) (t : ℕ) : Type 0 where
  pub there : any_span (take c.spans c.gone) t ≡ false
  pub awake : within c.suspend t ≡ false
  pub reads : within c.sleep t ≡ false
  pub stack : c.device_stack ≡ false

pub record Alike (h g : Host) : Type 0 where
  pub settings : g.settings ≡ h.settings
  pub aside : aside_host g ≡ aside_host h

pub aside_step : (c : Settings) (t : ℕ) → Awake c t → (l : Lent) (h : Host) → h.settings ≡ c → Alike h (step h (microframe t l))
unfolding step framed
aside_step c t k l h e = by_number (eqb (frame_number h l) 0)
  where
    by_number : (b : Bool) → Alike h (host_in (pick b (left (M.microframe t) (world_of h l)) (world_of h l)))
    by_number true =
        let w = world_of h l in
        record {
          settings = ap (λ (z : Shape). z.settings) (shape_kept t w);
          aside =
              aside_awake t w (ap (λ (x : Settings). any_span (take x.spans x.gone) t) e ∙ k.there) (ap (λ (x : Settings). within x.suspend t) e ∙ k.awake)
              (ap (λ (x : Settings). x.device_stack) e ∙ k.stack) (ap (λ (x : Settings). within x.sleep t) e ∙ k.reads);
        }
    by_number false = record { settings = refl; aside = refl }

-- the same call any number of times
pub aside_waits : (c : Settings) (t : ℕ) → Awake c t → (l : Lent) (n : ℕ) (h : Host) → h.settings ≡ c → Alike h (after h (replicate n (microframe t l)))
unfolding after
aside_waits c t k l zero h e = record { settings = refl; aside = refl }
aside_waits c t k l (suc n) h e =
    let s = aside_step c t k l h e in
    let r = aside_waits c t k l n (step h (microframe t l)) (s.settings ∙ e) in
    record { settings = r.settings ∙ s.settings; aside = r.aside ∙ s.aside }
