-- What few steps of a microframe change: the block that is sent, its channels, and the microframes in which no MIDI was read; and how a list keeps them.
use Prim.Native.Nat.{ℕ, ◌+◌}
use mathlib.Core.Path.{◌≡◌, refl, ap, sym, ◌∙◌}
use mathlib.Core.Bool.{Bool, true, false, not}
use lib.Dec.{eqb}
use Rattle.bus.proofs.Sizes.{and_true}
use Rattle.bits.proofs.Tests.{false_true}
use Rattle.record.specs.declared.Phase.{Phase}
use Rattle.record.specs.declared.Phase.TheVariants.{Idle, Vbus, Reset, Enumerate, Stream}
use Rattle.record.specs.declared.Settings.{Settings}
use Rattle.record.specs.Record.{wrapped, raised, Counter, place, midi_asleep, counter_of}
use Rattle.record.proofs.Counters.{rose, raised_by, rose_other}
use Rattle.record.specs.World.{World}
use Rattle.record.specs.Parts as Part
use Rattle.record.specs.Change.{Change, bus, ran, lost, count, timers, apply, left, nothing, one, here, port, audio, request, stream}
use Rattle.record.proofs.Beside.{port_beside, request_beside, stream_beside}
use Rattle.model.specs.Phases.{within, sleeps, suspends, leaves, starts_frame}
use Rattle.model.specs.Control.{controls}
use Rattle.model.specs.Streams.{midi_in}
use Rattle.model.specs.Microframe.{rs_set, gone_at, asleep_at, opens, transfers, enumerates, talks, at_phase, by_phase, frame_of, microframe}
use Rattle.model.specs.Reach.{to_phase, phase_by, stream_by, at_output}
use Rattle.model.proofs.Plain.{Ignored, plain_by, plain_counter_by, still_idles, still_powers, still_resets, still_frame, still_controls, still_hears, still_awake, still_transfers, still_opens, still_suspends}
use Rattle.model.proofs.Progress.{frame_plain}
use Rattle.model.proofs.Fields.{Fields, Keeps, fields_then, keeps_then, keeps_if, keeps_nothing, keeps_here}

pub record Aside : Type 0 where
  pub block : ℕ
  pub channels : ℕ
  pub asleep : ℕ

abbrev pub aside_of : World → Aside
aside_of w = record { block = w.state.audio.block; channels = w.state.audio.channels; asleep = counter_of midi_asleep w.state.stats }

-- one microframe more in which no MIDI was read
abbrev pub slept : Aside → Aside
slept k = record { block = k.block; channels = k.channels; asleep = wrapped (k.asleep + 1) }

abbrev asleep_is : Aside → ℕ → Aside
asleep_is k n = record { block = k.block; channels = k.channels; asleep = n }

abbrev pub aside_counts : Counter → ℕ → Aside → Aside
aside_counts c n k = asleep_is k (rose (place midi_asleep) (place c) n k.asleep)

abbrev pub aside_on : Change → Aside → Aside
aside_on (bus s) k = k
aside_on (ran e r n) k = k
aside_on (lost n) k = k
aside_on (count c n) k = aside_counts c n k
aside_on (timers ts) k = k
aside_on (port c) k = k
aside_on (audio (Part.credit n)) k = k
aside_on (audio (Part.budget n)) k = k
aside_on (audio (Part.counter n)) k = k
aside_on (audio (Part.block n m)) k = record { block = n; channels = m; asleep = k.asleep }
aside_on (audio (Part.frame f)) k = k
aside_on (audio (Part.taken n)) k = k
aside_on (request c) k = k
aside_on (stream c) k = k

aside_count : (c : Counter) (n : ℕ) (w : World) → aside_of (apply (count c n) w) ≡ aside_on (count c n) (aside_of w)
unfolding apply
aside_count c n w = ap (asleep_is (aside_of w)) (raised_by (place midi_asleep) (place c) n w.state.stats)

pub aside_apply : (c : Change) (w : World) → aside_of (apply c w) ≡ aside_on c (aside_of w)
unfolding apply
aside_apply (bus s) w = refl
aside_apply (ran e r n) w = refl
aside_apply (lost n) w = refl
aside_apply (count c n) w = aside_count c n w
aside_apply (timers ts) w = refl
aside_apply (port c) w = ap aside_of (port_beside c w)
aside_apply (audio (Part.credit n)) w = refl
aside_apply (audio (Part.budget n)) w = refl
aside_apply (audio (Part.counter n)) w = refl
aside_apply (audio (Part.block n m)) w = refl
aside_apply (audio (Part.frame f)) w = refl
aside_apply (audio (Part.taken n)) w = refl
aside_apply (request c) w = ap aside_of (request_beside c w)
aside_apply (stream c) w = ap aside_of (stream_beside c w)

abbrev pub aside : Fields Aside
aside =
    record {
      of = aside_of;
      on = aside_on;
      applies = aside_apply;
      stores = λ s k. refl;
      marks = λ e n m k. refl;
      drops = λ n k. refl;
    }

-- of the changes beside the plain ones only the block touches them
abbrev pub aside_ignored : Ignored
aside_ignored = record { block = false; enumerations = true; midi = true; marks = true }

aside_counter : (c : Counter) → plain_counter_by aside_ignored c ≡ true → (n : ℕ) (k : Aside) → aside_on (count c n) k ≡ k
aside_counter c h n k =
    ap (asleep_is k) (rose_other (place midi_asleep) (place c) n k.asleep (and_true (not (eqb (place midi_asleep) (place c))) _ h).0)

pub aside_plain : (c : Change) → plain_by aside_ignored c ≡ true → (k : Aside) → aside_on c k ≡ k
aside_plain (bus s) h k = refl
aside_plain (ran e r n) h k = refl
aside_plain (lost n) h k = refl
aside_plain (count c n) h k = aside_counter c h n k
aside_plain (timers ts) h k = refl
aside_plain (port c) h k = refl
aside_plain (audio (Part.credit n)) h k = refl
aside_plain (audio (Part.budget n)) h k = refl
aside_plain (audio (Part.counter n)) h k = refl
aside_plain (audio (Part.block n m)) h k = absurd (false_true h)
aside_plain (audio (Part.frame f)) h k = refl
aside_plain (audio (Part.taken n)) h k = refl
aside_plain (request c) h k = refl
aside_plain (stream c) h k = refl

-- ---- the whole microframe

keeps_midi : (asleep : Bool) (every : ℕ) → asleep ≡ false → Keeps aside (midi_in asleep every)
keeps_midi true every e = λ w. absurd (false_true (sym e))
keeps_midi false every e = still_awake aside_ignored aside aside_plain refl every

keeps_leaves : (rs : Bool) → Keeps aside (leaves false rs)
unfolding leaves
keeps_leaves rs = keeps_nothing aside

keeps_transfers : (c : Settings) (t : ℕ) → within c.sleep t ≡ false → Keeps aside (transfers c t)
keeps_transfers c t e = still_transfers aside_ignored aside aside_plain refl c t (keeps_midi (within c.sleep t) c.midi_every e)

keeps_enumerates : (c : Settings) → c.device_stack ≡ false → Keeps aside (enumerates c)
unfolding enumerates
keeps_enumerates c e w =
    fields_then aside starts_frame _ w
    ∙ ap (λ (b : Bool). aside_of (left (controls b) (left starts_frame w))) e
    ∙ still_controls aside_ignored aside aside_plain refl false refl (left starts_frame w) ∙ still_frame aside_ignored aside aside_plain w

keeps_talks : (c : Settings) (t : ℕ) (rs : Bool) → c.device_stack ≡ false → within c.sleep t ≡ false → Keeps aside (talks c t rs)
unfolding talks
keeps_talks c t rs e f = keeps_if aside _ _ nothing (keeps_then aside _ _ (keeps_enumerates c e) (keeps_transfers c t f)) (keeps_nothing aside)

keeps_phase : (c : Settings) (t : ℕ) (rs : Bool) → c.device_stack ≡ false → within c.sleep t ≡ false → (p : Phase) → Keeps aside (at_phase c t rs p)
keeps_phase c t rs e f Idle = still_idles aside_ignored aside aside_plain
keeps_phase c t rs e f Vbus = still_powers aside_ignored aside aside_plain rs
keeps_phase c t rs e f Reset = still_resets aside_ignored aside aside_plain
keeps_phase c t rs e f Enumerate = keeps_talks c t rs e f
keeps_phase c t rs e f Stream = keeps_talks c t rs e f

-- up to the choice by phase
aside_opened : (c : Settings) (rs : Bool) → c.device_stack ≡ false → (w : World) → aside_of (left (to_phase c rs) w) ≡ aside_of w
unfolding to_phase
aside_opened c rs e w =
    fields_then aside (opens c false) _ w
    ∙ fields_then aside (suspends false) _ (left (opens c false) w)
    ∙ ap (λ (b : Bool). aside_of (left (leaves b rs) (left (suspends false) (left (opens c false) w)))) e
    ∙ keeps_leaves rs _ ∙ still_suspends aside_ignored aside aside_plain refl false _ ∙ still_opens aside_ignored aside aside_plain refl c w

-- at the stream step, and at the output step
pub aside_stream : (rs : Bool) (w : World) → w.settings.device_stack ≡ false → aside_of (stream_by rs w) ≡ aside_of w
unfolding stream_by phase_by
aside_stream rs w e = keeps_enumerates w.settings e (phase_by rs w) ∙ aside_opened w.settings rs e w

pub aside_output : (w : World) → w.settings.device_stack ≡ false → aside_of (at_output w) ≡ aside_of w
aside_output w e = still_hears aside_ignored aside aside_plain (stream_by (rs_set w) w) ∙ aside_stream (rs_set w) w e

-- a microframe that is neither gone, nor suspended, nor asleep, without the device stack
pub aside_awake : (t : ℕ) (w : World) → gone_at t w ≡ false → asleep_at t w ≡ false → w.settings.device_stack ≡ false → within w.settings.sleep t ≡ false → aside_of (left (microframe t) w) ≡ aside_of w
unfolding by_phase phase_by
aside_awake t w e f g h =
    let c = w.settings in
    ap aside_of (frame_plain t w e f)
    ∙ keeps_here aside (λ v. at_phase c t (rs_set w) v.state.phase) (λ v. keeps_phase c t (rs_set w) g h v.state.phase) _
    ∙ aside_opened c (rs_set w) g w

-- one that is suspended
pub sleeps_once : (v : World) → aside_of (left sleeps v) ≡ slept (aside_of v)
unfolding sleeps one apply raised
sleeps_once v = refl

by_suspend : (t : ℕ) (rs g s : Bool) (w : World) → g ≡ false → s ≡ true → aside_of (left (frame_of w.settings t rs g s) w) ≡ slept (aside_of w)
unfolding frame_of
by_suspend t rs true s w e f = absurd (false_true (sym e))
by_suspend t rs false false w e f = absurd (false_true f)
by_suspend t rs false true w e f =
    let c = w.settings in
    fields_then aside (opens c false) _ w
    ∙ fields_then aside (suspends true) sleeps (left (opens c false) w)
    ∙ sleeps_once _ ∙ ap slept (still_suspends aside_ignored aside aside_plain refl true _ ∙ still_opens aside_ignored aside aside_plain refl c w)

pub aside_suspended : (t : ℕ) (w : World) → gone_at t w ≡ false → asleep_at t w ≡ true → aside_of (left (microframe t) w) ≡ slept (aside_of w)
unfolding microframe here
aside_suspended t w e f = by_suspend t (rs_set w) (gone_at t w) (asleep_at t w) w e f
