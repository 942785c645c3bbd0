-- What decides a host's way to its stream: phase, request, setups that wait, the microframe count, the phase's start, gone and RS seen set; and
-- what they are at the choice by phase (usbhost.rs 448).
use Prim.Native.Nat.{ℕ, ◌+◌, ◌-◌, ◌*◌, ◌/◌}
use mathlib.Core.Path.{◌≡◌, refl, ap, sym, ◌∙◌}
use mathlib.Core.Bool.{Bool, true, false, not, ◌&&◌}
use mathlib.Core.List.{List, ◌++◌}
use lib.ListN.{length, take}
use lib.Seq.{sets}
use Rattle.bits.specs.Pick.{pick}
use Rattle.bits.proofs.Tests.{false_true}
use Rattle.bus.specs.Steps.{and_then, exec_choose}
use Rattle.record.specs.declared.Phase.{Phase}
use Rattle.record.specs.declared.Control.{Control}
use Rattle.record.specs.declared.Settings.{Settings}
use Rattle.record.specs.Record.{raised, wrapped}
use Rattle.record.specs.World.{World}
use Rattle.record.specs.Parts as Part
use Rattle.record.specs.Change.{Change, bus, ran, lost, count, timers, apply, drained, Step, left, nothing, if, when, one, here, port, audio, request, stream}
use Rattle.record.proofs.Beside.{audio_beside, stream_beside}
use Rattle.model.specs.Phases.{counts, ticks, cable, suspends, leaves}
use Rattle.model.specs.Microframe.{rs_set, gone_at, asleep_at, opens, by_phase, at_phase, frame_of, microframe}
use Rattle.model.specs.Reach.{to_phase, phase_by, left_by, device_left}
use Rattle.model.specs.Progress.{Present}
use Rattle.model.proofs.Fields.{Fields, Keeps, fields_then, keeps_if, keeps_nothing}
use Rattle.model.proofs.Leaving.{keeps_ticks, keeps_suspends}
use Rattle.model.proofs.History.{four}

-- waiting and queue: how many setups wait, and their array; t: the phase's start
pub record Stand : Type 0 where
  pub phase : Phase
  pub control : Control
  pub waiting : ℕ
  pub queue : List ℕ
  pub uf : ℕ
  pub t : ℕ
  pub gone : Bool
  pub was_running : Bool

abbrev pub stand_by : Phase → Control → ℕ → List ℕ → ℕ → ℕ → Bool → Bool → Stand
stand_by p c n q u t g r = record { phase = p; control = c; waiting = n; queue = q; uf = u; t = t; gone = g; was_running = r }

abbrev pub stand_of : World → Stand
stand_of w =
    stand_by w.state.phase w.state.control w.state.lengths.setups w.own.setups w.state.port.uf w.state.port.t w.state.port.gone w.state.port.was_running

abbrev pub stand_on : Change → Stand → Stand
stand_on (bus s) k = k
stand_on (ran e r n) k = k
stand_on (lost n) k = k
stand_on (count c n) k = k
stand_on (timers ts) k = k
stand_on (port (Part.uf n)) k = stand_by k.phase k.control k.waiting k.queue n k.t k.gone k.was_running
stand_on (port (Part.phase p)) k = stand_by p k.control k.waiting k.queue k.uf k.t k.gone k.was_running
stand_on (port (Part.started n)) k = stand_by k.phase k.control k.waiting k.queue k.uf n k.gone k.was_running
stand_on (port (Part.gone b)) k = stand_by k.phase k.control k.waiting k.queue k.uf k.t b k.was_running
stand_on (port (Part.suspended b)) k = k
stand_on (port (Part.was_running b)) k = stand_by k.phase k.control k.waiting k.queue k.uf k.t k.gone b
stand_on (audio c) k = k
stand_on (request (Part.control c)) k = stand_by k.phase c k.waiting k.queue k.uf k.t k.gone k.was_running
stand_on (request (Part.queued bs)) k = stand_by k.phase k.control (k.waiting + length bs / 8) (sets k.queue (8 * k.waiting) bs) k.uf k.t k.gone k.was_running
stand_on (request Part.popped) k = stand_by k.phase k.control (k.waiting - 1) (drained k.queue (8 * k.waiting) 8) k.uf k.t k.gone k.was_running
stand_on (request (Part.pushed bs)) k = stand_by k.phase k.control (k.waiting + 1) (sets k.queue 0 (bs ++ take (8 * k.waiting) k.queue)) k.uf k.t k.gone k.was_running
stand_on (request Part.cleared) k = stand_by k.phase k.control 0 k.queue k.uf k.t k.gone k.was_running
stand_on (request (Part.reply n bs)) k = k
stand_on (request (Part.device bs)) k = k
stand_on (request (Part.config bs)) k = k
stand_on (request Part.forgot) k = k
stand_on (stream c) k = k

pub stand_apply : (c : Change) (w : World) → stand_of (apply c w) ≡ stand_on c (stand_of w)
unfolding apply
stand_apply (bus s) w = refl
stand_apply (ran e r n) w = refl
stand_apply (lost n) w = refl
stand_apply (count c n) w = refl
stand_apply (timers ts) w = refl
stand_apply (port (Part.uf n)) w = refl
stand_apply (port (Part.phase p)) w = refl
stand_apply (port (Part.started n)) w = refl
stand_apply (port (Part.gone b)) w = refl
stand_apply (port (Part.suspended b)) w = refl
stand_apply (port (Part.was_running b)) w = refl
stand_apply (audio c) w = ap stand_of (audio_beside c w)
stand_apply (request (Part.control c)) w = refl
stand_apply (request (Part.queued bs)) w = refl
stand_apply (request Part.popped) w = refl
stand_apply (request (Part.pushed bs)) w = refl
stand_apply (request Part.cleared) w = refl
stand_apply (request (Part.reply n bs)) w = refl
stand_apply (request (Part.device bs)) w = refl
stand_apply (request (Part.config bs)) w = refl
stand_apply (request Part.forgot) w = refl
stand_apply (stream c) w = ap stand_of (stream_beside c w)

abbrev pub stands : Fields Stand
stands =
    record {
      of = stand_of;
      on = stand_on;
      applies = stand_apply;
      stores = λ s k. refl;
      marks = λ e n m k. refl;
      drops = λ n k. refl;
    }

-- ---- a step by its test

pub if_true : (t : World → Bool) (f g : Step) (w : World) → t w ≡ true → left (if t f g) w ≡ left f w
if_true t f g w e = exec_choose apply t f g w ∙ ap (λ (b : Bool). pick b (left f w) (left g w)) e

pub if_false : (t : World → Bool) (f g : Step) (w : World) → t w ≡ false → left (if t f g) w ≡ left g w
if_false t f g w e = exec_choose apply t f g w ∙ ap (λ (b : Bool). pick b (left f w) (left g w)) e

pub when_true : (t : World → Bool) (f : Step) (w : World) → t w ≡ true → left (when t f) w ≡ left f w
when_true t f w e = if_true t f nothing w e

pub when_false : (t : World → Bool) (f : Step) (w : World) → t w ≡ false → left (when t f) w ≡ w
unfolding nothing
when_false t f w e = if_false t f nothing w e

-- ---- up to the choice by phase

-- one microframe more (375)
abbrev pub next : Stand → Stand
next k = stand_by k.phase k.control k.waiting k.queue (wrapped (k.uf + 1)) k.t k.gone k.was_running

abbrev pub seen : Bool → Stand → Stand
seen b k = stand_by k.phase k.control k.waiting k.queue k.uf k.t k.gone b

stand_counts : (w : World) → stand_of (left counts w) ≡ next (stand_of w)
unfolding counts and_then one apply raised
stand_counts w = refl

pub keeps_resumes : Keeps stands (suspends false)
keeps_resumes = keeps_suspends stands (λ b k. refl) false

-- timers or none
pub stand_ticks : (c : Settings) (w : World) → stand_of (left (when (λ v. c.midi_in) ticks) (left counts w)) ≡ next (stand_of w)
stand_ticks c w = keeps_if stands _ ticks nothing (keeps_ticks stands (λ ts k. refl)) (keeps_nothing stands) (left counts w) ∙ stand_counts w

-- 374-407: the host was not gone: nothing comes back
pub stand_opens : (c : Settings) (w : World) → w.state.port.gone ≡ false → stand_of (left (opens c false) w) ≡ next (stand_of w)
unfolding opens cable
stand_opens c w e =
    let u = left (when (λ v. c.midi_in) ticks) (left counts w) in
    fields_then stands _ _ w
    ∙ fields_then stands _ _ (left counts w)
    ∙ ap stand_of (when_false (λ v. v.state.port.gone) _ u (ap (λ (k : Stand). k.gone) (stand_ticks c w) ∙ e))
    ∙ stand_ticks c w

-- 430-447: the device did not leave: RS is noted at most
stand_leaves : (stack rs : Bool) (v : World) → (not rs && (stack && v.state.port.was_running)) ≡ false → stand_of (left (leaves stack rs) v) ≡ seen (pick (stack && rs) true v.state.port.was_running) (stand_of v)
unfolding leaves one apply
stand_leaves false rs v e = keeps_nothing stands v
stand_leaves true true v e = refl
stand_leaves true false v e = ap stand_of (when_false (λ w. w.state.port.was_running) _ v e)

pub stand_phase : (rs : Bool) (w : World) → w.state.port.gone ≡ false → (not rs && (w.settings.device_stack && w.state.port.was_running)) ≡ false
    → stand_of (phase_by rs w) ≡ seen (pick (w.settings.device_stack && rs) true w.state.port.was_running) (next (stand_of w))
unfolding phase_by to_phase
stand_phase rs w e f =
    let c = w.settings in
    let v = left (suspends false) (left (opens c false) w) in
    let same : stand_of v ≡ next (stand_of w) = keeps_resumes (left (opens c false) w) ∙ stand_opens c w e in
    fields_then stands _ _ w
    ∙ fields_then stands _ _ (left (opens c false) w)
    ∙ stand_leaves c.device_stack rs v (ap (λ (k : Stand). not rs && (c.device_stack && k.was_running)) same ∙ f)
    ∙ ap (λ (k : Stand). seen (pick (c.device_stack && rs) true k.was_running) k) same

-- ---- the whole microframe of a host that is there

by_tests : (t : ℕ) (rs g s : Bool) (w : World) → g ≡ false → s ≡ false → left (frame_of w.settings t rs g s) w ≡ left (by_phase w.settings t rs) (phase_by rs w)
unfolding frame_of phase_by to_phase
by_tests t rs true s w e f = absurd (false_true (sym e))
by_tests t rs false true w e f = absurd (false_true (sym f))
by_tests t rs false false w e f = four (opens w.settings false) (suspends false) (leaves w.settings.device_stack rs) (by_phase w.settings t rs) w

pub frame_plain : (t : ℕ) (w : World) → gone_at t w ≡ false → asleep_at t w ≡ false → left (microframe t) w ≡ left (by_phase w.settings t (rs_set w)) (phase_by (rs_set w) w)
unfolding microframe here
frame_plain t w e f = by_tests t (rs_set w) (gone_at t w) (asleep_at t w) w e f

-- 430-435: the device did not leave, by the entry values
stayed_by : (rs g s : Bool) (w : World) → g ≡ false → s ≡ false → left_by rs g s w ≡ false → (not rs && (w.settings.device_stack && w.state.port.was_running)) ≡ false
unfolding left_by
stayed_by rs true s w e f h = absurd (false_true (sym e))
stayed_by rs false true w e f h = absurd (false_true (sym f))
stayed_by rs false false w e f h = h

module _ (t : ℕ) (w : World) (p : Present t w) where
  abbrev pub there : World
  there = phase_by (rs_set w) w

  -- the stand at the choice by phase: one microframe more
  abbrev pub opened : Stand
  opened = seen (pick (w.settings.device_stack && rs_set w) true w.state.port.was_running) (next (stand_of w))

  module _ (stayed : device_left t w ≡ false) where
    pub stand_there : stand_of there ≡ opened
    stand_there = stand_phase (rs_set w) w p.still (stayed_by (rs_set w) (gone_at t w) (asleep_at t w) w p.there p.awake stayed)

    pub frame_in_lem : (q : Phase) → w.state.phase ≡ q → left (microframe t) w ≡ left (at_phase w.settings t (rs_set w) q) there
    unfolding by_phase here
    frame_in_lem q e =
        frame_plain t w p.there p.awake
        ∙ ap (λ (x : Phase). left (at_phase w.settings t (rs_set w) x) there) (ap (λ (k : Stand). k.phase) stand_there ∙ e)

-- with RS set no device leaves (433-435)
pub stays_running : (t : ℕ) (w : World) → rs_set w ≡ true → device_left t w ≡ false
unfolding left_by
stays_running t w e = none (gone_at t w) (asleep_at t w) (rs_set w) e
  where
    none : (g s rs : Bool) → rs ≡ true → (not g && (not s && (not rs && (w.settings.device_stack && w.state.port.was_running)))) ≡ false
    none true s rs r = refl
    none false true rs r = refl
    none false false true r = refl
    none false false false r = absurd (false_true r)
