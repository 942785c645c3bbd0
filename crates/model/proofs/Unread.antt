-- In a microframe in which the host reads no MIDI none comes: no read is counted, and the receive area stays as it is.
use Prim.Native.Nat.{ℕ}
use mathlib.Core.Path.{◌≡◌, refl, ap, ◌∙◌}
use mathlib.Core.Bool.{Bool, true, false, not}
use Rattle.bits.specs.Pick.{pick}
use Rattle.bits.proofs.Tests.{false_true, not-true, and_first, and_second}
use Rattle.record.specs.declared.Phase.{Phase}
use Rattle.record.specs.declared.Phase.TheVariants.{Idle, Vbus, Reset, Enumerate, Stream}
use Rattle.record.specs.declared.Settings.{Settings}
use Rattle.record.specs.World.{World}
use Rattle.record.specs.Change.{left, nothing, if, here}
use Rattle.model.specs.Phases.{within, cable, sleeps, suspends, departs, leaves}
use Rattle.model.specs.Streams.{midi_in, serial_step}
use Rattle.model.specs.Audio.{streams}
use Rattle.model.specs.Microframe.{rs_set, gone_at, asleep_at, opens, others, bridge_steps, transfers, talks, at_phase, by_phase, frame_of, microframe}
use Rattle.model.specs.Reach.{output_by}
use Rattle.model.specs.PortMarks.{NoMidi, cable_out, bus_suspended, midi_sleeps, midi_come}
use Rattle.model.proofs.Fields.{Keeps, fields_if, keeps_then, keeps_if, keeps_nothing, keeps_one, keeps_here}
use Rattle.model.proofs.Leaving.{keeps_unplugs, keeps_sleeps, keeps_suspends}
use Rattle.model.proofs.Marking.{come, come_plain}
use Rattle.model.proofs.Plain.{block_and_enumerations, still_counts, still_ticks, still_forgets, still_returns, still_enters, still_idles, still_powers, still_resets, still_enumerates, still_streams, still_writes, still_vendor}
use Rattle.model.proofs.Spans.{within_between, gone_spans, suspend_span}

-- ---- up to the choice by phase

come_cable : (g : Bool) → Keeps come (cable g)
unfolding cable
come_cable true = keeps_unplugs come (λ b k. refl)
come_cable false =
    keeps_if come _ _ nothing (keeps_then come _ _ (keeps_one come _ (λ w. refl)) (still_returns block_and_enumerations come come_plain)) (keeps_nothing come)

pub come_opens : (c : Settings) (g : Bool) → Keeps come (opens c g)
unfolding opens
come_opens c g =
    keeps_then come _ _ (still_counts block_and_enumerations come come_plain)
    (keeps_then come _ _ (keeps_if come _ _ nothing (still_ticks block_and_enumerations come come_plain) (keeps_nothing come)) (come_cable g))

pub come_sleeps : Keeps come sleeps
come_sleeps = keeps_sleeps come (λ n k. refl)

pub come_suspends : (s : Bool) → Keeps come (suspends s)
come_suspends = keeps_suspends come (λ b k. refl)

come_departs : Keeps come departs
unfolding departs
come_departs =
    keeps_then come _ _ (keeps_one come _ (λ w. refl)) (keeps_then come _ _ (still_enters block_and_enumerations come come_plain Vbus) (still_forgets block_and_enumerations come come_plain))

pub come_leaves : (stack rs : Bool) → Keeps come (leaves stack rs)
unfolding leaves
come_leaves false rs = keeps_nothing come
come_leaves true true = keeps_one come _ (λ w. refl)
come_leaves true false = keeps_if come _ departs nothing come_departs (keeps_nothing come)

-- ---- from there, where the device is no serial one and the time lies in the sleep span

come_midi : (asleep : Bool) (every : ℕ) → asleep ≡ true → Keeps come (midi_in asleep every)
unfolding midi_in
come_midi true every e = come_sleeps
come_midi false every e = absurd (false_true e)

module _ (c : Settings) (t : ℕ) (audio : c.cdc ≡ false) (asleep : within c.sleep t ≡ true) where
  come_others : Keeps come (others c t)
  unfolding others
  come_others =
      keeps_then come _ _ (keeps_if come _ _ nothing (come_midi (within c.sleep t) c.midi_every asleep) (keeps_nothing come))
      (keeps_if come _ _ nothing (keeps_then come _ _ (still_writes block_and_enumerations come come_plain) (still_vendor block_and_enumerations come come_plain)) (keeps_nothing come))

  come_transfers : Keeps come (transfers c t)
  unfolding transfers
  come_transfers = keeps_if come _ _ nothing bridge (keeps_nothing come)
    where
      bridge : Keeps come (if (λ w. c.cdc) serial_step (bridge_steps c t))
      bridge w =
          fields_if come (λ w. c.cdc) serial_step (bridge_steps c t) w
          ∙ ap (λ (b : Bool). pick b (midi_come (left serial_step w)) (midi_come (left (bridge_steps c t) w))) audio
          ∙ keeps_then come streams (others c t) (still_streams block_and_enumerations come come_plain) come_others w

  come_talks : (rs : Bool) → Keeps come (talks c t rs)
  unfolding talks
  come_talks rs = keeps_if come _ _ nothing (keeps_then come _ _ (still_enumerates come come_plain c) come_transfers) (keeps_nothing come)

  come_at : (rs : Bool) (p : Phase) → Keeps come (at_phase c t rs p)
  come_at rs Idle = still_idles block_and_enumerations come come_plain
  come_at rs Vbus = still_powers block_and_enumerations come come_plain rs
  come_at rs Reset = still_resets block_and_enumerations come come_plain
  come_at rs Enumerate = come_talks rs
  come_at rs Stream = come_talks rs

  come_by : (rs : Bool) → Keeps come (by_phase c t rs)
  unfolding by_phase
  come_by rs = keeps_here come _ (λ v. come_at rs v.state.phase)

-- ---- the whole

pub come_gone : (c : Settings) (t : ℕ) (rs s : Bool) → Keeps come (frame_of c t rs true s)
unfolding frame_of
come_gone c t rs s = keeps_then come _ _ (come_opens c true) come_sleeps

pub come_suspended : (c : Settings) (t : ℕ) (rs g : Bool) → Keeps come (frame_of c t rs g true)
unfolding frame_of
come_suspended c t rs true = come_gone c t rs true
come_suspended c t rs false =
    keeps_then come _ _ (come_opens c false) (keeps_then come _ _ (come_suspends true) come_sleeps)

come_asleep : (c : Settings) (t : ℕ) → c.cdc ≡ false → within c.sleep t ≡ true → (rs g s : Bool) → Keeps come (frame_of c t rs g s)
unfolding frame_of
come_asleep c t audio asleep rs true s = come_gone c t rs s
come_asleep c t audio asleep rs false true = come_suspended c t rs false
come_asleep c t audio asleep rs false false =
    keeps_then come _ _ (come_opens c false)
    (keeps_then come _ _ (come_suspends false) (keeps_then come _ _ (come_leaves c.device_stack rs) (come_by c t audio asleep rs)))

-- a microframe that reaches the output step has no serial device
no_serial : (rs g s : Bool) (w : World) → output_by rs g s w ≡ true → w.settings.cdc ≡ false
unfolding output_by
no_serial rs g s w e =
    not-true w.settings.cdc
    (and_first (not w.settings.cdc) _ (and_second rs _ (and_second (not w.state.port.gone) _ (and_second (not s) _ (and_second (not g) _ e)))))

-- document 01, "Host record": gone, suspended or in the MIDI sleep span the host reads no MIDI
pub midi_unread : (t : ℕ) (w : World) → NoMidi t w → midi_come (left (microframe t) w) ≡ midi_come w
unfolding microframe here
midi_unread t w (cable_out g) =
    ap (λ (b : Bool). midi_come (left (frame_of w.settings t (rs_set w) b (asleep_at t w)) w)) ((gone_spans t w).1 g)
    ∙ come_gone w.settings t (rs_set w) (asleep_at t w) w
midi_unread t w (bus_suspended s) =
    ap (λ (b : Bool). midi_come (left (frame_of w.settings t (rs_set w) (gone_at t w) b) w)) ((suspend_span t w).1 s)
    ∙ come_suspended w.settings t (rs_set w) (gone_at t w) w
midi_unread t w (midi_sleeps r m s) =
    come_asleep w.settings t (no_serial (rs_set w) (gone_at t w) (asleep_at t w) w r) ((within_between w.settings.sleep t).1 s) (rs_set w) (gone_at t w) (asleep_at t w) w
