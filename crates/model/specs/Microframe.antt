-- The whole of a microframe (document 01, "Host record": counts, timers, gone, suspend, device left, phase; usbhost.rs 373-512).
use Rattle.std.specs.Prelude.{ℕ, Bool, true, false, take}
use Rattle.bits.specs.Word.{any}
use Rattle.bus.specs.Words.{word_at}
use Rattle.usbdev.specs.Offsets.{USBCMD}
use Rattle.record.specs.declared.Phase.{Phase}
use Rattle.record.specs.declared.Phase.TheVariants.{Idle, Vbus, Reset, Enumerate, Stream}
use Rattle.record.specs.declared.Settings.{Settings}
use Rattle.record.specs.World.{World}
use Rattle.record.specs.Change.{Step, ◌then◌, if, when, here}
use Rattle.model.specs.Phases.{within, any_span, counts, ticks, cable, sleeps, suspends, leaves, idles, powers, resets, starts_frame}
use Rattle.model.specs.Control.{controls}
use Rattle.model.specs.Streams.{midi_in, serial_step, midi_out, reads_vendor}
use Rattle.model.specs.Audio.{streams}

-- ---- what is taken from the entry values: RS (379), gone (384), suspended (412)

abbrev pub rs_set : World → Bool
rs_set w = any (word_at w.lent.memory.page USBCMD) 1

abbrev pub gone_at : ℕ → World → Bool
gone_at t w = any_span (take w.settings.spans w.settings.gone) t

abbrev pub asleep_at : ℕ → World → Bool
asleep_at t w = within w.settings.suspend t

-- ---- from the phase on; c: the settings, t: the time, rs: RS

-- 501-503: MIDI input; 504-508: what the device stack adds
abbrev pub midi_steps : Settings → ℕ → Step
midi_steps c t = when (λ w. c.midi_in) (midi_in (within c.sleep t) c.midi_every)

abbrev pub stack_steps : Bool → Step
stack_steps stack = when (λ w. stack) (midi_out then reads_vendor)

-- 501-508: what follows the audio stream
unfoldable pub others : Settings → ℕ → Step
others c t = midi_steps c t then stack_steps c.device_stack

-- 497, 499: the phase is streaming
abbrev pub streaming : Phase → Bool
streaming Idle = false
streaming Vbus = false
streaming Reset = false
streaming Enumerate = false
streaming Stream = true

-- 500-508: the streams of an Overbridge device
abbrev pub bridge_steps : Settings → ℕ → Step
bridge_steps c t = streams then others c t

-- 497-509: the serial device, or the audio stream and what follows it
unfoldable pub transfers : Settings → ℕ → Step
transfers c t = when (λ w. streaming w.state.phase) (if (λ w. c.cdc) serial_step (bridge_steps c t))

-- 493-496: start of frame, and control
unfoldable pub enumerates : Settings → Step
enumerates c = starts_frame then controls c.device_stack

-- 489-509: both, where RS is set
unfoldable pub talks : Settings → ℕ → Bool → Step
talks c t rs = when (λ w. rs) (enumerates c then transfers c t)

-- 448-511: by the phase
abbrev pub at_phase : Settings → ℕ → Bool → Phase → Step
at_phase c t rs Idle = idles
at_phase c t rs Vbus = powers rs
at_phase c t rs Reset = resets
at_phase c t rs Enumerate = talks c t rs
at_phase c t rs Stream = talks c t rs

-- 448: by the phase as it stands there
unfoldable pub by_phase : Settings → ℕ → Bool → Step
by_phase c t rs = here (λ v. at_phase c t rs v.state.phase)

-- 374-407: counts, timers, gone
unfoldable pub opens : Settings → Bool → Step
opens c g = counts then when (λ w. c.midi_in) ticks then cable g

-- 374-512; g and s: gone and suspended
unfoldable pub frame_of : Settings → ℕ → Bool → Bool → Bool → Step
frame_of c t rs true s = opens c true then sleeps
frame_of c t rs false true = opens c false then suspends true then sleeps
frame_of c t rs false false = opens c false then suspends false then leaves c.device_stack rs then by_phase c t rs

-- 373-512: `microframe` at the time t
unfoldable pub microframe : ℕ → Step
microframe t = here (λ v. frame_of v.settings t (rs_set v) (gone_at t v) (asleep_at t v))
