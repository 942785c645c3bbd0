-- What the port's marks are said of: the spans that hold a time, and the run bit of USBCMD (document 01, "Host record").
use Rattle.std.specs.Prelude.{ℕ, ◌%◌, ◌≤◌, ◌<◌, true, List, ◌≡◌, get_or}
use Rattle.bus.specs.Words.{word_at}
use Rattle.record.specs.declared.Settings.{Settings}
use Rattle.record.specs.World.{World}
use Rattle.record.specs.Record.{no_span, counter_of, midi_dtds}
use Rattle.model.specs.Reach.{reaches_output}

-- a span holds its start and not its end
pub record Between (from to t : ℕ) : Type 0 where
  pub start : from ≤ t
  pub end : t < to

-- a gone span of the settings holds t: one of the first `spans`
pub record InGone (c : Settings) (t : ℕ) : Type 0 where
  pub i : ℕ
  pub listed : i < c.spans
  pub start : (get_or c.gone i no_span).from ≤ t
  pub end : t < (get_or c.gone i no_span).to

-- the suspend span holds t, and the MIDI sleep span
abbrev pub InSuspend : Settings → ℕ → Type 0
InSuspend c t = Between c.suspend.from c.suspend.to t

abbrev pub InSleep : Settings → ℕ → Type 0
InSleep c t = Between c.sleep.from c.sleep.to t

-- RS: bit 0 of USBCMD, which is the word at 140 of the register page
abbrev pub RunBit : List ℕ → Type 0
RunBit page = word_at page 0x140 % 2 ≡ 1

-- 430, by way of 408 and 426: a microframe that looks at RS
pub record RunTested (c : Settings) (t : ℕ) : Type 0 where
  pub stack : c.device_stack ≡ true
  pub present : ¬ InGone c t
  pub awake : ¬ InSuspend c t

-- 409, 427, 776: the host reads no MIDI: gone, or suspended, or at its MIDI step in the sleep span; that step follows the audio output step
pub data NoMidi (t : ℕ) (w : World) : Type 0 where
  cable_out : InGone w.settings t → NoMidi t w
  bus_suspended : InSuspend w.settings t → NoMidi t w
  midi_sleeps : reaches_output t w ≡ true → w.settings.midi_in ≡ true → InSleep w.settings t → NoMidi t w

-- what MIDI that comes changes: the reads counted (794), the receive area with the count of its bytes (805), and the area of their cables (S-2)
pub record MidiCome : Type 0 where
  pub counted : ℕ
  pub bytes : ℕ
  pub area : List ℕ
  pub cables : List ℕ

abbrev pub midi_come : World → MidiCome
midi_come w =
    record { counted = counter_of midi_dtds w.state.stats; bytes = w.state.answer.received; area = w.lent.receive; cables = w.lent.cables }
