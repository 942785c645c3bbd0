-- What the calls on parts promise: with any settings of that count of gone spans, and any arrays that are not lent, the record by its parts
-- goes as Calls says, and the state's answer, which is no part of the record, stays but in a microframe.
use Rattle.std.specs.Prelude.{ℕ, ◌≡◌, List, []}
use Rattle.midi.specs.declared.Packer.{Packer}
use Rattle.usbdev.specs.Answers.{Value}
use Rattle.record.specs.declared.Settings.{Settings}
use Rattle.record.specs.declared.State.{State}
use Rattle.record.specs.Record.{with_answer}
use Rattle.record.specs.World.{Own, Lent, world, own, own_setups, own_midi, own_serial}
use Rattle.usbhost.specs.declared.Host.{Host}
use Rattle.usbhost.specs.Answers.{Sent, sent, Taken, Read, MidiSent}
use Rattle.usbhost.specs.Host.{host_of, with_gone_spans, no_settings}
use Rattle.usbhost.specs.Calls.{midi_sent, serial_sent, given, given_ring, taken_frame, device_read, device_written, written_page}
use Rattle.usbhost.specs.Frame.{frame_number, framed}

-- settings with a count of gone spans
abbrev pub with_spans : Settings → ℕ → Settings
with_spans c n = with_gone_spans c n c.gone

-- the parts that numbers of refusal read, in a record that is otherwise empty
abbrev pub bare : State → ℕ → List Packer → List ℕ → Host
bare s spans packers setups = host_of s (with_spans no_settings spans) packers (own setups [] [] [])

pub record MidiPromise (s : State) (spans : ℕ) (packers : List Packer) (cable : ℕ) (bs setups midi : List ℕ) (r : MidiSent) (midi' : List ℕ) : Type 0 where
  pub answer : r.state.answer ≡ s.answer
  pub done : (c : Settings) (o : Own)
      → sent r.refusal (host_of r.state (with_spans c spans) r.packers (own_midi (own_setups o setups) midi'))
      ≡ midi_sent (host_of s (with_spans c spans) packers (own_midi (own_setups o setups) midi)) cable bs

pub record SerialPromise (s : State) (spans : ℕ) (packers : List Packer) (bs setups serial : List ℕ) (r : Sent State) (serial' : List ℕ) : Type 0 where
  pub answer : r.next.answer ≡ s.answer
  pub done : (c : Settings) (o : Own)
      → sent r.refusal (host_of r.next (with_spans c spans) packers (own_serial (own_setups o setups) serial'))
      ≡ serial_sent (host_of s (with_spans c spans) packers (own_serial (own_setups o setups) serial)) bs

pub record GivePromise (s : State) (spans : ℕ) (packers : List Packer) (frame setups sending : List ℕ) (r : Sent State) (sending' : List ℕ) : Type 0 where
  pub answer : r.next.answer ≡ s.answer
  pub done : (c : Settings) (o : Own)
      → sent r.refusal (host_of r.next (with_spans c spans) packers (own_setups o setups))
      ≡ given (host_of s (with_spans c spans) packers (own_setups o setups)) frame sending
  pub ring : (c : Settings) (o : Own)
      → sending' ≡ given_ring (host_of s (with_spans c spans) packers (own_setups o setups)) frame sending

pub record TakePromise (s : State) (spans : ℕ) (packers : List Packer) (setups received : List ℕ) (r : Taken State) : Type 0 where
  pub answer : r.next.answer ≡ s.answer
  pub done : (c : Settings) (o : Own)
      → ◌≡◌ {A = Taken Host}
      (record { refusal = r.refusal; empty = r.empty; frame = r.frame; next = host_of r.next (with_spans c spans) packers (own_setups o setups) })
      (taken_frame (host_of s (with_spans c spans) packers (own_setups o setups)) received)

pub record ReadPromise (s : State) (spans : ℕ) (packers : List Packer) (setups page : List ℕ) (off size : ℕ) (r : Value) : Type 0 where
  pub done : (c : Settings) (o : Own)
      → ◌≡◌ {A = Read}
      (record { refusal = r.refusal; value = r.value; host = host_of s (with_spans c spans) packers (own_setups o setups) })
      (device_read (host_of s (with_spans c spans) packers (own_setups o setups)) page off size)

pub record WritePromise (s : State) (spans : ℕ) (packers : List Packer) (setups page : List ℕ) (off size v : ℕ) (r : Sent State) (page' : List ℕ) : Type 0 where
  pub answer : r.next.answer ≡ s.answer
  pub done : (c : Settings) (o : Own)
      → sent r.refusal (host_of r.next (with_spans c spans) packers (own_setups o setups))
      ≡ device_written (host_of s (with_spans c spans) packers (own_setups o setups)) page off size v
  pub written : (c : Settings) (o : Own)
      → page' ≡ written_page (host_of s (with_spans c spans) packers (own_setups o setups)) page off size v

-- ---- the microframe

-- the state that a microframe begins with: nothing received, dropped or retired yet
abbrev pub unanswered : State → State
unanswered s = with_answer s (record { received = 0; dropped = 0; retired = 0 })

-- the record h and what it is lent go as Frame says; the state's answer is the call's
pub record FramePromise (t : ℕ) (h : Host) (l : Lent) (r : Sent State) (o : Own) (l' : Lent) : Type 0 where
  pub number : r.refusal ≡ frame_number h l
  pub outcome : world h.settings h.packers r.next o l' ≡ framed t h l
