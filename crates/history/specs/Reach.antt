-- Which calls reach the audio steps, what a call changes, and what the marks of its runs say, as the descriptors that it retires (document 01, "Host record").
use Rattle.std.specs.Prelude.{ℕ, ◌+◌, ◌*◌, ◌%◌, ◌^◌, Bool, ◌&&◌, List, [], ◌∷◌, ◌≡◌, eqb, leb}
use Rattle.bits.specs.Pick.{pick}
use Rattle.record.specs.Change.{Change}
use Rattle.record.specs.Record.{counter_of, out_frames}
use Rattle.model.specs.Microframe as M
use Rattle.model.specs.Reach as R
use Rattle.model.specs.Reach.{at_input, at_output, input_ready, output_ready}
use Rattle.dtd.specs.Dtd.{Endpoint}
use Rattle.model.specs.Marks.{marked, total}
use Rattle.usbhost.specs.declared.Host.{Host}
use Rattle.usbhost.specs.Frame.{world_of, frame_number}
use Rattle.record.specs.World.{Lent}
use Rattle.history.specs.Calls.{Call, microframe, midi_send, serial_send, frame_give, frame_take, device_read, device_write, step}

-- ---- reaching, of a call: "exactly when it is accepted, neither gone, suspend nor device-left ends it, .."

-- no number of refusal
abbrev pub accepted : Host → Lent → Bool
accepted h l = eqb (frame_number h l) 0

abbrev pub reaches_input : ℕ → Host → Lent → Bool
reaches_input t h l = accepted h l && R.reaches_input t (world_of h l)

abbrev pub reaches_output : ℕ → Host → Lent → Bool
reaches_output t h l = accepted h l && R.reaches_output t (world_of h l)

-- demand 3: primed, next descriptor, active and credit as they stand at the step
abbrev pub call_reads : ℕ → Host → Lent → Bool
call_reads t h l = reaches_input t h l && input_ready (at_input (world_of h l))

abbrev pub call_sends : ℕ → Host → Lent → Bool
call_sends t h l =
    reaches_output t h l && (output_ready (at_output (world_of h l)) && leb 7 (at_output (world_of h l)).state.audio.credit)

-- ---- what a call changes

-- in order: a refused microframe nothing
abbrev pub changes_of : ℕ → Host → Lent → List Change
changes_of t h l = pick (accepted h l) (M.microframe t (world_of h l)) []

-- whatever is asked of the marks of its runs; only microframes run descriptors
unfoldable pub call_marked : (Endpoint → ℕ → ℕ → ℕ) → Host → Call → ℕ
call_marked f h (microframe t l) = total (marked f) (changes_of t h l)
call_marked f h (midi_send cable bs) = 0
call_marked f h (serial_send bs) = 0
call_marked f h (frame_give x sending) = 0
call_marked f h (frame_take received) = 0
call_marked f h (device_read page off size) = 0
call_marked f h (device_write page off size v) = 0

-- over a list of calls, each on the record that the ones before it left
unfoldable pub calls_marked : (Endpoint → ℕ → ℕ → ℕ) → Host → List Call → ℕ
calls_marked f h [] = 0
calls_marked f h (c ∷ cs) = call_marked f h c + calls_marked f (step h c) cs

-- ---- what the record tells

-- n descriptors retired on the audio output endpoint since `new`: seven frames sent for each, and the stream counter, which wraps
pub record SevenEach (h : Host) (n : ℕ) : Type 0 where
  pub frames : counter_of out_frames h.stats ≡ 7 * n
  pub counter : h.audio.counter ≡ 7 * n % 2 ^ 16
