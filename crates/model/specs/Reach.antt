-- Which microframes reach the audio input and the audio output step, by entry values alone, and the World as it stands there
-- (document 01, "Host record": the first definition).
use Rattle.std.specs.Prelude.{ℕ, ◌+◌, Bool, false, not, ◌&&◌, ◌||◌, List, [], eqb, ltb}
use Rattle.dtd.specs.Dtd.{run_dtds}
use Rattle.record.specs.declared.Settings.{Settings}
use Rattle.record.specs.Record.{wrapped}
use Rattle.record.specs.World.{World, bus_of}
use Rattle.record.specs.Change.{Step, ◌then◌, left}
use Rattle.model.specs.Phases.{suspends, leaves}
use Rattle.model.specs.Control.{enumerating}
use Rattle.model.specs.Streams.{ready, next_total}
use Rattle.model.specs.Audio.{audio_in, audio_out, BLOCK, named, adds_budget, clears_budget, stream_in}
use Rattle.model.specs.Microframe.{rs_set, gone_at, asleep_at, streaming, opens, enumerates}

-- ---- reaching, in closed form; rs, g and s: RS, gone and suspended by the entry values

-- 488, 497: the phase is streaming, or enumeration ends in this microframe (624-627): no request runs and no setup waits
abbrev pub streams_in : World → Bool
streams_in w = streaming w.state.phase || (enumerating w.state.phase && (not w.state.control.on && eqb w.state.lengths.setups 0))

-- 408: not gone; 426: not suspended; 387, 397: not just back, since a fresh host is Idle; 433, 489: RS; 497: no serial device
unfoldable pub output_by : Bool → Bool → Bool → World → Bool
output_by rs g s w = not g && (not s && (not w.state.port.gone && (rs && (not w.settings.cdc && streams_in w))))

-- the way to the choice by phase (448), and to the stream step (500)
unfoldable pub to_phase : Settings → Bool → Step
to_phase c rs = opens c false then suspends false then leaves c.device_stack rs

-- the World at the choice by phase, and at the stream step
unfoldable pub phase_by : Bool → World → World
phase_by rs w = left (to_phase w.settings rs) w

unfoldable pub stream_by : Bool → World → World
stream_by rs w = left (enumerates w.settings) (phase_by rs w)

-- 858-866: no descriptor is named at the stream step, or its bytes are within the budget at entry with one packet's bytes more
unfoldable pub within_budget : ℕ → World → Bool
within_budget budget u = not (named u && ltb (wrapped (budget + BLOCK)) (next_total audio_in u))

unfoldable pub input_by : Bool → Bool → Bool → World → Bool
input_by rs g s w = output_by rs g s w && within_budget w.state.audio.budget (stream_by rs w)

-- ---- resets of the credit

-- host back: tests 384-387, reset 400
unfoldable pub back_by : Bool → World → Bool
back_by g w = not g && w.state.port.gone

-- device left: tests 408, 426, 430, 433, 435, reset 441
unfoldable pub left_by : Bool → Bool → Bool → World → Bool
left_by rs g s w = not g && (not s && (not rs && (w.settings.device_stack && w.state.port.was_running)))

-- ---- the same by the time

abbrev pub reaches_output : ℕ → World → Bool
reaches_output t w = output_by (rs_set w) (gone_at t w) (asleep_at t w) w

abbrev pub reaches_input : ℕ → World → Bool
reaches_input t w = input_by (rs_set w) (gone_at t w) (asleep_at t w) w

abbrev pub comes_back : ℕ → World → Bool
comes_back t w = back_by (gone_at t w) w

abbrev pub device_left : ℕ → World → Bool
device_left t w = left_by (rs_set w) (gone_at t w) (asleep_at t w) w

-- ---- the World at the stream step, at the input step and at the output step

abbrev pub at_stream : World → World
at_stream w = stream_by (rs_set w) w

-- 863, 867: past the budget
unfoldable pub paced : World → World
paced u = left clears_budget (left adds_budget u)

abbrev pub at_input : World → World
at_input w = paced (at_stream w)

abbrev pub at_output : World → World
at_output w = left stream_in (at_stream w)

-- primed, with an active next descriptor: input 538, 547, 551; output 904, 909, 915
unfoldable pub input_ready : World → Bool
input_ready w = ready audio_in w

unfoldable pub output_ready : World → Bool
output_ready w = ready audio_out w

-- the bytes of the run at the input step
unfoldable pub bytes_at : World → List ℕ
bytes_at w = (run_dtds audio_in [] (bus_of w)).bytes
