-- The parts of the host record with a field changed, and its counters (usbhost.rs 199-310).
use Rattle.std.specs.Prelude.{ℕ, zero, suc, ◌+◌, ◌%◌, ◌^◌, Bool, List, [], ◌∷◌}
use Rattle.gptimers.specs.declared.Timers.{Timers}
use Rattle.record.specs.declared.Phase.{Phase}
use Rattle.record.specs.declared.Stage.{Stage}
use Rattle.record.specs.declared.Span.{Span}
use Rattle.record.specs.declared.Port.{Port}
use Rattle.record.specs.declared.Ring.{Ring}
use Rattle.record.specs.declared.Audio.{Audio}
use Rattle.record.specs.declared.Control.{Control}
use Rattle.record.specs.declared.Lengths.{Lengths}
use Rattle.record.specs.declared.Answer.{Answer}
use Rattle.record.specs.declared.State.{State}
use Rattle.record.specs.declared.Counter as Kind
use Rattle.record.specs.declared.Counter.TheVariants.{Microframes, InTransfers, OutTransfers, InFrames, OutFrames, BadBlocks, MidiDtds, MidiAsleep, OutUnderruns, MidiPacketsOut, VendorInBytes, Restarts, Enumerations}

-- a span of time that holds none
abbrev pub no_span : Span
no_span = record { from = 0; to = 0 }

-- ---- the port

abbrev pub with_uf : Port → ℕ → Port
with_uf r x = record { uf = x; t = r.t; suspended = r.suspended; gone = r.gone; was_running = r.was_running; line = r.line }

abbrev pub with_t : Port → ℕ → Port
with_t r x = record { uf = r.uf; t = x; suspended = r.suspended; gone = r.gone; was_running = r.was_running; line = r.line }

abbrev pub with_suspended : Port → Bool → Port
with_suspended r x = record { uf = r.uf; t = r.t; suspended = x; gone = r.gone; was_running = r.was_running; line = r.line }

abbrev pub with_gone : Port → Bool → Port
with_gone r x = record { uf = r.uf; t = r.t; suspended = r.suspended; gone = x; was_running = r.was_running; line = r.line }

abbrev pub with_running : Port → Bool → Port
with_running r x = record { uf = r.uf; t = r.t; suspended = r.suspended; gone = r.gone; was_running = x; line = r.line }

abbrev pub with_line : Port → Bool → Port
with_line r x = record { uf = r.uf; t = r.t; suspended = r.suspended; gone = r.gone; was_running = r.was_running; line = x }

-- ---- the audio stream

abbrev pub with_credit : Audio → ℕ → Audio
with_credit r x = record { credit = x; counter = r.counter; budget = r.budget; block = r.block; channels = r.channels; received = r.received; sending = r.sending }

abbrev pub with_counter : Audio → ℕ → Audio
with_counter r x = record { credit = r.credit; counter = x; budget = r.budget; block = r.block; channels = r.channels; received = r.received; sending = r.sending }

abbrev pub with_budget : Audio → ℕ → Audio
with_budget r x = record { credit = r.credit; counter = r.counter; budget = x; block = r.block; channels = r.channels; received = r.received; sending = r.sending }

abbrev pub with_block : Audio → ℕ → ℕ → Audio
with_block r x y = record { credit = r.credit; counter = r.counter; budget = r.budget; block = x; channels = y; received = r.received; sending = r.sending }

abbrev pub with_received : Audio → Ring → Audio
with_received r x = record { credit = r.credit; counter = r.counter; budget = r.budget; block = r.block; channels = r.channels; received = x; sending = r.sending }

abbrev pub with_sending : Audio → Ring → Audio
with_sending r x = record { credit = r.credit; counter = r.counter; budget = r.budget; block = r.block; channels = r.channels; received = r.received; sending = x }

-- ---- the request

abbrev pub with_on : Control → Bool → Control
with_on r x = record { on = x; stage = r.stage; first = r.first; second = r.second; got = r.got; t0 = r.t0 }

abbrev pub with_stage : Control → Stage → Control
with_stage r x = record { on = r.on; stage = x; first = r.first; second = r.second; got = r.got; t0 = r.t0 }

abbrev pub with_got : Control → ℕ → Control
with_got r x = record { on = r.on; stage = r.stage; first = r.first; second = r.second; got = x; t0 = r.t0 }

-- ---- lengths in use

abbrev pub with_setups : Lengths → ℕ → Lengths
with_setups r x = record { setups = x; midi = r.midi; serial = r.serial; device = r.device; config = r.config }

abbrev pub with_midi : Lengths → ℕ → Lengths
with_midi r x = record { setups = r.setups; midi = x; serial = r.serial; device = r.device; config = r.config }

abbrev pub with_serial : Lengths → ℕ → Lengths
with_serial r x = record { setups = r.setups; midi = r.midi; serial = x; device = r.device; config = r.config }

abbrev pub with_device : Lengths → ℕ → Lengths
with_device r x = record { setups = r.setups; midi = r.midi; serial = r.serial; device = x; config = r.config }

abbrev pub with_config : Lengths → ℕ → Lengths
with_config r x = record { setups = r.setups; midi = r.midi; serial = r.serial; device = r.device; config = x }

-- ---- a microframe's answer

abbrev pub with_count : Answer → ℕ → Answer
with_count r x = record { received = x; dropped = r.dropped; retired = r.retired }

abbrev pub with_dropped : Answer → ℕ → Answer
with_dropped r x = record { received = r.received; dropped = x; retired = r.retired }

abbrev pub with_retired : Answer → ℕ → Answer
with_retired r x = record { received = r.received; dropped = r.dropped; retired = x }

-- the counters, as a list: each has its place there (below)
abbrev pub Stats : Type 0
Stats = List ℕ

-- ---- all of the state

abbrev pub with_phase : State → Phase → State
with_phase r x = record { phase = x; port = r.port; audio = r.audio; control = r.control; timers = r.timers; stats = r.stats; lengths = r.lengths; answer = r.answer }

abbrev pub with_port : State → Port → State
with_port r x = record { phase = r.phase; port = x; audio = r.audio; control = r.control; timers = r.timers; stats = r.stats; lengths = r.lengths; answer = r.answer }

abbrev pub with_audio : State → Audio → State
with_audio r x = record { phase = r.phase; port = r.port; audio = x; control = r.control; timers = r.timers; stats = r.stats; lengths = r.lengths; answer = r.answer }

abbrev pub with_control : State → Control → State
with_control r x = record { phase = r.phase; port = r.port; audio = r.audio; control = x; timers = r.timers; stats = r.stats; lengths = r.lengths; answer = r.answer }

abbrev pub with_timers : State → Timers → State
with_timers r x = record { phase = r.phase; port = r.port; audio = r.audio; control = r.control; timers = x; stats = r.stats; lengths = r.lengths; answer = r.answer }

abbrev pub with_stats : State → Stats → State
with_stats r x = record { phase = r.phase; port = r.port; audio = r.audio; control = r.control; timers = r.timers; stats = x; lengths = r.lengths; answer = r.answer }

abbrev pub with_lengths : State → Lengths → State
with_lengths r x = record { phase = r.phase; port = r.port; audio = r.audio; control = r.control; timers = r.timers; stats = r.stats; lengths = x; answer = r.answer }

abbrev pub with_answer : State → Answer → State
with_answer r x = record { phase = r.phase; port = r.port; audio = r.audio; control = r.control; timers = r.timers; stats = r.stats; lengths = r.lengths; answer = x }

-- ---- the counters (`UsbStats`, usbhost.rs 290-310)

abbrev pub Counter : Type 0
Counter = Kind.Counter

abbrev pub microframes : Counter
microframes = Microframes

abbrev pub in_transfers : Counter
in_transfers = InTransfers

abbrev pub out_transfers : Counter
out_transfers = OutTransfers

abbrev pub in_frames : Counter
in_frames = InFrames

abbrev pub out_frames : Counter
out_frames = OutFrames

abbrev pub bad_blocks : Counter
bad_blocks = BadBlocks

abbrev pub midi_dtds : Counter
midi_dtds = MidiDtds

abbrev pub midi_asleep : Counter
midi_asleep = MidiAsleep

abbrev pub out_underruns : Counter
out_underruns = OutUnderruns

abbrev pub midi_packets_out : Counter
midi_packets_out = MidiPacketsOut

abbrev pub vendor_in_bytes : Counter
vendor_in_bytes = VendorInBytes

abbrev pub restarts : Counter
restarts = Restarts

abbrev pub enumerations : Counter
enumerations = Enumerations

-- how many there are
abbrev pub COUNTERS : ℕ
COUNTERS = 13

-- its place in the list of them
abbrev pub place : Counter → ℕ
place Microframes = 0
place InTransfers = 1
place OutTransfers = 2
place InFrames = 3
place OutFrames = 4
place BadBlocks = 5
place MidiDtds = 6
place MidiAsleep = 7
place OutUnderruns = 8
place MidiPacketsOut = 9
place VendorInBytes = 10
place Restarts = 11
place Enumerations = 12

-- a list's first element, 0 where it has none, and the others
unfoldable pub first : List ℕ → ℕ
first [] = 0
first (x ∷ xs) = x

unfoldable pub behind : List ℕ → List ℕ
behind [] = []
behind (x ∷ xs) = xs

-- the counter at a place, and the counters with another value there
unfoldable pub counter_at : ℕ → Stats → ℕ
unfolding first behind
counter_at zero r = first r
counter_at (suc k) r = counter_at k (behind r)

unfoldable pub with_counter_at : ℕ → ℕ → Stats → Stats
unfolding first behind
with_counter_at zero x r = x ∷ behind r
with_counter_at (suc k) x r = first r ∷ with_counter_at k x (behind r)

abbrev pub counter_of : Counter → Stats → ℕ
counter_of c r = counter_at (place c) r

-- 64 bits, which wrap as in the source, built with overflow checks off
abbrev pub wrapped : ℕ → ℕ
wrapped n = n % 2 ^ 64

-- the counter at a place goes up by n, and so does a counter
unfoldable pub raised : ℕ → ℕ → Stats → Stats
unfolding with_counter_at counter_at
raised k n r = with_counter_at k (wrapped (counter_at k r + n)) r

abbrev pub counted : Counter → ℕ → Stats → Stats
counted c n r = raised (place c) n r
