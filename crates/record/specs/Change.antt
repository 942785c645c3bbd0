-- What a microframe can change, one thing at a time, and a step as the list of its changes, oldest first (document 01, "Host record": the second definition).
-- Beside each change stand the lines of usbhost.rs that make it.
use Rattle.std.specs.Prelude.{ℕ, ◌+◌, ◌-◌, ◌*◌, ◌/◌, ◌%◌, Bool, List, [], ◌∷◌, ◌++◌, map, length, take, drop, ◌==◌}
use Rattle.std.proofs.lemmas.List.Edits.{sets}
use Rattle.bits.specs.Pick.{pick}
use Rattle.bus.specs.Steps.{exec, and_then, choose}
use Rattle.bus.specs.Stores.{Store, store, BusStep, dropped_by}
use Rattle.usbdev.specs.Registers.{PageStep, lifted}
use Rattle.dtd.specs.Dtd.{Endpoint, Run, run_dtds}
use Rattle.gptimers.specs.declared.Timers.{Timers}
use Rattle.record.specs.declared.Phase.{Phase}
use Rattle.record.specs.Sizes.{FRAMES, WORDS}
use Rattle.record.specs.Parts as Part
use Rattle.record.specs.Parts.{PortChange, AudioChange, RequestChange, StreamChange}
use Rattle.record.specs.declared.Ring.{Ring}
use Rattle.record.specs.declared.Control.{Control}
use Rattle.record.specs.Record.{with_uf, with_t, with_suspended, with_gone, with_running, with_credit, with_counter, with_budget, with_block, with_received, with_sending, with_setups, with_midi, with_serial, with_device, with_config, with_count, with_dropped, with_retired, with_phase, with_timers, Counter, counted, wrapped}
use Rattle.record.specs.World.{World, with_state, with_setup_queue, with_midi_queue, with_serial_queue, with_device_area, with_reply_area, with_config_area, with_receive_area, with_cables_area, with_received_ring, in_port, in_audio, in_control, in_stats, in_lengths, in_answer, bus_of, with_bus}

pub data Change : Type 0 where
  bus : Store → Change  -- a store to memory, or the line's flag
  ran : Endpoint → ℕ → ℕ → Change  -- a descriptor run: how many it retired, which the answer counts (S-1), and how many bytes it moved (536-621)
  lost : ℕ → Change  -- bytes that no window took (document 01, "Memory windows")
  count : Counter → ℕ → Change  -- a counter of `stats` goes up
  timers : Timers → Change  -- `gpt` (746-762)
  port : PortChange → Change
  audio : AudioChange → Change
  request : RequestChange → Change
  stream : StreamChange → Change

-- a change of a part, by its own name
abbrev pub uf : ℕ → Change
uf x = port (Part.uf x)

abbrev pub phase : Phase → Change
phase x = port (Part.phase x)

abbrev pub started : ℕ → Change
started x = port (Part.started x)

abbrev pub gone : Bool → Change
gone x = port (Part.gone x)

abbrev pub suspended : Bool → Change
suspended x = port (Part.suspended x)

abbrev pub was_running : Bool → Change
was_running x = port (Part.was_running x)

abbrev pub credit : ℕ → Change
credit x = audio (Part.credit x)

abbrev pub budget : ℕ → Change
budget x = audio (Part.budget x)

abbrev pub counter : ℕ → Change
counter x = audio (Part.counter x)

abbrev pub block : ℕ → ℕ → Change
block x y = audio (Part.block x y)

abbrev pub frame : List ℕ → Change
frame x = audio (Part.frame x)

abbrev pub taken : ℕ → Change
taken x = audio (Part.taken x)

abbrev pub control : Control → Change
control x = request (Part.control x)

abbrev pub queued : List ℕ → Change
queued x = request (Part.queued x)

abbrev pub popped : Change
popped = request Part.popped

abbrev pub pushed : List ℕ → Change
pushed x = request (Part.pushed x)

abbrev pub cleared : Change
cleared = request Part.cleared

abbrev pub reply : ℕ → List ℕ → Change
reply x y = request (Part.reply x y)

abbrev pub device : List ℕ → Change
device x = request (Part.device x)

abbrev pub config : List ℕ → Change
config x = request (Part.config x)

abbrev pub forgot : Change
forgot = request Part.forgot

abbrev pub midi : ℕ → Change
midi x = stream (Part.midi x)

abbrev pub serial : ℕ → Change
serial x = stream (Part.serial x)

abbrev pub cabled : List ℕ → Change
cabled x = stream (Part.cabled x)

abbrev pub received : List ℕ → Change
received x = stream (Part.received x)

-- a queue in a fixed array, of which len bytes are in use: n leave its front, the others move up, and what lies behind stays
unfoldable pub drained : List ℕ → ℕ → ℕ → List ℕ
drained q len n = take (len - n) (drop n q) ++ drop (len - n) q

-- the setups that wait, as one list of bytes
abbrev pub waiting : World → List ℕ
waiting w = take (8 * w.state.lengths.setups) w.own.setups

-- the received ring with one frame more: behind its newest, over its oldest where it is full
unfoldable pub ringed : List ℕ → Ring → List ℕ → List ℕ
ringed ring r f = sets ring ((r.start + r.len) % FRAMES * WORDS) f

unfoldable pub ringed_place : Ring → Ring
ringed_place r =
    pick (r.len == FRAMES) (record { start = (r.start + 1) % FRAMES; len = FRAMES }) (record { start = r.start; len = r.len + 1 })

-- a ring of so many frames without its n oldest
unfoldable pub taken_from : ℕ → ℕ → Ring → Ring
taken_from capacity n r = record { start = (r.start + n) % capacity; len = r.len - n }

unfoldable pub apply : Change → World → World
apply (bus s) w = with_bus w (store s (bus_of w))
apply (ran e k n) w = in_answer w (with_retired w.state.answer (wrapped (w.state.answer.retired + k)))
apply (lost n) w = in_answer w (with_dropped w.state.answer (wrapped (w.state.answer.dropped + n)))
apply (count c n) w = in_stats w (counted c n w.state.stats)
apply (timers ts) w = with_state w (with_timers w.state ts)
apply (port (Part.uf n)) w = in_port w (with_uf w.state.port n)
apply (port (Part.phase p)) w = with_state w (with_phase w.state p)
apply (port (Part.started n)) w = in_port w (with_t w.state.port n)
apply (port (Part.gone b)) w = in_port w (with_gone w.state.port b)
apply (port (Part.suspended b)) w = in_port w (with_suspended w.state.port b)
apply (port (Part.was_running b)) w = in_port w (with_running w.state.port b)
apply (audio (Part.credit n)) w = in_audio w (with_credit w.state.audio n)
apply (audio (Part.budget n)) w = in_audio w (with_budget w.state.audio n)
apply (audio (Part.counter n)) w = in_audio w (with_counter w.state.audio n)
apply (audio (Part.block n c)) w = in_audio w (with_block w.state.audio n c)
apply (audio (Part.frame f)) w =
    with_received_ring (in_audio w (with_received w.state.audio (ringed_place w.state.audio.received))) (ringed w.lent.received w.state.audio.received f)
apply (audio (Part.taken n)) w =
    in_audio w (with_sending w.state.audio (taken_from (length w.lent.sending / WORDS) n w.state.audio.sending))
apply (request (Part.control c)) w = in_control w c
apply (request (Part.queued bs)) w =
    with_setup_queue (in_lengths w (with_setups w.state.lengths (w.state.lengths.setups + length bs / 8))) (sets w.own.setups (8 * w.state.lengths.setups) bs)
apply (request Part.popped) w =
    with_setup_queue (in_lengths w (with_setups w.state.lengths (w.state.lengths.setups - 1))) (drained w.own.setups (8 * w.state.lengths.setups) 8)
apply (request (Part.pushed bs)) w =
    with_setup_queue (in_lengths w (with_setups w.state.lengths (w.state.lengths.setups + 1))) (sets w.own.setups 0 (bs ++ waiting w))
apply (request Part.cleared) w = in_lengths w (with_setups w.state.lengths 0)
apply (request (Part.reply at bs)) w = with_reply_area w (sets w.lent.reply at bs)
apply (request (Part.device bs)) w = with_device_area (in_lengths w (with_device w.state.lengths (length bs))) (sets w.own.device 0 bs)
apply (request (Part.config bs)) w = with_config_area (in_lengths w (with_config w.state.lengths (length bs))) (sets w.lent.config 0 bs)
apply (request Part.forgot) w = in_lengths w (with_config (with_device w.state.lengths 0) 0)
apply (stream (Part.midi n)) w =
    with_midi_queue (in_lengths w (with_midi w.state.lengths (w.state.lengths.midi - n))) (drained w.own.midi w.state.lengths.midi n)
apply (stream (Part.serial n)) w =
    with_serial_queue (in_lengths w (with_serial w.state.lengths (w.state.lengths.serial - n))) (drained w.own.serial w.state.lengths.serial n)
apply (stream (Part.cabled cs)) w = with_cables_area w (sets w.lent.cables w.state.answer.received cs)
apply (stream (Part.received bs)) w =
    with_receive_area (in_answer w (with_count w.state.answer (w.state.answer.received + length bs))) (sets w.lent.receive w.state.answer.received bs)

-- ---- steps

abbrev pub Step : Type 0
Step = World → List Change

-- the World that a step leaves
abbrev pub left : Step → World → World
left f w = exec apply f w

infixr 20 ◌then◌
abbrev pub ◌then◌ : Step → Step → Step
f then g = and_then apply f g

unfoldable pub nothing : Step
nothing w = []

-- by a test of the World at hand
abbrev pub if : (World → Bool) → Step → Step → Step
if t f g = choose apply t f g

abbrev pub when : (World → Bool) → Step → Step
when t f = if t f nothing

-- one change, by the World at hand
unfoldable pub one : (World → Change) → Step
one c w = c w ∷ []

-- a step that is made from the World at hand: what it reads is read once
unfoldable pub here : (World → Step) → Step
here f w = f w w

-- stores on the bus, and on the register page
unfoldable pub on_bus : BusStep → Step
on_bus f w = map bus (f (bus_of w))

unfoldable pub on_page : PageStep → Step
on_page f w = map bus (lifted f (bus_of w))

-- a run's stores, its mark and what it lost
unfoldable pub ran_stores : Endpoint → Run → List Change
ran_stores e r = map bus r.stores ++ (ran e r.retired r.moved ∷ lost (dropped_by r.stores) ∷ [])

-- a run that sends bs, and what follows it
unfoldable pub runs : Endpoint → List ℕ → (Run → Step) → Step
runs e bs k w = and_then apply (λ v. ran_stores e (run_dtds e bs (bus_of w))) (k (run_dtds e bs (bus_of w))) w
