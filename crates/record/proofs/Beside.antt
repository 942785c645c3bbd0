-- What a change of one part leaves alone: the World without that part.
use Rattle.std.proofs.Common.{◌≡◌, false, [], refl}
use Rattle.record.specs.declared.Phase.TheVariants.{Idle}
use Rattle.record.specs.declared.Stage.TheVariants.{Data}
use Rattle.record.specs.Record.{with_phase, with_port, with_audio, with_control, with_lengths, with_answer, with_count, with_setups, with_midi, with_serial, with_device, with_config}
use Rattle.record.specs.World.{World, with_state, with_own, with_lent, own_setups, own_midi, own_serial, own_device, lent_reply, lent_config, lent_receive, lent_cables, lent_received}
use Rattle.record.specs.Parts as Part
use Rattle.record.specs.Parts.{PortChange, AudioChange, RequestChange, StreamChange}
use Rattle.record.specs.Change.{port, audio, request, stream, apply}

-- the line's flag is the bus's
abbrev pub without_port : World → World
without_port w =
    with_state w
    (with_phase (with_port w.state (record { uf = 0; t = 0; suspended = false; gone = false; was_running = false; line = w.state.port.line })) Idle)

abbrev pub without_audio : World → World
without_audio w =
    with_lent
    (with_state w (with_audio w.state (record { credit = 0; counter = 0; budget = 0; block = 0; channels = 0; received = record { start = 0; len = 0 }; sending = record { start = 0; len = 0 } })))
    (lent_received w.lent [])

abbrev pub without_request : World → World
without_request w =
    with_lent
    (with_own
    (with_state w
    (with_control (with_lengths w.state (with_setups (with_device (with_config w.state.lengths 0) 0) 0)) (record { on = false; stage = Data; first = 0; second = 0; got = 0; t0 = 0 })))
    (own_setups (own_device w.own []) []))
    (lent_reply (lent_config w.lent []) [])

abbrev pub without_stream : World → World
without_stream w =
    with_lent
    (with_own (with_state w (with_answer (with_lengths w.state (with_midi (with_serial w.state.lengths 0) 0)) (with_count w.state.answer 0))) (own_midi (own_serial w.own []) []))
    (lent_cables (lent_receive w.lent []) [])

pub port_beside : (c : PortChange) (w : World) → without_port (apply (port c) w) ≡ without_port w
unfolding apply
port_beside (Part.uf x) w = refl
port_beside (Part.phase x) w = refl
port_beside (Part.started x) w = refl
port_beside (Part.gone x) w = refl
port_beside (Part.suspended x) w = refl
port_beside (Part.was_running x) w = refl

pub audio_beside : (c : AudioChange) (w : World) → without_audio (apply (audio c) w) ≡ without_audio w
unfolding apply
audio_beside (Part.credit x) w = refl
audio_beside (Part.budget x) w = refl
audio_beside (Part.counter x) w = refl
audio_beside (Part.block x y) w = refl
audio_beside (Part.frame x) w = refl
audio_beside (Part.taken x) w = refl

pub request_beside : (c : RequestChange) (w : World) → without_request (apply (request c) w) ≡ without_request w
unfolding apply
request_beside (Part.control x) w = refl
request_beside (Part.queued x) w = refl
request_beside Part.popped w = refl
request_beside (Part.pushed x) w = refl
request_beside Part.cleared w = refl
request_beside (Part.reply x y) w = refl
request_beside (Part.device x) w = refl
request_beside (Part.config x) w = refl
request_beside Part.forgot w = refl

pub stream_beside : (c : StreamChange) (w : World) → without_stream (apply (stream c) w) ≡ without_stream w
unfolding apply
stream_beside (Part.midi x) w = refl
stream_beside (Part.serial x) w = refl
stream_beside (Part.cabled x) w = refl
stream_beside (Part.received x) w = refl
