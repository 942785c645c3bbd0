-- The host record, a new one, and its state by parts (document 01, "Host record"; usbhost.rs 207-354).
use Rattle.std.specs.Prelude.{ℕ, ◌-◌, false, Result, Ok, Err, List, ◌++◌, leb, take, replicate}
use Rattle.bits.specs.Pick.{pick}
use Rattle.refusal.specs.declared.Refusal.{Refusal}
use Rattle.refusal.specs.Number.{number}
use Rattle.midi.specs.declared.Packer.{Packer}
use Rattle.midi.specs.Packer.{CABLES, fresh}
use Rattle.gptimers.specs.Timer.{none}
use Rattle.record.specs.declared.Phase.TheVariants.{Idle}
use Rattle.record.specs.declared.Stage.TheVariants.{Data}
use Rattle.record.specs.declared.Span.{Span}
use Rattle.record.specs.declared.Settings.{Settings}
use Rattle.record.specs.declared.State.{State}
use Rattle.record.specs.Record.{COUNTERS, no_span}
use Rattle.record.specs.World.{Own, own}
use Rattle.record.specs.Sizes.{SETUP_BYTES, QUEUE, DEVICE}
use Rattle.usbhost.specs.declared.Host.{Host}
use Rattle.usbhost.specs.Answers.{Created}

-- the state by its parts, with an answer of nothing received, dropped or retired
abbrev pub state_of : Host → State
state_of h =
    record {
      phase = h.phase;
      port = h.port;
      audio = h.audio;
      control = h.control;
      timers = h.timers;
      stats = h.stats;
      lengths = h.lengths;
      answer = record { received = 0; dropped = 0; retired = 0 };
    }

-- ---- `new` (319-354)

-- settings with other gone spans, by their count
abbrev pub with_gone_spans : Settings → ℕ → List Span → Settings
with_gone_spans c n gone =
    record {
      device_stack = c.device_stack;
      midi_in = c.midi_in;
      cdc = c.cdc;
      midi_every = c.midi_every;
      sleep = c.sleep;
      suspend = c.suspend;
      spans = n;
      gone = gone;
    }

-- settings whose gone spans past their count hold no time
unfoldable pub settled : Settings → Settings
settled c = with_gone_spans c c.spans (take c.spans c.gone ++ replicate (16 - c.spans) no_span)

-- settings that choose nothing
abbrev pub no_settings : Settings
no_settings =
    record {
      device_stack = false;
      midi_in = false;
      cdc = false;
      midi_every = 0;
      sleep = no_span;
      suspend = no_span;
      spans = 0;
      gone = replicate 16 no_span;
    }

-- a host that has done nothing: Idle, no credit, blocks of 368 bytes with 12 channels, all queues empty, a fresh packer for each cable (S-2)
unfoldable pub new_host : Settings → Host
new_host c =
    record {
      phase = Idle;
      port = record { uf = 0; t = 0; suspended = false; gone = false; was_running = false; line = false };
      audio =
          record {
            credit = 0;
            counter = 0;
            budget = 0;
            block = 368;
            channels = 12;
            received = record { start = 0; len = 0 };
            sending = record { start = 0; len = 0 };
          };
      control = record { on = false; stage = Data; first = 0; second = 0; got = 0; t0 = 0 };
      timers = record { zero = none; one = none };
      stats = replicate COUNTERS 0;
      lengths = record { setups = 0; midi = 0; serial = 0; device = 0; config = 0 };
      packers = replicate CABLES fresh;
      settings = c;
      setups = replicate SETUP_BYTES 0;
      midi = replicate QUEUE 0;
      serial = replicate QUEUE 0;
      device = replicate DEVICE 0;
    }

-- number 3: more than 16 gone spans; the host beside it is then that of no settings, which the code hands out to no one
unfoldable pub created : Settings → Created
created c =
    pick (leb c.spans 16) (record { refusal = 0; host = new_host (settled c) }) (record { refusal = 3; host = new_host no_settings })

-- what the result of `new` stands for
abbrev pub created_by : Result Host Refusal → Created
created_by (Ok h) = record { refusal = 0; host = h }
created_by (Err r) = record { refusal = number r; host = new_host no_settings }

-- ---- the record by its parts: a state, whose answer is no part of it, settings, packers, and the arrays

abbrev pub host_of : State → Settings → List Packer → Own → Host
host_of s c packers o =
    record {
      phase = s.phase;
      port = s.port;
      audio = s.audio;
      control = s.control;
      timers = s.timers;
      stats = s.stats;
      lengths = s.lengths;
      packers = packers;
      settings = c;
      setups = o.setups;
      midi = o.midi;
      serial = o.serial;
      device = o.device;
    }

-- its arrays
abbrev pub own_of : Host → Own
own_of h = own h.setups h.midi h.serial h.device

-- the record with other packers
abbrev pub with_packers : Host → List Packer → Host
with_packers h packers = host_of (state_of h) h.settings packers (own_of h)

-- the record with another state
abbrev pub host_with : Host → State → Host
host_with h s = host_of s h.settings h.packers (own_of h)
