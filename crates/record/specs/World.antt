-- The World of a microframe: the host record by its parts, memory, and every lent area (document 01, "Host record").
use Rattle.std.specs.Prelude.{ℕ, Bool, List}
use Rattle.bus.specs.Memory.{Memory, memory}
use Rattle.bus.specs.Stores.{Bus, bus}
use Rattle.midi.specs.declared.Packer.{Packer}
use Rattle.record.specs.declared.Settings.{Settings}
use Rattle.record.specs.declared.Port.{Port}
use Rattle.record.specs.declared.Audio.{Audio}
use Rattle.record.specs.declared.Control.{Control}
use Rattle.record.specs.declared.Lengths.{Lengths}
use Rattle.record.specs.declared.Answer.{Answer}
use Rattle.record.specs.declared.State.{State}
use Rattle.record.specs.Record.{Stats, with_line, with_port, with_audio, with_control, with_stats, with_lengths, with_answer}

-- arrays of the record: setups, MIDI and serial queue, and device descriptor
pub record Own : Type 0 where
  pub setups : List ℕ
  pub midi : List ℕ
  pub serial : List ℕ
  pub device : List ℕ

abbrev pub own : List ℕ → List ℕ → List ℕ → List ℕ → Own
own setups midi serial device = record { setups = setups; midi = midi; serial = serial; device = device }

-- what is lent: memory, reply, configuration and receive area, the cables of received MIDI bytes, and the rings of received and of sending frames
pub record Lent : Type 0 where
  pub memory : Memory
  pub reply : List ℕ
  pub config : List ℕ
  pub receive : List ℕ
  pub cables : List ℕ
  pub received : List ℕ
  pub sending : List ℕ

abbrev pub lent : Memory → List ℕ → List ℕ → List ℕ → List ℕ → List ℕ → List ℕ → Lent
lent m reply config receive cables received sending =
    record { memory = m; reply = reply; config = config; receive = receive; cables = cables; received = received; sending = sending }

-- settings and the packers, one for each cable (S-2), do not change in a microframe
pub record World : Type 0 where
  pub settings : Settings
  pub packers : List Packer
  pub state : State
  pub own : Own
  pub lent : Lent

abbrev pub world : Settings → List Packer → State → Own → Lent → World
world c ps s o l = record { settings = c; packers = ps; state = s; own = o; lent = l }

-- ---- an array of the record changed

abbrev pub own_setups : Own → List ℕ → Own
own_setups o x = own x o.midi o.serial o.device

abbrev pub own_midi : Own → List ℕ → Own
own_midi o x = own o.setups x o.serial o.device

abbrev pub own_serial : Own → List ℕ → Own
own_serial o x = own o.setups o.midi x o.device

abbrev pub own_device : Own → List ℕ → Own
own_device o x = own o.setups o.midi o.serial x

-- ---- something that is lent changed

abbrev pub lent_memory : Lent → Memory → Lent
lent_memory l x = lent x l.reply l.config l.receive l.cables l.received l.sending

abbrev pub lent_reply : Lent → List ℕ → Lent
lent_reply l x = lent l.memory x l.config l.receive l.cables l.received l.sending

abbrev pub lent_config : Lent → List ℕ → Lent
lent_config l x = lent l.memory l.reply x l.receive l.cables l.received l.sending

abbrev pub lent_receive : Lent → List ℕ → Lent
lent_receive l x = lent l.memory l.reply l.config x l.cables l.received l.sending

abbrev pub lent_cables : Lent → List ℕ → Lent
lent_cables l x = lent l.memory l.reply l.config l.receive x l.received l.sending

abbrev pub lent_received : Lent → List ℕ → Lent
lent_received l x = lent l.memory l.reply l.config l.receive l.cables x l.sending

abbrev pub lent_sending : Lent → List ℕ → Lent
lent_sending l x = lent l.memory l.reply l.config l.receive l.cables l.received x

-- the register page alone
abbrev pub lent_page : Lent → List ℕ → Lent
lent_page l x = lent_memory l (memory l.memory.dynamic l.memory.sram x)

-- ---- a part of the World changed

abbrev pub with_state : World → State → World
with_state w x = world w.settings w.packers x w.own w.lent

abbrev pub with_own : World → Own → World
with_own w x = world w.settings w.packers w.state x w.lent

abbrev pub with_lent : World → Lent → World
with_lent w x = world w.settings w.packers w.state w.own x

abbrev pub with_setup_queue : World → List ℕ → World
with_setup_queue w x = with_own w (own_setups w.own x)

abbrev pub with_midi_queue : World → List ℕ → World
with_midi_queue w x = with_own w (own_midi w.own x)

abbrev pub with_serial_queue : World → List ℕ → World
with_serial_queue w x = with_own w (own_serial w.own x)

abbrev pub with_device_area : World → List ℕ → World
with_device_area w x = with_own w (own_device w.own x)

abbrev pub with_reply_area : World → List ℕ → World
with_reply_area w x = with_lent w (lent_reply w.lent x)

abbrev pub with_config_area : World → List ℕ → World
with_config_area w x = with_lent w (lent_config w.lent x)

abbrev pub with_receive_area : World → List ℕ → World
with_receive_area w x = with_lent w (lent_receive w.lent x)

abbrev pub with_cables_area : World → List ℕ → World
with_cables_area w x = with_lent w (lent_cables w.lent x)

abbrev pub with_received_ring : World → List ℕ → World
with_received_ring w x = with_lent w (lent_received w.lent x)

abbrev pub with_sending_ring : World → List ℕ → World
with_sending_ring w x = with_lent w (lent_sending w.lent x)

-- a part of the state changed
abbrev pub in_port : World → Port → World
in_port w x = with_state w (with_port w.state x)

abbrev pub in_audio : World → Audio → World
in_audio w x = with_state w (with_audio w.state x)

abbrev pub in_control : World → Control → World
in_control w x = with_state w (with_control w.state x)

abbrev pub in_stats : World → Stats → World
in_stats w x = with_state w (with_stats w.state x)

abbrev pub in_lengths : World → Lengths → World
in_lengths w x = with_state w (with_lengths w.state x)

abbrev pub in_answer : World → Answer → World
in_answer w x = with_state w (with_answer w.state x)

-- ---- the bus in the World: the line's flag stands in the port

abbrev pub bus_of : World → Bus
bus_of w = bus w.lent.memory w.state.port.line

abbrev pub lined : State → Bool → State
lined s l = with_port s (with_line s.port l)

abbrev pub with_bus : World → Bus → World
with_bus w b = with_lent (with_state w (lined w.state b.line)) (lent_memory w.lent b.memory)

-- ---- a World with what a function takes in its place: state and memory; state and page

abbrev pub at_bus : World → State → Memory → World
at_bus w s m = with_lent (with_state w s) (lent_memory w.lent m)

abbrev pub at_page : World → State → List ℕ → World
at_page w s p = with_lent (with_state w s) (lent_page w.lent p)
