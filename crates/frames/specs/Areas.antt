-- What the areas of a microframe hold, and that a call keeps their references.
use Rattle.std.specs.Prelude.{◌≡◌}
use Rattle.bus.specs.declared.Windows.{Windows}
use Rattle.bus.specs.Windows.{memory_of}
use Rattle.record.specs.World.{Own, own, Lent, lent}
use Rattle.frames.specs.declared.areas.Areas.{Areas}

-- the arrays of the record
abbrev pub arrays_of : Areas → Own
arrays_of a = own a.setups.now a.midi.now a.serial.now a.device.now

-- what is lent, memory with it
abbrev pub lent_of : Windows → Areas → Lent
lent_of w a =
    lent (memory_of w) a.reply.now a.config.now a.receive.now a.cables.now a.received.now a.sending.now

-- the same references: what the areas hold at last, their lender holds
pub record SameAreas (a a' : Areas) : Type 0 where
  pub setups : a'.setups.ghost_name ≡ a.setups.ghost_name
  pub midi : a'.midi.ghost_name ≡ a.midi.ghost_name
  pub serial : a'.serial.ghost_name ≡ a.serial.ghost_name
  pub device : a'.device.ghost_name ≡ a.device.ghost_name
  pub reply : a'.reply.ghost_name ≡ a.reply.ghost_name
  pub config : a'.config.ghost_name ≡ a.config.ghost_name
  pub receive : a'.receive.ghost_name ≡ a.receive.ghost_name
  pub cables : a'.cables.ghost_name ≡ a.cables.ghost_name
  pub received : a'.received.ghost_name ≡ a.received.ghost_name
  pub sending : a'.sending ≡ a.sending
