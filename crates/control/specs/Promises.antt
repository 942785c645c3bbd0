-- What the functions of a request promise: the World with what they take in its place.
use Rattle.std.specs.Prelude.{◌≡◌, ℕ, ◌≤◌, Bool, true, List, Option, None, Some, ◌==◌}
use Rattle.bits.specs.Pick.{pick}
use Rattle.bus.specs.Memory.{Memory, after}
use Rattle.bus.specs.Sized.{Sized}
use Rattle.bus.specs.Stores.{BusStep, putting, ◌then◌}
use Rattle.dtd.specs.declared.Ran.{Ran}
use Rattle.record.specs.Setups.{little}
use Rattle.record.specs.declared.State.{State}
use Rattle.record.specs.World.{World, with_setup_queue, with_device_area, with_reply_area, with_config_area, at_bus}
use Rattle.record.specs.Change.{Step, nothing, if}
use Rattle.record.specs.Did.{Leads, after_run}
use Rattle.model.specs.Control.{in_status, data_stage, ends_by, status_stage}
use Rattle.finished.specs.Promises.{Ready}
use Rattle.record.specs.Sizes.{SETUPS, REPLY}
use Rattle.control.specs.declared.Setup.{Setup}

-- usbhost.rs 625: the first of so many setups that wait, by its two words
abbrev pub next_of : List ℕ → ℕ → Option Setup
next_of q count = pick (count == 0) None (Some (record { first = little q 0; second = little q 4 }))

-- 638-639: the two words of a setup in a queue head
abbrev pub puts_setup : ℕ → ℕ → ℕ → BusStep
puts_setup qh first second = putting (after qh 0x28) first then putting (after qh 0x2C) second

-- a World with state, memory and setups in its place
abbrev pub at_setups : World → State → Memory → List ℕ → World
at_setups r s m q = with_setup_queue (at_bus r s m) q

pub record Posts (f : Step) (s : State) (m : Memory) (q : List ℕ) (s' : State) (m' : Memory) (q' : List ℕ) : Type 0 where
  pub leads : (w : World) → Leads f (at_setups w s m q) (at_setups w s' m' q')
  pub sized : Sized m'

-- with state, memory and reply in its place
abbrev pub at_reply : World → State → Memory → List ℕ → World
at_reply r s m p = with_reply_area (at_bus r s m) p

-- a data stage leaves a request that is ready for its status stage
pub record Stages (f : Step) (s : State) (m : Memory) (p : List ℕ) (s' : State) (m' : Memory) (p' : List ℕ) : Type 0 where
  pub leads : (w : World) → Leads f (at_reply w s m p) (at_reply w s' m' p')
  pub sized : Sized m'
  pub ready : Ready s'

-- the data stage of a request that is not at its status stage
abbrev pub data_first : Step
data_first = if (λ w. in_status w.state.control.stage) nothing data_stage

-- a run of the status stage leaves a request that is ready to end
pub record Acknowledges (s : State) (m : Memory) (r : Ran) (m' : Memory) : Type 0 where
  pub leads : (stack : Bool) (w : World) {b : World} → Leads (ends_by stack r.done) (at_bus w (after_run s r) m') b → Leads (status_stage stack) (at_bus w s m) b
  pub sized : Sized m'
  pub ready : Ready (after_run s r)
  pub few : s.control.got ≤ REPLY

-- what is tested of the record before a microframe (document 01, refusal 5)
pub record Bounded (s : State) : Type 0 where
  pub few : s.lengths.setups ≤ SETUPS
  pub running : s.control.on ≡ true → Ready s

-- with all that control takes in its place: state, memory, setups, device descriptor, reply and configuration
abbrev pub at_control : World → State → Memory → List ℕ → List ℕ → List ℕ → List ℕ → World
at_control r s m q d p c = with_config_area (with_reply_area (with_device_area (with_setup_queue (at_bus r s m) q) d) p) c

pub record Controls (f : Step) (s : State) (m : Memory) (q d p c : List ℕ) (s' : State) (m' : Memory) (q' d' p' c' : List ℕ) : Type 0 where
  pub leads : (w : World) → Leads f (at_control w s m q d p c) (at_control w s' m' q' d' p' c')
  pub sized : Sized m'
