-- What the functions of a finished request promise, and what the record's bounds grant them (document 01, "Control record" and refusal 5).
use Rattle.std.specs.Prelude.{ℕ, ◌≤◌, true, List, ◌≡◌}
use Rattle.record.specs.declared.State.{State}
use Rattle.record.specs.World.{World, with_state, with_setup_queue, with_device_area, with_reply_area, with_config_area}
use Rattle.record.specs.Change.{Step}
use Rattle.record.specs.Did.{Leads}
use Rattle.model.specs.Control.{asks_for, w_length}

-- what is tested of a running request before a microframe: no setup waits behind one for the configuration, the device descriptor fits
-- its 64 bytes, and the reply is no longer than asked
pub record Ready (s : State) : Type 0 where
  pub alone : asks_for 2 s.control ≡ true → s.lengths.setups ≡ 0
  pub short : asks_for 1 s.control ≡ true → w_length s.control ≤ 64
  pub inside : s.control.got ≤ w_length s.control

-- a World with what a finished request takes in its place: state, setups, device descriptor, reply and configuration
abbrev pub at_request : World → State → List ℕ → List ℕ → List ℕ → List ℕ → World
at_request r s q d p c = with_config_area (with_reply_area (with_device_area (with_setup_queue (with_state r s) q) d) p) c

-- a step on these, which leaves the reply
pub record Brings (f : Step) (s : State) (q d p c : List ℕ) (s' : State) (q' d' c' : List ℕ) : Type 0 where
  pub leads : (w : World) → Leads f (at_request w s q d p c) (at_request w s' q' d' p c')
