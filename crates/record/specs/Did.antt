-- What the code of a step promises: what it leaves, with whatever else the World holds, is what the step's list of changes leaves.
use Rattle.std.specs.Prelude.{◌≡◌, ℕ, ◌+◌, List}
use Rattle.bus.specs.Memory.{Memory}
use Rattle.bus.specs.Sized.{Sized}
use Rattle.dtd.specs.declared.Ran.{Ran}
use Rattle.record.specs.declared.Phase.{Phase}
use Rattle.record.specs.declared.State.{State}
use Rattle.record.specs.Record.{wrapped, with_dropped, with_retired, with_answer, with_phase, with_port, with_t}
use Rattle.record.specs.World.{World, with_state, at_page, at_bus, lined}
use Rattle.record.specs.Change.{Step, left}

-- the step f leads from the World a to the World b
pub record Leads (f : Step) (a b : World) : Type 0 where
  pub is : b ≡ left f a

-- a function on the state alone
pub record Alone (f : Step) (s s' : State) : Type 0 where
  pub leads : (w : World) → Leads f (with_state w s) (with_state w s')

-- on the state and the register page
pub record Paged (f : Step) (s : State) (p : List ℕ) (s' : State) (p' : List ℕ) : Type 0 where
  pub leads : (w : World) → Leads f (at_page w s p) (at_page w s' p')

-- on the state and all of memory
pub record Did (f : Step) (s : State) (m : Memory) (s' : State) (m' : Memory) : Type 0 where
  pub leads : (w : World) → Leads f (at_bus w s m) (at_bus w s' m')
  pub sized : Sized m'

-- so many descriptors retired, and so many bytes that no window took, in the answer
abbrev pub counting : State → ℕ → State
counting s n = with_answer s (with_retired s.answer (wrapped (s.answer.retired + n)))

abbrev pub dropping : State → ℕ → State
dropping s n = with_answer s (with_dropped s.answer (wrapped (s.answer.dropped + n)))

-- the state after a run: the line's flag, and both of these
abbrev pub after_run : State → Ran → State
after_run s r = dropping (counting (lined s r.line) r.retired) r.dropped

-- the state in a phase that begins now
abbrev pub entered : State → Phase → State
entered s p = with_port (with_phase s p) (with_t s.port s.port.uf)
