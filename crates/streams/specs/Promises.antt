-- What the functions on streams promise: the Worlds that their steps lead to, with the queues and areas that they take.
use Rattle.std.specs.Prelude.{ℕ, ◌*◌, ◌/◌, ◌≤◌, min, Bool, true, false, not, ◌&&◌, List, Option, None, Some, ◌≡◌, eqb, take}
use Rattle.bus.specs.Memory.{Memory}
use Rattle.bus.specs.Sized.{Sized}
use Rattle.bus.specs.Stores.{bus}
use Rattle.usbdev.specs.Transfer.{total_of}
use Rattle.dtd.specs.Dtd.{Endpoint, primed, next_active, next_dtd, token_of}
use Rattle.dtd.specs.Promises.{Runs}
use Rattle.record.specs.declared.Lengths.{Lengths}
use Rattle.record.specs.declared.State.{State}
use Rattle.record.specs.World.{World, at_bus, with_serial_queue, with_receive_area}
use Rattle.record.specs.Change.{Step, drained}
use Rattle.record.specs.Did.{Leads}
use Rattle.streams.specs.declared.Taken.{Taken}

-- ---- a World with what a function takes in its place

abbrev pub at_receive : World → State → Memory → List ℕ → World
at_receive w s m out = at_bus (with_receive_area w out) s m

abbrev pub at_served : World → State → Memory → List ℕ → List ℕ → World
at_served w s m q out = at_bus (with_receive_area (with_serial_queue w q) out) s m

-- ---- parts of steps

-- usbhost.rs 826-827, 846-847: what one packet carries of the bytes that wait, to a descriptor with a token
abbrev pub packet_of : ℕ → ℕ → ℕ
packet_of tok held = min (min (total_of tok) 512) held

-- 815-827, 835-847: whether a queue that holds so many bytes is served: a byte waits, and the endpoint's next descriptor is active
abbrev pub served : Endpoint → ℕ → Memory → Bool
served e held m = not (eqb held 0) && (primed e m.page && next_active e m)

-- ---- what a function does

-- nothing is taken of a queue
pub record GivesNothing (e : Endpoint) (m : Memory) (q : List ℕ) (held : ℕ) (m' : Memory) (q' : List ℕ) : Type 0 where
  pub none : served e held m ≡ false
  pub memory : m' ≡ m
  pub sized : Sized m'
  pub queue : q' ≡ q

-- bytes are taken of a queue: as many whole units as fit
pub record GivesBytes (e : Endpoint) (unit : ℕ) (line : Bool) (m : Memory) (q : List ℕ) (held : ℕ) (t : Taken) (m' : Memory) (q' : List ℕ) : Type 0 where
  pub some : served e held m ≡ true
  pub fits : t.bytes ≡ packet_of (token_of (next_dtd e m) m) held / unit * unit
  pub few : t.bytes ≤ held
  pub run : Runs e (take t.bytes q) (bus m line) (bus m' t.ran.line) t.ran
  pub queue : q' ≡ drained q held t.bytes

-- on memory and a queue, by the answer
unfoldable pub Gives : Endpoint → ℕ → Bool → Memory → List ℕ → ℕ → Option Taken → Memory → List ℕ → Type 0
Gives e unit line m q held None m' q' = GivesNothing e m q held m' q'
Gives e unit line m q held (Some t) m' q' = GivesBytes e unit line m q held t m' q'

-- of what is in use, only bytes of the MIDI and the serial queue leave
pub record Fewer (a b : Lengths) : Type 0 where
  pub setups : b.setups ≡ a.setups
  pub midi : b.midi ≤ a.midi
  pub serial : b.serial ≤ a.serial
  pub device : b.device ≡ a.device
  pub config : b.config ≡ a.config

-- on state, memory and receive area
pub record Receives (f : Step) (s : State) (m : Memory) (out : List ℕ) (s' : State) (m' : Memory) (out' : List ℕ) : Type 0 where
  pub leads : (w : World) → Leads f (at_receive w s m out) (at_receive w s' m' out')
  pub sized : Sized m'
  pub few : Fewer s.lengths s'.lengths

-- on state, memory and a queue of the record, which `put` puts in its place
pub record Serves (put : World → List ℕ → World) (f : Step) (s : State) (m : Memory) (q : List ℕ) (s' : State) (m' : Memory) (q' : List ℕ) : Type 0 where
  pub leads : (w : World) → Leads f (at_bus (put w q) s m) (at_bus (put w q') s' m')
  pub sized : Sized m'
  pub few : Fewer s.lengths s'.lengths

-- on state, memory, serial queue and receive area
pub record ServesBoth (f : Step) (s : State) (m : Memory) (q out : List ℕ) (s' : State) (m' : Memory) (q' out' : List ℕ) : Type 0 where
  pub leads : (w : World) → Leads f (at_served w s m q out) (at_served w s' m' q' out')
  pub sized : Sized m'
  pub few : Fewer s.lengths s'.lengths
