-- What the functions on descriptors promise: their steps, and what they answer.
use Rattle.std.specs.Prelude.{◌≡◌, ℕ, ◌+◌, ◌≤◌, Bool, true, false, List, [], ◌++◌, drop, Result, Ok, Err}
use Rattle.bus.specs.Memory.{Memory, peek32}
use Rattle.bus.specs.Stores.{Bus, bus, BusStep, ◌then◌, Does}
use Rattle.usbdev.specs.Transfer.{total_of}
use Rattle.transfer.specs.Transfer.{pointers, bytes_in}
use Rattle.bits.specs.Pick.{pick}
use Rattle.dtd.specs.declared.Descriptor.{Descriptor}
use Rattle.dtd.specs.declared.side.Moved.{Moved}
use Rattle.dtd.specs.declared.Found.TheVariants.{Active}
use Rattle.dtd.specs.declared.Retired.{Retired}
use Rattle.dtd.specs.declared.Finished.{Finished}
use Rattle.dtd.specs.declared.Ran.{Ran}
use Rattle.dtd.specs.Dtd.{Endpoint, endpoint, descriptor, interrupts, moves, data_out, advancing, retiring, followed, finishing, run_dtds, found}

-- the pointer is read before the first store
pub record Advances (qh n tok bit : ℕ) (m m' : Memory) (r : Retired) : Type 0 where
  pub does : (l : Bool) → Does (advancing qh n tok bit) (bus m l) (bus m' l) r.dropped
  pub next : r.next ≡ peek32 m (descriptor n)
  pub few : r.dropped ≤ 8

pub record Retires (qh n tok moved bit : ℕ) (m m' : Memory) (r : Retired) : Type 0 where
  pub does : (l : Bool) → Does (retiring qh n tok moved bit) (bus m l) (bus m' l) r.dropped
  pub next : (l : Bool) → r.next ≡ followed qh n tok moved (bus m l)
  pub few : r.dropped ≤ 20

pub record Finishes (qh n tok moved bit : ℕ) (b b' : Bus) (r : Finished) : Type 0 where
  pub does : Does (finishing qh n tok moved bit) b b' r.dropped
  pub done : r.done ≡ interrupts tok
  pub few : r.dropped ≤ 20

-- the answer of a run that retires nothing
abbrev pub none_ran : Bool → Ran
none_ran line = record { done = false; moved = 0; retired = 0; dropped = 0; line = line }

-- the answer of a run of one descriptor that is finished: moved bytes have moved, and lost more were dropped on the way
abbrev pub ran_of : Finished → ℕ → ℕ → Ran
ran_of f moved lost = record { done = f.done; moved = moved; retired = 1; dropped = lost + f.dropped; line = f.line }

-- one active descriptor of an endpoint and direction: its data and its retirement, and what is answered
pub record Turns (e : Endpoint) (qh n tok bit : ℕ) (bs : List ℕ) (b b' : Bus) (r : Ran) : Type 0 where
  pub does : Does (data_out e n tok bs then finishing qh n tok (moves e tok bs) bit) b b' r.dropped
  pub done : r.done ≡ interrupts tok
  pub moved : r.moved ≡ moves e tok bs
  pub retired : r.retired ≡ 1

-- the number of the endpoint does not show in one descriptor
abbrev pub SendsOne : ℕ → ℕ → ℕ → ℕ → List ℕ → Bus → Bus → Ran → Type 0
SendsOne qh n tok bit bs b b' r = (ep : ℕ) → Turns (endpoint ep false) qh n tok bit bs b b' r

abbrev pub TakesOne : ℕ → ℕ → ℕ → ℕ → Bus → Bus → Ran → Type 0
TakesOne qh n tok bit b b' r = (ep : ℕ) → Turns (endpoint ep true) qh n tok bit [] b b' r

-- what an area holds at last, and the index behind the last byte that it keeps
abbrev pub Held : Type 0
Held = List ℕ × ℕ

-- of a side that keeps no byte
abbrev pub holds_none : List ℕ → Held
holds_none bs = ([], 0)

-- the bytes that a descriptor gives
abbrev pub given : Bool → Descriptor → Memory → List ℕ
given input d m = pick input (bytes_in m (pointers m (descriptor d.pointer)) (total_of d.token)) []

-- the bytes of one active descriptor: bs are to be sent before it and bs' behind it, and f and f' say what is held at last, by the bytes that still come; the number of the endpoint does not show
pub record Moves (input : Bool) (d : Descriptor) (bs bs' : List ℕ) (f f' : List ℕ → Held) (m m' : Memory) (r : Moved) : Type 0 where
  pub does : (ep : ℕ) (l : Bool) → Does (data_out (endpoint ep input) d.pointer d.token bs) (bus m l) (bus m' l) r.lost
  pub bytes : (ep : ℕ) → r.bytes ≡ moves (endpoint ep input) d.token bs
  pub left : (ep : ℕ) → bs' ≡ drop (moves (endpoint ep input) d.token bs) bs
  pub holds : (ys : List ℕ) → f (given input d m ++ ys) ≡ f' ys
  pub few : (r.bytes ≤ 32767) × (r.lost ≤ 32767)

-- and its retirement
pub record Serves (input : Bool) (d : Descriptor) (bs : List ℕ) (f f' : List ℕ → Held) (m : Memory) (b b' : Bus) (r : Ran) : Type 0 where
  pub turns : (ep : ℕ) → Turns (endpoint ep input) d.queue_head d.pointer d.token d.bit bs b b' r
  pub holds : (ys : List ℕ) → f (given input d m ++ ys) ≡ f' ys

-- a run: its stores, and what is answered
unfoldable pub running : Endpoint → List ℕ → BusStep
running e bs b = (run_dtds e bs b).stores

pub record Runs (e : Endpoint) (bs : List ℕ) (b b' : Bus) (r : Ran) : Type 0 where
  pub does : Does (running e bs) b b' r.dropped
  pub done : r.done ≡ (run_dtds e bs b).done
  pub moved : r.moved ≡ (run_dtds e bs b).moved
  pub retired : r.retired ≡ (run_dtds e bs b).retired

-- a run that is over before a descriptor is moved: it gives no byte and retires nothing
pub record Idle (e : Endpoint) (bs : List ℕ) (b b' : Bus) (r : Ran) : Type 0 where
  pub runs : Runs e bs b b' r
  pub nothing : r ≡ none_ran r.line
  pub bytes : (run_dtds e bs b).bytes ≡ []

-- how a run begins: at an active descriptor, with memory as it was; or it is over, whatever the host has to send
abbrev pub Begins : Endpoint → Bool → Memory → Memory → Result Descriptor Ran → Type 0
Begins e l m m' (Ok d) = (found e m ≡ Active d) × (m' ≡ m)
Begins e l m m' (Err r) = (bs : List ℕ) → Idle e bs (bus m l) (bus m' r.line) r

-- a run, and what is held at last
pub record RunsOver (e : Endpoint) (bs : List ℕ) (f f' : List ℕ → Held) (b b' : Bus) (r : Ran) : Type 0 where
  pub runs : Runs e bs b b' r
  pub holds : f (run_dtds e bs b).bytes ≡ f' []
