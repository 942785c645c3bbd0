-- What the laws of progress before the stream ask of a microframe, and what they say of the World that it leaves
-- (document 01, "Host record", "Control record"; usbhost.rs 374-487, 623-701).
use Rattle.std.specs.Prelude.{ℕ, ◌+◌, ◌*◌, ◌/◌, ◌%◌, ◌^◌, ◌<◌, ◌≤◌, ◌≡◌, Bool, true, false, not, ◌&&◌, List, [], ◌∷◌, ◌++◌, eqb, ltb, length, get_or}
use Rattle.bits.specs.Word.{any}
use Rattle.bus.specs.Memory.{Memory}
use Rattle.bus.specs.Words.{word_at}
use Rattle.usbdev.specs.Offsets.{EPSETUPSR}
use Rattle.dtd.specs.Dtd.{Endpoint, endpoint, primed, next_active, next_dtd, token_of, interrupts}
use Rattle.record.specs.declared.Phase.{Phase}
use Rattle.record.specs.declared.Phase.TheVariants.{Enumerate}
use Rattle.record.specs.declared.Stage.TheVariants.{Data}
use Rattle.record.specs.declared.Control.{Control}
use Rattle.record.specs.World.{World}
use Rattle.record.specs.Change.{waiting, left}
use Rattle.model.specs.Phases.{starts_frame}
use Rattle.model.specs.Microframe.{rs_set, gone_at, asleep_at}
use Rattle.model.specs.Reach.{phase_by}

-- the host is there: not gone (384), not suspended (412), and not just back, since its gone mark was clear (386-387); counts end at 2^40 (number 5)
pub record Present (t : ℕ) (w : World) : Type 0 where
  pub there : gone_at t w ≡ false
  pub awake : asleep_at t w ≡ false
  pub still : w.state.port.gone ≡ false
  pub few : w.state.port.uf < 2 ^ 40

-- a phase begins in this microframe: its start is the microframe's own count
pub record Begins (p : Phase) (w w' : World) : Type 0 where
  pub phase : w'.state.phase ≡ p
  pub counts : w'.state.port.uf ≡ w.state.port.uf + 1
  pub starts : w'.state.port.t ≡ w.state.port.uf + 1

-- a phase goes on: its start is as it was
pub record GoesOn (p : Phase) (w w' : World) : Type 0 where
  pub phase : w'.state.phase ≡ p
  pub counts : w'.state.port.uf ≡ w.state.port.uf + 1
  pub starts : w'.state.port.t ≡ w.state.port.t

-- USB 2.0, 9.4.3: GET_DESCRIPTOR of a type, with index 0 and so many bytes below 256; 9.4.6: SET_ADDRESS
abbrev pub get_descriptor : ℕ → ℕ → List ℕ
get_descriptor type bytes = 128 ∷ 6 ∷ 0 ∷ type ∷ 0 ∷ 0 ∷ bytes ∷ 0 ∷ []

abbrev pub set_address : ℕ → List ℕ
set_address address = 0 ∷ 5 ∷ address ∷ 0 ∷ 0 ∷ 0 ∷ 0 ∷ 0 ∷ []

-- 477-484: four setups more wait, behind those that did: the device descriptor's first 64 bytes, address 7, the device descriptor, and the
-- configuration's header
pub record Asks (w w' : World) : Type 0 where
  pub waits : w'.state.lengths.setups ≡ w.state.lengths.setups + 4
  pub bytes : 8 * w.state.lengths.setups + 32 ≤ length w.own.setups → waiting w' ≡ waiting w ++ (get_descriptor 1 64 ++ set_address 7 ++ get_descriptor 1 18 ++ get_descriptor 2 9)

-- 625-645: the first setup that waited is a request that runs from now on, and the others moved up; EPSETUPSR's bit 0 says so on a page of 4,096 bytes
pub record Posts (w w' : World) : Type 0 where
  pub runs : w'.state.control.on ≡ true
  pub first : w'.state.control.first ≡ get_or w.own.setups 0 0 + 0x100 * get_or w.own.setups 1 0 + 0x1_0000 * get_or w.own.setups 2 0 + 0x100_0000 * get_or w.own.setups 3 0
  pub second : w'.state.control.second ≡ get_or w.own.setups 4 0 + 0x100 * get_or w.own.setups 5 0 + 0x1_0000 * get_or w.own.setups 6 0 + 0x100_0000 * get_or w.own.setups 7 0
  pub stage : w'.state.control.stage ≡ Data
  pub none : w'.state.control.got ≡ 0
  pub begins : w'.state.control.t0 ≡ w.state.port.uf + 1
  pub waits : w'.state.lengths.setups + 1 ≡ w.state.lengths.setups
  pub moves : 8 * w.state.lengths.setups ≤ length w.own.setups → (i : ℕ) → i < 8 * w'.state.lengths.setups → get_or w'.own.setups i 0 ≡ get_or w.own.setups (8 + i) 0
  pub goes_on : GoesOn Enumerate w w'
  pub flagged : length w.lent.memory.page ≡ 4096 → any (word_at w'.lent.memory.page EPSETUPSR) 1 ≡ true

-- the request that ran runs still: only its stage and the bytes that came may be others
pub record RunsOn (w w' : World) : Type 0 where
  pub on : w'.state.control.on ≡ true
  pub first : w'.state.control.first ≡ w.state.control.first
  pub second : w'.state.control.second ≡ w.state.control.second
  pub begun : w'.state.control.t0 ≡ w.state.control.t0
  pub waits : w'.state.lengths.setups ≡ w.state.lengths.setups
  pub queue : w'.own.setups ≡ w.own.setups

-- USB 2.0, 9.3.1 and 9.3.5: bit 7 of a setup's first byte says that data goes to the host, its last two bytes how many bytes
abbrev pub takes_data : Control → Bool
takes_data c = eqb (c.first / 128 % 2) 1 && ltb 0 (c.second / 65536)

-- 687; USB 2.0, 8.5.3: the status stage goes the other way than the data, and to the host where there is none
abbrev pub status_of : Control → Endpoint
status_of c = endpoint 0 (not (takes_data c))

-- the World at control (496) of a host in Enumerate or Stream
abbrev pub at_control : World → World
at_control w = left starts_frame (phase_by (rs_set w) w)

-- an endpoint is primed, and its next descriptor is there, active and asks for an interrupt
pub record Answers (e : Endpoint) (m : Memory) : Type 0 where
  pub prime : primed e m.page ≡ true
  pub active : next_active e m ≡ true
  pub interrupt : interrupts (token_of (next_dtd e m) m) ≡ true
