-- What a microframe can change of the port, of audio, of a request and of the streams of bytes, one thing at a time.
-- Beside each change stand the lines of usbhost.rs that make it.
use Rattle.std.specs.Prelude.{ℕ, Bool, List}
use Rattle.record.specs.declared.Phase.{Phase}
use Rattle.record.specs.declared.Control.{Control}

pub data PortChange : Type 0 where
  uf : ℕ → PortChange  -- the microframe count (375)
  phase : Phase → PortChange  -- 397, 437, 455, 464, 475, 627
  started : ℕ → PortChange  -- the phase's start, `t` (438, 456, 465, 476)
  gone : Bool → PortChange  -- `is_gone` (386)
  suspended : Bool → PortChange  -- 414
  was_running : Bool → PortChange  -- RS was seen set (434, 436)

pub data AudioChange : Type 0 where
  credit : ℕ → AudioChange  -- 400, 441, 890, 947
  budget : ℕ → AudioChange  -- bytes that the input endpoint may still move, `in_budget` (401, 442, 863, 867)
  counter : ℕ → AudioChange  -- the stream counter, `out_counter` (932)
  block : ℕ → ℕ → AudioChange  -- block length and channels (719-720)
  frame : List ℕ → AudioChange  -- a frame to the received ring, which loses its oldest (888, 893-895)
  taken : ℕ → AudioChange  -- frames leave the sending ring (934)

pub data RequestChange : Type 0 where
  control : Control → RequestChange  -- the request, `ctl` (399, 440, 644-697)
  queued : List ℕ → RequestChange  -- setups behind those that wait (483, 723-725, 734)
  popped : RequestChange  -- the first setup leaves (625)
  pushed : List ℕ → RequestChange  -- a setup before those that wait (713)
  cleared : RequestChange  -- no setup waits (398, 439)
  reply : ℕ → List ℕ → RequestChange  -- bytes into the reply area from an index on (663)
  device : List ℕ → RequestChange  -- the device descriptor (707)
  config : List ℕ → RequestChange  -- the configuration (715)
  forgot : RequestChange  -- both descriptors are empty (402-403, 443-444)

pub data StreamChange : Type 0 where
  midi : ℕ → StreamChange  -- bytes leave the MIDI queue (848)
  serial : ℕ → StreamChange  -- bytes leave the serial queue (828)
  cabled : List ℕ → StreamChange  -- the cables of MIDI bytes that come next to the receive area, each to the same index of its own area (S-2)
  received : List ℕ → StreamChange  -- MIDI or serial bytes to the receive area (805, 814)
