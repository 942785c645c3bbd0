-- What the resets look back at in a list of calls: the time of the last accepted microframe, and the register page of the last one neither gone
-- nor suspended (document 01, "Host record": host back, device left).
use Rattle.std.specs.Prelude.{ℕ, not, ◌&&◌, List, [], ◌∷◌}
use Rattle.std.proofs.Math.Option.{Option, none, some}
use Rattle.bits.specs.Pick.{pick}
use Rattle.record.specs.declared.Settings.{Settings}
use Rattle.model.specs.Microframe.{gone_at, asleep_at}
use Rattle.model.specs.PortMarks.{InGone, RunBit, RunTested}
use Rattle.usbhost.specs.declared.Host.{Host}
use Rattle.usbhost.specs.Frame.{world_of}
use Rattle.history.specs.Calls.{Call, microframe, midi_send, serial_send, frame_give, frame_take, device_read, device_write, step}
use Rattle.history.specs.Reach.{accepted}

-- the last of what the calls of a list bring, of which some bring nothing; o: what those before brought
abbrev pub later : {A : Type 0} → Option A → Option A → Option A
later o none = o
later o (some a) = some a

unfoldable pub last_brought : {A : Type 0} → (Host → Call → Option A) → Host → Option A → List Call → Option A
last_brought brings h o [] = o
last_brought brings h o (c ∷ cs) = last_brought brings (step h c) (later o (brings h c)) cs

-- the time of an accepted microframe
unfoldable pub time_of : Host → Call → Option ℕ
time_of h (microframe t l) = pick (accepted h l) (some t) none
time_of h (midi_send cable bs) = none
time_of h (serial_send bs) = none
time_of h (frame_give f sending) = none
time_of h (frame_take received) = none
time_of h (device_read page off size) = none
time_of h (device_write page off size v) = none

-- the register page of one that is neither gone nor suspended (laws gone-spans, suspend-span), as it was lent
unfoldable pub page_of : Host → Call → Option (List ℕ)
page_of h (microframe t l) =
    pick (accepted h l && (not (gone_at t (world_of h l)) && not (asleep_at t (world_of h l)))) (some l.memory.page) none
page_of h (midi_send cable bs) = none
page_of h (serial_send bs) = none
page_of h (frame_give f sending) = none
page_of h (frame_take received) = none
page_of h (device_read page off size) = none
page_of h (device_write page off size v) = none

-- there is one, and P is true of it
abbrev pub Some : {A : Type 0} → (A → Type 0) → Option A → Type 0
Some P none = ⊥
Some P (some a) = P a

-- ---- the two resets, by the time and the page of a microframe and what the calls before it brought

-- host back: a gone span ends (384-387)
pub record HostBack (c : Settings) (t : ℕ) (before : Option ℕ) : Type 0 where
  pub out : Some (InGone c) before
  pub present : ¬ InGone c t

-- device left: the run bit is clear after having been set (408, 426, 430, 433, 435)
pub record DeviceLeft (c : Settings) (t : ℕ) (page : List ℕ) (before : Option (List ℕ)) : Type 0 where
  pub tested : RunTested c t
  pub running : Some RunBit before
  pub stopped : ¬ RunBit page
