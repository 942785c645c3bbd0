-- S-1: an accepted microframe answers as retired the number of descriptors that its list of changes retires, at most 128, and as dropped the bytes that no
-- window took, with no remainder in either; a refused one answers 0 (`Frame-refused`).
use Prim.Native.Nat.{ℕ, ◌+◌, ◌*◌, ◌≤◌}
use mathlib.Core.Path.{◌≡◌, refl, ap, ◌∙◌}
use mathlib.Core.Bool.{Bool, true, false, not, ◌&&◌, ◌||◌}
use mathlib.Core.List.{List}
use native.Mathlib.Omega.{arith}
use lib.Dec.{eqb}
use Rattle.bits.specs.Pick.{pick}
use Rattle.bits.proofs.Tests.{false_true}
use Rattle.bus.specs.Steps.{replay}
use Rattle.bus.proofs.Sizes.{and_true}
use Rattle.record.specs.declared.Phase.{Phase}
use Rattle.record.specs.declared.Phase.TheVariants.{Idle, Vbus, Reset, Enumerate, Stream}
use Rattle.record.specs.Change.{Change, apply}
use Rattle.bounds.specs.Bounds.{in_bounds, asked_ok, setups_ok, enumerating_ok}
use Rattle.model.specs.Control.{enumerating}
use Rattle.model.specs.Microframe as M
use Rattle.model.specs.Microframe.{streaming}
use Rattle.model.specs.Marks.{all_retired, all_dropped}
use Rattle.model.proofs.Descriptors.{counts_all, retired_any, retired_most, dropped_any}
use Rattle.record.specs.World.{Lent}
use Rattle.usbhost.specs.declared.Host.{Host}
use Rattle.usbhost.specs.Host.{state_of}
use Rattle.usbhost.specs.Calls.{bounded}
use Rattle.usbhost.specs.Frame.{world_of, bounds_ok, frame_number, framed, frame_answer}
use Rattle.usbhost.proofs.Frame.{accepted_tests}

-- number 5: no request runs outside enumeration
apart : (p : Phase) (waits on : Bool) → (enumerating p || (waits && not on)) ≡ true → (streaming p && on) ≡ false
apart Idle waits on e = refl
apart Vbus waits on e = refl
apart Reset waits on e = refl
apart Enumerate waits on e = refl
apart Stream true true e = absurd (false_true e)
apart Stream true false e = refl
apart Stream false on e = absurd (false_true e)

from_zero : (n : ℕ) → 0 + n ≡ n
from_zero n = omega arith

module _ (t : ℕ) (h : Host) (l : Lent) (e : frame_number h l ≡ 0) where
  abbrev changes : List Change
  changes = M.microframe t (world_of h l)

  pub no_request : (streaming h.phase && h.control.on) ≡ false
  unfolding bounds_ok in_bounds enumerating_ok
  no_request =
      let a = and_true (bounded h) _ (accepted_tests h l e).bounds in
      let b = and_true (asked_ok (state_of h) h.setups) _ a.0 in
      let c = and_true (setups_ok h.lengths.setups h.setups) _ b.0 in
      let d = and_true (enumerating_ok (state_of h)) _ c.1 in
      apart h.phase (eqb h.lengths.setups 0) h.control.on d.0

  -- the microframe's own answer: it starts from 0
  answered : (frame_answer t h l).retired ≡ (replay apply changes (world_of h l)).state.answer.retired
  unfolding frame_answer framed
  answered = ap (λ (n : ℕ). (pick (eqb n 0) (replay apply changes (world_of h l)) (world_of h l)).state.answer.retired) e

  pub frame_retired : (frame_answer t h l).retired ≡ all_retired changes
  frame_retired = answered ∙ (counts_all changes (world_of h l)).retired (omega (arith, retired_any t (world_of h l))) ∙ from_zero (all_retired changes)

  pub frame_few : (frame_answer t h l).retired ≤ 128
  frame_few = omega (arith, frame_retired, retired_most t (world_of h l) no_request)

  lost : (frame_answer t h l).dropped ≡ (replay apply changes (world_of h l)).state.answer.dropped
  unfolding frame_answer framed
  lost = ap (λ (n : ℕ). (pick (eqb n 0) (replay apply changes (world_of h l)) (world_of h l)).state.answer.dropped) e

  -- the count of dropped bytes is far below 2^64
  pub frame_dropped : (frame_answer t h l).dropped ≡ all_dropped changes
  frame_dropped = lost ∙ (counts_all changes (world_of h l)).dropped (omega (arith, dropped_any t (world_of h l))) ∙ from_zero (all_dropped changes)

  pub frame_drops : (frame_answer t h l).dropped ≤ 140 * 32787
  frame_drops = omega (arith, frame_dropped, dropped_any t (world_of h l))
