-- What an accepted microframe's record holds: its counters and its credit are small.
use Prim.Native.Nat.{ℕ, zero, suc, ◌*◌, ◌%◌, ◌≤◌, min}
use mathlib.Core.Path.{◌≡◌}
use mathlib.Core.Bool.{true}
use native.Mathlib.Omega.{arith}
use borrow.Author.Tests.{leb-true, eqb-true}
use lib.Dec.{eqb}
use Rattle.bits.proofs.Tests.{and_first, and_second}
use Rattle.bounds.specs.Bounds.{MOST, asked_ok, held_ok, counts_ok, counters_ok, credit_ok, audio_ok, in_bounds}
use Rattle.usbhost.specs.declared.Host.{Host}
use Rattle.usbhost.specs.Host.{state_of}
use Rattle.usbhost.specs.Calls.{bounded}
use Rattle.usbhost.specs.Frame.{bounds_ok, frame_number}
use Rattle.record.specs.World.{Lent}
use Rattle.usbhost.proofs.Frame.{accepted_tests}
use Rattle.record.specs.Record.{counter_of, microframes, in_frames, out_frames}
use Rattle.bounds.proofs.Laws.{counter_below}

pub record Small (h : Host) : Type 0 where
  pub credit : h.audio.credit ≤ 623 * MOST
  pub sevens : h.audio.credit % 7 ≡ 0
  pub received : counter_of in_frames h.stats ≤ 32767 * MOST
  pub sent : counter_of out_frames h.stats ≤ 32767 * MOST

pub bound_le : (k n : ℕ) → k * min n MOST ≤ k * MOST
bound_le k n = mul_le k (min n MOST) MOST (omega arith)
  where
    mul_le : (k a b : ℕ) → a ≤ b → k * a ≤ k * b
    mul_le zero a b h = omega arith
    mul_le (suc k) a b h = omega (arith, mul_le k a b h)

pub small_bounded : (h : Host) → bounded h ≡ true → Small h
unfolding in_bounds credit_ok
small_bounded h e =
    let s = state_of h in
    let e₁ = and_second (asked_ok s h.setups) _ e in
    let e₂ = and_second (held_ok s h.packers) _ e₁ in
    let counted = and_first _ (audio_ok h.audio) e₂ in
    let c₁ = and_second (counts_ok s) _ counted in
    let counters = and_first (counters_ok h.stats) _ c₁ in
    let c₂ = and_second (counters_ok h.stats) _ c₁ in
    let credit = and_first (credit_ok h.audio.credit (counter_of microframes h.stats)) _ c₂ in
    record {
      credit = omega (arith, leb-true h.audio.credit _ (and_second (eqb (h.audio.credit % 7) 0) _ credit), bound_le 623 (counter_of microframes h.stats));
      sevens = eqb-true (h.audio.credit % 7) 0 (and_first _ _ credit);
      received = omega (arith, leb-true (counter_of in_frames h.stats) _ (counter_below h.stats counters 2 (omega arith)), bound_le 32767 (counter_of microframes h.stats));
      sent = omega (arith, leb-true (counter_of out_frames h.stats) _ (counter_below h.stats counters 3 (omega arith)), bound_le 32767 (counter_of microframes h.stats));
    }

pub accepted_small : (h : Host) (l : Lent) → frame_number h l ≡ 0 → Small h
unfolding bounds_ok
accepted_small h l e = small_bounded h (and_first (bounded h) _ (accepted_tests h l e).bounds)
