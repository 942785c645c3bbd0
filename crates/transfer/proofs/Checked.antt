-- Which moves are accepted, and what is left of those that are not.
use Rattle.std.proofs.Common.{◌≡◌, ℕ, ◌+◌, ◌≤◌, Bool, true, false, List, length, leb, refl, sym, arith, leb-true}
use Rattle.std.specs.Prelude.{Result, Ok, Err, OnOk}
use Rattle.bits.specs.Pick.{pick}
use Rattle.refusal.specs.declared.Refusal.{Refusal}
use Rattle.refusal.specs.Number.{number_of}
use Rattle.bus.specs.Checked.{poked_of}
use Rattle.bus.specs.Memory.{Memory}
use Rattle.bus.specs.Sized.{Sized, is_sized}
use Rattle.bus.specs.Steps.{exec}
use Rattle.bus.specs.Stores.{bus, store, when, Does}
use Rattle.bus.proofs.Sizes.{is_sized_lem, and_true}
use Rattle.transfer.specs.Transfer.{sending}
use Rattle.transfer.specs.Checked.{refusal, fits, checked_sending, sent}

-- a choice among three numbers that gives 0
none_of : (a b : Bool) → pick {A = ℕ} a (pick b 0 2) 1 ≡ 0 → (a ≡ true) × (b ≡ true)
none_of true true e = (refl, refl)
none_of true false e = let z : ◌≡◌ {A = ℕ} 2 0 = e in absurd (omega arith)
none_of false b e = let z : ◌≡◌ {A = ℕ} 1 0 = e in absurd (omega arith)

-- what a move that is accepted may rely on
pub accepted : (m : Memory) (at n size : ℕ) (r : Result (Unit {0}) Refusal) → number_of r ≡ refusal m at n size
    → OnOk r (Sized m × ((n ≤ 32767) × (at + n ≤ size)))
unfolding refusal
accepted m at n size (Ok t) e =
    let p = none_of (is_sized m) (fits at n size) (sym e) in
    let q = and_true (leb n 32767) (leb (at + n) size) p.1 in
    (is_sized_lem m p.0, (leb-true n 32767 q.0, leb-true (at + n) size q.1))
accepted m at n size (Err r) e = tt

-- a move out that is accepted, in windows made of what three references show
pub sent_out : (ps s : List ℕ) (n : ℕ) {k k' m m' : Memory} {lost : ℕ} → 0 ≡ refusal k 0 n (length s) → k ≡ m → k' ≡ m'
    → ((l : Bool) → Does (sending ps s n) (bus m l) (bus m' l) lost)
    → (poked_of (Ok lost) ≡ sent k ps s n) × ((l : Bool) → bus k' l ≡ exec store (checked_sending ps s n) (bus k l))
unfolding checked_sending sent when sending
sent_out ps s n {k} {k'} {lost = lost} number e e' h =
    (simp (sym number, (does false).counted), λ l. simp (sym number) (does l).is)
  where
    does : (l : Bool) → Does (sending ps s n) (bus k l) (bus k' l) lost
    does l = rw (e, e') (h l)
