-- Laws of numbers of refusal, and of a record by its parts.
use Rattle.std.specs.Prelude.{Result, Ok, Err}
use mathlib.Core.Path.{◌≡◌, refl, sym, ap}
use mathlib.Core.Bool.{Bool, true, false, ◌&&◌}
use mathlib.Core.List.{List}
use Prim.Native.Nat.{ℕ, ◌/◌, ◌<◌}
use native.Mathlib.Omega.{arith}
use borrow.Author.Tests.{ne_eqb}
use Rattle.bits.specs.Pick.{pick}
use Rattle.refusal.specs.declared.Refusal.{Refusal}
use Rattle.refusal.specs.declared.Refusal.TheVariants.{Windows, Areas, Spans, Access, Bounds, Microframes, Space, Cable}
use Rattle.refusal.specs.Number.{number, number_of}
use Rattle.midi.specs.declared.Packer.{Packer}
use Rattle.record.specs.declared.Settings.{Settings}
use Rattle.record.specs.declared.State.{State}
use Rattle.bounds.specs.Bounds.{in_bounds, enumerating_ok, counts_ok, areas_ok, ring_ok}
use Rattle.record.specs.World.{Own}
use Rattle.usbhost.specs.declared.Host.{Host}
use Rattle.usbhost.specs.Host.{host_of}
use Rattle.usbhost.specs.Calls.{unless, answered, bounded}
use Rattle.usbhost.specs.Frame.{bounds_ok}
use Rattle.usbhost.specs.Answers.{Sent, sent}

-- ---- numbers of refusal

-- a reason has a number
pub refused : (r : Refusal) → number r ≡ 0 → ⊥
refused Windows e = omega arith
refused Areas e = omega arith
refused Spans e = omega arith
refused Access e = omega arith
refused Bounds e = omega arith
refused Microframes e = omega arith
refused Space e = omega arith
refused Cable e = omega arith

-- numbers 3, 8 and 5, and what follows them: where none is met that decides
pub cable_stands : (a k b : Bool) (x : ℕ) → unless 3 a (unless 8 k (unless 5 b 0)) ≡ 0 → unless 3 a (unless 8 k (unless 5 b x)) ≡ x
cable_stands true true true x e = refl
cable_stands true true false x e = absurd (omega arith)
cable_stands true false b x e = absurd (omega arith)
cable_stands false k b x e = absurd (omega arith)

-- and where one is met it is the number
pub cable_stops : (a k b : Bool) (x n : ℕ) → n ≡ unless 3 a (unless 8 k (unless 5 b 0)) → (n ≡ 0 → ⊥) → unless 3 a (unless 8 k (unless 5 b x)) ≡ n
cable_stops true true true x n e h = absurd (h e)
cable_stops true true false x n e h = sym e
cable_stops true false b x n e h = sym e
cable_stops false k b x n e h = sym e

-- numbers 3 and 5, where number 5 asks for more than the record's own bounds
pub record_stands : (a b k : Bool) (x : ℕ) → unless 3 a (unless 5 b 0) ≡ 0 → unless 3 a (unless 5 (b && k) x) ≡ unless 5 k x
record_stands true true k x e = refl
record_stands true false k x e = absurd (omega arith)
record_stands false b k x e = absurd (omega arith)

pub record_stops : (a b k : Bool) (x n : ℕ) → n ≡ unless 3 a (unless 5 b 0) → (n ≡ 0 → ⊥) → n ≡ unless 3 a (unless 5 (b && k) x)
record_stops true true k x n e m = absurd (m e)
record_stops true false k x n e m = e
record_stops false b k x n e m = e

-- the number of a test
pub tested : (t : Bool) (r : Refusal) → number_of {A = Unit {0}} (pick t (Ok tt) (Err r)) ≡ unless (number r) t 0
tested true r = refl
tested false r = refl

-- a test that gives no number is met
pub met : (number : ℕ) (t : Bool) (x : ℕ) → 0 < number → unless number t x ≡ 0 → (t ≡ true) × (x ≡ 0)
met number true x h e = (refl, e)
met number false x h e = absurd (omega arith)

-- an answer by its number: 0, or another
pub goes : (number : ℕ) (next h : Host) → number ≡ 0 → answered number next h ≡ sent 0 next
goes number next h e = simp e

pub stops : (number n : ℕ) (next h : Host) → number ≡ n → (n ≡ 0 → ⊥) → answered number next h ≡ sent n h
stops number n next h e m = simp (e, ne_eqb n 0 m)

-- a call that is refused leaves the record
pub sent_refused : (r : Refusal) (g next : Host) {n : ℕ} {h : Host} → sent (number r) g ≡ answered n next h → sent (number r) h ≡ answered n next h
sent_refused r g next {n} {h} e =
    sym (stops n (number r) next h (sym (ap (λ (x : Sent Host). x.refusal) e)) (refused r))

-- a test by what it gave
pub failed : (t : Bool) (r e : Refusal) → ◌≡◌ {A = Result (Unit {0}) Refusal} (Err e) (pick t (Ok tt) (Err r)) → (t ≡ false) × (e ≡ r)
failed true r e i = cc
failed false r e i = (refl, cc)

pub passed : (t : Bool) (r : Refusal) (x : Unit {0}) → ◌≡◌ {A = Result (Unit {0}) Refusal} (Ok x) (pick t (Ok tt) (Err r)) → t ≡ true
passed true r x i = refl
passed false r x i = cc

-- by both cases of a test
pub by_test : {A : Type 0} (t : Bool) → (t ≡ true → A) → (t ≡ false → A) → A
by_test true p q = p refl
by_test false p q = q refl

-- ---- a record by its parts is in bounds as they are

pub same_bounds : (s : State) (c : Settings) (packers : List Packer) (o : Own) → bounded (host_of s c packers o) ≡ in_bounds s packers o.setups
unfolding in_bounds enumerating_ok counts_ok
same_bounds s c packers o = refl

-- the bounds of a microframe's record with areas of some lengths
pub frame_bounds_lem : (s : State) (c : Settings) (packers : List Packer) (o : Own) (reply config sending : ℕ)
    → (in_bounds s packers o.setups && (areas_ok s reply config && (ring_ok s.audio.received 48000 && ring_ok s.audio.sending (sending / 12)))) ≡ bounds_ok (host_of s c packers o) reply config sending
unfolding bounds_ok in_bounds enumerating_ok counts_ok areas_ok
frame_bounds_lem s c packers o reply config sending = refl
