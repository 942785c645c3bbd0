-- The two microframe counts: a microframe makes both one more, and no phase begins after them (document 01, number 5).
use Prim.Native.Nat.{ℕ, ◌+◌, ◌≤◌, ◌<◌}
use mathlib.Core.Path.{◌≡◌, refl, sym, ◌∙◌}
use mathlib.Core.Bool.{true}
use native.Mathlib.Omega.{arith}
use lib.Dec.{leb, eqb}
use borrow.Author.Tests.{leb-true, le-leb, eqb-true, eq-eqb}
use Rattle.bus.specs.Steps.{and_then}
use Rattle.bus.proofs.Sizes.{and_true}
use Rattle.record.specs.declared.State.{State}
use Rattle.record.specs.Record.{wrapped, Counter, counter_of, raised, microframes}
use Rattle.record.specs.World.{World}
use Rattle.record.specs.Change.{count, started, popped, apply, left, one}
use Rattle.model.specs.Phases.{now, counts, ticks}
use Rattle.model.specs.Microframe.{microframe}
use Rattle.bounds.specs.Bounds.{MOST, counts_ok}
use Rattle.model.proofs.Holding.{Holds}
use Rattle.model.proofs.Walk.{is_other, other_same, adds_any, clears_any, walk_ticks}
use Rattle.kept.proofs.Every.{Each, every_microframe}

-- both counts are n, and the phase began no later
pub record Counted (n : ℕ) (made number start : ℕ) : Type 0 where
  pub microframes : made ≡ n
  pub numbered : number ≡ n
  pub started : start ≤ n

pub counted_of : (s : State) → counts_ok s ≡ true → Counted s.port.uf (counter_of microframes s.stats) s.port.uf s.port.t
unfolding counts_ok
counted_of s e =
    let p = and_true (eqb (counter_of microframes s.stats) s.port.uf) _ e in
    let q = and_true (leb s.port.uf MOST) _ p.1 in
    record { microframes = eqb-true (counter_of microframes s.stats) s.port.uf p.0; numbered = refl; started = leb-true s.port.t s.port.uf q.1 }

pub counted_ok_lem : (n : ℕ) (s : State) → n ≤ MOST → Counted n (counter_of microframes s.stats) s.port.uf s.port.t → counts_ok s ≡ true
unfolding counts_ok
counted_ok_lem n s few c =
    let m = c.microframes in
    let u = c.numbered in
    let b = c.started in
    let same : counter_of microframes s.stats ≡ s.port.uf = m ∙ sym u in
    simp (eq-eqb (counter_of microframes s.stats) s.port.uf same, le-leb s.port.uf MOST (omega arith), le-leb s.port.t s.port.uf (omega arith))

module _ (n : ℕ) where
  abbrev pub CountedOk : World → Type 0
  CountedOk w = Counted n (counter_of microframes w.state.stats) w.state.port.uf w.state.port.t

  counts_other : (c : Counter) (m : ℕ) → is_other c ≡ true → (w : World) → CountedOk w → CountedOk (apply (count c m) w)
  unfolding apply
  counts_other c m o w h = record { microframes = other_same c m w.state.stats o ∙ h.microframes; numbered = h.numbered; started = h.started }

  starts_now : (w : World) → CountedOk w → CountedOk (apply (started (now w)) w)
  unfolding apply
  starts_now w h =
      let u = h.numbered in
      record { microframes = h.microframes; numbered = h.numbered; started = omega arith }

  counted_each : Each CountedOk
  unfolding apply
  counted_each =
      record {
        early = record {
          stores = λ s w h. h;
          counts = counts_other;
          enters = λ p w h. h;
          starts = starts_now;
          goes = λ b w h. h;
          suspends = λ b w h. h;
          runs = λ b w h. h;
          credits = λ m w h. h;
          resets = λ w h. h;
          controls = λ c w h. h;
          clears = λ w h. h;
          forgets = λ w h. h;
        };
        marks = λ e k m w h. h;
        loses = λ m w h. h;
        waits = λ w h e. adds_any CountedOk (λ m v p. p) w h;
        passes = λ w h e. clears_any CountedOk (λ m v p. p) _ (adds_any CountedOk (λ m v p. p) w h);
        numbers = λ m w h. h;
        chooses = λ bs w e h. h;
        queues = λ bs w h. h;
        pushes = λ bs w h. h;
        replies = λ m bs w h. h;
        devices = λ bs w h. h;
        configs = λ bs w h. h;
        midis = λ m w l f h. h;
        serials = λ m w l h. h;
        receives = λ bs w h. h;
        cables = λ cs w h. h;
        frames = λ f w h. h;
        takes = λ m w h. h;
      }

  ticks_kept : Holds CountedOk ticks
  unfolding apply
  ticks_kept = walk_ticks CountedOk (λ x w h. h) (λ ts w h. h)

  pops_kept : (w : World) → CountedOk w → CountedOk (apply popped w)
  unfolding apply
  pops_kept w h = h

one_more : (n x : ℕ) → n < MOST → x ≡ n → wrapped (x + 1) ≡ n + 1
one_more n x few e = omega arith

counts_more : (n : ℕ) → n < MOST → (w : World) → CountedOk n w → CountedOk (n + 1) (left counts w)
unfolding counts and_then one apply raised
counts_more n few w h =
    let s = h.started in
    record { microframes = one_more n _ few h.microframes; numbered = one_more n _ few h.numbered; started = omega arith }

-- ---- a microframe

pub counted_kept : (n : ℕ) → n < MOST → (t : ℕ) (w : World) → CountedOk n w → CountedOk (n + 1) (left (microframe t) w)
counted_kept n few =
    every_microframe (CountedOk n) (CountedOk (n + 1)) (CountedOk (n + 1)) (CountedOk (n + 1))
    (record { counts = counts_more n few; ticks = ticks_kept (n + 1); rests = λ w h. h })
    (counted_each (n + 1)).early (counted_each (n + 1)) (λ w h. h) (pops_kept (n + 1))

pub counts_kept : (t : ℕ) (w : World) → counts_ok w.state ≡ true → w.state.port.uf < MOST → counts_ok (left (microframe t) w).state ≡ true
counts_kept t w e few =
    counted_ok_lem (w.state.port.uf + 1) _ (omega arith) (counted_kept w.state.port.uf few t w (counted_of w.state e))
