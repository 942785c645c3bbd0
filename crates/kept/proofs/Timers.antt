-- The timers: a count that stands loses at most 125 in a microframe, and is never above 2^24 (document 01, number 5).
use Prim.Native.Nat.{ℕ, ◌+◌, ◌-◌, ◌^◌, ◌≤◌, ◌<◌}
use mathlib.Core.Path.{◌≡◌, refl}
use mathlib.Core.Bool.{Bool, true, false}
use mathlib.Core.List.{List}
use native.Mathlib.Omega.{arith}
use lib.Bits.{and_le_r}
use lib.Dec.{leb, ltb}
use borrow.Author.Tests.{leb-true, le-leb, ltb-true}
use Rattle.std.specs.Prelude.{Some, None}
use Rattle.bits.specs.Pick.{pick, pick_both}
use Rattle.bits.specs.Word.{any}
use Rattle.bus.specs.Steps.{and_then}
use Rattle.bus.specs.Words.{word_at}
use Rattle.bus.proofs.Sizes.{and_true}
use Rattle.usbdev.specs.Registers.{Registers, done, raising}
use Rattle.gptimers.specs.declared.Timers.{Timers}
use Rattle.gptimers.specs.Timer.{Timer, ZERO, STEP, counting, load_register, RUN, RESET, REPEAT, load_of, after_reset, start_of, next, expired, counted_timer, ticked, ticked_both, control_of, in_range, LOWEST, HIGHEST}
use Rattle.record.specs.World.{World}
use Rattle.record.specs.Change.{apply, timers, popped, left, one, here}
use Rattle.model.specs.Phases.{registers_of, counts, ticks}
use Rattle.model.specs.Microframe.{microframe}
use Rattle.bounds.specs.Bounds.{MOST, times, timer_ok, timers_ok}
use Rattle.model.proofs.Holding.{holds_seq}
use Rattle.model.proofs.Walk.{on_page_lem, adds_any, clears_any}
use Rattle.kept.proofs.Every.{Each, every_microframe}

-- a count that stands, stands within these
abbrev pub Within : ℕ → Timer → Type 0
Within low (Some count) = (low ≤ count) × (count ≤ HIGHEST)
Within low None = Unit {0}

pub within : (t : Timer) (n : ℕ) → timer_ok t n ≡ true → Within (ZERO - times 125 n) t
unfolding timer_ok
within (Some count) n e =
    let b = and_true (leb (ZERO - times 125 n) count) (leb count HIGHEST) e in
    (leb-true (ZERO - times 125 n) count b.0, leb-true count HIGHEST b.1)
within None n e = tt

pub within_ok : (t : Timer) (n : ℕ) → Within (ZERO - times 125 n) t → timer_ok t n ≡ true
unfolding timer_ok
within_ok (Some count) n h = simp (le-leb (ZERO - times 125 n) count h.0, le-leb count HIGHEST h.1)
within_ok None n h = refl

-- a lower bound serves too
within_less : (low next : ℕ) (t : Timer) → next ≤ low → Within low t → Within next t
within_less low next (Some count) l h = (omega (arith, h.0), h.1)
within_less low next None l h = tt

load_le : (k : ℕ) (p : List ℕ) → load_of k p ≤ 0xFFFFFF
unfolding load_of
load_le k p = and_le_r (word_at p (load_register k)) 0xFFFFFF

module _ (low : ℕ) (some : 125 ≤ low) (below : low ≤ ZERO) where
  start_within : (k : ℕ) (t : Timer) (p : List ℕ) → Within low t → (low ≤ start_of k t p) × (start_of k t p ≤ HIGHEST)
  unfolding start_of
  start_within k (Some count) p h = h
  start_within k None p h = let l = load_le k p in (omega arith, omega arith)

  module _ (k c : ℕ) (t : Timer) (r : Registers) (h : Within low t) where
    abbrev rest : ℕ
    rest = start_of k t r.page - 125

    expired_within : rest < ZERO → Within (low - 125) (expired k c rest r)
    unfolding expired next
    expired_within l =
        let s = start_within k t r.page h in
        let d = load_le k (done (raising (2 ^ (24 + k))) r).page in
        pick_both (Within (low - 125)) (any c REPEAT) (omega arith, omega arith) tt

    going_within : Within (low - 125) (counting rest)
    going_within = let s = start_within k t r.page h in (omega arith, omega arith)

    by_zero : (b : Bool) → ltb rest ZERO ≡ b → Within (low - 125) (pick b (expired k c rest r) (counting rest))
    by_zero true e = expired_within (ltb-true rest ZERO e)
    by_zero false e = going_within

    less : Within (low - 125) t
    less = within_less low (low - 125) t (omega arith) h

    counted_within : Within (low - 125) (counted_timer STEP k c t r)
    unfolding counted_timer
    counted_within = pick_both (Within (low - 125)) (any c RUN) (by_zero (ltb rest ZERO) refl) less

  reset_within : (c : ℕ) (t : Timer) → Within low t → Within low (after_reset c t)
  unfolding after_reset
  reset_within c t h = pick_both (Within low) (any c RESET) tt h

  ticked_within : (k : ℕ) (t : Timer) (r : Registers) → Within low t → Within (low - 125) (ticked STEP k t r)
  unfolding ticked
  ticked_within k t r h = counted_within k _ _ _ (reset_within (control_of k r) t h)

-- ---- both timers, in a microframe

both_ok : (ts : Timers) (n : ℕ) → timer_ok ts.zero n ≡ true → timer_ok ts.one n ≡ true → timers_ok ts n ≡ true
unfolding timers_ok
both_ok ts n p q = simp (p, q)

pub both_timers : (ts : Timers) (n : ℕ) → timers_ok ts n ≡ true → (timer_ok ts.zero n ≡ true) × (timer_ok ts.one n ≡ true)
unfolding timers_ok
both_timers ts n e = and_true (timer_ok ts.zero n) (timer_ok ts.one n) e

module _ (n : ℕ) (few : n < MOST) where
  -- one microframe more
  next_low : (t : Timer) → Within (ZERO - times 125 n - 125) t → timer_ok t (n + 1) ≡ true
  next_low t h = within_ok t (n + 1) (within_less (ZERO - times 125 n - 125) (ZERO - times 125 (n + 1)) t (omega arith) h)

  timer_ticked : (k : ℕ) (t : Timer) (r : Registers) → timer_ok t n ≡ true → timer_ok (ticked STEP k t r) (n + 1) ≡ true
  timer_ticked k t r e =
      next_low (ticked STEP k t r) (ticked_within (ZERO - times 125 n) (omega arith) (omega arith) k t r (within t n e))

  timer_rests : (t : Timer) → timer_ok t n ≡ true → timer_ok t (n + 1) ≡ true
  timer_rests t e = next_low t (within_less (ZERO - times 125 n) (ZERO - times 125 n - 125) t (omega arith) (within t n e))

  timers_ticked : (ts : Timers) (r : Registers) → timers_ok ts n ≡ true → timers_ok (ticked_both STEP ts r) (n + 1) ≡ true
  unfolding ticked_both
  timers_ticked ts r e =
      let b = both_timers ts n e in
      both_ok _ (n + 1) (timer_ticked 0 ts.zero r b.0) (timer_ticked 1 ts.one _ b.1)

  timers_rest : (ts : Timers) → timers_ok ts n ≡ true → timers_ok ts (n + 1) ≡ true
  timers_rest ts e =
      let b = both_timers ts n e in
      both_ok ts (n + 1) (timer_rests ts.zero b.0) (timer_rests ts.one b.1)

abbrev TimersOk : ℕ → World → Type 0
TimersOk n w = timers_ok w.state.timers n ≡ true

timers_each : (n : ℕ) → Each (TimersOk n)
unfolding apply
timers_each n =
    record {
      early = record {
        stores = λ s w h. h;
        counts = λ c m o w h. h;
        enters = λ p w h. h;
        starts = λ w h. h;
        goes = λ b w h. h;
        suspends = λ b w h. h;
        runs = λ b w h. h;
        credits = λ m w h. h;
        resets = λ w h. h;
        controls = λ c w h. h;
        clears = λ w h. h;
        forgets = λ w h. h;
      };
      marks = λ e k m w h. h;
      loses = λ m w h. h;
      waits = λ w h e. adds_any (TimersOk n) (λ m v p. p) w h;
      passes = λ w h e. clears_any (TimersOk n) (λ m v p. p) _ (adds_any (TimersOk n) (λ m v p. p) w h);
      numbers = λ m w h. h;
      chooses = λ bs w e h. h;
      queues = λ bs w h. h;
      pushes = λ bs w h. h;
      replies = λ m bs w h. h;
      devices = λ bs w h. h;
      configs = λ bs w h. h;
      midis = λ m w l f h. h;
      serials = λ m w l h. h;
      receives = λ bs w h. h;
      cables = λ cs w h. h;
      frames = λ f w h. h;
      takes = λ m w h. h;
    }

after_counts : (n : ℕ) (w : World) → TimersOk n w → TimersOk n (left counts w)
unfolding counts and_then one apply
after_counts n w h = h

after_pop : (n : ℕ) (w : World) → TimersOk n w → TimersOk n (apply popped w)
unfolding apply
after_pop n w h = h

set_timers : (n : ℕ) (ts : Timers) (w : World) → timers_ok ts n ≡ true → TimersOk n (left (one (λ v. timers ts)) w)
unfolding one apply
set_timers n ts w e = e

after_ticks_lem : (n : ℕ) → n < MOST → (w : World) → TimersOk n w → TimersOk (n + 1) (left ticks w)
unfolding ticks here
after_ticks_lem n few w h =
    let ts = ticked_both STEP w.state.timers (registers_of w) in
    holds_seq (TimersOk (n + 1)) (one (λ v. timers ts)) _ w
    (on_page_lem (TimersOk (n + 1)) (timers_each (n + 1)).early.stores _ _
    (set_timers (n + 1) ts w (timers_ticked n few w.state.timers (registers_of w) h)))

pub timers_kept : (n : ℕ) → n < MOST → (t : ℕ) (w : World) → timers_ok w.state.timers n ≡ true → timers_ok (left (microframe t) w).state.timers (n + 1) ≡ true
timers_kept n few =
    every_microframe (TimersOk n) (TimersOk n) (TimersOk (n + 1)) (TimersOk (n + 1))
    (record { counts = after_counts n; ticks = after_ticks_lem n few; rests = λ w h. timers_rest n few w.state.timers h })
    (timers_each (n + 1)).early (timers_each (n + 1)) (λ w h. h) (after_pop (n + 1))

-- ---- what the code requires

range_of : (t : Timer) (n : ℕ) → n ≤ MOST → timer_ok t n ≡ true → in_range t ≡ true
unfolding in_range
range_of (Some count) n few e =
    let b = within (Some count) n e in
    simp (le-leb LOWEST count (omega (arith, b.0)), le-leb count HIGHEST b.1)
range_of None n few e = refl

pub timers_range : (ts : Timers) (n : ℕ) → n ≤ MOST → timers_ok ts n ≡ true → (in_range ts.zero ≡ true) × (in_range ts.one ≡ true)
timers_range ts n few e =
    let b = both_timers ts n e in
    (range_of ts.zero n few b.0, range_of ts.one n few b.1)
