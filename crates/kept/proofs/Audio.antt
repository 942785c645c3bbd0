-- The audio stream's bounds: an input budget of at most 32,766 past its test, and a block of 33 to 2,047 bytes with its channels (document 01, number 5).
use Prim.Native.Nat.{ℕ, ◌+◌, ◌-◌, ◌/◌, ◌≤◌, ◌<◌}
use mathlib.Core.Path.{◌≡◌, refl, ap, sym, subst, ◌∙◌}
use mathlib.Core.Bool.{Bool, true, false}
use mathlib.Core.List.{List}
use native.Mathlib.Omega.{arith}
use lib.Dec.{leb, ltb, eqb}
use borrow.Author.Tests.{le-leb, ltb-true, eq-eqb}
use Rattle.bits.specs.Pick.{pick}
use Rattle.bus.specs.Steps.{exec_choose}
use Rattle.bus.proofs.Sizes.{and_true}
use Rattle.usbdev.proofs.Tokens.{total_lt}
use Rattle.config.specs.Config.{parsed}
use Rattle.config.proofs.Sizes.{sizes_small}
use Rattle.dtd.specs.Dtd.{token_of, next_dtd}
use Rattle.record.specs.declared.Audio.{Audio}
use Rattle.record.specs.Record.{wrapped, with_budget, with_block}
use Rattle.record.specs.World.{World}
use Rattle.record.specs.Change.{budget, block, apply, left, one, nothing}
use Rattle.model.specs.Audio.{audio_in, BLOCK, named, adds_budget, over_budget, clears_budget}
use Rattle.model.specs.Microframe.{microframe}
use Rattle.model.specs.Reach.{at_output}
use Rattle.bounds.specs.Bounds.{audio_ok}
use Rattle.kept.proofs.Every.{Each, Whole, whole_microframe, whole_output}

record InBounds (a : Audio) : Type 0 where
  low : leb 33 a.block ≡ true
  few : leb a.budget 32766 ≡ true
  high : leb a.block 2047 ≡ true
  channels : eqb a.channels ((a.block - 32) / 28) ≡ true

says : (a : Audio) → audio_ok a ≡ true → InBounds a
unfolding audio_ok
says a e =
    let p = and_true (leb 33 a.block) _ e in
    let q = and_true (leb a.budget 32766) _ p.1 in
    let r = and_true (leb a.block 2047) _ q.1 in
    record { low = p.0; few = q.0; high = r.0; channels = r.1 }

is_ok : (a : Audio) → InBounds a → audio_ok a ≡ true
unfolding audio_ok
is_ok a b = simp (b.low, b.few, b.high, b.channels)

with_budget_lem : (a : Audio) (n : ℕ) → n ≤ 32766 → audio_ok a ≡ true → audio_ok (with_budget a n) ≡ true
with_budget_lem a n h e =
    let b = says a e in
    is_ok (with_budget a n) (record { low = b.low; few = le-leb n 32766 h; high = b.high; channels = b.channels })

with_block_lem : (a : Audio) (n : ℕ) → 32 < n → n < 2048 → audio_ok a ≡ true → audio_ok (with_block a n ((n - 32) / 28)) ≡ true
with_block_lem a n p q e =
    let b = says a e in
    is_ok (with_block a n ((n - 32) / 28)) (record { low = le-leb 33 n (omega arith); few = b.few; high = le-leb n 2047 (omega arith); channels = eq-eqb ((n - 32) / 28) ((n - 32) / 28) refl })

-- ---- the budget past its test

abbrev AudioOk : World → Type 0
AudioOk w = audio_ok w.state.audio ≡ true

abbrev more : World → ℕ
more w = wrapped (w.state.audio.budget + BLOCK)

adds_by : (w : World) (b : Bool) → named w ≡ b → left adds_budget w ≡ pick b (apply (budget (more w)) w) w
unfolding adds_budget one nothing
adds_by w b e = exec_choose apply named _ nothing w ∙ ap (λ (t : Bool). pick t (apply (budget (more w)) w) w) e

clears_by : (w : World) (b : Bool) → named w ≡ b → left clears_budget w ≡ pick b (apply (budget 0) w) w
unfolding clears_budget one nothing
clears_by w b e = exec_choose apply named _ nothing w ∙ ap (λ (t : Bool). pick t (apply (budget 0) w) w) e

budgeted : (n : ℕ) (w : World) → n ≤ 32766 → AudioOk w → AudioOk (apply (budget n) w)
unfolding apply
budgeted n w l h = with_budget_lem w.state.audio n l h

-- no descriptor has more than 32,767 bytes
over_small : (n : ℕ) (w : World) → over_budget (apply (budget n) w) ≡ true → n ≤ 32766
unfolding over_budget apply
over_small n w e =
    let b = and_true (named (apply (budget n) w)) _ e in
    let l = ltb-true n _ b.1 in
    let s = total_lt (token_of (next_dtd audio_in w.lent.memory) w.lent.memory) in
    omega (arith, l, s)

waits : (w : World) → AudioOk w → over_budget (left adds_budget w) ≡ true → AudioOk (left adds_budget w)
waits w h e = by_named (named w) refl
  where
    by_named : (b : Bool) → named w ≡ b → AudioOk (left adds_budget w)
    by_named true n =
        let is = adds_by w true n in
        subst AudioOk (sym is) (budgeted (more w) w (over_small (more w) w (subst (λ (u : World). over_budget u ≡ true) is e)) h)
    by_named false n = subst AudioOk (sym (adds_by w false n)) h

-- the budget does not decide whether a descriptor is named
named_same : (n : ℕ) (w : World) → named (apply (budget n) w) ≡ named w
unfolding named apply
named_same n w = refl

audio_any : (n : ℕ) (m : ℕ) (w : World) → m ≤ 32766 → AudioOk w → AudioOk (apply (budget m) (apply (budget n) w))
unfolding apply
audio_any n m w l h = with_budget_lem w.state.audio m l h

passes : (w : World) → AudioOk w → over_budget (left adds_budget w) ≡ false → AudioOk (left clears_budget (left adds_budget w))
passes w h e = by_named (named w) refl
  where
    by_named : (b : Bool) → named w ≡ b → AudioOk (left clears_budget (left adds_budget w))
    by_named true n =
        subst (λ (u : World). AudioOk (left clears_budget u)) (sym (adds_by w true n))
        (subst AudioOk (sym (clears_by (apply (budget (more w)) w) true (named_same (more w) w ∙ n))) (audio_any (more w) 0 w (omega arith) h))
    by_named false n =
        subst (λ (u : World). AudioOk (left clears_budget u)) (sym (adds_by w false n)) (subst AudioOk (sym (clears_by w false n)) h)

-- ---- every change

chosen : (bs : List ℕ) (w : World) → ltb 32 (parsed bs).output ≡ true → AudioOk w → AudioOk (apply (block (parsed bs).output (((parsed bs).output - 32) / 28)) w)
unfolding apply
chosen bs w e h = with_block_lem w.state.audio (parsed bs).output (ltb-true 32 (parsed bs).output e) (sizes_small bs).output h

audio_each : Each AudioOk
unfolding apply audio_ok
audio_each =
    record {
      early = record {
        stores = λ s w h. h;
        counts = λ c m o w h. h;
        enters = λ p w h. h;
        starts = λ w h. h;
        goes = λ b w h. h;
        suspends = λ b w h. h;
        runs = λ b w h. h;
        credits = λ m w h. h;
        resets = λ w h. budgeted 0 w (omega arith) h;
        controls = λ c w h. h;
        clears = λ w h. h;
        forgets = λ w h. h;
      };
      marks = λ e k m w h. h;
      loses = λ m w h. h;
      waits = waits;
      passes = passes;
      numbers = λ m w h. h;
      chooses = chosen;
      queues = λ bs w h. h;
      pushes = λ bs w h. h;
      replies = λ m bs w h. h;
      devices = λ bs w h. h;
      configs = λ bs w h. h;
      midis = λ m w l f h. h;
      serials = λ m w l h. h;
      receives = λ bs w h. h;
      cables = λ cs w h. h;
      frames = λ f w h. h;
      takes = λ m w h. h;
    }

audio_whole : Whole AudioOk
unfolding apply
audio_whole =
    record {
      each = audio_each;
      pops = λ w h. h;
      counted = λ n w h. h;
      numbered = λ n w h. h;
      ticked = λ ts w h. h;
    }

pub audio_kept : (t : ℕ) (w : World) → audio_ok w.state.audio ≡ true → audio_ok (left (microframe t) w).state.audio ≡ true
audio_kept = whole_microframe AudioOk audio_whole

-- and at the output step
pub audio_output : (w : World) → audio_ok w.state.audio ≡ true → audio_ok (at_output w).state.audio ≡ true
audio_output = whole_output AudioOk audio_whole
