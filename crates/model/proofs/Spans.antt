-- The tests of time and of the run bit are what the papers say: one law over a span, one over the gone spans, one over RS.
use Prim.Native.Nat.{ℕ, zero, suc, ◌%◌, ◌<◌}
use mathlib.Core.Path.{◌≡◌, sym, ap, ◌∙◌}
use mathlib.Core.Bool.{Bool, true, ◌||◌}
use mathlib.Core.List.{List, [], ◌∷◌}
use mathlib.Core.Logic.{◌↔◌}
use native.Mathlib.Omega.{arith}
use lib.Dec.{leb, ltb}
use lib.ListN.{get_or, take}
use borrow.Author.Tests.{eqb-true, eq-eqb, leb-true, le-leb, ltb-true, lt-ltb}
use Rattle.bits.proofs.Bit.{bit, any_bit}
use Rattle.bits.proofs.Tests.{false_true, and_first, and_second, and_both, or_case, or_second}
use Rattle.bus.specs.Words.{word_at}
use Rattle.record.specs.declared.Span.{Span}
use Rattle.record.specs.Record.{no_span}
use Rattle.record.specs.World.{World}
use Rattle.model.specs.Phases.{holds, within, any_span}
use Rattle.model.specs.Microframe.{rs_set, gone_at, asleep_at}
use Rattle.model.specs.PortMarks.{Between, InGone, InSuspend, RunBit}

-- ---- one span

pub holds_between : (from to t : ℕ) → (holds from to t ≡ true) ↔ Between from to t
holds_between from to t = (
  λ e. record { start = leb-true from t (and_first (leb from t) (ltb t to) e); end = ltb-true t to (and_second (leb from t) (ltb t to) e) },
  λ b. and_both (leb from t) (ltb t to) (le-leb from t b.start) (lt-ltb t to b.end),
)

pub within_between : (s : Span) (t : ℕ) → (within s t ≡ true) ↔ Between s.from s.to t
within_between s t = holds_between s.from s.to t

-- ---- some spans

-- one of the first n holds t
record Listed (spans : List Span) (n t : ℕ) : Type 0 where
  place : ℕ
  listed : place < n
  holding : Between (get_or spans place no_span).from (get_or spans place no_span).to t

behind : (s : Span) (ss : List Span) (n t : ℕ) → Listed ss n t → Listed (s ∷ ss) (suc n) t
behind s ss n t f = record { place = suc f.place; listed = omega (arith, f.listed); holding = f.holding }

finds : (ss : List Span) (n t : ℕ) → any_span (take n ss) t ≡ true → Listed ss n t
finds ss zero t e = absurd (false_true e)
finds [] (suc n) t e = absurd (false_true e)
finds (s ∷ ss) (suc n) t e =
    or_case (within s t) (any_span (take n ss) t) e
    (λ h. record { place = 0; listed = omega arith; holding = (within_between s t).0 h })
    (λ h. behind s ss n t (finds ss n t h))

found : (ss : List Span) (n t i : ℕ) → i < n → Between (get_or ss i no_span).from (get_or ss i no_span).to t → any_span (take n ss) t ≡ true
found ss zero t i less b = absurd (omega (arith, less))
found [] (suc n) t i less b = absurd (omega (arith, b.end))
found (s ∷ ss) (suc n) t zero less b = ap (λ (x : Bool). x || any_span (take n ss) t) ((within_between s t).1 b)
found (s ∷ ss) (suc n) t (suc i) less b = or_second (within s t) _ (found ss n t i (omega (arith, less)) b)

-- document 01, "Host record": the record lists spans, each holds its start and not its end
pub gone_spans : (t : ℕ) (w : World) → (gone_at t w ≡ true) ↔ InGone w.settings t
gone_spans t w = (
  λ e. shown (finds w.settings.gone w.settings.spans t e),
  λ g. found w.settings.gone w.settings.spans t g.i g.listed (record { start = g.start; end = g.end }),
)
  where
    shown : Listed w.settings.gone w.settings.spans t → InGone w.settings t
    shown f = record { i = f.place; listed = f.listed; start = f.holding.start; end = f.holding.end }

pub suspend_span : (t : ℕ) (w : World) → (asleep_at t w ≡ true) ↔ InSuspend w.settings t
suspend_span t w = within_between w.settings.suspend t

-- ---- the run bit

pub run_bit : (w : World) → (rs_set w ≡ true) ↔ RunBit w.lent.memory.page
unfolding bit
run_bit w =
    let v = word_at w.lent.memory.page 0x140 in
    (λ e. eqb-true (v % 2) 1 (sym (any_bit 0 v) ∙ e), λ e. any_bit 0 v ∙ eq-eqb (v % 2) 1 e)
