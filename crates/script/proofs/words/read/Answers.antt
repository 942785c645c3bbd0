-- A digit more, none next, and none left.
use Rattle.std.proofs.Common.{◌≡◌, ℕ, ◌+◌, ◌*◌, ◌%◌, ◌^◌, ◌<◌, ◌≤◌, Some, None, List, ◌∷◌, length, get_or, drop, bit_or, sym, ap, ◌∙◌, arith}
use Rattle.std.specs.Prelude.{unwrap_or}
use Rattle.std.proofs.lemmas.List.{at_drop_more, at_drop_all}
use Rattle.script.specs.Line.{digit, run, hex}
use Rattle.script.proofs.Line.{leading, digit_more, digit_none, worth_lt, hex_mod, shifted, number_ends}
use Rattle.script.proofs.words.read.Goals as goal

pub loop-i-preserved : goal.loop-i-preserved
unfolding hex
loop-i-preserved c =
    let loop = c.loop-i in
    let ds = c.args.text.now in
    let b : ℕ = get_or ds loop.i 0 in
    let known : digit b ≡ Some c.in-Some.d = sym c.digit.ensures.value ∙ c.in-Some.is in
    let d : c.from.result ≡ unwrap_or (digit b) 0 = c.from.ensures ∙ sym (ap (λ o. unwrap_or o 0) known) in
    let more = digit_more b c.in-Some.d (drop (loop.i + 1) ds) known in
    let count : run (drop loop.i ds) ≡ run (drop (loop.i + 1) ds) + 1 = at_drop_more run ds loop.i 0 c.loop-i-test.true ∙ more.0 in
    let digits : leading (drop loop.i ds) ≡ b ∷ leading (drop (loop.i + 1) ds) = at_drop_more leading ds loop.i 0 c.loop-i-test.true ∙ more.1 in
    let next : bit_or (loop.value * 16 % 2 ^ 64) c.from.result % 2 ^ 64 ≡ (loop.value * 16 + unwrap_or (digit b) 0) % 2 ^ 64 = ap (λ (x : ℕ). bit_or (loop.value * 16 % 2 ^ 64) x % 2 ^ 64) d ∙ shifted loop.value (unwrap_or (digit b) 0) (worth_lt b) in (
      loop.invariant.0 ∙ omega (arith, count),
      hex_mod (leading (drop (loop.i + 1) ds)) _ _ next ∙ sym (ap (λ (bs : List ℕ). hex loop.value bs % 2 ^ 64) digits) ∙ loop.invariant.1,
    )

none_next : (ds : List ℕ) (i : ℕ) → i < length ds → None ≡ digit (get_or ds i 0) → run (drop i ds) ≡ 0
none_next ds i inside e = at_drop_more run ds i 0 inside ∙ digit_none (get_or ds i 0) (drop (i + 1) ds) (sym e)

none_left : (ds : List ℕ) (i : ℕ) → length ds ≤ i → run (drop i ds) ≡ 0
unfolding run
none_left ds i end = at_drop_all run ds i end

pub returns-in_default-clause-count : goal.returns-in_default-clause-count
returns-in_default-clause-count c =
    let ends = none_next c.args.text.now c.loop-i.i c.loop-i-test.true (sym c.in_default.is ∙ c.digit.ensures.value) in
    omega (arith, ends, c.loop-i.invariant.0)

pub returns-in_default-clause-value : goal.returns-in_default-clause-value
returns-in_default-clause-value c few =
    let ends = none_next c.args.text.now c.loop-i.i c.loop-i-test.true (sym c.in_default.is ∙ c.digit.ensures.value) in
    number_ends c.args.text.now c.loop-i.i c.loop-i.value (omega (arith, ends, c.loop-i.invariant.0)) ends c.loop-i.invariant.1 (omega arith) few

pub returns-clause-count : goal.returns-clause-count
returns-clause-count c = omega (arith, none_left c.args.text.now c.loop-i.i (omega arith), c.loop-i.invariant.0)

pub returns-clause-value : goal.returns-clause-value
returns-clause-value c few =
    let ends = none_left c.args.text.now c.loop-i.i (omega arith) in
    number_ends c.args.text.now c.loop-i.i c.loop-i.value (omega (arith, ends, c.loop-i.invariant.0)) ends c.loop-i.invariant.1 (omega arith) (omega arith)
