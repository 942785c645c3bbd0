-- A digit passed, one that is none, and none left.
use Rattle.std.proofs.Common.{Bool, true, false, ◌&&◌, ◌≡◌, ◌+◌, drop, sym, ap, ◌∙◌, arith}
use Rattle.std.specs.Prelude.{is_some}
use Rattle.std.proofs.lemmas.List.{at_drop_all}
use Rattle.script.specs.Line.{run}
use Rattle.script.proofs.Line.{whole, whole_next}
use Rattle.script.proofs.words.all_digits.Goals as goal

pub loop-i-preserved : goal.loop-i-preserved
loop-i-preserved c =
    let i = c.loop-i.i in
    let ds = c.args.text.now in
    ap (λ (x : Bool). x && whole (drop (i + 1) ds)) (sym c.if-not-is_digit.false ∙ c.is_digit.ensures) ∙ sym (whole_next ds i c.loop-i-test.true) ∙ c.loop-i.invariant

pub returns-then-not-is_digit : goal.returns-then-not-is_digit
returns-then-not-is_digit c =
    let i = c.loop-i.i in
    let ds = c.args.text.now in
    ap (λ (x : Bool). x && whole (drop (i + 1) ds)) (sym c.if-not-is_digit.true ∙ c.is_digit.ensures) ∙ sym (whole_next ds i c.loop-i-test.true) ∙ c.loop-i.invariant

pub returns : goal.returns
unfolding run
returns c = sym (at_drop_all whole c.args.text.now c.loop-i.i (omega arith)) ∙ c.loop-i.invariant
