-- Two digits more, and none left.
use Rattle.std.proofs.Common.{◌≡◌, true, ◌&&◌, ℕ, ◌+◌, ◌*◌, List, [], ◌∷◌, ◌++◌, set, take, drop, ap, ap₂, sym, ◌∙◌, append_assoc, append-nil, add-one, arith, get_or}
use Rattle.std.proofs.Math.Seq.{take-suc-set}
use Rattle.std.proofs.lemmas.List.{take_all, at_drop_all}
use Rattle.bus.proofs.Sizes.{and_true}
use Rattle.script.specs.Line.{bytes}
use Rattle.script.proofs.Line.{bytes_more, whole, whole_more}
use Rattle.script.proofs.words.put_tested.Goals as goal

pub loop-i-preserved : goal.loop-i-preserved
loop-i-preserved c all =
    let i = c.loop-i.i in
    let p = c.loop-i.part in
    let ds = c.args.text.now in
    let v = c.made.result in
    let so = c.loop-i.invariant all in
    let two : 2 * i + 2 ≡ 2 * (i + 1) = omega arith in
    let digits = and_true _ _ (sym (whole_more ds (2 * i) (omega arith)) ∙ so.1) in
    let first : take (i + 1) (set p i v) ≡ take i p ++ v ∷ [] = rw add-one (take-suc-set p i v (omega arith)) in
    let rest = bytes_more ds (2 * i) (omega arith) ∙ ap₂ (λ (x n : ℕ). x ∷ bytes (drop n ds)) (sym (c.made.ensures digits.0)) two in (
      ap (λ (l : List ℕ). l ++ bytes (drop (2 * (i + 1)) ds)) first
          ∙ append_assoc (take i p) (v ∷ []) (bytes (drop (2 * (i + 1)) ds))
          ∙ ap (λ (l : List ℕ). take i p ++ l) (sym rest) ∙ so.0,
      ap (λ (n : ℕ). whole (drop n ds)) (sym two) ∙ digits.1,
    )

pub returns : goal.returns
unfolding bytes
returns c all =
    let i = c.loop-i.i in
    let p = c.loop-i.part in
    let none = at_drop_all bytes c.args.text.now (2 * i) (omega arith) in
    let whole_part : take i p ≡ p = take_all i p (omega arith) in
    sym (ap₂ (λ (k l : List ℕ). k ++ l) whole_part none ∙ append-nil p) ∙ (c.loop-i.invariant all).0
