-- Two digits more, and none left.
use Rattle.std.proofs.Common.{refl, Bool, true, false, ◌&&◌, ◌≡◌, ℕ, ◌+◌, ◌*◌, List, [], ◌∷◌, ◌++◌, set, take, drop, ap, ap₂, sym, ◌∙◌, append_assoc, append-nil, add-one, arith, get_or}
use Rattle.std.specs.Prelude.{is_some, unwrap_or}
use Rattle.std.proofs.Math.Seq.{take-suc-set}
use Rattle.std.proofs.lemmas.List.{take_all, at_drop_all}
use Rattle.script.specs.Line.{byte, run, bytes}
use Rattle.script.proofs.Line.{bytes_more, whole, whole_more}
use Rattle.script.proofs.words.put_digits.Goals as goal

all_more : (a b w : Bool) → ((a && b) && w) ≡ (a && (b && w))
all_more true b w = refl
all_more false b w = refl

all_none : (a : Bool) → a ≡ (a && true)
all_none true = refl
all_none false = refl

pub loop-i-preserved : goal.loop-i-preserved
loop-i-preserved c =
    let i = c.loop-i.i in
    let p = c.loop-i.part in
    let ds = c.args.text.now in
    let v = c.pair-value.result.0 in
    let first : take (i + 1) (set p i v) ≡ take i p ++ v ∷ [] = rw add-one (take-suc-set p i v (omega arith)) in
    let worth = c.pair-value.ensures.value in
    let two : 2 * i + 2 ≡ 2 * (i + 1) = omega arith in
    let rest = bytes_more ds (2 * i) (omega arith) ∙ ap₂ (λ (x n : ℕ). x ∷ bytes (drop n ds)) (sym worth) two in
    let valid : c.pair-value.result.1 ≡ is_some (byte (get_or ds (2 * i) 0) (get_or ds (2 * i + 1) 0)) = c.pair-value.ensures.both in
    let left : (c.pair-value.result.1 && whole (drop (2 * (i + 1)) ds)) ≡ whole (drop (2 * i) ds) = ap₂ (λ (x : Bool) (n : ℕ). x && whole (drop n ds)) valid (sym two) ∙ sym (whole_more ds (2 * i) (omega arith)) in (
      ap (λ (l : List ℕ). l ++ bytes (drop (2 * (i + 1)) ds)) first
          ∙ append_assoc (take i p) (v ∷ []) (bytes (drop (2 * (i + 1)) ds))
          ∙ ap (λ (l : List ℕ). take i p ++ l) (sym rest) ∙ c.loop-i.invariant.0,
      all_more c.loop-i.all c.pair-value.result.1 _ ∙ ap (λ x. c.loop-i.all && x) left ∙ c.loop-i.invariant.1,
    )

pub returns-clause-all : goal.returns-clause-all
unfolding run
returns-clause-all c =
    let ds = c.args.text.now in
    let none : whole (drop (2 * c.loop-i.i) ds) ≡ true = at_drop_all whole ds (2 * c.loop-i.i) (omega arith) in
    all_none c.loop-i.all ∙ ap (λ x. c.loop-i.all && x) (sym none) ∙ c.loop-i.invariant.1

pub returns-clause-value : goal.returns-clause-value
unfolding bytes
returns-clause-value c =
    let i = c.loop-i.i in
    let p = c.loop-i.part in
    let none = at_drop_all bytes c.args.text.now (2 * i) (omega arith) in
    let all : take i p ≡ p = take_all i p (omega arith) in
    sym (ap₂ (λ (k l : List ℕ). k ++ l) all none ∙ append-nil p) ∙ c.loop-i.invariant.0
