-- The text stands behind what was held, and so many of its bytes are kept.
use Rattle.std.proofs.Common.{Bool, List, ℕ, ap, ap₂, ◌∙◌, arith, rules}
use Rattle.std.proofs.lemmas.List.{same_lists, places}
use Rattle.stdio.specs.Held.{Held}
use Rattle.stdio.proofs.output.Output.append_first.Goals as goal

pub returns-clause-held : goal.returns-clause-held
returns-clause-held g c = λ room.
    let same = c.self.view_is ∙ c.reserve.ensures.kept room in
    let bytes = ap (λ (h : Held). h.bytes) same in
    ap₂ (λ (l : List ℕ) (b : Bool). record { bytes = l; failed = b }) (same_lists _ _ (search (rules, places)) (λ k d h. grind (arith, places))) (ap (λ (h : Held). h.failed) same)
