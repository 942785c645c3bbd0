-- An array of so many equal words has that length; the lemma is cited, since the list itself is too long to compute.
use Rattle.std.proofs.Common.{ℕ, sym}
use Rattle.std.proofs.lemmas.List.{length-replicate}
use Rattle.limits.proofs.marks.word_marks.Goals as goal

pub returns : goal.returns
returns c = sym (length-replicate {0} {A = ℕ} 576012 4008636142)
