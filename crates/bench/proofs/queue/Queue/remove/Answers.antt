-- What is left moves to the front.
use Rattle.std.proofs.Common.{arith, rules}
use Rattle.std.proofs.lemmas.List.{same_lists, places}
use Rattle.bench.proofs.queue.Queue.remove.Goals as goal

pub returns : goal.returns
returns c = rw c.copy_within.ensures.after (same_lists _ _ (search (rules, places)) (λ k d h. grind (arith, places)))
