-- `record::drain` meets its contract.
use Rattle.std.proofs.Common.{◌≡◌, ℕ, ◌+◌, ◌-◌, ◌++◌, take, drop, ap, ◌∙◌, arith}
use Rattle.record.specs.Change.{drained}
use Rattle.record.proofs.drain.Goals as goal

pub returns : goal.returns
unfolding drained
returns c =
    let a = c.args in
    let j = a.len - a.n in
    let none : 0 + j ≡ j = omega arith in
    c.copy_within.ensures.after ∙ ap (λ (k : ℕ). take j (drop a.n a.queue.now) ++ drop k a.queue.now) none
