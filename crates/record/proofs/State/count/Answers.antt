-- `record::State::count` meets its contract.
use Rattle.std.proofs.Common.{ℕ, ◌+◌, ap, ◌∙◌}
use Rattle.record.specs.Record.{place, wrapped, with_stats, with_counter_at, raised}
use Rattle.record.proofs.State.count.Goals as goal

pub returns : goal.returns
unfolding raised
returns c =
    let a = c.args in
    c.with_counter.ensures
    ∙ ap (λ (x : ℕ). with_stats a.self (with_counter_at (place a.c) (wrapped (x + a.n)) a.self.stats)) c.counter.ensures
