-- `record::State::counter` meets its contract.
use Rattle.std.proofs.Common.{ℕ, sym, ap, ◌∙◌}
use Rattle.record.specs.Record.{counter_at}
use Rattle.record.proofs.Counters.{counter_element}
use Rattle.record.proofs.State.counter.Goals as goal

pub returns : goal.returns
returns c =
    let stats = c.args.self.stats in
    sym (counter_element c.place.result stats) ∙ ap (λ (k : ℕ). counter_at k stats) c.place.ensures.value
