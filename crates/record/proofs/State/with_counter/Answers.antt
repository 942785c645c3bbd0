-- `record::State::with_counter` meets its contract.
use Rattle.std.proofs.Common.{ℕ, ◌<◌, length, sym, ap, ◌∙◌, rules}
use Rattle.record.specs.Record.{with_stats, with_counter_at}
use Rattle.record.proofs.Counters.{counter_stored}
use Rattle.record.proofs.State.with_counter.Goals as goal

pub returns : goal.returns
returns c =
    let a = c.args in
    let few : c.place.result < length a.self.stats = search rules in
    ap (with_stats a.self) (sym (counter_stored c.place.result a.x a.self.stats few) ∙ ap (λ (k : ℕ). with_counter_at k a.x a.self.stats) c.place.ensures.value)
