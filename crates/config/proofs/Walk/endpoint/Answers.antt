-- `config::Walk::endpoint` meets its contract.
use mathlib.Core.Path.{refl, sym, ◌∙◌}
use Rattle.config.proofs.Walk.endpoint.Goals as goal

pub returns-then-not-counts : goal.returns-then-not-counts
returns-then-not-counts c = rw (sym c.counts.ensures ∙ c.if-not-counts.true) refl

pub returns : goal.returns
returns c = rw (sym c.counts.ensures ∙ c.if-not-counts.false, c.choose.ensures, c.packet_size.ensures) refl
