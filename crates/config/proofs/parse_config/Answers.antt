-- The loop goes from descriptor to descriptor, and ends where none is whole.
use mathlib.Core.Path.{sym, ap, ◌∙◌}
use Rattle.config.specs.Config.{Walk}
use Rattle.config.specs.Table.{info_of}
use Rattle.config.proofs.Cut.{walk_on, walk_end}
use Rattle.config.proofs.parse_config.Goals as goal

pub loop-descriptor-preserved : goal.loop-descriptor-preserved
loop-descriptor-preserved c = walk_on _ _ c.in-Some.ensures c.step.ensures ∙ c.loop-descriptor.invariant

pub returns : goal.returns
returns c = ap (λ (w : Walk). info_of w.choice) (sym (walk_end _ _ c.in_default.ensures) ∙ c.loop-descriptor.invariant)
