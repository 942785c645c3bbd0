-- `bounds::setups_ok` meets its contract.
use mathlib.Core.Path.{refl, ◌∙◌}
use borrow.Author.Rules.{rules}
use borrow.Author.Tests.{lt-leb, le-leb}
use Rattle.bounds.specs.Bounds.{made_at, other, setups_ok}
use Rattle.bounds.proofs.Laws.{every_made, every_other}
use Rattle.bounds.proofs.setups_ok.Goals as goal

pub returns-then-n-gt-SETUPS : goal.returns-then-n-gt-SETUPS
unfolding setups_ok
returns-then-n-gt-SETUPS c = rw (lt-leb _ 257 c.if-n-gt-SETUPS.true) refl

pub returns : goal.returns
unfolding setups_ok other
returns c =
    let q = c.args.setups.now in
    let each = c.every-each.ensures (made_at q) (λ k b h p. search rules) ∙ every_made q c.args.n in
    let last = c.every-last.ensures (other q) (λ k b h p. search rules) ∙ every_other q _ in
    rw (le-leb _ 257 c.if-n-gt-SETUPS.false, each, last, c.saturating_sub.ensures) refl
