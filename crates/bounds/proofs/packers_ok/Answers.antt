-- `bounds::packers_ok` meets its contract.
use mathlib.Core.Path.{sym, ◌∙◌}
use borrow.Author.Rules.{rules}
use Rattle.midi.specs.Packer.{packer_at}
use Rattle.bounds.specs.Bounds.{packer_ok, holds_none}
use Rattle.bounds.proofs.Laws.{every_packer, none_held_ok}
use Rattle.bounds.proofs.packers_ok.Goals as goal

pub returns-then-every : goal.returns-then-every
returns-then-every c =
    let ps = c.args.packers in
    let none = c.every.ensures (λ k. holds_none (packer_at ps k)) (λ k b h p. search rules) ∙ every_packer holds_none ps _ in
    sym (none_held_ok ps (sym none ∙ c.if-every.true))

pub returns : goal.returns
returns c =
    let ps = c.args.packers in
    c.every-2.ensures (λ k. packer_ok (packer_at ps k)) (λ k b h p. search rules) ∙ every_packer packer_ok ps _
