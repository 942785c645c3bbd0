-- `config::Pairs::place` meets its contract: the pair at its place, or behind the last, and still no interface twice.
use native.Mathlib.Omega.{arith}
use mathlib.Core.Path.{refl, sym, ap, ◌∙◌}
use Rattle.config.specs.Config.{placed}
use Rattle.config.specs.Pairs.{place_of}
use Rattle.config.proofs.Placing.{place_is, taken_there, taken_new, room, holds_there, holds_new}
use Rattle.config.proofs.Pairs.place.Goals as goal

pub invariant_of-self : goal.invariant_of-self
invariant_of-self c =
    holds_there c.args.interface c.args.alternate _ _ _ refl (omega (arith, c.self.invariant.few, c.self.invariant.long)) (omega arith) c.self.invariant
    (place_is c.args.interface _ ∙ ap (place_of c.args.interface) c.self.view_is ∙ sym c.requires ∙ c.in-Some.is)

pub bounds-self-inside-self-inside : goal.bounds-self-inside-self-inside
bounds-self-inside-self-inside c =
    room c.args.interface c.args.alternate _ _ _ refl (omega (arith, c.self.invariant.few, c.self.invariant.long)) (omega arith) c.self.invariant.each
    (place_is c.args.interface _ ∙ ap (place_of c.args.interface) c.self.view_is ∙ sym c.requires ∙ c.in-None.is)

pub invariant_of-self-in-None : goal.invariant_of-self-in-None
invariant_of-self-in-None c =
    holds_new c.args.interface c.args.alternate _ _ _ refl (omega (arith, c.self.invariant.few, c.self.invariant.long)) (omega arith) c.self.invariant
    (place_is c.args.interface _ ∙ ap (place_of c.args.interface) c.self.view_is ∙ sym c.requires ∙ c.in-None.is)

pub returns-in-Some : goal.returns-in-Some
returns-in-Some c =
    taken_there c.args.interface c.args.alternate _ _ _ refl (omega (arith, c.self.invariant.few, c.self.invariant.long))
    (place_is c.args.interface _ ∙ ap (place_of c.args.interface) c.self.view_is ∙ sym c.requires ∙ c.in-Some.is)
    ∙ ap (placed c.args.interface c.args.alternate) c.self.view_is

pub returns-in-None : goal.returns-in-None
returns-in-None c =
    taken_new c.args.interface c.args.alternate _ _ _ refl (omega (arith, c.self.invariant.few, c.self.invariant.long)) (omega arith) c.self.invariant.each (omega (arith, c.self.invariant.long))
    (place_is c.args.interface _ ∙ ap (place_of c.args.interface) c.self.view_is ∙ sym c.requires ∙ c.in-None.is)
    ∙ ap (placed c.args.interface c.args.alternate) c.self.view_is
