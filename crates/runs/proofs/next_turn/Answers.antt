-- `runs::next_turn` meets its contract. Assumes nothing.
use mathlib.Core.Path.{sym, ap, ◌∙◌}
use mathlib.Core.Bool.{Bool}
use Rattle.bus.specs.Windows.{memory_of}
use Rattle.dtd.specs.Dtd.{endpoint, bit_of}
use Rattle.runs.proofs.Laws.{turn_moved, turn_unsent, turn_ends, turn_inactive, turned_as}
use Rattle.runs.proofs.next_turn.Goals as goal

pub returns-then-any-clause-left : goal.returns-then-any-clause-left
returns-then-any-clause-left g c =
    turned_as c.stopped.ensures (turn_ends (endpoint 0 g.S.Side.input) c.args.qh (g.S.Side.to_send c.args.side.now) (g.S.Side.holds c.args.side.now) (memory_of c.args.windows.now) c.args.t (sym c.any.ensures ∙ c.if-any.true))

pub returns-then-not-any-clause-left : goal.returns-then-not-any-clause-left
returns-then-not-any-clause-left g c =
    turned_as c.stopped-then-not-any.ensures
    (turn_inactive (endpoint 0 g.S.Side.input) c.args.qh (g.S.Side.to_send c.args.side.now) (g.S.Side.holds c.args.side.now) (memory_of c.args.windows.now) c.args.t (sym c.any.ensures ∙ c.if-any.false) _ (rw c.view.ensures at c.token_of-token.ensures) (sym c.any-2.ensures ∙ c.if-not-any.true))

pub returns-clause-left : goal.returns-clause-left
returns-clause-left g c =
    turn_moved 0 g.S.Side.input c.args.qh c.args.t _
    (sym c.any.ensures ∙ c.if-any.false) (rw c.view.ensures at c.token_of-token.ensures) (sym c.any-2.ensures ∙ c.if-not-any.false) c.any-3.ensures
    (c.bit_of.ensures ∙ ap (λ (x : Bool). bit_of (endpoint 0 x)) c.is_input.ensures) c.move_bytes-moved.ensures.left c.retire-retired.ensures.left

pub returns-clause-unsent : goal.returns-clause-unsent
returns-clause-unsent g c = turn_unsent c.args.t.moved c.move_bytes-moved.ensures.left
