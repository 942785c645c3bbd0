-- `phases::gone_step` meets its contract.
use Rattle.std.proofs.Common.{refl}
use Rattle.record.specs.World.{at_page}
use Rattle.record.specs.Change.{apply}
use Rattle.model.specs.Phases.{cable}
use Rattle.record.proofs.Laws.{in_turn, once, by_true}
use Rattle.phases.proofs.Laws.{turned_off}
use Rattle.phases.proofs.gone_step.Goals as goal

pub returns-else-gone : goal.returns-else-gone
unfolding cable apply
returns-else-gone c =
    let back = rw c.if-gone.false at c.host_back.ensures in
    let out = rw c.if-gone.false at c.if-gone-s.false in
    let a = c.args in
    rw c.if-gone.false (record { leads = λ w. by_true _ _ _ (turned_off _ out) (in_turn (once _ _ _ refl) (back.leads (at_page w a.s a.page.now))) })
