-- `midiin::read_active` meets its contract.
use Rattle.bus.proofs.Lengths.{sized_of}
use Rattle.midiin.proofs.Laws.{found_read}
use Rattle.midiin.proofs.read_active.Goals as goal

pub returns-clause-left : goal.returns-clause-left
returns-clause-left c =
    found_read c.args.s _ _ _ (sized_of c.args.windows.now) _ c.requires.page_value _ _ _ _ c.take_one-ran.ensures.left _ _ _ _ c.total-total.ensures c.clear.ensures
    (rw c.view.ensures at c.pointers_for-ps.ensures) (rw c.view-2.ensures at c.decode_run-at.ensures) c.after_read.ensures
