-- `audio::take_blocks` meets its contract.
use Rattle.std.proofs.Common.{refl}
use Rattle.bus.specs.Windows.{memory_of}
use Rattle.bus.proofs.Lengths.{sized_of}
use Rattle.audio.proofs.Laws.{input_steps}
use Rattle.audio.proofs.take_blocks.Goals as goal

pub returns-clause-left : goal.returns-clause-left
returns-clause-left c =
    let a = c.args in
    let d = a.descriptor in
    input_steps a.s (memory_of a.windows.now) _ a.received.now _ d _ _ _ _ _ (sized_of a.windows.now) c.requires.page_value c.total-total.ensures
    _ c.clear.ensures (rw c.view.ensures at c.pointers_for-ps.ensures) _ c.decoded_of-before.ensures.value (rw c.view-2.ensures at c.decode_run-d.ensures) c.take_one-ran.ensures.left refl
    c.decoded_of-before.ensures.result_value _ _ _ c.after_run.ensures c.count_in-next.ensures c.with_decoded.ensures
