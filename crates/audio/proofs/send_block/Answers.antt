-- `audio::send_block` meets its contract.
use Rattle.bus.specs.Windows.{memory_of}
use Rattle.bus.proofs.Lengths.{sized_of}
use Rattle.sending.proofs.Laws.{block_is_lem}
use Rattle.audio.specs.Promises.{at_sent}
use Rattle.audio.proofs.Laws.{out_active}
use Rattle.audio.proofs.send_block.Goals as goal

pub returns-clause-left : goal.returns-clause-left
returns-clause-left c =
    let a = c.args in
    let m = memory_of a.windows.now in
    let d = a.descriptor in
    let can = c.requires.can_send.0 in
    out_active a.s m a.sending.now (sized_of a.windows.now) can c.requires.can_send.1 d c.requires.page_value _
    (λ w. block_is_lem (at_sent w a.s m a.sending.now) _ (c.encode.ensures (at_sent w a.s m a.sending.now)) can.block)
    _ _ c.send_one-ran.ensures.left _ _ c.after_run.ensures c.after_block.ensures
