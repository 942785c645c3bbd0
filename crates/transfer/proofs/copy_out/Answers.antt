-- `transfer::copy_out` meets its contract: what is dropped is at most what is sent, and at the end all bytes are written.
use Rattle.std.proofs.Common.{◌≡◌, ◌+◌, ap, ◌∙◌, arith}
use Rattle.bus.proofs.Lengths.{sized_of}
use Rattle.transfer.specs.Transfer.{written, dropped_out}
use Rattle.transfer.proofs.Laws.{dropped_le}
use Rattle.transfer.proofs.Loops.{dropped_run}
use Rattle.transfer.proofs.Sending.{does_sending}
use Rattle.transfer.proofs.copy_out.Goals as goal

pub overflow_add-lost : goal.overflow_add-lost
overflow_add-lost c =
    omega (arith, dropped_run _ _ _ _ _ _ _ c.loop-i.invariant.3 (omega arith) c.data_addr-a.ensures c.run_of-run.ensures.1 c.page_out-d.ensures.value, dropped_le c.args.pointers.now (c.loop-i.i + c.run_of-run.result))

pub returns-clause-left : goal.returns-clause-left
returns-clause-left c =
    let k : c.loop-i.i ≡ c.args.n = omega arith in
    let i = c.loop-i.invariant in
    λ l. does_sending _ _ _ l (i.1 ∙ ap (written _ _ _) k) (sized_of c.loop-i.windows) (i.3 ∙ ap (dropped_out _) k)
