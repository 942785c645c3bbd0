-- A send keeps the queue within 4,096 bytes.
use Rattle.std.proofs.Common.{ap, arith}
use Rattle.midi.specs.Packer.{Sent, sent_on}
use Rattle.midi.proofs.Bounds.{sent_most}
use Rattle.leaves.proofs.leaves.send_midi.Goals as goal

pub invariant_of-queue-2 : goal.invariant_of-queue-2
unfolding sent_on
invariant_of-queue-2 c =
    let a = c.args in
    let most = sent_most a.packer a.bytes.now a.queue.now.held (omega (arith, a.queue.now.inside)) in
    let held = ap (λ (s : Sent). s.held) c.in_ok-sent.ensures.answer in
    record { inside = omega (arith, most, held) }
