-- `midi::put_packets` meets its contract. The loop's invariant: what is left to write from here makes the whole (`Writing`).
use Rattle.std.proofs.Common.{refl, sym, ap, ◌∙◌, ◌+◌, length, arith, add-zero}
use mathlib.Core.List.{flat_map}
use Rattle.std.proofs.lemmas.List.Edits.{sets}
use Rattle.midi.specs.Packer.{made, code_of, packet_bytes, packets_of}
use Rattle.midi.proofs.Laws.{packets_size, written_size_at, writing_more, writing_end, writing_queue, writing_packer}
use Rattle.midi.proofs.put_packets.Goals as goal
use Rattle.midi.proofs.put_packets.Goals.{in-Some, in_default}

pub loop-b-init : goal.loop-b-init
unfolding packets_of
loop-b-init c =
    let a = c.args in
    let size = packets_size a.cable a.p a.bytes.now in
    record { inside = omega arith; same = refl; room = omega (arith, size); end = refl; queue = refl; fed = refl }

pub put_packet-requires : goal.put_packet-requires
unfolding flat_map
put_packet-requires c =
    let fed = c.feed-fed in
    let loop = c.loop-b in
    let a = c.args in
    let event = c.in-Some.is in
    let step = written_size_at (packet_bytes a.cable) loop.packer a.bytes.now loop.b-index (omega arith) fed.result fed.ensures.value in
    let four = ap (λ e. length (flat_map (packet_bytes a.cable) (made e))) event in
    (omega (arith, step, four, loop.invariant.room), omega (arith, fed.ensures.event_bound, ap code_of event))

pub loop-b-preserved : goal.loop-b-preserved
unfolding flat_map
loop-b-preserved c =
    let loop = c.loop-b in
    let form = packet_bytes c.args.cable in
    let more = writing_more loop.invariant c.loop-b-test.true c.feed-fed.result c.feed-fed.ensures.value in
    elim c.match-fed.branch [
      | in-Some w ↦
          more _ (w.queue-is ∙ w.put_packet.ensures ∙ ap (λ e. sets loop.queue loop.at (flat_map form (made e))) (sym w.in-Some.is))
          _ (w.at-is ∙ ap (λ e. loop.at + length (flat_map form (made e))) (sym w.in-Some.is))
      | in_default w ↦
          more _ (w.queue-is ∙ ap (λ e. sets loop.queue loop.at (flat_map form (made e))) (sym w.in_default.is))
          _ (w.at-is ∙ sym (add-zero loop.at) ∙ ap (λ e. loop.at + length (flat_map form (made e))) (sym w.in_default.is))
    ]

pub returns : goal.returns
unfolding packets_of
returns c =
    let a = c.args in
    let size = packets_size a.cable a.p a.bytes.now in
    let inv = c.loop-b.invariant in
    record {
      packer = writing_packer inv c.loop-b-test.false;
      count = omega (arith, size, writing_end inv c.loop-b-test.false);
      queue = writing_queue inv c.loop-b-test.false;
    }
