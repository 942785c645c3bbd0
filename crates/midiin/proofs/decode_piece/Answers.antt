-- `midiin::decode_piece` meets its contract.
use Rattle.std.proofs.Common.{ℕ, ◌/◌, ◌<◌, List, [], length, get_or, ap, ◌∙◌, arith}
use Rattle.midiin.proofs.Decoding.{packet_at, decoding_packet, decoding_end}
use Rattle.midiin.proofs.decode_piece.Goals as goal

pub loop-header-preserved : goal.loop-header-preserved
loop-header-preserved c =
    let bs = c.args.piece.now in
    let i = c.loop-header.header-index in
    let less : i < length bs / 4 = omega (arith, c.as_chunks.ensures.front_len) in
    let packet = ap (λ (ps : List (List ℕ)). get_or ps i []) c.as_chunks.ensures.front ∙ packet_at (length bs / 4) i bs less in
    decoding_packet c.loop-header.invariant less packet c.decode_packet-at.ensures

pub returns : goal.returns
returns c = decoding_end c.loop-header.invariant (omega (arith, c.as_chunks.ensures.front_len))
