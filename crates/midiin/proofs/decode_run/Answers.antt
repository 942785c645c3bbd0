-- `midiin::decode_run` meets its contract.
use Rattle.std.proofs.Common.{arith, length-take-le}
use Rattle.midiin.proofs.Decoding.{piece_few, run_room, decoding_run, run_first, run_end}
use Rattle.midiin.proofs.decode_run.Goals as goal

pub loop-from-init : goal.loop-from-init
loop-from-init c = run_first _ _ _ c.requires.total_in_bounds.0 c.requires.total_in_bounds.1

pub decode_some-at-requires-clause-piece_in_bounds : goal.decode_some-at-requires-clause-piece_in_bounds
decode_some-at-requires-clause-piece_in_bounds c =
    let l = c.loop-from in
    let n = c.min-n.result in
    let goes = c.loop-from-test.true in
    let is = c.min-n.ensures in
    let size = length-take-le n l.piece (omega (arith, piece_few c.args.total l.from n goes is, c.min-n.array_long)) in
    omega (arith, size, run_room _ _ _ l.invariant goes n is)

pub loop-from-preserved : goal.loop-from-preserved
loop-from-preserved c =
    let l = c.loop-from in
    let n = c.min-n.result in
    let goes = c.loop-from-test.true in
    let is = c.min-n.ensures in
    let size = length-take-le n l.piece (omega (arith, piece_few c.args.total l.from n goes is, c.min-n.array_long)) in
    decoding_run _ _ _ l.invariant goes n is _ size c.decode_some-at.ensures

pub returns : goal.returns
returns c = run_end _ _ _ c.loop-from.invariant (omega arith)
