-- `sending::encode_frames` meets its contract.
use Prim.Native.Nat.{◌<◌}
use native.Mathlib.Omega.{arith}
use borrow.Author.Rules.{rules}
use Rattle.sending.proofs.Laws.{frames_none, frames_step, frames_end}
use Rattle.sending.proofs.encode_frames.Goals as goal

pub loop-f-init : goal.loop-f-init
loop-f-init c = (c.min-f-end.ensures, frames_none _ _ _ _)

pub loop-f-preserved : goal.loop-f-preserved
loop-f-preserved c =
    let l = c.loop-f in
    let less : l.f < c.args.ring.len = omega (arith, l.invariant.0, c.loop-f-test.true) in
    (l.invariant.0, frames_step l.invariant.1 _ _ c.requires.sends.is c.place-at.ensures less _ c.encode_frame.ensures)

pub returns : goal.returns
returns c = frames_end c.loop-f.invariant.1 (omega arith) (search rules)
