-- `sending::encode_frame` meets its contract.
use Prim.Native.Nat.{◌+◌, ◌*◌, ◌<◌}
use mathlib.Core.Path.{refl}
use native.Mathlib.Omega.{arith}
use borrow.Author.Rules.{rules}
use lib.ListN.{get_or}
use Rattle.sending.proofs.Laws.{channels_none, channels_step, channels_end, word_in, twelve_in}
use Rattle.sending.proofs.encode_frame.Goals as goal

pub loop-c-init : goal.loop-c-init
loop-c-init c = (c.min-c-end.ensures, channels_none _ _ _)

pub loop-c-preserved : goal.loop-c-preserved
loop-c-preserved c =
    let a = c.args in
    let l = c.loop-c in
    let less : l.c < 12 = omega (arith, l.invariant.0, c.loop-c-test.true) in
    let fits = c.type_inv.sending (12 * a.at + l.c) in
    (l.invariant.0, channels_step l.invariant.1 _ (get_or a.sending.now (12 * a.at + l.c) 0) refl (word_in a.sending.now a.at l.c less) (omega (arith, fits)) (omega (arith, c.requires.from_bound, l.invariant.0, c.loop-c-test.true)) _ c.put_at.ensures)

pub returns : goal.returns
returns c = channels_end c.loop-c.invariant.1 _ (omega arith) (twelve_in c.args.sending.now c.args.at (search rules)) (search rules)
