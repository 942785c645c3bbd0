-- `runs::run0` meets its contract. Assumes nothing.
use mathlib.Core.Path.{refl, sym, ap₂, ◌∙◌}
use Prim.Native.Nat.{ℕ}
use Rattle.bus.specs.Windows.{memory_of}
use Rattle.bus.proofs.Lengths.{sized_of}
use Rattle.bits.specs.Word.{any}
use Rattle.dtd.specs.Dtd.{endpoint, primed}
use Rattle.runs.proofs.Laws.{run_loops, run_none, over_as}
use Rattle.runs.proofs.run0.Goals as goal

pub returns-then-any-clause-left : goal.returns-then-any-clause-left
unfolding primed
returns-then-any-clause-left g c =
    let up = ap₂ (λ (x y : ℕ). any x y) (sym (rw c.registers.ensures at c.word_at.ensures)) (sym (rw c.is_input-dir_in.ensures at c.bit_of-bit.ensures)) ∙ sym c.any.ensures ∙ c.if-any.true in
    over_as c.answer.ensures
    (run_loops (endpoint 0 g.S.Side.input) _ _ _ (memory_of c.args.windows.now) _ _ c.args.flag _ _ _ _ refl up (rw (c.registers-then-any.ensures, c.is_input-dir_in.ensures) at c.qh-qh.ensures) (rw c.view.ensures at c.next_dtd-first.ensures) c.run_list-t.ensures.left (rw (c.bit_of-bit.ensures, c.is_input-dir_in.ensures) at c.settle-line.ensures))

pub returns-clause-left : goal.returns-clause-left
unfolding primed
returns-clause-left g c =
    let down = ap₂ (λ (x y : ℕ). any x y) (sym (rw c.registers.ensures at c.word_at.ensures)) (sym (rw c.is_input-dir_in.ensures at c.bit_of-bit.ensures)) ∙ sym c.any.ensures ∙ c.if-any.false in
    over_as c.none_ran.ensures (run_none (endpoint 0 g.S.Side.input) _ _ (memory_of c.args.windows.now) c.args.flag (sized_of c.args.windows.now) down)
