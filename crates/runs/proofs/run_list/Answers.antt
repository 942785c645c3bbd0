-- `runs::run_list` meets its contract: the measure is how many turns are left. Assumes nothing.
use Prim.Native.Nat.{◌-◌}
use native.Mathlib.Omega.{arith}
use Rattle.runs.proofs.Laws.{loop_end, loop_stopped}
use Rattle.runs.proofs.run_list.Goals as goal

pub returns-then-t-clause-left : goal.returns-then-t-clause-left
returns-then-t-clause-left g c = loop_stopped c.loop-i.invariant.looping (63 - c.loop-i.i) (omega arith) c.next_turn-t.ensures.left c.if-t.true

pub returns-clause-left : goal.returns-clause-left
returns-clause-left g c = loop_end c.loop-i.invariant.looping (omega arith)
