-- What the loop of `runs::run_list` keeps: the turns left make the whole with what was counted.
use Rattle.std.proofs.Common.{◌≡◌, ◌-◌, drop}
use Rattle.bus.specs.Windows.{memory_of, SameWindows}
use Rattle.dtd.specs.Dtd.{endpoint}
use Rattle.runs.proofs.Laws.{Looping}
use Rattle.runs.proofs.run_list.Given as goal

abbrev pub invariant-loop-i : goal.invariant-loop-i
invariant-loop-i g l =
    record {
      looping : Looping (endpoint 0 g.S.Side.input) l.qh l.first (g.S.Side.to_send l.initial.side) (g.S.Side.to_send l.side) (g.S.Side.holds l.initial.side) (g.S.Side.holds l.side) (memory_of l.initial.windows) (memory_of l.windows) l.t (64 - l.i);
      same : SameWindows l.initial.windows l.windows;
      held : g.S.Side.Same l.initial.side l.side;
      unsent : g.S.Side.to_send l.side ≡ drop l.t.moved (g.S.Side.to_send l.initial.side);
    }
