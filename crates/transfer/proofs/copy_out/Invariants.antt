-- What each loop of `transfer::copy_out` keeps, and its measure.
use Rattle.std.proofs.Common.{◌≡◌, ◌-◌, ◌≤◌}
use Rattle.bus.specs.Windows.{memory_of, SameWindows}
use Rattle.transfer.specs.Transfer.{written, dropped_out}
use Rattle.transfer.proofs.copy_out.Given as goal

-- `transfer::copy_out` meets its contract. The invariant: memory is what it was with the first i bytes written, behind the same references, and lost counts those that were dropped. The measure is what is left. Assumes nothing.
abbrev pub invariant-loop-i : goal.invariant-loop-i
invariant-loop-i l =
    (l.i ≤ l.n) × (memory_of l.windows ≡ written (memory_of l.initial.windows) l.pointers l.source l.i) × SameWindows l.initial.windows l.windows × (l.lost ≡ dropped_out l.pointers l.i)

abbrev pub decreases-loop-i : goal.decreases-loop-i
decreases-loop-i l = l.n - l.i
