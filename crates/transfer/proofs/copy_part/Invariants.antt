-- What each loop of `transfer::copy_part` keeps, and its measure.
use Rattle.std.proofs.Common.{◌≡◌, ◌-◌, ◌≤◌, length}
use Rattle.bus.specs.Windows.{viewed}
use Rattle.transfer.proofs.Loops.{partly}
use Rattle.transfer.proofs.copy_part.Given as goal

-- `transfer::copy_part` meets its contract. The invariant: out is what it was with its first i bytes copied in. The measure is what is left. Assumes nothing.
abbrev pub invariant-loop-i : goal.invariant-loop-i
invariant-loop-i l =
    (l.i ≤ l.total) × (l.out ≡ partly (viewed l.view) l.pointers l.start l.initial.out l.i) × (length l.out ≡ length l.initial.out) × (l.total ≡ length l.initial.out)

abbrev pub decreases-loop-i : goal.decreases-loop-i
decreases-loop-i l = l.total - l.i
