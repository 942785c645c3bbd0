-- What the loop of `midiin::decode_run` keeps, and its measure: what is left makes the whole, and how many bytes are left.
use Rattle.std.proofs.Common.{◌-◌}
use Rattle.bus.specs.Windows.{viewed}
use Rattle.transfer.specs.Transfer.{bytes_in}
use Rattle.midiin.proofs.Decoding.{Decoding}
use Rattle.midiin.proofs.decode_run.Given as goal

abbrev pub invariant-loop-from : goal.invariant-loop-from
invariant-loop-from l = Decoding (bytes_in (viewed l.view) l.pointers l.total) l.initial.receive l.receive l.initial.cables l.cables l.start l.at l.from

abbrev pub decreases-loop-from : goal.decreases-loop-from
decreases-loop-from l = l.total - l.from
