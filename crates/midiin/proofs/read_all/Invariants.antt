-- What the loop of `midiin::read_all` keeps: the reads left lead to where all would.
use Rattle.std.proofs.Common.{◌-◌}
use Rattle.midiin.proofs.Laws.{Reading}
use Rattle.midiin.proofs.read_all.Given as goal

abbrev pub invariant-loop : goal.invariant-loop
invariant-loop l = Reading l.count l.initial.next l.initial.windows l.initial.receive l.initial.cables l.next l.windows l.receive l.cables (l.count - l.counter)
