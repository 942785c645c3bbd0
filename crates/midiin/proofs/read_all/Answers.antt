-- `midiin::read_all` meets its contract.
use Rattle.std.proofs.Common.{◌≡◌, suc, ◌+◌, ◌-◌, arith}
use Rattle.midiin.proofs.Laws.{reading_end, reading_stop, reading_more}
use Rattle.midiin.proofs.read_all.Goals as goal

pub returns-then-read-clause-left : goal.returns-then-read-clause-left
returns-then-read-clause-left c =
    let l = c.loop in
    let n = c.args.count in
    let k : n - l.counter ≡ suc (n - (l.counter + 1)) = omega arith in
    reading_stop l.invariant (n - (l.counter + 1)) k c.read_one-read.ensures.left c.if-read.true

pub loop-preserved : goal.loop-preserved
loop-preserved c =
    let l = c.loop in
    let n = c.args.count in
    let k : n - l.counter ≡ suc (n - (l.counter + 1)) = omega arith in
    reading_more l.invariant (n - (l.counter + 1)) k c.read_one-read.ensures.left c.if-read.false c.read_one-read.ensures.same c.read_one-read.auto.receive c.read_one-read.auto.cables

pub returns-clause-left : goal.returns-clause-left
returns-clause-left c = reading_end c.loop.invariant (omega arith)
