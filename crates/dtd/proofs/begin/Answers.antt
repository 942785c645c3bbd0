-- `dtd::begin` meets its contract. Assumes nothing.
use Rattle.std.proofs.Common.{ℕ, false, sym, ap, ◌∙◌}
use Rattle.bus.specs.Windows.{memory_of}
use Rattle.bus.specs.Stores.{bus}
use Rattle.bus.proofs.Lengths.{sized_of}
use Rattle.bus.proofs.Storing.{does_as}
use Rattle.dtd.specs.Dtd.{endpoint, settling, found}
use Rattle.dtd.proofs.Runs.{single, idle_as, idle_unprimed, idle_ended}
use Rattle.dtd.proofs.begin.Goals as goal

pub returns-in-Unprimed-clause-left : goal.returns-in-Unprimed-clause-left
returns-in-Unprimed-clause-left c =
    let e = endpoint c.args.ep c.args.dir_in in
    let f = sym (c.in-Unprimed.ensures ∙ ap (found e) c.view.ensures) in
    λ bs. idle_as c.none_ran.ensures (idle_unprimed e bs (memory_of c.args.windows.now) c.args.flag (sized_of c.args.windows.now) f)

pub returns-in-Ended-clause-left : goal.returns-in-Ended-clause-left
returns-in-Ended-clause-left c =
    let e = endpoint c.args.ep c.args.dir_in in
    let f = sym (c.in-Ended.ensures ∙ ap (found e) c.view.ensures) in
    let settled = does_as (ap (λ (x : ℕ). settling x 1 false (bus (memory_of c.args.windows.now) c.args.flag)) c.bit_of-bit.ensures) c.settle-line.ensures in
    λ bs. idle_as c.none_ran-in-Ended.ensures (idle_ended e bs (memory_of c.args.windows.now) c.args.flag (sized_of c.args.windows.now) (single c.args.ep c.args.dir_in c.requires.0) f settled)
