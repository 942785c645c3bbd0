-- `usbhost::take_passes` meets its contract.
use Rattle.std.proofs.Common.{sym}
use Rattle.refusal.specs.declared.Refusal.TheVariants.{Bounds}
use Rattle.usbhost.proofs.Laws.{passed, tested}
use Rattle.usbhost.proofs.Outcomes.{take_rest}
use Rattle.usbhost.proofs.take_passes.Goals as goal

pub returns : goal.returns
returns c =
    let a = c.args in
    rw (c.unless-2.ensures, c.ring_ok-inside.ensures, tested _ Bounds) (sym (take_rest a.parts.state a.parts.spans a.parts.packers a.parts.setups.now a.received.now (passed _ _ _ c.in_ok-unless.ensures) c.in_ok-passes.ensures))
