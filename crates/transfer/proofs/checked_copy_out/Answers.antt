-- `transfer::checked_copy_out` meets its contract.
use Rattle.std.proofs.Common.{rules}
use Rattle.transfer.proofs.Checked.{sent_out}
use Rattle.transfer.proofs.checked_copy_out.Goals as goal

pub invariant_of-windows-clause-power : goal.invariant_of-windows-clause-power
invariant_of-windows-clause-power c = c.in_ok-accept.ensures.windows.0

pub returns : goal.returns
returns c = sent_out _ _ _ c.in_ok-accept.ensures.number (search rules) (search rules) c.copy_out.ensures.left
