-- `bounds::made` meets its contract: no shape stands behind the last.
use mathlib.Core.Path.{refl}
use Rattle.bits.proofs.Tests.{or_false}
use Rattle.bounds.specs.Bounds.{made}
use Rattle.bounds.proofs.made.Goals as goal

pub returns : goal.returns
unfolding made
returns c = rw or_false refl
