-- What the loop of `exports::usb_parse_config` keeps.
use mathlib.Core.Path.{◌≡◌}
use lib.ListN.{take}
use Rattle.config.specs.Config.{interfaces, alternates}
use Rattle.config.specs.Pairs.{listed}
use Rattle.config.specs.Table.{padded}
use Rattle.exports.proofs.usb_parse_config.Given as goal

-- the halves of the pairs before i, with zeros behind them
abbrev pub invariant-loop-i : goal.invariant-loop-i
invariant-loop-i l =
    (l.interfaces ≡ padded (interfaces (listed (take l.i l.pairs))))
    × (l.alternates ≡ padded (alternates (listed (take l.i l.pairs))))
