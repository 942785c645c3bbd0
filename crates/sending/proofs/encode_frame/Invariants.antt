-- What the loop of `sending::encode_frame` keeps.
use Prim.Native.Nat.{◌*◌, min}
use mathlib.Core.Path.{◌≡◌}
use lib.ListN.{take, drop}
use Rattle.sending.proofs.Laws.{Channels}
use Rattle.sending.proofs.encode_frame.Given as goal

abbrev pub invariant-loop-c : goal.invariant-loop-c
invariant-loop-c l =
    (l.c-end ≡ min l.channels 12) × Channels l.from (take 12 (drop (l.at * 12) l.sending)) l.initial.block l.block l.c
