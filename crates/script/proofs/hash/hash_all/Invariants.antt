-- The loop keeps: the hash so far, with the bytes left, makes the whole.
use Rattle.std.proofs.Common.{◌≡◌, drop}
use Rattle.script.specs.Fnv.{START, mixed_all}
use Rattle.script.proofs.hash.hash_all.Given as goal

abbrev pub invariant-loop-b : goal.invariant-loop-b
invariant-loop-b l = mixed_all l.h (drop l.b-index l.bytes) ≡ mixed_all START l.bytes
