-- The digits passed, with those that the rest begins with, make the whole; and so does the number so far.
use Rattle.std.proofs.Common.{◌≡◌, ◌+◌, ◌%◌, ◌^◌, drop}
use Rattle.script.specs.Line.{run, hex}
use Rattle.script.proofs.Line.{leading}
use Rattle.script.proofs.words.read.Given as goal

abbrev pub invariant-loop-i : goal.invariant-loop-i
invariant-loop-i l =
    (run l.text ≡ l.i + run (drop l.i l.text))
    × (hex l.value (leading (drop l.i l.text)) % 2 ^ 64 ≡ hex 0 (leading l.text) % 2 ^ 64)
