-- The text is digits to its end where what is left is.
use Rattle.std.proofs.Common.{◌≡◌, drop}
use Rattle.script.proofs.Line.{whole}
use Rattle.script.proofs.words.all_digits.Given as goal

abbrev pub invariant-loop-i : goal.invariant-loop-i
invariant-loop-i l = whole (drop l.i l.text) ≡ whole l.text
