-- Of a text of digits, the bytes stored, with those of the digits left, make the whole, and what is left is digits.
use Rattle.std.proofs.Common.{◌≡◌, true, ◌*◌, ◌++◌, take, drop}
use Rattle.script.specs.Line.{bytes}
use Rattle.script.proofs.Line.{whole}
use Rattle.script.proofs.words.put_tested.Given as goal

abbrev pub invariant-loop-i : goal.invariant-loop-i
invariant-loop-i l =
    whole l.text ≡ true → (take l.i l.part ++ bytes (drop (2 * l.i) l.text) ≡ bytes l.text) × (whole (drop (2 * l.i) l.text) ≡ true)
