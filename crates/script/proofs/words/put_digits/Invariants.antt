-- The bytes stored, with those of the characters left, make the whole; and all are digits where those passed and those left are.
use Rattle.std.proofs.Common.{◌≡◌, ◌*◌, ◌++◌, ◌&&◌, take, drop}
use Rattle.script.specs.Line.{bytes}
use Rattle.script.proofs.Line.{whole}
use Rattle.script.proofs.words.put_digits.Given as goal

abbrev pub invariant-loop-i : goal.invariant-loop-i
invariant-loop-i l =
    (take l.i l.part ++ bytes (drop (2 * l.i) l.text) ≡ bytes l.text)
    × ((l.all && whole (drop (2 * l.i) l.text)) ≡ whole l.text)
