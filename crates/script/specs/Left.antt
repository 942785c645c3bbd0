-- What of a line is left to take.
use Rattle.std.specs.Prelude.{ℕ, List, drop}
use Rattle.script.specs.declared.words.Words.{Words}

abbrev pub left : Words → List ℕ
left w = drop w.next w.line.now
