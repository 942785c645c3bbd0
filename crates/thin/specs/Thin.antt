-- The answer of a microframe behind a reference, with the record that the reference leads to (document 01, "Language forms": the thin call).
use Rattle.std.specs.Prelude.{Result, Ok, Err}
use Rattle.refusal.specs.declared.Refusal.{Refusal}
use Rattle.refusal.specs.Number.{number}
use Rattle.record.specs.declared.Answer.{Answer}
use Rattle.usbhost.specs.declared.Host.{Host}
use Rattle.usbhost.specs.Answers.{Framed}

-- the by-value answer: the numbers of the answer, which a refused microframe has none of, and the record behind the reference
abbrev pub answered : Result Answer Refusal → Host → Framed
answered (Ok a) h = record { refusal = 0; received = a.received; dropped = a.dropped; retired = a.retired; host = h }
answered (Err r) h = record { refusal = number r; received = 0; dropped = 0; retired = 0; host = h }
