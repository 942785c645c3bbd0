-- The number of each reason (document 01, "Numbers of refusal", and document 02, S-2), and that of an answer: 0 where it is accepted.
use Rattle.std.specs.Prelude.{ℕ, Result, Ok, Err}
use Rattle.refusal.specs.declared.Refusal.{Refusal}
use Rattle.refusal.specs.declared.Refusal.TheVariants.{Windows, Areas, Spans, Access, Bounds, Microframes, Space, Cable}

abbrev pub number : Refusal → ℕ
number Windows = 1
number Areas = 2
number Spans = 3
number Access = 4
number Bounds = 5
number Microframes = 6
number Space = 7
number Cable = 8

abbrev pub number_of : {A : Type 0} → Result A Refusal → ℕ
number_of (Ok a) = 0
number_of (Err r) = number r
