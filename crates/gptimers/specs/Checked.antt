-- Both timers on a page of any length, with any counts: refused with number 1 or 5, or what the definitions say.
use Rattle.std.specs.Prelude.{◌&&◌, List, ℕ, Bool, eqb, length, Result, Ok, Err}
use Rattle.bits.specs.Pick.{pick}
use Rattle.refusal.specs.declared.Refusal.{Refusal}
use Rattle.refusal.specs.Number.{number}
use Rattle.bus.specs.Sized.{PAGE}
use Rattle.usbdev.specs.Registers.{Registers, done}
use Rattle.gptimers.specs.declared.Timers.{Timers}
use Rattle.gptimers.specs.declared.Timed.{Timed}
use Rattle.gptimers.specs.Timer.{STEP, in_range, ticking_both, ticked_both}

-- 1 for a page of another length, 5 for a count outside its bounds, 0 for neither
unfoldable pub refusal : Timers → ℕ → ℕ
refusal ts len = pick (eqb len PAGE) (pick (in_range ts.zero && in_range ts.one) 0 5) 1

-- an answer in numbers: 0 or the number of its refusal, the timers and the line's flag
pub record Ticked : Type 0 where
  pub refusal : ℕ
  pub timers : Timers
  pub line : Bool

-- a refusal leaves the timers and the flag that went in
abbrev pub ticked_of : Timers → Bool → Result (Timed Timers) Refusal → Ticked
ticked_of ts flag (Ok both) = record { refusal = 0; timers = both.next; line = both.line }
ticked_of ts flag (Err r) = record { refusal = number r; timers = ts; line = flag }

-- the answer: a refusal with timers and flag as they were, or both after the microframe
unfoldable pub ticked_answer : Timers → Registers → Ticked
ticked_answer ts r =
    pick (eqb (refusal ts (length r.page)) 0)
    (record { refusal = 0; timers = ticked_both STEP ts r; line = (done (ticking_both STEP ts) r).line })
    (record { refusal = refusal ts (length r.page); timers = ts; line = r.line })

-- the page after it: as it was where that is refused
unfoldable pub ticked_page : Timers → Registers → List ℕ
ticked_page ts r = pick (eqb (refusal ts (length r.page)) 0) (done (ticking_both STEP ts) r).page r.page
