-- The line and `raise` on a page of any length: refused with number 1, or what the definitions say.
use Rattle.std.specs.Prelude.{ℕ, false, List, length, ◌==◌}
use Rattle.bits.specs.Pick.{pick}
use Rattle.bus.specs.Sized.{PAGE}
use Rattle.usbdev.specs.Answers.{Written}
use Rattle.usbdev.specs.Registers.{Registers, line_of, raising, done}

abbrev pub lined : List ℕ → Written
lined p = pick (length p == PAGE) (record { refusal = 0; line = line_of p }) (record { refusal = 1; line = false })

abbrev pub raised : ℕ → Registers → Written
raised sts r =
    pick (length r.page == PAGE) (record { refusal = 0; line = (done (raising sts) r).line }) (record { refusal = 1; line = r.line })

abbrev pub raised_page : ℕ → Registers → List ℕ
raised_page sts r = pick (length r.page == PAGE) (done (raising sts) r).page r.page
