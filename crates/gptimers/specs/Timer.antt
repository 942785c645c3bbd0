-- The general-purpose timers in one microframe (document 01, "Timers"; usbhost.rs 741-765; MCF5441x Reference Manual, USB OTG: GPTIMERnLD, GPTIMERnCTL).
use Rattle.std.specs.Prelude.{ℕ, ◌+◌, ◌-◌, ◌*◌, ◌^◌, Bool, true, ◌&&◌, Option, Some, None, List, [], ◌∷◌, leb, ltb, ℤ, pos, ◌-ℤ◌}
use Rattle.std.specs.Int.Bits.{bit_and}
use Rattle.bits.specs.Pick.{pick}
use Rattle.bits.specs.Word.{clear, any}
use Rattle.bus.specs.Words.{word_at}
use Rattle.usbdev.specs.Registers.{Registers, put, PageStep, done, ◌then◌, raising}
use Rattle.gptimers.specs.declared.Timers.{Timers}
use Rattle.gptimers.specs.declared.Which.{Which}
use Rattle.gptimers.specs.declared.Which.TheVariants.{Zero, One}

-- a count of microseconds is kept as a natural number: this one stands for 0, and lower ones for what is below zero
abbrev pub ZERO : ℕ
ZERO = 2 ^ 50

-- what a kept count means
unfoldable pub signed : ℕ → ℤ
signed n = pos n -ℤ pos ZERO

-- 752: how many microseconds a microframe takes from a count at high speed
abbrev pub STEP : ℕ
STEP = 125

-- a timer: its count, where one stands
abbrev pub Timer : Type 0
Timer = Option ℕ

-- a timer that is not loaded, and one that counts
abbrev pub none : Timer
none = None

abbrev pub counting : ℕ → Timer
counting n = Some n

-- the count, 0 where none stands
abbrev pub count_of : Timer → ℕ
count_of None = 0
count_of (Some n) = n

-- 742: the number of a timer
abbrev pub index_of : Which → ℕ
index_of Zero = 0
index_of One = 1

-- 743: the offsets of timer k's load and control registers
abbrev pub load_register : ℕ → ℕ
load_register k = 0x80 + 8 * k

abbrev pub control_register : ℕ → ℕ
control_register k = 0x84 + 8 * k

-- bits of a control word: run (749), reset (745), repeat (755)
abbrev pub RUN : ℕ
RUN = 2 ^ 31

abbrev pub RESET : ℕ
RESET = 2 ^ 30

abbrev pub REPEAT : ℕ
REPEAT = 2 ^ 24

-- 752, 756: the 24 bits of timer k's load
unfoldable pub load_of : ℕ → List ℕ → ℕ
load_of k p = bit_and (word_at p (load_register k)) 0xFFFFFF

-- ---- one microframe of timer k, whose control word was first read as c

-- 745-748: a reset unloads the timer, and its bit goes
unfoldable pub resetting : ℕ → ℕ → PageStep
resetting k c r = pick (any c RESET) (put (control_register k) (clear c RESET) ∷ []) []

unfoldable pub after_reset : ℕ → Timer → Timer
after_reset c t = pick (any c RESET) none t

-- 752: the count of a timer t, or the load where none stands
unfoldable pub start_of : ℕ → Timer → List ℕ → ℕ
start_of k (Some n) p = n
start_of k None p = ZERO + load_of k p

-- 758-759: one that does not repeat stops; the word stored is the one first read, so a reset bit returns
unfoldable pub stopping : ℕ → ℕ → PageStep
stopping k c r = pick (any c REPEAT) [] (put (control_register k) (clear c RUN) ∷ [])

-- 754-760: it raises its bit of USBSTS, and may stop
unfoldable pub expiring : ℕ → ℕ → PageStep
expiring k c = raising (2 ^ (24 + k)) then stopping k c

-- 755-758: how a timer stands that expired with so much left below zero: one that repeats goes on at itself + 1 + load
unfoldable pub next : ℕ → ℕ → ℕ → List ℕ → Timer
next k c left p = pick (any c REPEAT) (counting (left + 1 + load_of k p)) none

-- the load is read again, after the raise (756)
unfoldable pub expired : ℕ → ℕ → ℕ → Registers → Timer
expired k c left r = next k c left (done (raising (2 ^ (24 + k))) r).page

-- 749-763: a timer t after the reset, in one microframe of so many microseconds: what it stores, and how it stands then
unfoldable pub counted : ℕ → ℕ → ℕ → Timer → PageStep
counted step k c t r = pick (any c RUN && ltb (start_of k t r.page - step) ZERO) (expiring k c r) []

unfoldable pub counted_timer : ℕ → ℕ → ℕ → Timer → Registers → Timer
counted_timer step k c t r =
    pick (any c RUN)
    (pick (ltb (start_of k t r.page - step) ZERO) (expired k c (start_of k t r.page - step) r) (counting (start_of k t r.page - step)))
    t

-- ---- one microframe of timer k

-- the control word is read once, at the start (744)
abbrev pub control_of : ℕ → Registers → ℕ
control_of k r = word_at r.page (control_register k)

-- what it stores, in order
unfoldable pub ticking : ℕ → ℕ → Timer → PageStep
ticking step k t r = (resetting k (control_of k r) then counted step k (control_of k r) (after_reset (control_of k r) t)) r

-- how it stands then
unfoldable pub ticked : ℕ → ℕ → Timer → Registers → Timer
ticked step k t r = counted_timer step k (control_of k r) (after_reset (control_of k r) t) (done (resetting k (control_of k r)) r)

-- both timers, the first before the second (742)
unfoldable pub ticking_both : ℕ → Timers → PageStep
ticking_both step ts = ticking step 0 ts.zero then ticking step 1 ts.one

unfoldable pub ticked_both : ℕ → Timers → Registers → Timers
ticked_both step ts r =
    record { zero = ticked step 0 ts.zero r; one = ticked step 1 ts.one (done (ticking step 0 ts.zero) r) }

-- ---- number 5: a count that stands is not below -125 × 2^40, nor above 2^24 (microframes end at 2^40)

abbrev pub LOWEST : ℕ
LOWEST = ZERO - 125 * 2 ^ 40

abbrev pub HIGHEST : ℕ
HIGHEST = ZERO + 2 ^ 24

unfoldable pub in_range : Timer → Bool
in_range (Some n) = leb LOWEST n && leb n HIGHEST
in_range None = true
