-- The steps of a microframe up to its transfers: counts, timers, gone, suspend, device left, and the phases (document 01, "Host record";
-- usbhost.rs 374-495, whose lines the numbers beside each definition are).
use Rattle.std.specs.Prelude.{ℕ, ◌+◌, Bool, true, false, not, ◌&&◌, List, [], ◌∷◌, leb, ltb}
use Rattle.std.specs.List.{list_any}
use Rattle.bits.specs.Word.{clear, set, any}
use Rattle.bus.specs.Words.{word_at}
use Rattle.usbdev.specs.Offsets.{USBSTS, FRINDEX, PORTSC1, OTGSC}
use Rattle.usbdev.specs.Registers as R
use Rattle.usbdev.specs.Registers.{Registers, registers, PageStep, put, raising, following}
use Rattle.usbdev.specs.Transfer.{next_frindex}
use Rattle.gptimers.specs.Timer.{STEP, ticking_both, ticked_both}
use Rattle.record.specs.declared.Phase.{Phase}
use Rattle.record.specs.declared.Phase.TheVariants.{Idle, Vbus, Reset, Enumerate}
use Rattle.record.specs.declared.Span.{Span}
use Rattle.record.specs.Record.{wrapped, with_on, microframes, midi_asleep, restarts}
use Rattle.record.specs.World.{World}
use Rattle.record.specs.Change.{count, uf, phase, started, gone, suspended, was_running, credit, budget, timers, control, queued, cleared, forgot, Step, ◌then◌, nothing, when, one, here, on_page}

-- ---- what the steps read

-- the microframe count, `now` in the source (376)
abbrev pub now : World → ℕ
now w = w.state.port.uf

-- the register page, with the line's flag (`usb_irq`)
abbrev pub registers_of : World → Registers
registers_of w = registers w.lent.memory.page w.state.port.line

-- a register is read, changed and stored, as at 391-392
unfoldable pub changing : ℕ → (ℕ → ℕ) → PageStep
changing o f r = put o (f (word_at r.page o)) ∷ []

-- a span holds its start and not its end (document 01, "Host record")
abbrev pub holds : ℕ → ℕ → ℕ → Bool
holds from to t = leb from t && ltb t to

-- 412, 775: the same by a span of the settings
abbrev pub within : Span → ℕ → Bool
within s t = holds s.from s.to t

-- 384: one of some spans holds t
abbrev pub any_span : List Span → ℕ → Bool
any_span spans t = list_any (λ s. within s t) spans

-- ---- counts and timers

-- 374-375: the two microframe counts
unfoldable pub counts : Step
counts = one (λ w. count microframes 1) then one (λ w. uf (wrapped (now w + 1)))

-- 380-382, 741-765: both timers, by what the page holds at their start
unfoldable pub ticks : Step
ticks =
    here (λ v. one (λ w. timers (ticked_both STEP v.state.timers (registers_of v))) then on_page (ticking_both STEP v.state.timers))

-- ---- gone

-- 399, 440, 647: no request runs
unfoldable pub drops_request : Step
drops_request = one (λ w. control (with_on w.state.control false))

-- 398-403, 439-444: what a fresh host forgets: setups, request, credit, budget, descriptors
unfoldable pub forgets : Step
forgets =
    one (λ w. cleared) then drops_request then one (λ w. credit 0) then one (λ w. budget 0) then one (λ w. forgot)

-- 389-393: VBUS off, and the port detached
unfoldable pub unplugging : PageStep
unplugging =
    R.◌then◌ (changing OTGSC (λ v. set (clear v 0xE00) 0x81000)) (R.◌then◌ (changing PORTSC1 (λ v. clear v 0x85)) (raising 4))

-- 397-404: a fresh host
unfoldable pub returns : Step
returns = one (λ w. phase Idle) then forgets then one (λ w. count restarts 1)

-- 385-407: the cable goes, or the host is back
unfoldable pub cable : Bool → Step
cable true = when (λ w. not w.state.port.gone) (one (λ w. gone true) then on_page unplugging)
cable false = when (λ w. w.state.port.gone) (one (λ w. gone false) then returns)

-- 409, 427, 776: a microframe in which the host reads no MIDI
unfoldable pub sleeps : Step
sleeps = one (λ w. count midi_asleep 1)

-- ---- suspend and device left

-- a register is read, changed and stored, and bits of USBSTS are raised
abbrev pub changes : ℕ → (ℕ → ℕ) → ℕ → Step
changes o f sts = on_page (R.◌then◌ (changing o f) (raising sts))

-- 414-424: the bus is suspended, and resumed
abbrev pub suspending : Step
suspending = one (λ w. suspended true) then changes PORTSC1 (λ v. set v 0x80) 0x100

abbrev pub resuming : Step
resuming = one (λ w. suspended false) then changes PORTSC1 (λ v. clear v 0x80) 4

-- 413-425: where the time comes into the suspend span, or leaves it
unfoldable pub suspends : Bool → Step
suspends true = when (λ w. not w.state.port.suspended) suspending
suspends false = when (λ w. w.state.port.suspended) resuming

-- 437-438, 455-456, 464-465, 475-476: a phase begins now
unfoldable pub enters : Phase → Step
enters p = one (λ w. phase p) then one (λ w. started (now w))

-- 435-446: the firmware left the bus
unfoldable pub departs : Step
departs = one (λ w. was_running false) then enters Vbus then forgets

-- 430-447: with the device stack, by RS as it was read (379)
unfoldable pub leaves : Bool → Bool → Step
leaves false rs = nothing
leaves true true = one (λ w. was_running true)
leaves true false = when (λ w. w.state.port.was_running) departs

-- ---- the phases

-- 449-458: VBUS valid, and its interrupt
unfoldable pub idles : Step
idles = on_page (R.◌then◌ (changing OTGSC (λ v. set v 0x81E00)) following) then enters Vbus

-- microframes from VBUS to the bus reset (460), and from there to the port's report (470)
abbrev pub AFTER_VBUS : ℕ
AFTER_VBUS = 400

abbrev pub AFTER_RESET : ℕ
AFTER_RESET = 80

-- 460, 470: more than n microframes since the phase began
abbrev pub longer : ℕ → World → Bool
longer n w = ltb (wrapped (w.state.port.t + n)) (now w)

-- 459-468: the bus reset, once RS is set
unfoldable pub powers : Bool → Step
powers rs =
    when (λ w. rs && longer AFTER_VBUS w)
    (on_page (R.◌then◌ (changing PORTSC1 (λ v. set v 0x100)) (raising 0x40)) then enters Reset)

-- 477-484: the first four setups: device descriptor of 64 bytes, address 7, device descriptor, configuration header
abbrev pub first_setups : List ℕ
first_setups =
    0x80 ∷ 6 ∷ 0 ∷ 1 ∷ 0 ∷ 0 ∷ 64 ∷ 0 ∷ 0 ∷ 5 ∷ 7 ∷ 0 ∷ 0 ∷ 0 ∷ 0 ∷ 0
    ∷ 0x80 ∷ 6 ∷ 0 ∷ 1 ∷ 0 ∷ 0 ∷ 18 ∷ 0 ∷ 0x80 ∷ 6 ∷ 0 ∷ 2 ∷ 0 ∷ 0 ∷ 9 ∷ 0 ∷ []

-- 469-487: the reset is over once the firmware has cleared URI: connected, enabled, high speed (field 2)
unfoldable pub resets : Step
resets =
    when (λ w. longer AFTER_RESET w && not (any (word_at w.lent.memory.page USBSTS) 0x40))
    (on_page (R.◌then◌ (changing PORTSC1 (λ v. set (clear v 0x0C000100) 0x08000005)) (raising 4))
    then enters Enumerate
    then one (λ w. queued first_setups))

-- 493-495: start of frame
unfoldable pub starts_frame : Step
starts_frame = on_page (R.◌then◌ (changing FRINDEX (next_frindex 1)) (raising 0x80))
