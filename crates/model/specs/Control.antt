-- Control transfers on endpoint 0 (document 01, "Control record"; usbhost.rs 623-738; USB 2.0, 9.3: setup packets, 9.4: requests).
use Rattle.std.specs.Prelude.{ℕ, ◌+◌, ◌-◌, ◌/◌, ◌%◌, ◌^◌, Bool, true, false, not, ◌&&◌, ◌||◌, eqb, leb, ltb, length, get_or, take}
use mathlib.Core.List.{List, [], ◌∷◌, ◌++◌, flat_map}
use Rattle.bits.specs.Pick.{pick}
use Rattle.bits.specs.Word.{clear, set, any}
use Rattle.bus.specs.Memory.{after, dropped32}
use Rattle.bus.specs.Words.{word_at}
use Rattle.bus.specs.Stores as S
use Rattle.bus.specs.Stores.{putting}
use Rattle.usbdev.specs.Offsets.{EPSETUPSR, EPCR0}
use Rattle.usbdev.specs.Registers as R
use Rattle.usbdev.specs.Registers.{raising}
use Rattle.dtd.specs.Dtd.{endpoint, queue_head, Run}
use Rattle.config.specs.Config.{Choice, parsed}
use Rattle.record.specs.declared.Phase.{Phase}
use Rattle.record.specs.declared.Phase.TheVariants.{Idle, Vbus, Reset, Enumerate, Stream}
use Rattle.record.specs.declared.Stage.{Stage}
use Rattle.record.specs.declared.Stage.TheVariants.{Data, Status}
use Rattle.record.specs.declared.Control.{Control}
use Rattle.record.specs.Record.{wrapped, with_stage, with_got, enumerations}
use Rattle.record.specs.Setups.{little}
use Rattle.record.specs.World.{World}
use Rattle.record.specs.Change.{lost, count, phase, block, control, queued, popped, pushed, reply, device, config, Step, ◌then◌, if, when, one, here, on_bus, on_page, runs}
use Rattle.model.specs.Phases.{now, changing, drops_request}

-- ---- a setup: eight bytes, kept as the two little-endian words that are posted

-- USB 2.0, 9.3: bmRequestType is byte 0, bRequest byte 1, the descriptor's type byte 3 (wValue's high one), wLength bytes 6 and 7
abbrev pub request_type : Control → ℕ
request_type c = c.first % 256

abbrev pub request : Control → ℕ
request c = c.first / 2 ^ 8 % 256

abbrev pub descriptor_type : Control → ℕ
descriptor_type c = c.first / 2 ^ 24

abbrev pub w_length : Control → ℕ
w_length c = c.second / 2 ^ 16

-- 655: from the device to the host
abbrev pub to_host : Control → Bool
to_host c = any c.first 0x80

-- ---- posting

-- 644: a request that begins
abbrev pub begun : ℕ → ℕ → ℕ → Control
begun first second n = record { on = true; stage = Data; first = first; second = second; got = 0; t0 = n }

-- 625, 637-644: the first setup leaves the queue; its words stand at head + 28 and head + 2C; EPSETUPSR's bit 0; UI
unfoldable pub posted : ℕ → ℕ → ℕ → Step
posted qh first second =
    one (λ w. popped)
    then on_bus (S.◌then◌ (putting (after qh 0x28) first) (putting (after qh 0x2C) second))
    then one (λ w. lost (dropped32 (after qh 0x28) + dropped32 (after qh 0x2C)))
    then on_page (R.◌then◌ (changing EPSETUPSR (λ v. set v 1)) (raising 1))
    then one (λ w. control (begun first second (now w)))

-- 625, 637: the first setup that waits, to the queue head of endpoint 0
unfoldable pub posts : Step
posts = here (λ v. posted (queue_head (endpoint 0 false) v.lent.memory.page) (little v.own.setups 0) (little v.own.setups 4))

-- 626: the phase is enumeration
abbrev pub enumerating : Phase → Bool
enumerating Idle = false
enumerating Vbus = false
enumerating Reset = false
enumerating Enumerate = true
enumerating Stream = false

-- 626-629: no setup waits: enumeration ends, and streaming starts
unfoldable pub configured : Step
configured =
    when (λ w. enumerating w.state.phase) (one (λ w. phase Stream) then one (λ w. count enumerations 1))

-- ---- the data stage

-- 675, 684: the stage is the status stage
abbrev pub in_status : Stage → Bool
in_status Data = false
in_status Status = true

-- microframes after which a transfer that is not finished is dropped (676, 693)
abbrev pub DROP_AFTER : ℕ
DROP_AFTER = 16000

-- 676, 693: the request began longer ago than that
abbrev pub timed_out : World → Bool
timed_out w = ltb (wrapped (w.state.control.t0 + DROP_AFTER)) (now w)

-- 660, 666, 672: the status stage is next
unfoldable pub to_status : Step
to_status = one (λ w. control (with_stage w.state.control Status))

-- 663-667: bytes behind those that came before; what lies past the asked length is discarded
unfoldable pub keeps_reply : Run → Step
keeps_reply r =
    here (λ v. one (λ w. reply v.state.control.got (take (w_length v.state.control - v.state.control.got) r.bytes))
    then one (λ w. control (with_got v.state.control (v.state.control.got + length (take (w_length v.state.control - v.state.control.got) r.bytes))))
    then when (λ w. r.done || leb (w_length w.state.control) w.state.control.got) to_status)

-- 661-667: the data stage from the device; 668-674: towards it, for which the base has no bytes: it would end by its completion
abbrev pub data_in : Step
data_in = runs (endpoint 0 true) [] keeps_reply

abbrev pub data_out : Step
data_out = runs (endpoint 0 false) [] (λ r. when (λ w. r.done) to_status)

-- 659-673
unfoldable pub data_stage : Step
data_stage = if (λ w. eqb (w_length w.state.control) 0) to_status (if (λ w. to_host w.state.control) data_in data_out)

-- ---- what a finished request brings (703-738)

-- 706, 709: a request for a descriptor of a type (USB 2.0, 9.4.3)
abbrev pub asks_for : ℕ → Control → Bool
asks_for type c = eqb (request_type c) 0x80 && (eqb (request c) 6 && eqb (descriptor_type c) type)

-- the bytes of the reply (`got`)
abbrev pub replied : World → List ℕ
replied w = take w.state.control.got w.lent.reply

-- 710-713: a configuration's header has its total length in bytes 2 and 3 (USB 2.0, 9.6.3), and that is asked for
unfoldable pub asks_whole : Step
asks_whole = one (λ w. pushed (0x80 ∷ 6 ∷ 0 ∷ 2 ∷ 0 ∷ 0 ∷ get_or w.lent.reply 2 0 ∷ get_or w.lent.reply 3 0 ∷ []))

-- 723-725, 730-732; USB 2.0, 9.4.7 and 9.4.10: set configuration 1, and an interface's alternate
abbrev pub sets_configuration : List ℕ
sets_configuration = 0 ∷ 9 ∷ 1 ∷ 0 ∷ 0 ∷ 0 ∷ 0 ∷ 0 ∷ []

abbrev pub sets_interface : ℕ → ℕ → List ℕ
sets_interface interface alternate = 1 ∷ 11 ∷ alternate ∷ 0 ∷ interface ∷ 0 ∷ 0 ∷ 0 ∷ []

-- 724-726: a setup for each pair of interface and alternate
unfoldable pub interface_setups : List (ℕ × ℕ) → List ℕ
interface_setups ps = flat_map (λ p. sets_interface p.0 p.1) ps

-- 717-727: with the device stack: block and channels by the output size, and a setup for each pair
unfoldable pub chooses : Choice → Step
chooses c =
    when (λ w. ltb 32 c.output) (one (λ w. block c.output ((c.output - 32) / 28)))
    then one (λ w. queued (sets_configuration ++ interface_setups c.pairs))

-- 729-735: without it, alternate 3 of interfaces 1 and 2
abbrev pub fixed_setups : List ℕ
fixed_setups = sets_configuration ++ sets_interface 1 3 ++ sets_interface 2 3

-- 715: a whole configuration is stored
abbrev pub keeps_config : Step
keeps_config = one (λ w. config (replied w))

-- 717-727: its choice, with the device stack; 729-735: without it
abbrev pub chooses_by_reply : Step
chooses_by_reply = here (λ v. chooses (parsed (replied v)))

abbrev pub queues_fixed : Step
queues_fixed = one (λ w. queued fixed_setups)

-- 715-735: a whole configuration is stored, and its requests are queued
unfoldable pub configures : Bool → Step
configures stack = keeps_config then pick stack chooses_by_reply queues_fixed

-- 707: the device descriptor is stored
abbrev pub keeps_device : Step
keeps_device = one (λ w. device (replied w))

-- 710-736: a configuration's header, or the whole of it
abbrev pub takes_configuration : Bool → Step
takes_configuration stack = if (λ w. eqb w.state.control.got 9) asks_whole (configures stack)

-- 703-738: `finished`; stack is the device_stack setting
unfoldable pub finishes : Bool → Step
finishes stack =
    drops_request
    then when (λ w. asks_for 1 w.state.control) keeps_device
    then when (λ w. asks_for 2 w.state.control) (takes_configuration stack)

-- ---- the status stage (687-700): the other way, with no data

-- 687: towards the device, where data came from it
abbrev pub status_out : Control → Bool
status_out c = to_host c && not (eqb (w_length c) 0)

-- 692-700: what follows its run, by its completion: the request is finished, or waits, or is dropped
abbrev pub ends_by : Bool → Bool → Step
ends_by stack done = if (λ w. done) (finishes stack) (when timed_out drops_request)

unfoldable pub status_ends : Bool → Run → Step
status_ends stack r = ends_by stack r.done

-- 687-700
unfoldable pub status_stage : Bool → Step
status_stage stack =
    if (λ w. status_out w.state.control) (runs (endpoint 0 false) [] (status_ends stack)) (runs (endpoint 0 true) [] (status_ends stack))

-- ---- all of it

-- 649-650: endpoint 0 is stalled
abbrev pub stalled : World → Bool
stalled w = any (word_at w.lent.memory.page EPCR0) 0x10001

-- 647, 652-653: a stall drops the request, and its bits are cleared
unfoldable pub unstalls : Step
unstalls = drops_request then on_page (changing EPCR0 (λ v. clear v 0x10001))

-- 658-700: a data stage, and what follows it
abbrev pub data_then_status : Bool → Step
data_then_status stack = data_stage then if (λ w. in_status w.state.control.stage) (status_stage stack) (when timed_out drops_request)

-- 657-700: the stages of a running request
unfoldable pub stages : Bool → Step
stages stack = if (λ w. in_status w.state.control.stage) (status_stage stack) (data_then_status stack)

-- 649-700: a request that runs
abbrev pub requests : Bool → Step
requests stack = if stalled unstalls (stages stack)

-- 623-701: `control`; stack is the device_stack setting
unfoldable pub controls : Bool → Step
controls stack = if (λ w. w.state.control.on) (requests stack) (if (λ w. eqb w.state.lengths.setups 0) configured posts)
