-- MIDI, serial and vendor transfers of a streaming microframe (document 01, "Streams"; usbhost.rs 497-508, 773-851).
use Rattle.std.specs.Prelude.{ℕ, zero, suc, ◌*◌, ◌/◌, ◌%◌, min, Bool, true, false, not, ◌&&◌, ◌||◌, List, [], ◌∷◌, ◌++◌, eqb, length, get_or, take, drop, replicate}
use Rattle.bits.specs.Pick.{pick}
use Rattle.bits.specs.Word.{set}
use Rattle.usbdev.specs.Offsets.{EPNAK}
use Rattle.usbdev.specs.Transfer.{total_of}
use Rattle.midi.specs.Packer.{byte_count}
use Rattle.dtd.specs.Dtd.{Endpoint, endpoint, primed, next_active, next_dtd, token_of, Run}
use Rattle.record.specs.Record.{midi_dtds, midi_packets_out, vendor_in_bytes}
use Rattle.record.specs.World.{World}
use Rattle.record.specs.Change.{count, midi, serial, cabled, received, Step, ◌then◌, nothing, when, one, here, on_page, runs}
use Rattle.model.specs.Phases.{now, changing, sleeps}

-- ---- what the steps test

-- 815-825, 835-845: an endpoint is primed, and its next descriptor is there and active
abbrev pub ready : Endpoint → World → Bool
ready e w = primed e w.lent.memory.page && next_active e w.lent.memory

-- 826, 846, 862: the bytes that its next descriptor is to move
abbrev pub next_total : Endpoint → World → ℕ
next_total e w = total_of (token_of (next_dtd e w.lent.memory) w.lent.memory)

-- there is a byte
abbrev pub nonempty : List ℕ → Bool
nonempty [] = false
nonempty (b ∷ bs) = true

-- 793, 871: a run that brought a byte or a completion
abbrev pub brought : Run → Bool
brought r = r.done || nonempty r.bytes

-- ---- MIDI from the device (773-808)

-- 797-806: the bytes of the packet that bs begins with, by the code in the low half of its first byte (USB MIDI 1.0, table 4-1)
abbrev pub packet_data : List ℕ → List ℕ
packet_data bs = take (byte_count (get_or bs 0 0 % 16)) (drop 1 bs)

-- S-2: its cable, the high half of its first byte (USB MIDI 1.0, section 4), once for each of these bytes
abbrev pub packet_cables : List ℕ → List ℕ
packet_cables bs = replicate (length (packet_data bs)) (get_or bs 0 0 / 16)

-- n packets, of four bytes each, and what is taken of each
unfoldable pub each_packet : (List ℕ → List ℕ) → ℕ → List ℕ → List ℕ
each_packet form zero bs = []
each_packet form (suc n) bs = form bs ++ each_packet form n (drop 4 bs)

-- the bytes of n packets, and their cables
abbrev pub decoded : ℕ → List ℕ → List ℕ
decoded n bs = each_packet packet_data n bs

abbrev pub cables_of : ℕ → List ℕ → List ℕ
cables_of n bs = each_packet packet_cables n bs

-- 791-807: at most n reads, ended by the first with neither byte nor completion; whole packets count
unfoldable pub reads : ℕ → Step
reads zero = nothing
reads (suc n) =
    runs (endpoint 1 true) []
    (λ r. when (λ w. brought r)
    (one (λ w. count midi_dtds 1)
    then one (λ w. cabled (cables_of (length r.bytes / 4) r.bytes))
    then one (λ w. received (decoded (length r.bytes / 4) r.bytes))
    then reads n))

-- 786-790: how many reads: eight, or one in every so many microframes
abbrev pub reads_at : ℕ → ℕ → ℕ
reads_at every uf = pick (eqb every 0) 8 (pick (eqb (uf % every) 0) 1 0)

-- 782-785: an endpoint that is not primed answers NAK
unfoldable pub naks : Step
naks = when (λ w. not (primed (endpoint 1 true) w.lent.memory.page)) (on_page (changing EPNAK (λ v. set v 0x20000)))

-- 773-808: `midi`; asleep: the time lies in the MIDI sleep span; every: the midi_every setting
unfoldable pub midi_in : Bool → ℕ → Step
midi_in true every = sleeps
midi_in false every = naks then here (λ v. reads (reads_at every (now v)))

-- ---- to the device: what waits and fits the next descriptor, at most 512 bytes (826-827, 846-847)

abbrev pub fitting : Endpoint → ℕ → World → ℕ
fitting e held w = min (min (next_total e w) 512) held

-- 828-829: n bytes leave the serial queue and are sent
unfoldable pub drains_serial : ℕ → Step
drains_serial n = here (λ v. one (λ w. serial n) then runs (endpoint 2 false) (take n v.own.serial) (λ r. nothing))

-- 813-814: bytes from a serial device, and 815-829: those for it
abbrev pub takes_serial : Step
takes_serial = runs (endpoint 2 true) [] (λ r. one (λ w. received r.bytes))

abbrev pub gives_serial : Step
gives_serial =
    when (λ w. not (eqb w.state.lengths.serial 0) && ready (endpoint 2 false) w)
    (here (λ v. drains_serial (fitting (endpoint 2 false) v.state.lengths.serial v)))

-- 812-830: `serial`
unfoldable pub serial_step : Step
serial_step = takes_serial then gives_serial

-- 848-850: n bytes leave the MIDI queue and are sent, and their packets are counted
unfoldable pub drains_midi : ℕ → Step
drains_midi n =
    here (λ v. one (λ w. midi n) then runs (endpoint 1 false) (take n v.own.midi) (λ r. one (λ w. count midi_packets_out (n / 4))))

-- 834-851: `midi_out`, whole packets
unfoldable pub midi_out : Step
midi_out =
    when (λ w. not (eqb w.state.lengths.midi 0) && ready (endpoint 1 false) w)
    (here (λ v. drains_midi (fitting (endpoint 1 false) v.state.lengths.midi v / 4 * 4)))

-- 506-507: the vendor interface's bytes are counted
unfoldable pub reads_vendor : Step
reads_vendor = runs (endpoint 2 true) [] (λ r. one (λ w. count vendor_in_bytes (length r.bytes)))
