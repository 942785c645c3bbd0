-- MIDI bytes to USB-MIDI event packets: the two tables of USB MIDI 1.0, the packer of a cable, its packets, and a send into the queue.
use Rattle.std.specs.Prelude.{ℕ, ◌+◌, ◌*◌, ◌/◌, ◌%◌, ◌≤◌, ◌<◌, ◌≡◌, Bool, true, false, ◌&&◌, ◌||◌, Option, Some, None, Result, Ok, Err, length, get_or, eqb, leb, ltb}
use mathlib.Core.List.{List, [], ◌∷◌, ◌++◌, flat_map}
use Rattle.std.proofs.lemmas.List.Edits.{sets}
use Rattle.bits.specs.Pick.{pick}
use Rattle.midi.specs.declared.Packer.{Packer}
use Rattle.midi.specs.declared.Packet.{Packet}
use Rattle.midi.specs.declared.Fed.{Fed}
use Rattle.midi.specs.declared.Sent.{Sent as Accepted}
use Rattle.refusal.specs.declared.Refusal.{Refusal}
use Rattle.refusal.specs.Number.{number}

-- USB MIDI 1.0, table 4-1: the bytes of a packet by its code, from code 0 to code F; 0 and 1 are reserved there and hold none here (source, lines 799 to 804)
abbrev pub byte_counts : List ℕ
byte_counts = 0 ∷ 0 ∷ 2 ∷ 3 ∷ 3 ∷ 1 ∷ 2 ∷ 3 ∷ 3 ∷ 3 ∷ 3 ∷ 3 ∷ 2 ∷ 2 ∷ 3 ∷ 1 ∷ []

-- the bytes of a packet with a code, 0 past the table
unfoldable pub byte_count : ℕ → ℕ
byte_count code = get_or byte_counts code 0

-- whether x lies from lo to hi, both included
abbrev pub within : ℕ → ℕ → ℕ → Bool
within lo hi x = leb lo x && leb x hi

-- table 4-1, and document 01, "MIDI packer": two bytes for C0 to DF, F1 and F3, three for any other status, F4, F5 and a stray F7 too
unfoldable pub message_length : ℕ → ℕ
message_length s = pick (within 0xC0 0xDF s || (eqb s 0xF1 || eqb s 0xF3)) 2 3

-- table 4-1: a channel message's code is the high half of its status, a system common message's is its length
unfoldable pub message_code : ℕ → ℕ
message_code s = pick (leb 0xF0 s) (message_length s) (s / 16)

-- source, lines 154 to 156: the status that runs on after a whole message, a channel message's own and none after a system common one
unfoldable pub running_of : ℕ → ℕ
running_of s = pick (leb 0xF0 s) 0 s

-- the bytes that a packer holds, first to last; document 01's number 5 rules out more than two
abbrev pub held_bytes : Packer → List ℕ
held_bytes p = pick (eqb p.held 0) [] (pick (eqb p.held 1) (p.first ∷ []) (p.first ∷ p.second ∷ []))

-- a packer that holds bs, of which there are two at most
abbrev pub holding : ℕ → Bool → List ℕ → Packer
holding s x bs = record { status = s; first = get_or bs 0 0; second = get_or bs 1 0; held = length bs; sysex = x }

-- the packer of a new host (source, lines 106 to 111)
abbrev pub fresh : Packer
fresh = holding 0 false []

-- what one byte may make: at most one packet
abbrev pub Event : Type 0
Event = Option Packet

-- source, lines 114 to 117: the packet of up to three bytes under a code, filled up with 0
abbrev pub packet : ℕ → List ℕ → Event
packet code bs = Some (record { code = code; first = get_or bs 0 0; second = get_or bs 1 0; third = get_or bs 2 0 })

-- what one byte leaves: the next packer and at most one packet
abbrev pub fed : Packer → Event → Fed
fed p e = record { next = p; event = e }

-- table 4-1, codes 4 to 7: bs is what SysEx has so far, b its last byte; F7 ends it, and three bytes make a packet
abbrev pub sysex_of : Packer → ℕ → List ℕ → Fed
sysex_of p b bs =
    pick (eqb b 0xF7) (fed (holding p.status false []) (packet (4 + length bs) bs))
    (pick (eqb (length bs) 3) (fed (holding p.status true []) (packet 4 bs))
    (fed (holding p.status true bs) None))

-- document 01, "MIDI packer": inside SysEx every byte below F8 but F7 is data, status bytes too
abbrev pub fed_sysex : Packer → ℕ → Fed
fed_sysex p b = sysex_of p b (held_bytes p ++ (b ∷ []))

-- source, lines 148 to 157: bs is the message so far; whole, it is a packet, and its status may run on. The source asks for exactly its
-- length; number 5 rules out a packer that holds more (`whole_exactly`)
abbrev pub message_of : Packer → List ℕ → Fed
message_of p bs =
    pick (leb (message_length p.status) (length bs))
    (fed (holding (running_of p.status) false []) (packet (message_code p.status) bs))
    (fed (holding p.status false bs) None)

-- source, lines 144 to 147: the message with its next data byte; the status stands first in it
abbrev pub so_far : Packer → ℕ → List ℕ
so_far p b = pick (eqb p.held 0) (p.status ∷ []) (held_bytes p) ++ (b ∷ [])

-- source, line 143: a data byte with no status is dropped
abbrev pub fed_data : Packer → ℕ → Fed
fed_data p b = pick (eqb p.status 0) (fed p None) (message_of p (so_far p b))

-- source, lines 133 to 142: F0 begins SysEx; F6 is whole by itself and leaves the held bytes; any other status drops them and waits for data
abbrev pub fed_status : Packer → ℕ → Fed
fed_status p b =
    pick (eqb b 0xF0) (fed (holding 0 true (b ∷ [])) None)
    (pick (eqb b 0xF6)
    (fed (record { status = 0; first = p.first; second = p.second; held = p.held; sysex = p.sysex }) (packet 5 (b ∷ [])))
    (fed (holding b false []) None))

-- source, lines 119 to 159: one byte; a realtime byte is a packet anywhere and changes nothing
unfoldable pub feed_of : Packer → ℕ → Fed
feed_of p b =
    pick (leb 0xF8 b) (fed p (packet 0xF (b ∷ [])))
    (pick p.sysex (fed_sysex p b)
    (pick (leb 0x80 b) (fed_status p b) (fed_data p b)))

-- the packer after bs, a byte at a time (source, line 120)
unfoldable pub fed_all : Packer → List ℕ → Packer
fed_all p [] = p
fed_all p (b ∷ bs) = fed_all (feed_of p b).next bs

-- the packet of an event, if it is one
abbrev pub made : Event → List Event
made None = []
made (Some e) = Some e ∷ []

-- the packets that bs makes, in order
unfoldable pub events_of : Packer → List ℕ → List Event
events_of p [] = []
events_of p (b ∷ bs) = made (feed_of p b).event ++ events_of (feed_of p b).next bs

-- how many packets bs makes
unfoldable pub packet_count : Packer → List ℕ → ℕ
packet_count p bs = length (events_of p bs)

-- the code of a packet; 0 where there is none
abbrev pub code_of : Event → ℕ
code_of None = 0
code_of (Some e) = e.code

-- USB MIDI 1.0, section 4: a packet's first byte has the cable's number in its high half and the code in its low half
abbrev pub header : ℕ → ℕ → ℕ
header cable code = cable % 16 * 16 + code

-- USB MIDI 1.0, section 4: a packet's four bytes
abbrev pub packet_bytes : ℕ → Event → List ℕ
packet_bytes cable None = []
packet_bytes cable (Some e) = header cable e.code ∷ e.first ∷ e.second ∷ e.third ∷ []

-- what a form of writing makes of the packets of bs, one packet after the other
abbrev pub written : (Event → List ℕ) → Packer → List ℕ → List ℕ
written form p bs = flat_map form (events_of p bs)

-- the bytes of the packets that bs makes
unfoldable pub packets_of : ℕ → Packer → List ℕ → List ℕ
packets_of cable p bs = written (packet_bytes cable) p bs

-- S-2: how many cables an endpoint has, and whether a number is one's
abbrev pub CABLES : ℕ
CABLES = 16

abbrev pub is_cable : ℕ → Bool
is_cable cable = ltb cable CABLES

-- S-2: the packer of a cable among those of all, in order; a list that ends early has fresh ones behind its end
abbrev pub packer_at : List Packer → ℕ → Packer
packer_at ps cable = get_or ps cable fresh

-- document 01, "MIDI packer and queue": the queue's bytes
abbrev pub QUEUE : ℕ
QUEUE = 4096

-- document 01, number 7: whether the packets of bs fit a queue that holds held
abbrev pub room_for : Packer → List ℕ → ℕ → Bool
room_for p bs held = leb (held + 4 * packet_count p bs) QUEUE

-- a send's answer by numbers: 0 or the number of its refusal, the next packer, and the bytes then held in the queue
pub record Sent : Type 0 where
  pub refusal : ℕ
  pub packer : Packer
  pub held : ℕ

-- the answer that a result stands for: a refused send leaves the packer and the bytes held as they were
abbrev pub sent_by : Packer → ℕ → Result Accepted Refusal → Sent
sent_by p held (Ok s) = record { refusal = 0; packer = s.packer; held = s.held }
sent_by p held (Err r) = record { refusal = number r; packer = p; held = held }

-- document 01, number 7: a send's answer, 0 with all of it done, or 7 with all as it was
unfoldable pub sent_of : Packer → List ℕ → ℕ → Sent
sent_of p bs held =
    pick (room_for p bs held) (record { refusal = 0; packer = fed_all p bs; held = held + 4 * packet_count p bs })
    (record { refusal = 7; packer = p; held = held })

-- the queue after a send: the packets behind what it held, or as it was
unfoldable pub queue_after : ℕ → Packer → List ℕ → ℕ → List ℕ → List ℕ
queue_after cable p bs held q = pick (room_for p bs held) (sets q held (packets_of cable p bs)) q

-- S-2: a send on a cable: number 8, before 7, where there is none of that number, an empty send's too
unfoldable pub sent_on : ℕ → Packer → List ℕ → ℕ → Sent
sent_on cable p bs held = pick (is_cable cable) (sent_of p bs held) (record { refusal = 8; packer = p; held = held })

unfoldable pub queue_on : ℕ → Packer → List ℕ → ℕ → List ℕ → List ℕ
queue_on cable p bs held q = pick (is_cable cable) (queue_after cable p bs held q) q

-- what a send leaves: its answer, and the queue to its last byte
pub record Sends (cable : ℕ) (p : Packer) (bs : List ℕ) (held : ℕ) (q q' : List ℕ) (r : Sent) : Type 0 where
  pub answer : r ≡ sent_on cable p bs held
  pub queue : q' ≡ queue_on cable p bs held q

-- what a run of bytes leaves whose packets are put at a place of the queue: the packer fed, the next free place, and the queue
pub record Puts (cable : ℕ) (p : Packer) (bs : List ℕ) (held : ℕ) (q q' : List ℕ) (next : Packer) (end : ℕ) : Type 0 where
  pub packer : next ≡ fed_all p bs
  pub count : end ≡ held + 4 * packet_count p bs
  pub queue : q' ≡ sets q held (packets_of cable p bs)

-- document 01, number 5, of one packer: at most two bytes held, and none with a two-byte status outside SysEx
pub record PackerBound (p : Packer) : Type 0 where
  pub few : p.held ≤ 2
  pub none : p.sysex ≡ false → message_length p.status ≡ 2 → p.held ≡ 0

-- a list of bytes
pub record AllBytes (xs : List ℕ) : Type 0 where
  pub below : (k : ℕ) → get_or xs k 0 < 256

-- a packer whose status and held bytes are bytes, as each packer in a program is
pub record PackerBytes (p : Packer) : Type 0 where
  pub status : p.status < 256
  pub first : p.first < 256
  pub second : p.second < 256
