-- The bounds of a host record (document 01, "Numbers of refusal", 5): each clause of that text stands in one of the named parts below.
use Rattle.std.specs.Prelude.{Some, None, ℕ, zero, suc, ◌+◌, ◌-◌, ◌*◌, ◌/◌, ◌%◌, ◌^◌, min, Bool, true, false, not, ◌&&◌, ◌||◌, List, [], ◌∷◌, eqb, leb, ltb}
use Rattle.midi.specs.declared.Packer.{Packer}
use Rattle.midi.specs.Packer.{CABLES, message_length, packer_at}
use Rattle.gptimers.specs.declared.Timers.{Timers}
use Rattle.gptimers.specs.Timer.{Timer, ZERO}
use Rattle.record.specs.declared.Ring.{Ring}
use Rattle.record.specs.declared.Audio.{Audio}
use Rattle.record.specs.declared.Control.{Control}
use Rattle.record.specs.declared.Lengths.{Lengths}
use Rattle.record.specs.declared.State.{State}
use Rattle.record.specs.Sizes.{SETUPS, QUEUE, DEVICE, FRAMES, WORDS}
use Rattle.record.specs.Setups.{little}
use Rattle.record.specs.Record.{Stats, COUNTERS, counter_at, counter_of, microframes}
use Rattle.model.specs.Control.{w_length, enumerating}

-- a test of the numbers 0 to n - 1
unfoldable pub every : (ℕ → Bool) → ℕ → Bool
every test zero = true
every test (suc n) = every test n && test n

-- ---- setups that the source makes (usbhost.rs 477-482, 713, 723-735)

-- four bytes as the little-endian word that is kept for them
abbrev pub le : ℕ → ℕ → ℕ → ℕ → ℕ
le a b c d = a + 2 ^ 8 * b + 2 ^ 16 * c + 2 ^ 24 * d

-- 481, 713: a configuration request, of any length
abbrev pub asks_configuration : ℕ → Bool
asks_configuration first = eqb first (le 0x80 6 0 2)

-- a shape of setups: what its first and its second word are
pub record Shape : Type 0 where
  pub first : ℕ → Bool
  pub second : ℕ → Bool

-- device descriptor of 64 or of 18 bytes (478, 480)
abbrev pub device_shape : Shape
device_shape = record { first = λ a. eqb a (le 0x80 6 0 1); second = λ b. eqb b (le 0 0 64 0) || eqb b (le 0 0 18 0) }

-- address 7 (479)
abbrev pub address_shape : Shape
address_shape = record { first = λ a. eqb a (le 0 5 7 0); second = λ b. eqb b 0 }

-- configuration of any length (481, 713)
abbrev pub configuration_shape : Shape
configuration_shape = record { first = asks_configuration; second = λ b. eqb (b % 2 ^ 16) 0 }

-- set configuration 1 (723, 730)
abbrev pub chosen_shape : Shape
chosen_shape = record { first = λ a. eqb a (le 0 9 1 0); second = λ b. eqb b 0 }

-- set interface with an alternate that is not 0 (79, 725, 731-732)
abbrev pub interface_shape : Shape
interface_shape =
    record { first = λ a. eqb (a % 2 ^ 16) (le 1 11 0 0) && (ltb 0 (a / 2 ^ 16) && ltb (a / 2 ^ 16) 256); second = λ b. ltb b 256 }

abbrev pub shapes : List Shape
shapes = device_shape ∷ address_shape ∷ configuration_shape ∷ chosen_shape ∷ interface_shape ∷ []

-- two words are those of one of the shapes
abbrev pub shaped : List Shape → ℕ → ℕ → Bool
shaped [] a b = false
shaped (x ∷ xs) a b = (x.first a && x.second b) || shaped xs a b

unfoldable pub made : ℕ → ℕ → Bool
made first second = shaped shapes first second

-- each of the first n setups that wait is one that the source makes, and none of the first n is a configuration request
unfoldable pub made_at : List ℕ → ℕ → Bool
made_at q n = made (little q (8 * n)) (little q (8 * n + 4))

unfoldable pub all_made : List ℕ → ℕ → Bool
all_made q zero = true
all_made q (suc n) = all_made q n && made_at q n

unfoldable pub other : List ℕ → ℕ → Bool
other q n = not (asks_configuration (little q (8 * n)))

unfoldable pub none_asks : List ℕ → ℕ → Bool
none_asks q zero = true
none_asks q (suc n) = none_asks q n && other q n

-- at most 257, each made by the source, and a configuration request only as the last
unfoldable pub setups_ok : ℕ → List ℕ → Bool
setups_ok n q = leb n SETUPS && (all_made q n && none_asks q (n - 1))

-- none waits and none runs outside enumeration
unfoldable pub enumerating_ok : State → Bool
enumerating_ok s = enumerating s.phase || (eqb s.lengths.setups 0 && not s.control.on)

-- a running request: one that the source makes, a configuration request with none waiting behind it, begun no later than now,
-- and its reply no longer than it asks
unfoldable pub request_ok : Control → ℕ → ℕ → Bool
request_ok c waiting uf =
    not c.on
    || (made c.first c.second
    && ((not (asks_configuration c.first) || eqb waiting 0)
    && (leb c.t0 uf && leb c.got (w_length c))))

-- ---- queues, descriptors, packers

-- MIDI queue over 4,096 or not a multiple of four, serial queue over 4,096, device descriptor over the 64 bytes of the record
unfoldable pub queues_ok : Lengths → Bool
queues_ok l = leb l.midi QUEUE && (eqb (l.midi % 4) 0 && (leb l.serial QUEUE && leb l.device DEVICE))

-- over two held MIDI bytes, or any with a two-byte status outside SysEx
unfoldable pub packer_ok : Packer → Bool
packer_ok p = leb p.held 2 && (p.sysex || (eqb p.held 0 || not (eqb (message_length p.status) 2)))

-- no byte held, which is inside the bound whatever the status
abbrev pub holds_none : Packer → Bool
holds_none p = eqb p.held 0

-- a test of the packers of cables 0 to n - 1
unfoldable pub each_packer : (Packer → Bool) → List Packer → ℕ → Bool
each_packer test ps zero = true
each_packer test ps (suc n) = each_packer test ps n && test (packer_at ps n)

-- S-2: the bound is every packer's
abbrev pub packers_ok : List Packer → Bool
packers_ok ps = each_packer packer_ok ps CABLES

-- ---- counts

-- the most microframes that a host has
abbrev pub MOST : ℕ
MOST = 2 ^ 40

-- the two microframe counts are equal and not above 2^40, and no phase began after them
unfoldable pub counts_ok : State → Bool
counts_ok s =
    eqb (counter_of microframes s.stats) s.port.uf && (leb s.port.uf MOST && leb s.port.t s.port.uf)

-- a bound that grows with the microframes, of which there are at most 2^40
abbrev pub times : ℕ → ℕ → ℕ
times k n = k * min n MOST

-- the counters at the places 1 to n are at most m
unfoldable pub none_above : ℕ → Stats → ℕ → Bool
none_above m r zero = true
none_above m r (suc n) = none_above m r n && leb (counter_at (suc n) r) m

-- every other counter (usbhost.rs 293-309): at most 32,767 a microframe
unfoldable pub counters_ok : Stats → Bool
counters_ok r = none_above (times 32767 (counter_of microframes r)) r (COUNTERS - 1)

-- credit: a multiple of seven, at most 623 a microframe (a total of 32,767 bytes has 89 whole blocks of 368, of seven frames each)
unfoldable pub credit_ok : ℕ → ℕ → Bool
credit_ok credit n = eqb (credit % 7) 0 && leb credit (times 623 n)

-- a timer that counts: not below -125 a microframe, nor above 2^24
unfoldable pub timer_ok : Timer → ℕ → Bool
timer_ok (Some count) n = leb (ZERO - times 125 n) count && leb count (ZERO + 2 ^ 24)
timer_ok None n = true

unfoldable pub timers_ok : Timers → ℕ → Bool
timers_ok ts n = timer_ok ts.zero n && timer_ok ts.one n

-- input budget not above 32,766, block from 33 to 2,047, and the channels that match it (718-720)
unfoldable pub audio_ok : Audio → Bool
audio_ok a =
    leb 33 a.block
    && (leb a.budget 32766 && (leb a.block 2047 && eqb a.channels ((a.block - 32) / 28)))

-- ---- the whole record, but for what an area bounds

-- setups waiting and running
abbrev pub asked_ok : State → List ℕ → Bool
asked_ok s setups =
    setups_ok s.lengths.setups setups && (enumerating_ok s && request_ok s.control s.lengths.setups s.port.uf)

-- bytes held for the device, and in the packers
abbrev pub held_ok : State → List Packer → Bool
held_ok s ps = queues_ok s.lengths && packers_ok ps

-- microframes, counters, credit and timers
abbrev pub counted_ok : State → Bool
counted_ok s =
    counts_ok s
    && (counters_ok s.stats && (credit_ok s.audio.credit (counter_of microframes s.stats) && timers_ok s.timers (counter_of microframes s.stats)))

-- all of it
unfoldable pub in_bounds : State → List Packer → List ℕ → Bool
in_bounds s ps setups = asked_ok s setups && (held_ok s ps && (counted_ok s && audio_ok s.audio))

-- ---- what an area bounds, in calls that are lent it

-- a ring of so many frames: it holds no more, and its start lies in it
unfoldable pub ring_ok : Ring → ℕ → Bool
ring_ok r capacity = ltb r.start capacity && leb r.len capacity

-- the received ring has 48,000 frames, the sending ring as many as the lent words make
abbrev pub received_ok : State → Bool
received_ok s = ring_ok s.audio.received FRAMES

abbrev pub sending_ok : State → ℕ → Bool
sending_ok s words = ring_ok s.audio.sending (words / WORDS)

-- the configuration and the reply of a running request lie in their areas
unfoldable pub areas_ok : State → ℕ → ℕ → Bool
areas_ok s reply config = leb s.lengths.config config && (not s.control.on || leb s.control.got reply)
