-- Every limit of the numbers of refusal (documents 01 and 02), and one past it, in all calls: one table, about the numbers that the calls' contracts cite.
use Rattle.std.specs.Prelude.{◌≡◌, ℕ, zero, suc, ◌+◌, ◌-◌, ◌*◌, ◌^◌, List, [], ◌∷◌, ◌++◌, map, replicate, slice_set}
use mathlib.Core.List.{flat_map}
use Rattle.bits.specs.Pick.{pick}
use Rattle.gptimers.specs.Timer.{ZERO}
use Rattle.record.specs.declared.Settings.{Settings}
use Rattle.record.specs.Setups.{little}
use Rattle.bounds.specs.Bounds.{made}
use Rattle.usbhost.specs.Host.{created}
use Rattle.usbhost.specs.Promises.{with_spans}
use Rattle.limits.specs.Cases.{Field, Row, Table, calls, every_cable, dynamic, static, page, reply_area, config_area, receive_area, cables_area, received_ring, sending_ring, frame_words, serial_bytes, offset, size, cable, spans, phase, uf, microframes, phase_start, waiting, midi, serial, device, config, credit, budget, block, channels, received_start, received_held, sending_start, sending_held, running, first, second, reply, request_start, zero_set, zero_count, one_set, one_count, packer_cable, status, held, sysex, in_transfers_count, out_transfers_count, in_frames_count, out_frames_count, bad_blocks_count, midi_dtds_count, midi_asleep_count, out_underruns_count, midi_packets_out_count, vendor_in_bytes_count, restarts, enumerations}

-- ---- rows: what is not as usual, and the numbers of microframe, MIDI send, serial send, frame given, frame taken, device access

-- these MIDI bytes are sent, and no setup waits
abbrev pub sending : List ℕ → List (Field × ℕ) → List ℕ → Row
sending bs sets numbers = record { sets = sets; queue = []; sent = bs; numbers = numbers }

-- F8 is sent
abbrev pub with : List (Field × ℕ) → List ℕ → Row
with = sending (0xF8 ∷ [])

abbrev pub at : Field → ℕ → List ℕ → Row
at f x = with ((f, x) ∷ [])

abbrev pub both : Field → ℕ → Field → ℕ → List ℕ → Row
both f x g y = with ((f, x) ∷ (g, y) ∷ [])

-- so many microframes after `new`
abbrev pub after : ℕ → Field → ℕ → List ℕ → Row
after n f x = with ((f, x) ∷ (uf, n) ∷ (microframes, n) ∷ [])

-- these MIDI bytes are sent behind so many
abbrev pub sends : List ℕ → ℕ → List ℕ → Row
sends bs queued = sending bs ((midi, queued) ∷ [])

-- so many setups wait in enumeration, these the first
abbrev pub waits : ℕ → List ℕ → List ℕ → Row
waits n setups numbers = record { sets = (phase, 3) ∷ (waiting, n) ∷ []; queue = setups; sent = 0xF8 ∷ []; numbers = numbers }

-- a request runs in enumeration, so many wait behind it, and a field is set
abbrev pub runs : List ℕ → ℕ → List ℕ → Field → ℕ → List ℕ → Row
runs setup n setups f x numbers =
    record {
      sets = (f, x) ∷ (phase, 3) ∷ (running, 1) ∷ (first, little setup 0) ∷ (second, little setup 4) ∷ (waiting, n) ∷ [];
      queue = setups;
      sent = 0xF8 ∷ [];
      numbers = numbers;
    }

-- accepted by all calls, and refused by all with one number
abbrev pub none : List ℕ
none = calls 0 0 0 0 0 0

abbrev pub all : ℕ → List ℕ
all n = calls n n n n n n

-- ---- 1: windows

unfoldable pub windows : List Row
windows =
    at dynamic 0 (calls 1 0 0 0 0 0)
    ∷ at dynamic 2048 (calls 1 0 0 0 0 0)
    ∷ at dynamic 4096 none
    ∷ at dynamic 6144 (calls 1 0 0 0 0 0)
    ∷ at dynamic 67108864 none
    ∷ at dynamic 134217728 (calls 1 0 0 0 0 0)
    ∷ at static 65535 (calls 1 0 0 0 0 0)
    ∷ at static 65536 none
    ∷ at static 65537 (calls 1 0 0 0 0 0)
    ∷ at page 0 (calls 1 0 0 0 0 1)
    ∷ at page 4095 (calls 1 0 0 0 0 1)
    ∷ at page 4096 none
    ∷ at page 4097 (calls 1 0 0 0 0 1)
    ∷ []

-- ---- 2: areas, rings and the frame

unfoldable pub areas : List Row
areas =
    at reply_area 65534 (calls 2 0 0 0 0 0)
    ∷ at reply_area 65535 none
    ∷ at config_area 65534 (calls 2 0 0 0 0 0)
    ∷ at config_area 65535 none
    ∷ at receive_area 196607 (calls 2 0 0 0 0 0)
    ∷ at receive_area 196608 none
    ∷ at cables_area 196607 (calls 2 0 0 0 0 0)
    ∷ at cables_area 196608 none
    ∷ at received_ring 0 (calls 2 0 0 0 2 0)
    ∷ at received_ring 84 (calls 2 0 0 0 2 0)
    ∷ at received_ring 575999 (calls 2 0 0 0 2 0)
    ∷ at received_ring 576000 none
    ∷ at received_ring 576001 (calls 2 0 0 0 2 0)
    ∷ at received_ring 576012 (calls 2 0 0 0 2 0)
    ∷ at sending_ring 0 (calls 2 0 0 2 0 0)
    ∷ at sending_ring 72 (calls 2 0 0 2 0 0)
    ∷ at sending_ring 83 (calls 2 0 0 2 0 0)
    ∷ at sending_ring 84 none
    ∷ at sending_ring 85 (calls 2 0 0 2 0 0)
    ∷ at sending_ring 95 (calls 2 0 0 2 0 0)
    ∷ at sending_ring 96 none
    ∷ at sending_ring 575988 none
    ∷ at sending_ring 575999 (calls 2 0 0 2 0 0)
    ∷ at sending_ring 576000 none
    ∷ at sending_ring 576001 (calls 2 0 0 2 0 0)
    ∷ at sending_ring 576012 (calls 2 0 0 2 0 0)
    ∷ at frame_words 0 (calls 0 0 0 2 0 0)
    ∷ at frame_words 11 (calls 0 0 0 2 0 0)
    ∷ at frame_words 12 none
    ∷ at frame_words 13 (calls 0 0 0 2 0 0)
    ∷ at frame_words 24 (calls 0 0 0 2 0 0)
    ∷ []

-- ---- 3: gone spans in the record

unfoldable pub span_counts : List Row
span_counts = at spans 16 none ∷ at spans 17 (all 3) ∷ at spans (2 ^ 64 - 1) (all 3) ∷ []

-- ---- 4: device accesses

unfoldable pub accesses : List Row
accesses =
    at size 0 (calls 0 0 0 0 0 4)
    ∷ at size 1 none
    ∷ at size 2 none
    ∷ at size 3 (calls 0 0 0 0 0 4)
    ∷ at size 4 none
    ∷ at size 5 (calls 0 0 0 0 0 4)
    ∷ at size 8 (calls 0 0 0 0 0 4)
    ∷ at size (2 ^ 32 - 1) (calls 0 0 0 0 0 4)
    ∷ both offset 1 size 1 none
    ∷ both offset 1 size 2 (calls 0 0 0 0 0 4)
    ∷ both offset 2 size 2 none
    ∷ both offset 3 size 2 (calls 0 0 0 0 0 4)
    ∷ at offset 1 (calls 0 0 0 0 0 4)
    ∷ at offset 2 (calls 0 0 0 0 0 4)
    ∷ at offset 3 (calls 0 0 0 0 0 4)
    ∷ at offset 4 none
    ∷ at offset 4092 none
    ∷ at offset 4096 (calls 0 0 0 0 0 4)
    ∷ at offset (2 ^ 32 - 4) (calls 0 0 0 0 0 4)
    ∷ at offset (2 ^ 32 - 1) (calls 0 0 0 0 0 4)
    ∷ both offset 4094 size 2 none
    ∷ both offset 4095 size 2 (calls 0 0 0 0 0 4)
    ∷ both offset 4096 size 2 (calls 0 0 0 0 0 4)
    ∷ both offset (2 ^ 32 - 2) size 2 (calls 0 0 0 0 0 4)
    ∷ both offset 4095 size 1 none
    ∷ both offset 4096 size 1 (calls 0 0 0 0 0 4)
    ∷ both offset (2 ^ 32 - 1) size 1 (calls 0 0 0 0 0 4)
    ∷ []

-- ---- 8: the cable of a MIDI send

-- F8 and no byte, sent on a cable
abbrev pub on : ℕ → List ℕ → List Row
on n numbers = at cable n numbers ∷ sending [] ((cable, n) ∷ []) numbers ∷ []

unfoldable pub cables : List Row
cables = on 15 none ++ on 16 (calls 0 8 0 0 0 0) ++ on 255 (calls 0 8 0 0 0 0)

-- ---- 5: lengths in use; 7 where a send finds no space

unfoldable pub queues : List Row
queues =
    at midi 4092 none
    ∷ at midi 4096 (calls 0 7 0 0 0 0)
    ∷ at midi 4100 (all 5)
    ∷ at midi 4093 (all 5)
    ∷ at midi 4094 (all 5)
    ∷ at midi 4095 (all 5)
    ∷ at serial 4095 none
    ∷ at serial 4096 (calls 0 0 7 0 0 0)
    ∷ at serial 4097 (all 5)
    ∷ at device 64 none
    ∷ at device 65 (all 5)
    ∷ at config 65535 none
    ∷ at config 65536 (calls 5 0 0 0 0 0)
    ∷ both config 65536 config_area 65536 none
    ∷ both config 65537 config_area 65536 (calls 5 0 0 0 0 0)
    ∷ []

unfoldable pub rings : List Row
rings =
    at received_start 47999 none
    ∷ at received_start 48000 (calls 5 0 0 0 5 0)
    ∷ at received_held 48000 none
    ∷ at received_held 48001 (calls 5 0 0 0 5 0)
    ∷ both received_start 47999 received_held 48000 none
    ∷ at sending_start 6 none
    ∷ at sending_start 7 (calls 5 0 0 5 0 0)
    ∷ at sending_start (2 ^ 64 - 1) (calls 5 0 0 5 0 0)
    ∷ at sending_held 6 none
    ∷ at sending_held 7 (calls 0 0 0 7 0 0)
    ∷ at sending_held 8 (calls 5 0 0 5 0 0)
    ∷ both sending_start 6 sending_held 6 none
    ∷ both sending_start 6 sending_held 7 (calls 0 0 0 7 0 0)
    ∷ both sending_start 6 sending_held 8 (calls 5 0 0 5 0 0)
    ∷ both sending_ring 96 sending_start 7 none
    ∷ both sending_ring 96 sending_start 8 (calls 5 0 0 5 0 0)
    ∷ both sending_ring 96 sending_held 7 none
    ∷ both sending_ring 96 sending_held 8 (calls 0 0 0 7 0 0)
    ∷ both sending_ring 96 sending_held 9 (calls 5 0 0 5 0 0)
    ∷ both sending_ring 576000 sending_start 47999 none
    ∷ both sending_ring 576000 sending_start 48000 (calls 5 0 0 5 0 0)
    ∷ both sending_ring 576000 sending_held 47999 none
    ∷ both sending_ring 576000 sending_held 48000 (calls 0 0 0 7 0 0)
    ∷ both sending_ring 576000 sending_held 48001 (calls 5 0 0 5 0 0)
    ∷ []

-- ---- 5: the stream

unfoldable pub stream : List Row
stream =
    at budget 32766 none
    ∷ at budget 32767 (all 5)
    ∷ both block 33 channels 0 none
    ∷ both block 32 channels 0 (all 5)
    ∷ both block 2047 channels 71 none
    ∷ both block 2048 channels 72 (all 5)
    ∷ both block 0 channels 0 (all 5)
    ∷ at channels 11 (all 5)
    ∷ at channels 13 (all 5)
    ∷ both block 2047 channels 70 (all 5)
    ∷ both block 2047 channels 72 (all 5)
    ∷ both block 60 channels 0 (all 5)
    ∷ both block 60 channels 1 none
    ∷ both block 60 channels 2 (all 5)
    ∷ both block 59 channels 0 none
    ∷ both block 59 channels 1 (all 5)
    ∷ after 0 credit 0 none
    ∷ after 0 credit 7 (all 5)
    ∷ after 3 credit 6 (all 5)
    ∷ after 3 credit 7 none
    ∷ after 3 credit 8 (all 5)
    ∷ after 3 credit 1868 (all 5)
    ∷ after 3 credit 1869 none
    ∷ after 3 credit 1876 (all 5)
    ∷ after (2 ^ 40) credit (623 * 2 ^ 40) (calls 6 0 0 0 0 0)
    ∷ after (2 ^ 40) credit (623 * 2 ^ 40 + 7) (all 5)
    ∷ []

-- ---- 5: counts and starts; 6 after 2^40 microframes

unfoldable pub counts : List Row
counts =
    both uf (2 ^ 40 - 1) microframes (2 ^ 40 - 1) none
    ∷ both uf (2 ^ 40) microframes (2 ^ 40) (calls 6 0 0 0 0 0)
    ∷ both uf (2 ^ 40 + 1) microframes (2 ^ 40 + 1) (all 5)
    ∷ at uf 2 (all 5)
    ∷ at uf 3 none
    ∷ at uf 4 (all 5)
    ∷ at microframes 2 (all 5)
    ∷ at microframes 4 (all 5)
    ∷ after (2 ^ 40) microframes (2 ^ 40 + 1) (all 5)
    ∷ after 0 phase_start 0 none
    ∷ after 0 phase_start 1 (all 5)
    ∷ at phase_start 3 none
    ∷ at phase_start 4 (all 5)
    ∷ after (2 ^ 40) phase_start (2 ^ 40) (calls 6 0 0 0 0 0)
    ∷ after (2 ^ 40) phase_start (2 ^ 40 + 1) (all 5)
    ∷ []

-- ---- 5: timers, of which `set` says whether one counts

abbrev pub timer : Field → Field → List Row
timer on count =
    with ((on, 1) ∷ (count, ZERO - 375) ∷ []) none
    ∷ with ((on, 1) ∷ (count, ZERO - 376) ∷ []) (all 5)
    ∷ with ((on, 1) ∷ (count, ZERO + 2 ^ 24) ∷ []) none
    ∷ with ((on, 1) ∷ (count, ZERO + 2 ^ 24 + 1) ∷ []) (all 5)
    ∷ with ((on, 1) ∷ (count, ZERO) ∷ (uf, 0) ∷ (microframes, 0) ∷ []) none
    ∷ with ((on, 1) ∷ (count, ZERO - 1) ∷ (uf, 0) ∷ (microframes, 0) ∷ []) (all 5)
    ∷ with ((on, 1) ∷ (count, ZERO - 125 * 2 ^ 40) ∷ (uf, 2 ^ 40) ∷ (microframes, 2 ^ 40) ∷ []) (calls 6 0 0 0 0 0)
    ∷ with ((on, 1) ∷ (count, ZERO - 125 * 2 ^ 40 - 1) ∷ (uf, 2 ^ 40) ∷ (microframes, 2 ^ 40) ∷ []) (all 5)
    ∷ at count 0 none
    ∷ at count (2 ^ 64 - 1) none
    ∷ []

unfoldable pub timers : List Row
timers = timer zero_set zero_count ++ timer one_set one_count

-- ---- 5: the twelve other counters

abbrev pub counter : Field → List Row
counter f =
    after 0 f 0 none
    ∷ after 0 f 1 (all 5)
    ∷ after 3 f 98301 none
    ∷ after 3 f 98302 (all 5)
    ∷ after (2 ^ 40) f (32767 * 2 ^ 40) (calls 6 0 0 0 0 0)
    ∷ after (2 ^ 40) f (32767 * 2 ^ 40 + 1) (all 5)
    ∷ []

unfoldable pub counters : List Row
counters =
    flat_map counter
    (in_transfers_count ∷ out_transfers_count ∷ in_frames_count ∷ out_frames_count ∷ bad_blocks_count ∷ midi_dtds_count ∷ midi_asleep_count ∷ out_underruns_count ∷ midi_packets_out_count
    ∷ vendor_in_bytes_count ∷ restarts ∷ enumerations ∷ [])

-- ---- 5: setups, each of eight bytes (USB 2.0, 9.3)

abbrev pub setup : ℕ → ℕ → ℕ → ℕ → ℕ → ℕ → ℕ → ℕ → List ℕ
setup a b c d e f g h = a ∷ b ∷ c ∷ d ∷ e ∷ f ∷ g ∷ h ∷ []

abbrev pub address : List ℕ
address = setup 0 5 7 0 0 0 0 0

abbrev pub configuration : List ℕ
configuration = setup 0x80 6 0 2 0 0 9 0

abbrev pub zeros : List ℕ
zeros = setup 0 0 0 0 0 0 0 0

abbrev pub many : ℕ → List ℕ
many n = flat_map (λ (_ : ℕ). address) (replicate n 0)

-- a setup waits alone, and runs alone
abbrev pub alone : List ℕ → List ℕ → List Row
alone numbers s = waits 1 s numbers ∷ runs s 0 [] reply 0 numbers ∷ []

-- those that the source makes: device descriptor, address, configuration of any length, set configuration, set interface
abbrev pub of_source : List (List ℕ)
of_source =
    setup 0x80 6 0 1 0 0 64 0
    ∷ setup 0x80 6 0 1 0 0 18 0
    ∷ setup 0 5 7 0 0 0 0 0
    ∷ setup 0x80 6 0 2 0 0 0 0
    ∷ setup 0x80 6 0 2 0 0 9 0
    ∷ setup 0x80 6 0 2 0 0 255 0
    ∷ setup 0x80 6 0 2 0 0 255 255
    ∷ setup 0 9 1 0 0 0 0 0
    ∷ setup 1 11 1 0 0 0 0 0
    ∷ setup 1 11 255 0 0 0 0 0
    ∷ setup 1 11 1 0 255 0 0 0
    ∷ []

-- and their neighbours, which it never makes
abbrev pub not_of_source : List (List ℕ)
not_of_source =
    setup 0x80 6 0 1 0 0 63 0
    ∷ setup 0x80 6 0 1 0 0 65 0
    ∷ setup 0x80 6 0 1 0 0 17 0
    ∷ setup 0x80 6 0 1 0 0 19 0
    ∷ setup 0x80 6 0 1 0 0 64 1
    ∷ setup 0x80 6 0 0 0 0 64 0
    ∷ setup 0x80 6 0 3 0 0 64 0
    ∷ setup 0x80 6 1 1 0 0 64 0
    ∷ setup 0x80 6 0 1 9 0 64 0
    ∷ setup 0x80 6 0 1 0 4 64 0
    ∷ setup 0 5 6 0 0 0 0 0
    ∷ setup 0 5 8 0 0 0 0 0
    ∷ setup 0 5 7 1 0 0 0 0
    ∷ setup 0 5 7 0 0 0 1 0
    ∷ setup 0x80 6 1 2 0 0 9 0
    ∷ setup 0x80 6 0 2 1 0 9 0
    ∷ setup 0x80 6 0 2 0 1 9 0
    ∷ setup 0 9 0 0 0 0 0 0
    ∷ setup 0 9 2 0 0 0 0 0
    ∷ setup 0 9 1 1 0 0 0 0
    ∷ setup 0 9 1 0 1 0 0 0
    ∷ setup 1 11 0 0 0 0 0 0
    ∷ setup 1 11 0 1 0 0 0 0
    ∷ setup 1 11 1 1 0 0 0 0
    ∷ setup 1 11 1 0 0 1 0 0
    ∷ setup 1 11 1 0 0 0 1 0
    ∷ setup 1 11 1 0 0 0 0 1
    ∷ zeros
    ∷ []

unfoldable pub forms : List Row
forms = flat_map (alone none) of_source ++ flat_map (alone (all 5)) not_of_source

-- how many of the first n values of byte i of a setup make one of the source's (`made`)
unfoldable pub made_below : List ℕ → ℕ → ℕ → ℕ
made_below s i zero = 0
made_below s i (suc n) = pick (made (little (slice_set s i n) 0) (little (slice_set s i n) 4)) 1 0 + made_below s i n

-- of all 256 values of each byte
abbrev pub swept : List ℕ → List ℕ
swept s = map (λ i. made_below s i 256) (0 ∷ 1 ∷ 2 ∷ 3 ∷ 4 ∷ 5 ∷ 6 ∷ 7 ∷ [])

-- an address waits, and runs, in a phase
abbrev pub asks_in : List ℕ → ℕ → List Row
asks_in numbers p =
    record { sets = (phase, p) ∷ (waiting, 1) ∷ []; queue = address; sent = 0xF8 ∷ []; numbers = numbers }
    ∷ with ((phase, p) ∷ (running, 1) ∷ (first, little address 0) ∷ []) numbers
    ∷ []

-- both belong to enumeration alone
unfoldable pub phases : List Row
phases =
    flat_map (λ p. at phase p none ∷ []) (0 ∷ 1 ∷ 2 ∷ 3 ∷ 4 ∷ [])
    ++ (flat_map (asks_in (all 5)) (0 ∷ 1 ∷ 2 ∷ 4 ∷ []) ++ asks_in none 3)

-- a configuration request waits only as the last, and runs only with none behind it
unfoldable pub setup_queues : List Row
setup_queues =
    waits 258 [] (all 5)
    ∷ waits (2 ^ 64 - 1) [] (all 5)
    ∷ waits 1 configuration none
    ∷ waits 2 (configuration ++ address) (all 5)
    ∷ waits 2 (address ++ configuration) none
    ∷ waits 3 (address ++ configuration ++ address) (all 5)
    ∷ waits 2 (configuration ++ configuration) (all 5)
    ∷ waits 1 (address ++ configuration) none
    ∷ runs configuration 0 [] reply 0 none
    ∷ runs configuration 1 address reply 0 (all 5)
    ∷ runs configuration 1 configuration reply 0 (all 5)
    ∷ runs address 1 address reply 0 none
    ∷ runs address 1 configuration reply 0 none
    ∷ []

-- the same where 257 wait
unfoldable pub full_queues : List Row
full_queues =
    waits 257 (many 256 ++ address) none
    ∷ waits 257 (many 256 ++ configuration) none
    ∷ waits 257 (many 255 ++ (configuration ++ address)) (all 5)
    ∷ waits 257 (many 256 ++ zeros) (all 5)
    ∷ waits 256 (many 255 ++ (address ++ zeros)) none
    ∷ runs configuration 257 (many 256 ++ address) reply 0 (all 5)
    ∷ runs address 257 (many 256 ++ address) reply 0 none
    ∷ []

-- a configuration request for 65,536 bytes, which no 32-bit word asks for: only there can a reply meet the bound of its area alone
abbrev pub wordless : List (Field × ℕ)
wordless = (phase, 3) ∷ (running, 1) ∷ (first, little configuration 0) ∷ (second, 2 ^ 32) ∷ []

-- a request that began at x runs after 2^40 microframes
abbrev pub begun : ℕ → List ℕ → Row
begun x = with ((request_start, x) ∷ (uf, 2 ^ 40) ∷ (microframes, 2 ^ 40) ∷ (phase, 3) ∷ (running, 1) ∷ (first, little address 0) ∷ (second, little address 4) ∷ [])

-- a reply no longer than its request asks, and in its area; a request that began no later than now
unfoldable pub requests : List Row
requests =
    runs (setup 0x80 6 0 1 0 0 64 0) 0 [] reply 64 none
    ∷ runs (setup 0x80 6 0 1 0 0 64 0) 0 [] reply 65 (all 5)
    ∷ runs (setup 0x80 6 0 1 0 0 18 0) 0 [] reply 18 none
    ∷ runs (setup 0x80 6 0 1 0 0 18 0) 0 [] reply 19 (all 5)
    ∷ runs configuration 0 [] reply 9 none
    ∷ runs configuration 0 [] reply 10 (all 5)
    ∷ runs (setup 0x80 6 0 2 0 0 0 1) 0 [] reply 256 none
    ∷ runs (setup 0x80 6 0 2 0 0 0 1) 0 [] reply 257 (all 5)
    ∷ runs (setup 0x80 6 0 2 0 0 255 255) 0 [] reply 65535 none
    ∷ runs (setup 0x80 6 0 2 0 0 255 255) 0 [] reply 65536 (all 5)
    ∷ runs address 0 [] reply 0 none
    ∷ runs address 0 [] reply 1 (all 5)
    ∷ with ((reply, 65536) ∷ wordless) (calls 5 0 0 0 0 0)
    ∷ with ((reply, 65536) ∷ (reply_area, 65536) ∷ wordless) none
    ∷ at reply 65536 none
    ∷ runs address 0 [] request_start 3 none
    ∷ runs address 0 [] request_start 4 (all 5)
    ∷ at request_start 4 none
    ∷ begun (2 ^ 40) (calls 6 0 0 0 0 0)
    ∷ begun (2 ^ 40 + 1) (all 5)
    ∷ []

-- ---- 5: bytes held in a packer

abbrev pub holds : ℕ → ℕ → ℕ → List ℕ → Row
holds n s x = with ((held, n) ∷ (status, s) ∷ (sysex, x) ∷ [])

-- under each status at an end of a range, of which those of the second list have two bytes
abbrev pub under : ℕ → ℕ → List ℕ → List Row
under n x twos =
    flat_map (λ s. holds n s x none ∷ []) (0xBF ∷ 0xE0 ∷ 0xF0 ∷ 0xF2 ∷ 0xF4 ∷ [])
    ++ flat_map (λ s. holds n s x twos ∷ []) (0xC0 ∷ 0xD5 ∷ 0xDF ∷ 0xF1 ∷ 0xF3 ∷ [])

unfoldable pub packers : List Row
packers =
    holds 2 0x90 0 none
    ∷ holds 3 0x90 0 (all 5)
    ∷ holds 255 0x90 0 (all 5)
    ∷ holds 2 0x90 1 none
    ∷ holds 3 0x90 1 (all 5)
    ∷ under 0 0 none ++ under 1 0 (all 5) ++ under 2 0 (all 5) ++ under 1 1 none ++ under 2 1 none

-- of each cable's packer, where the send is on cable 0
abbrev pub of_cable : ℕ → List Row
of_cable n =
    with ((packer_cable, n) ∷ (held, 2) ∷ (status, 0x90) ∷ []) none
    ∷ with ((packer_cable, n) ∷ (held, 3) ∷ (status, 0x90) ∷ []) (all 5)
    ∷ with ((packer_cable, n) ∷ (held, 2) ∷ (status, 0xC0) ∷ []) (all 5)
    ∷ []

-- and where it is on the packer's own cable, or on another
unfoldable pub every_packer : List Row
every_packer =
    flat_map of_cable every_cable
    ++ (with ((packer_cable, 15) ∷ (held, 3) ∷ (cable, 15) ∷ []) (all 5)
    ∷ with ((packer_cable, 0) ∷ (held, 3) ∷ (cable, 15) ∷ []) (all 5)
    ∷ [])

-- ---- 7: sends at the limits of their queues

unfoldable pub space : List Row
space =
    sends (0xF8 ∷ 0xF8 ∷ []) 4088 none
    ∷ sends (0xF8 ∷ 0xF8 ∷ []) 4092 (calls 0 7 0 0 0 0)
    ∷ sends (0x90 ∷ 0x3C ∷ 0x40 ∷ 0xF8 ∷ []) 4088 none
    ∷ sends (0x90 ∷ 0x3C ∷ 0x40 ∷ 0xF8 ∷ []) 4092 (calls 0 7 0 0 0 0)
    ∷ sends [] 4096 none
    ∷ sends (0x3C ∷ []) 4096 none
    ∷ sends (0x90 ∷ []) 4096 none
    ∷ sends (0x90 ∷ 0x3C ∷ []) 4096 none
    ∷ sends (0x90 ∷ 0x3C ∷ 0x40 ∷ []) 4096 (calls 0 7 0 0 0 0)
    ∷ sends (replicate 1024 0xF8) 0 none
    ∷ sends (replicate 1024 0xF8) 4 (calls 0 7 0 0 0 0)
    ∷ sends (replicate 1025 0xF8) 0 (calls 0 7 0 0 0 0)
    ∷ both serial 4094 serial_bytes 2 none
    ∷ both serial 4095 serial_bytes 2 (calls 0 0 7 0 0 0)
    ∷ both serial 4096 serial_bytes 0 none
    ∷ at serial_bytes 4096 none
    ∷ both serial 1 serial_bytes 4096 (calls 0 0 7 0 0 0)
    ∷ at serial_bytes 4097 (calls 0 0 7 0 0 0)
    ∷ []

-- a packer has two bytes of three, and the third is sent on a cable behind so many
abbrev pub ends : ℕ → ℕ → ℕ → List ℕ → Row
ends p n queued = sending (0x40 ∷ []) ((packer_cable, p) ∷ (status, 0x90) ∷ (held, 2) ∷ (cable, n) ∷ (midi, queued) ∷ [])

-- the packets are those of the send's own cable: on another the third byte makes none
unfoldable pub room : List Row
room =
    ends 3 3 4092 none
    ∷ ends 3 3 4096 (calls 0 7 0 0 0 0)
    ∷ ends 3 0 4096 none
    ∷ ends 0 0 4096 (calls 0 7 0 0 0 0)
    ∷ ends 0 3 4096 none
    ∷ ends 15 15 4096 (calls 0 7 0 0 0 0)
    ∷ ends 15 14 4096 none
    ∷ []

-- ---- the number tested first wins: each pair of neighbours in the order of every call

unfoldable pub order : List Row
order =
    both static 65535 reply_area 65534 (calls 1 0 0 0 0 0)
    ∷ both static 65535 cables_area 196607 (calls 1 0 0 0 0 0)
    ∷ both page 4095 spans 17 (calls 1 3 3 3 3 1)
    ∷ both config_area 65534 spans 17 (calls 2 3 3 3 3 3)
    ∷ both cables_area 196607 spans 17 (calls 2 3 3 3 3 3)
    ∷ both received_ring 575999 spans 17 (calls 2 3 3 3 2 3)
    ∷ both sending_ring 83 spans 17 (calls 2 3 3 2 3 3)
    ∷ both frame_words 11 spans 17 (calls 3 3 3 2 3 3)
    ∷ both spans 17 size 3 (all 3)
    ∷ both spans 17 device 65 (all 3)
    ∷ both size 3 device 65 (calls 5 5 5 5 5 4)
    ∷ both spans 17 cable 16 (all 3)
    ∷ both cable 16 device 65 (calls 5 8 5 5 5 5)
    ∷ both cable 16 held 3 (calls 5 8 5 5 5 5)
    ∷ both cable 16 midi 4096 (calls 0 8 0 0 0 0)
    ∷ sending [] ((cable, 16) ∷ (device, 65) ∷ (midi, 4096) ∷ []) (calls 5 8 5 5 5 5)
    ∷ after (2 ^ 40) device 65 (all 5)
    ∷ after (2 ^ 40) received_start 48000 (calls 5 0 0 0 5 0)
    ∷ both device 65 midi 4096 (all 5)
    ∷ both device 65 serial 4096 (all 5)
    ∷ both device 65 sending_held 7 (all 5)
    ∷ with ((dynamic, 6144) ∷ (page, 4097) ∷ (receive_area, 0) ∷ (cables_area, 0) ∷ (received_ring, 84) ∷ (sending_ring, 85) ∷ (spans, 17) ∷ (size, 3) ∷ (cable, 16) ∷ (device, 65) ∷ (uf, 2 ^ 40) ∷ (microframes, 2 ^ 40) ∷ (midi, 4096) ∷ (serial, 4096) ∷ []) (calls 1 3 3 2 2 1)
    ∷ []

-- ---- what the table says, and 3 of `new`

pub record Limits : Type 0 where
  pub number_1 : Table windows
  pub number_2 : Table areas
  pub number_3 : Table span_counts
  pub number_4 : Table accesses
  pub number_8 : Table cables
  pub in_queues : Table queues
  pub in_rings : Table rings
  pub in_stream : Table stream
  pub in_counts : Table counts
  pub in_timers : Table timers
  pub in_counters : Table counters
  pub in_phases : Table phases
  pub in_forms : Table forms
  pub every_byte : map swept (setup 0x80 6 0 1 0 0 64 0 ∷ setup 0x80 6 0 1 0 0 18 0 ∷ address ∷ configuration ∷ setup 0 9 1 0 0 0 0 0 ∷ setup 1 11 2 0 3 0 0 0 ∷ [])
      ≡ setup 1 1 1 2 1 1 2 1 ∷ setup 1 1 1 2 1 1 2 1 ∷ setup 1 1 1 1 1 1 1 1 ∷ setup 1 1 1 1 1 1 256 256 ∷ setup 1 1 1 1 1 1 1 1
      ∷ setup 1 1 255 1 256 1 1 1 ∷ []
  pub in_setups : Table setup_queues
  pub in_full_queues : Table full_queues
  pub in_requests : Table requests
  pub in_packers : Table packers
  pub in_every_packer : Table every_packer
  pub number_7 : Table space
  pub in_room : Table room
  pub in_order : Table order
  pub new_sixteen : (c : Settings) → (created (with_spans c 16)).refusal ≡ 0
  pub new_seventeen : (c : Settings) → (created (with_spans c 17)).refusal ≡ 3
