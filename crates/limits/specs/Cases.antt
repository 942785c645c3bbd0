-- A case of all calls on a host: the fields that its numbers of refusal read, each with its usual value, and the numbers that the calls answer.
use Rattle.std.specs.Prelude.{◌≡◌, ℕ, Bool, Some, None, List, [], ◌∷◌, ◌++◌, map, length, ◌==◌}
use Rattle.bits.specs.Pick.{pick}
use Rattle.midi.specs.declared.Packer.{Packer}
use Rattle.midi.specs.Packer.{packer_at}
use Rattle.record.specs.declared.Phase.{Phase}
use Rattle.record.specs.declared.Phase.TheVariants.{Idle, Vbus, Reset, Enumerate, Stream}
use Rattle.record.specs.declared.State.{State}
use Rattle.usbhost.specs.declared.Host.{Host}
use Rattle.record.specs.World.{own_setups}
use Rattle.usbhost.specs.Host.{host_of, own_of}
use Rattle.usbhost.specs.Calls.{midi_number, serial_number, give_number, take_number, access_number}
use Rattle.usbhost.specs.Frame.{frame_number}
use Rattle.record.specs.World.{Lent}
use Rattle.usbhost.specs.Promises.{with_spans}

pub data Field : Type 0 where
  -- the lengths of what a call is lent, given and sent, where a device access lies, and the cable of a MIDI send
  dynamic static page reply_area config_area receive_area cables_area received_ring sending_ring frame_words serial_bytes offset size cable : Field
  -- the record: a phase by its place among the five, and 1 where a flag is set
  spans phase uf microframes phase_start waiting midi serial device config credit budget block channels received_start : Field
  received_held sending_start sending_held running first second reply request_start zero_set zero_count one_set one_count : Field
  -- one cable's packer; the other fifteen hold nothing
  packer_cable status held sysex : Field
  -- its counters but that of microframes
  in_transfers_count out_transfers_count in_frames_count out_frames_count bad_blocks_count midi_dtds_count midi_asleep_count out_underruns_count midi_packets_out_count : Field
  vendor_in_bytes_count restarts enumerations : Field

-- a field's place among the fields, and its value in the usual case
unfoldable pub usual : Field → ℕ × ℕ
usual dynamic = (0, 4096)
usual static = (1, 65536)
usual page = (2, 4096)
usual reply_area = (3, 65535)
usual config_area = (4, 65535)
usual receive_area = (5, 196608)
usual cables_area = (6, 196608)
usual received_ring = (7, 576000)
usual sending_ring = (8, 84)
usual frame_words = (9, 12)
usual serial_bytes = (10, 1)
usual offset = (11, 512)
usual size = (12, 4)
usual cable = (13, 0)
usual spans = (14, 0)
usual phase = (15, 4)
usual uf = (16, 3)
usual microframes = (17, 3)
usual phase_start = (18, 0)
usual waiting = (19, 0)
usual midi = (20, 0)
usual serial = (21, 0)
usual device = (22, 0)
usual config = (23, 0)
usual credit = (24, 0)
usual budget = (25, 0)
usual block = (26, 368)
usual channels = (27, 12)
usual received_start = (28, 0)
usual received_held = (29, 0)
usual sending_start = (30, 0)
usual sending_held = (31, 0)
usual running = (32, 0)
usual first = (33, 0)
usual second = (34, 0)
usual reply = (35, 0)
usual request_start = (36, 0)
usual zero_set = (37, 0)
usual zero_count = (38, 0)
usual one_set = (39, 0)
usual one_count = (40, 0)
usual packer_cable = (41, 0)
usual status = (42, 0)
usual held = (43, 0)
usual sysex = (44, 0)
usual in_transfers_count = (45, 0)
usual out_transfers_count = (46, 0)
usual in_frames_count = (47, 0)
usual out_frames_count = (48, 0)
usual bad_blocks_count = (49, 0)
usual midi_dtds_count = (50, 0)
usual midi_asleep_count = (51, 0)
usual out_underruns_count = (52, 0)
usual midi_packets_out_count = (53, 0)
usual vendor_in_bytes_count = (54, 0)
usual restarts = (55, 0)
usual enumerations = (56, 0)

-- a field's value where some are not as usual
unfoldable pub value_in : List (Field × ℕ) → Field → ℕ
value_in [] f = (usual f).1
value_in (s ∷ ss) f = pick ((usual s.0).0 == (usual f).0) s.1 (value_in ss f)

-- ---- the record by its fields; what no number reads is that of any other record

abbrev flag : ℕ → Bool
flag n = n == 1

abbrev phase_of : ℕ → Phase
phase_of n = pick (n == 0) Idle (pick (n == 1) Vbus (pick (n == 2) Reset (pick (n == 3) Enumerate Stream)))

abbrev pub state_by : (Field → ℕ) → Host → State
state_by v o =
    record {
      phase = phase_of (v phase);
      port =
          record {
            uf = v uf;
            t = v phase_start;
            suspended = o.port.suspended;
            gone = o.port.gone;
            was_running = o.port.was_running;
            line = o.port.line;
          };
      audio =
          record {
            credit = v credit;
            counter = o.audio.counter;
            budget = v budget;
            block = v block;
            channels = v channels;
            received = record { start = v received_start; len = v received_held };
            sending = record { start = v sending_start; len = v sending_held };
          };
      control =
          record {
            on = flag (v running);
            stage = o.control.stage;
            first = v first;
            second = v second;
            got = v reply;
            t0 = v request_start;
          };
      timers =
          record {
            zero = pick (flag (v zero_set)) (Some (v zero_count)) None;
            one = pick (flag (v one_set)) (Some (v one_count)) None;
          };
      stats =
          v microframes
          ∷ v in_transfers_count
          ∷ v out_transfers_count
          ∷ v in_frames_count
          ∷ v out_frames_count
          ∷ v bad_blocks_count
          ∷ v midi_dtds_count
          ∷ v midi_asleep_count
          ∷ v out_underruns_count
          ∷ v midi_packets_out_count
          ∷ v vendor_in_bytes_count
          ∷ v restarts
          ∷ v enumerations
          ∷ [];
      lengths = record { setups = v waiting; midi = v midi; serial = v serial; device = v device; config = v config };
      answer = record { received = 0; dropped = 0; retired = 0 };
    }

abbrev packer_with : ℕ → ℕ → ℕ → Packer → Packer
packer_with s n x o = record { status = s; first = o.first; second = o.second; held = n; sysex = flag x }

abbrev packer_on : (Field → ℕ) → Host → ℕ → Packer
packer_on v o n =
    pick (n == v packer_cable) (packer_with (v status) (v held) (v sysex) (packer_at o.packers n))
    (packer_with 0 0 0 (packer_at o.packers n))

-- the cables, by their numbers
abbrev pub every_cable : List ℕ
every_cable = 0 ∷ 1 ∷ 2 ∷ 3 ∷ 4 ∷ 5 ∷ 6 ∷ 7 ∷ 8 ∷ 9 ∷ 10 ∷ 11 ∷ 12 ∷ 13 ∷ 14 ∷ 15 ∷ []

abbrev pub packers_by : (Field → ℕ) → Host → List Packer
packers_by v o = map (packer_on v o) every_cable

abbrev pub host_by : (Field → ℕ) → List ℕ → Host → Host
host_by v setups o =
    host_of (state_by v o) (with_spans o.settings (v spans)) (packers_by v o) (own_setups (own_of o) setups)

-- ---- the numbers of all calls

-- the lengths of what is lent, given and sent
pub record Long : Type 0 where
  pub dynamic : ℕ
  pub sram : ℕ
  pub page : ℕ
  pub reply : ℕ
  pub config : ℕ
  pub receive : ℕ
  pub cables : ℕ
  pub received : ℕ
  pub sending : ℕ
  pub frame : ℕ
  pub bytes : ℕ

abbrev pub long_of : Lent → List ℕ → List ℕ → Long
long_of l frame bytes =
    record {
      dynamic = length l.memory.dynamic;
      sram = length l.memory.sram;
      page = length l.memory.page;
      reply = length l.reply;
      config = length l.config;
      receive = length l.receive;
      cables = length l.cables;
      received = length l.received;
      sending = length l.sending;
      frame = length frame;
      bytes = length bytes;
    }

abbrev pub long_in : (Field → ℕ) → Long
long_in v =
    record {
      dynamic = v dynamic;
      sram = v static;
      page = v page;
      reply = v reply_area;
      config = v config_area;
      receive = v receive_area;
      cables = v cables_area;
      received = v received_ring;
      sending = v sending_ring;
      frame = v frame_words;
      bytes = v serial_bytes;
    }

-- in the order microframe, MIDI send, serial send, frame given, frame taken, device access
abbrev pub calls : ℕ → ℕ → ℕ → ℕ → ℕ → ℕ → List ℕ
calls frame music cdc given taken access = frame ∷ music ∷ cdc ∷ given ∷ taken ∷ access ∷ []

abbrev pub numbers_of : Host → Lent → ℕ → List ℕ → List ℕ → List ℕ → ℕ → ℕ → List ℕ
numbers_of h l on sent bytes frame off n =
    calls (frame_number h l) (midi_number h on sent) (serial_number h bytes) (give_number h frame l.sending) (take_number h l.received)
    (access_number h (length l.memory.page) off n)

-- a row of the table: the fields that are not as usual, the first bytes of the setup queue, the MIDI bytes that are sent, and the numbers
pub record Row : Type 0 where
  pub sets : List (Field × ℕ)
  pub queue : List ℕ
  pub sent : List ℕ
  pub numbers : List ℕ

-- what a row says: the calls answer its numbers whatever else stands in the record, behind the setups, and in all that is lent, given and sent
unfoldable pub Meets : Row → Type 0
Meets r =
    (o : Host) (behind : List ℕ) (l : Lent) (frame bytes : List ℕ)
    → long_of l frame bytes ≡ long_in (value_in r.sets)
    → numbers_of (host_by (value_in r.sets) (r.queue ++ behind) o) l (value_in r.sets cable) r.sent bytes frame (value_in r.sets offset)
    (value_in r.sets size)
    ≡ r.numbers

unfoldable pub Table : List Row → Type 0
Table [] = Unit {0}
Table (r ∷ rs) = Meets r × Table rs
