-- What every list of calls from `new` meets (document 01, "Numbers of refusal"), whatever the calls bring but numbers in memory that are no bytes: the
-- record stays in the bounds of number 5, and every call gets the number that is due. So with right input, one length of the sending ring and fewer than
-- 2^40 microframes before each, no microframe, no frame taken and no device access is refused, and sends and frames given are refused with 7 alone.
use Rattle.std.specs.Prelude.{ℕ, ◌+◌, ◌*◌, ◌/◌, ◌%◌, ◌^◌, ◌≤◌, Bool, true, ◌&&◌, ◌||◌, List, [], ◌∷◌, ◌⊎◌, ◌≡◌, eqb, leb, ltb, length}
use Rattle.bits.specs.Pick.{pick}
use Rattle.bus.specs.Sized.{Sized, is_sized}
use Rattle.usbdev.specs.Access.{fits}
use Rattle.midi.specs.Packer.{packer_at, packets_of}
use Rattle.config.specs.Config.{Bytes}
use Rattle.record.specs.Sizes.{FRAMES, WORDS}
use Rattle.bounds.specs.Bounds.{areas_ok, received_ok}
use Rattle.usbhost.specs.declared.Host.{Host}
use Rattle.usbhost.specs.Host.{state_of}
use Rattle.usbhost.specs.Calls.{unless, few_spans, bounded, sending_length, midi_number, serial_number, give_number, take_number, access_number}
use Rattle.usbhost.specs.Frame.{area_lengths, frame_number}
use Rattle.record.specs.World.{Lent}
use Rattle.history.specs.Calls.{Call, microframe, midi_send, serial_send, frame_give, frame_take, device_read, device_write, step}

-- ---- the number that a call answers, and the one that is due

-- each clause is the number that the entry's contract cites
unfoldable pub number_of : Host → Call → ℕ
number_of h (microframe t l) = frame_number h l
number_of h (midi_send cable bs) = midi_number h cable bs
number_of h (serial_send bs) = serial_number h bs
number_of h (frame_give f sending) = give_number h f sending
number_of h (frame_take received) = take_number h received
number_of h (device_read page off size) = access_number h (length page) off size
number_of h (device_write page off size v) = access_number h (length page) off size

-- from the input alone (document 01, numbers 1, 2 and 4, document 02, number 8): 1 where a window has the wrong length, 2 where an area or a frame has, 4
-- where an access does not fit, 8 exactly where a cable is above 15, and otherwise 0
unfoldable pub input_number : Call → ℕ
input_number (microframe t l) = unless 1 (is_sized l.memory) (unless 2 (area_lengths l) 0)
input_number (midi_send cable bs) = unless 8 (leb cable 15) 0
input_number (serial_send bs) = 0
input_number (frame_give f sending) = unless 2 (sending_length (length sending) && eqb (length f) WORDS) 0
input_number (frame_take received) = unless 2 (eqb (length received) (FRAMES * WORDS)) 0
input_number (device_read page off size) = unless 1 (eqb (length page) 4096) (unless 4 (fits off size) 0)
input_number (device_write page off size v) = unless 1 (eqb (length page) 4096) (unless 4 (fits off size) 0)

-- from the state: 6 exactly after 2^40 microframes, 7 exactly where what is held and all that the call adds exceed the space, and otherwise 0
unfoldable pub state_number : Host → Call → ℕ
state_number h (microframe t l) = unless 6 (ltb h.port.uf (2 ^ 40)) 0
state_number h (midi_send cable bs) = unless 7 (leb (h.lengths.midi + length (packets_of cable (packer_at h.packers cable) bs)) 4096) 0
state_number h (serial_send bs) = unless 7 (leb (h.lengths.serial + length bs) 4096) 0
state_number h (frame_give f sending) = unless 7 (leb (h.audio.sending.len + 1) (length sending / 12)) 0
state_number h (frame_take received) = 0
state_number h (device_read page off size) = 0
state_number h (device_write page off size v) = 0

-- numbers from the input are tested before those from the state; 3 and 5 are never due
unfoldable pub due_number : Host → Call → ℕ
due_number h c = pick (eqb (input_number c) 0) (state_number h c) (input_number c)

-- 0, or 7 of a send and of a frame given
unfoldable pub fine : Call → ℕ → Bool
fine (microframe t l) n = eqb n 0
fine (midi_send cable bs) n = eqb n 0 || eqb n 7
fine (serial_send bs) n = eqb n 0 || eqb n 7
fine (frame_give f sending) n = eqb n 0 || eqb n 7
fine (frame_take received) n = eqb n 0
fine (device_read page off size) n = eqb n 0
fine (device_write page off size v) n = eqb n 0

-- ---- what is asked of a call

-- the numbers lent in memory and in the reply area are bytes, as in any slice of u8
pub record BytesLent (l : Lent) : Type 0 where
  pub dynamic : Bytes l.memory.dynamic
  pub sram : Bytes l.memory.sram
  pub page : Bytes l.memory.page
  pub reply : Bytes l.reply

unfoldable pub BytesCall : Call → Type 0
BytesCall (microframe t l) = BytesLent l
BytesCall (midi_send cable bs) = Unit {0}
BytesCall (serial_send bs) = Unit {0}
BytesCall (frame_give f sending) = Unit {0}
BytesCall (frame_take received) = Unit {0}
BytesCall (device_read page off size) = Unit {0}
BytesCall (device_write page off size v) = Unit {0}

-- a right input, as facts (document 01, numbers 1, 2 and 4, document 02, number 8): a sending ring, what a microframe is lent, an access, and any call
pub record RightRing (n : ℕ) : Type 0 where
  pub least : 84 ≤ n
  pub most : n ≤ 576000
  pub frames : n % 12 ≡ 0

pub record RightAreas (l : Lent) : Type 0 where
  pub windows : Sized l.memory
  pub reply : 65535 ≤ length l.reply
  pub config : 65535 ≤ length l.config
  pub receive : 196608 ≤ length l.receive
  pub cables : 196608 ≤ length l.cables
  pub received : length l.received ≡ 576000
  pub sending : RightRing (length l.sending)

pub record RightAccess (off size : ℕ) : Type 0 where
  pub width : (size ≡ 1) ⊎ ((size ≡ 2) ⊎ (size ≡ 4))
  pub aligned : off % size ≡ 0
  pub inside : off + size ≤ 4096

unfoldable pub RightInput : Call → Type 0
RightInput (microframe t l) = RightAreas l
RightInput (midi_send cable bs) = cable ≤ 15
RightInput (serial_send bs) = Unit {0}
RightInput (frame_give f sending) = RightRing (length sending) × (length f ≡ 12)
RightInput (frame_take received) = length received ≡ 576000
RightInput (device_read page off size) = (length page ≡ 4096) × RightAccess off size
RightInput (device_write page off size v) = (length page ≡ 4096) × RightAccess off size

-- a sending ring of k words; one in a call of wrong input is not looked at. A ring of another length may not hold the start or the frames that the
-- record has of it, which is number 5
unfoldable pub RingCall : ℕ → Call → Type 0
RingCall k (microframe t l) = RightAreas l → length l.sending ≡ k
RingCall k (midi_send cable bs) = Unit {0}
RingCall k (serial_send bs) = Unit {0}
RingCall k (frame_give f sending) = RightInput (frame_give f sending) → length sending ≡ k
RingCall k (frame_take received) = Unit {0}
RingCall k (device_read page off size) = Unit {0}
RingCall k (device_write page off size v) = Unit {0}

-- of all calls of a list
unfoldable pub AllCalls : (Call → Type 0) → List Call → Type 0
AllCalls P [] = Unit {0}
AllCalls P (c ∷ cs) = P c × AllCalls P cs

-- ---- how many microframes a list has

-- 1 of a microframe, 0 of any other call
unfoldable pub frames_of : Call → ℕ
frames_of (microframe t l) = 1
frames_of (midi_send cable bs) = 0
frames_of (serial_send bs) = 0
frames_of (frame_give f sending) = 0
frames_of (frame_take received) = 0
frames_of (device_read page off size) = 0
frames_of (device_write page off size v) = 0

-- of all calls of a list
unfoldable pub frames_in : List Call → ℕ
frames_in [] = 0
frames_in (c ∷ cs) = frames_of c + frames_in cs

-- ---- the claims

-- numbers 3 and 5 but for the sending ring, whose bound its lent words are: the record, the received ring, and the configuration and the reply in any
-- areas of 65,535 bytes or more
pub record WithinBounds (h : Host) : Type 0 where
  pub spans : few_spans h ≡ true
  pub bounds : bounded h ≡ true
  pub received : received_ok (state_of h) ≡ true
  pub areas : (reply config : ℕ) → 65535 ≤ reply → 65535 ≤ config → areas_ok (state_of h) reply config ≡ true

-- of every call of a list, each on the record that the ones before it left
unfoldable pub AtEach : (Host → Call → Type 0) → Host → List Call → Type 0
AtEach P h [] = Unit {0}
AtEach P h (c ∷ cs) = P h c × AtEach P (step h c) cs

-- every call gets the number that is due
abbrev pub Due : Host → List Call → Type 0
Due = AtEach (λ h c. number_of h c ≡ due_number h c)

-- and one of right input a fine one
abbrev pub Accepts : Host → List Call → Type 0
Accepts = AtEach (λ h c. RightInput c → fine c (number_of h c) ≡ true)
