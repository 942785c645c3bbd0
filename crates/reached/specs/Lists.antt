-- Lists of calls from a new host (document 01, "Host record"), and what each call brings.
use Rattle.std.specs.Prelude.{ℕ, ◌+◌, ◌*◌, ◌^◌, Bool, true, false, List, [], ◌∷◌, ◌++◌, replicate}
use Rattle.bus.specs.Memory.{Memory, memory}
use Rattle.bus.specs.Words.{word_put}
use Rattle.usbdev.specs.Offsets.{USBCMD, EPLISTADDR, EPSR, EPCR0}
use Rattle.record.specs.declared.Span.{Span}
use Rattle.record.specs.declared.Settings.{Settings}
use Rattle.record.specs.Record.{no_span}
use Rattle.usbhost.specs.declared.Host.{Host}
use Rattle.usbhost.specs.Host.{new_host}
use Rattle.usbhost.specs.Calls.{given_ring}
use Rattle.usbhost.specs.Frame.{framed}
use Rattle.record.specs.World.{Lent}
use Rattle.history.specs.Calls.{Call, microframe, frame_give, frame_take, step, after}

-- ---- what is lent

-- the areas of a caller who lends the same in every microframe
pub record Areas : Type 0 where
  pub reply : List ℕ
  pub config : List ℕ
  pub receive : List ℕ
  pub cables : List ℕ
  pub received : List ℕ
  pub sending : List ℕ

abbrev pub lend : Areas → Memory → Lent
lend a m =
    record { memory = m; reply = a.reply; config = a.config; receive = a.receive; cables = a.cables; received = a.received; sending = a.sending }

-- the same with other rings: frames received, and frames to send
abbrev pub with_rings : Areas → List ℕ → List ℕ → Areas
with_rings a received sending =
    record { reply = a.reply; config = a.config; receive = a.receive; cables = a.cables; received = received; sending = sending }

-- the smallest that are accepted, all zeros (document 01, "Numbers of refusal", 2), and a static memory of zeros
abbrev pub small_areas : Areas
small_areas =
    record {
      reply = replicate 65535 0;
      config = replicate 65535 0;
      receive = replicate 196608 0;
      cables = replicate 196608 0;
      received = replicate 576000 0;
      sending = replicate 84 0;
    }

abbrev pub zero_static : List ℕ
zero_static = replicate 65536 0

-- a window of 4,096 bytes by its words (offset and value); the others are zeros
unfoldable pub puts : List ℕ → List (ℕ × ℕ) → List ℕ
puts l [] = l
puts l (p ∷ ps) = puts (word_put l p.0 p.1) ps

abbrev pub window : List (ℕ × ℕ) → List ℕ
window ps = puts (replicate 4096 0) ps

-- dynamic memory and the register page by their words; static memory is f
abbrev pub words : List ℕ → List (ℕ × ℕ) → List (ℕ × ℕ) → Memory
words f ds ps = memory (window ds) f (window ps)

-- ---- the register page

-- RS set (usbhost.rs 379), URI clear (470), endpoint 0 stalled (648-653), no endpoint primed
abbrev pub stalled_page : List (ℕ × ℕ)
stalled_page = (USBCMD, 1) ∷ (EPCR0, 0x10001) ∷ []

-- RS clear
abbrev pub stopped_page : List (ℕ × ℕ)
stopped_page = []

-- RS set, the queue heads from 40000000 on (514-516), and these endpoints primed (537-538): 3 IN is bit 19, 3 OUT bit 3
abbrev pub primed_page : ℕ → List (ℕ × ℕ)
primed_page bits = (USBCMD, 1) ∷ (EPLISTADDR, 0x4000_0000) ∷ (EPSR, bits) ∷ []

-- ---- descriptors in dynamic memory, which starts at 40000000 (514-621)

-- queue head 3 IN stands at 1C0 and 3 OUT at 180: the overlay's next pointer, at + 8, names the descriptor
abbrev pub in_head : ℕ → ℕ × ℕ
in_head pointer = (0x1C8, pointer)

abbrev pub out_head : ℕ → ℕ × ℕ
out_head pointer = (0x188, pointer)

-- a block comes in: a descriptor at 400, the last of its list, of 368 bytes (170), with IOC, active; its data at 800, whose first word is x
abbrev pub block_at400 : ℕ → List (ℕ × ℕ)
block_at400 x = in_head 0x4000_0400 ∷ (0x400, 1) ∷ (0x404, 0x0170_8080) ∷ (0x408, 0x4000_0800) ∷ (0x800, x) ∷ []

-- the same with two words in its first frame, which begins at 820 (usbhost.rs 882-887)
abbrev pub sound_at400 : List (ℕ × ℕ)
sound_at400 = block_at400 0x0700_0000 ++ ((0x820, 0x1234_5678) ∷ (0x824, 0x9ABC_DEF0) ∷ [])

-- another: a descriptor at 600 without IOC, its data at A00
abbrev pub block_at600 : List (ℕ × ℕ)
block_at600 = in_head 0x4000_0600 ∷ (0x600, 1) ∷ (0x604, 0x0170_0080) ∷ (0x608, 0x4000_0A00) ∷ (0xA00, 0x0712_3456) ∷ []

-- room for a block that goes out: a descriptor at 420, data at C00; another at 620
abbrev pub room_at420 : List (ℕ × ℕ)
room_at420 = out_head 0x4000_0420 ∷ (0x420, 1) ∷ (0x424, 0x0170_8080) ∷ (0x428, 0x4000_0C00) ∷ []

abbrev pub room_at620 : List (ℕ × ℕ)
room_at620 = out_head 0x4000_0620 ∷ (0x620, 1) ∷ (0x624, 0x0170_0080) ∷ (0x628, 0x4000_0E00) ∷ []

-- an answer on endpoint 0, whose queue heads stand at 0 (OUT) and 40 (IN): a descriptor at 400 that brings n bytes, its data at 800, and
-- one at 420 without bytes, for the status stage; both with IOC, active
abbrev pub answer_of : ℕ → List (ℕ × ℕ) → List (ℕ × ℕ)
answer_of n ds =
    (0x48, 0x4000_0400) ∷ (0x400, 1) ∷ (0x404, n * 2 ^ 16 + 0x8080) ∷ (0x408, 0x4000_0800) ∷ (0x8, 0x4000_0420) ∷ (0x420, 1) ∷ (0x424, 0x8080) ∷ ds

-- no bytes: the status stage of a request without data
abbrev pub no_data : List (ℕ × ℕ)
no_data = answer_of 0 []

-- a device descriptor: 18 bytes, type 1 (USB 2.0, 9.6.1)
abbrev pub device_answer : List (ℕ × ℕ)
device_answer = answer_of 18 ((0x800, 0x1201_0002) ∷ [])

-- a configuration of 32 bytes: 9 bytes, type 2, the total length low byte first (USB 2.0, 9.6.3): its header, and the whole of it
abbrev pub header_answer : List (ℕ × ℕ)
header_answer = answer_of 9 ((0x800, 0x0902_2000) ∷ [])

abbrev pub whole_answer : List (ℕ × ℕ)
whole_answer = answer_of 32 ((0x800, 0x0902_2000) ∷ [])

-- ---- settings (document 01, "Host record")

-- neither MIDI input nor a serial device, no span of sleep or suspend; b: the device stack; n gone spans, in a table
abbrev pub audio_settings : Bool → ℕ → List Span → Settings
audio_settings b n table =
    record {
      device_stack = b;
      midi_in = false;
      cdc = false;
      midi_every = 0;
      sleep = no_span;
      suspend = no_span;
      spans = n;
      gone = table;
    }

abbrev pub plain : Settings
plain = audio_settings false 0 (replicate 16 no_span)

abbrev pub with_stack : Settings
with_stack = audio_settings true 0 (replicate 16 no_span)

-- the host is gone from 1 to 2
abbrev pub with_span : Settings
with_span = audio_settings false 1 (record { from = 1; to = 2 } ∷ replicate 15 no_span)

-- MIDI input, no span
abbrev pub with_input : Settings
with_input =
    record {
      device_stack = false;
      midi_in = true;
      cdc = false;
      midi_every = 0;
      sleep = no_span;
      suspend = no_span;
      spans = 0;
      gone = replicate 16 no_span;
    }

-- MIDI input; suspended from 1 to 2, and no MIDI is read from 3 to 4
abbrev pub with_sleep : Settings
with_sleep =
    record {
      device_stack = false;
      midi_in = true;
      cdc = false;
      midi_every = 0;
      sleep = record { from = 3; to = 4 };
      suspend = record { from = 1; to = 2 };
      spans = 0;
      gone = replicate 16 no_span;
    }

-- ---- the lists; a and f: the areas and the static memory that every call is lent

module _ (a : Areas) (f : List ℕ) where
  -- a microframe at the time t, by the words of dynamic memory and of the page
  abbrev pub frame : ℕ → List (ℕ × ℕ) → List (ℕ × ℕ) → Call
  frame t ds ps = microframe t (lend a (words f ds ps))

  -- a microframe at the time 0 with endpoint 0 stalled; one that brings a block whose first word is x; one with room for a block
  abbrev pub waits : Call
  waits = frame 0 [] stalled_page

  abbrev pub brings : ℕ → Call
  brings x = frame 0 (block_at400 x) (primed_page 0x80000)

  abbrev pub takes : Call
  takes = frame 0 room_at420 (primed_page 8)

  -- Idle, VBUS, bus reset, four setups that are posted and stalled (449-487, 623-653): the 492nd microframe begins the stream
  unfoldable pub to_stream : List Call
  to_stream = replicate 492 waits

  -- a good block comes in, and a block goes out: in two microframes, or in one
  unfoldable pub in_and_out : List Call
  in_and_out = to_stream ++ (brings 0x0700_0000 ∷ takes ∷ [])

  unfoldable pub in_and_out_at_once : List Call
  in_and_out_at_once = to_stream ++ (frame 0 (block_at400 0x0700_0000 ++ room_at420) (primed_page 0x80008) ∷ [])

  -- a block whose first byte is 08, and room for one
  unfoldable pub bad_block : List Call
  bad_block = to_stream ++ (brings 0x0800_0000 ∷ takes ∷ [])

  -- firmware rewrites the descriptors between the microframes: two blocks in, from two places, and two out, to two places
  unfoldable pub rewritten : List Call
  rewritten = to_stream ++ (brings 0x0700_0000 ∷ frame 0 block_at600 (primed_page 0x80000) ∷ takes ∷ frame 0 room_at620 (primed_page 8) ∷ [])

  -- a block in, and then the cable goes at the time 1 and is back at 2
  unfoldable pub one_block : List Call
  one_block = to_stream ++ (brings 0x0700_0000 ∷ [])

  unfoldable pub gone_and_back : List Call
  gone_and_back = one_block ++ (frame 1 [] stalled_page ∷ frame 2 [] stalled_page ∷ [])

  -- and again through all phases to a stream and a block, at the time 3
  unfoldable pub gone_and_again : List Call
  gone_and_again = gone_and_back ++ replicate 491 (frame 3 [] stalled_page) ++ (frame 3 (block_at400 0x0700_0000) (primed_page 0x80000) ∷ [])

  -- or it is suspended at the time 1 and resumed at 2, with room for a block, and at 3, in the sleep span, another block comes in
  unfoldable pub then_suspended : List Call
  then_suspended = one_block ++ (frame 1 [] stalled_page ∷ [])

  unfoldable pub then_resumed : List Call
  then_resumed = then_suspended ++ (frame 2 room_at420 (primed_page 8) ∷ [])

  unfoldable pub then_asleep : List Call
  then_asleep = then_resumed ++ (frame 3 (block_at400 0x0700_0000) (primed_page 0x80000) ∷ [])

  -- or every setup is answered: 483 microframes with no endpoint primed up to enumeration, and for each setup one in which it is posted and
  -- one with endpoint 0 IN, bit 16, and OUT, bit 0, primed (623-700)
  abbrev pub rests : Call
  rests = frame 0 [] (primed_page 0)

  abbrev pub asked : List (ℕ × ℕ) → List Call
  asked ds = rests ∷ frame 0 ds (primed_page 0x10001) ∷ []

  unfoldable pub to_enumerate : List Call
  to_enumerate = replicate 483 rests

  -- device descriptor of 64 bytes, address, device descriptor, configuration header (477-482)
  unfoldable pub answers_header : List Call
  answers_header = to_enumerate ++ asked device_answer ++ asked no_data ++ asked device_answer ++ asked header_answer

  -- the whole configuration (713)
  unfoldable pub answers_whole : List Call
  answers_whole = answers_header ++ asked whole_answer

  -- set configuration, and alternate 3 of two interfaces (729-735)
  unfoldable pub answers_setups : List Call
  answers_setups = answers_whole ++ asked no_data ++ asked no_data ++ asked no_data

  -- the stream begins
  unfoldable pub then_streams : List Call
  then_streams = answers_setups ++ (rests ∷ [])

  unfoldable pub then_in_and_out : List Call
  then_in_and_out = then_streams ++ (brings 0x0700_0000 ∷ takes ∷ [])

  -- or RS is clear
  unfoldable pub run_bit_cleared : List Call
  run_bit_cleared = one_block ++ (frame 0 [] stopped_page ∷ [])

-- ---- a frame x is given and sent, and one is taken; h: the host that streams. The rings are lent in each call as the last call left them

module _ (a : Areas) (f x : List ℕ) where
  abbrev pub gives : Call
  gives = frame_give x a.sending

  module _ (h : Host) where
    -- a block comes in
    abbrev pub hearing : Lent
    hearing = lend (with_rings a a.received (given_ring h x a.sending)) (words f sound_at400 (primed_page 0x80000))

    abbrev pub heard : Host
    heard = step (step h gives) (microframe 0 hearing)

    -- room for one
    abbrev pub answering : Lent
    answering =
        lend (with_rings a (framed 0 (step h gives) hearing).lent.received (given_ring h x a.sending)) (words f room_at420 (primed_page 8))

    abbrev pub answered : Host
    answered = step heard (microframe 0 answering)

    -- the received ring then
    abbrev pub ring_left : List ℕ
    ring_left = (framed 0 heard answering).lent.received

    unfoldable pub passing : List Call
    passing = gives ∷ microframe 0 hearing ∷ microframe 0 answering ∷ frame_take ring_left ∷ []

  abbrev pub streamed : Host
  streamed = after (new_host plain) (to_stream a f)

  unfoldable pub given_and_taken : List Call
  given_and_taken = to_stream a f ++ passing streamed
