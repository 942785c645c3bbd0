-- What the lists of calls come to: sums, credit, phase, and that no call was refused (document 01, "Host record"; demand 3 is not empty).
use Rattle.std.specs.Prelude.{ℕ, ◌*◌, ◌/◌, ◌%◌, ◌^◌, ◌<◌, Bool, true, false, ◌≡◌, length, get_or, take, drop, replicate}
use mathlib.Core.List.{List, [], ◌∷◌, ◌++◌, flat_map}
use Rattle.record.specs.declared.Phase.{Phase}
use Rattle.record.specs.declared.Phase.TheVariants.{Vbus, Enumerate, Stream}
use Rattle.record.specs.declared.Settings.{Settings}
use Rattle.record.specs.Record.{counter_of, enumerations, in_frames, midi_asleep, out_frames}
use Rattle.model.specs.Audio.{blocks_of, block_of}
use Rattle.model.specs.Reach.{at_input, at_output, bytes_at}
use Rattle.model.specs.Claims.{sends_at}
use Rattle.usbhost.specs.declared.Host.{Host}
use Rattle.usbhost.specs.Host.{new_host, created}
use Rattle.usbhost.specs.Calls.{frame_taken, taken_frame}
use Rattle.usbhost.specs.Frame.{world_of, lengths_ok}
use Rattle.record.specs.World.{Lent}
use Rattle.history.specs.Calls.{Call, step, after}
use Rattle.history.specs.Accepts.{number_of, AtEach}
use Rattle.history.specs.Sums as S
use Rattle.history.specs.Sums.{Sums, none, input_reached, tally}
use Rattle.reached.specs.Lists.{Areas, lend, words, block_at400, primed_page, plain, with_stack, with_span, with_sleep, with_input, to_stream, in_and_out, in_and_out_at_once, bad_block, rewritten, one_block, gone_and_back, gone_and_again, then_suspended, then_resumed, then_asleep, to_enumerate, answers_header, answers_whole, answers_setups, then_streams, then_in_and_out, run_bit_cleared, gives, heard, answering, answered, ring_left, streamed, given_and_taken}

-- areas and static memory that every microframe accepts, and bytes in those where bytes are
pub record Lendable (a : Areas) (f : List ℕ) : Type 0 where
  pub lengths : lengths_ok (length a.reply) (length a.config) (length a.receive) (length a.cables) (length a.received) (length a.sending) ≡ true
  pub reply_bytes : (k : ℕ) → get_or a.reply k 0 < 256
  pub static_length : length f ≡ 65536
  pub static_bytes : (k : ℕ) → get_or f k 0 < 256

-- frames received and sent
abbrev pub frames : ℕ → ℕ → Sums
frames received sent = record { received = received; sent = sent }

-- `new` accepts these settings, and its host is that of the lists
abbrev pub Made : Settings → Type 0
Made c = created c ≡ record { refusal = 0; host = new_host c }

-- no call of a list is refused, each on the record that the ones before it left
abbrev pub NoneRefused : Host → List Call → Type 0
NoneRefused = AtEach (λ h c. number_of h c ≡ 0)

-- from a new host: the frames since the last reset, and through every reset, which the record's two counters say; the credit; the phase;
-- and no call of the list was refused
pub record Ends (c : Settings) (cs : List Call) (since ever : Sums) (credit : ℕ) (p : Phase) : Type 0 where
  pub sums : S.sums (new_host c) none cs ≡ since
  pub through : (tally (new_host c) (record { since = none; ever = none }) cs).ever ≡ ever
  pub credit_left : (after (new_host c) cs).audio.credit ≡ credit
  pub frames_in_lem : counter_of in_frames (after (new_host c) cs).stats ≡ ever.received
  pub frames_out : counter_of out_frames (after (new_host c) cs).stats ≡ ever.sent
  pub phase : (after (new_host c) cs).phase ≡ p
  pub accepted : NoneRefused (new_host c) cs

-- the microframe that comes next reaches its input step, whose endpoint is ready, and reads these blocks
pub record Hears (c : Settings) (cs : List Call) (l : Lent) (blocks : List (List ℕ)) : Type 0 where
  pub heard : input_reached 0 (world_of (after (new_host c) cs) l) ≡ true
  pub read : blocks_of (bytes_at (at_input (world_of (after (new_host c) cs) l))) ≡ blocks

-- a word's bytes, the high one first
abbrev pub word_bytes : ℕ → List ℕ
word_bytes v = v / 2 ^ 24 % 256 ∷ v / 2 ^ 16 % 256 ∷ v / 2 ^ 8 % 256 ∷ v % 256 ∷ []

-- a frame given is in the next block that goes out, behind its header of 32 bytes, each word big-endian, with silence behind it; the first
-- frame of the block that came in is the one that is taken
pub record Passes (a : Areas) (f x : List ℕ) : Type 0 where
  pub ends : Ends plain (given_and_taken a f x) (frames 7 7) (frames 7 7) 0 Stream
  -- it waits, goes out and waits no longer
  pub waits : (step (streamed a f x) (gives a f x)).audio.sending.len ≡ 1
  pub sends : sends_at 0 (world_of (heard a f x (streamed a f x)) (answering a f x (streamed a f x))) ≡ true
  pub sent : drop 32 (block_of (at_output (world_of (heard a f x (streamed a f x)) (answering a f x (streamed a f x))))) ≡ flat_map word_bytes x ++ replicate 288 0
  pub gone : (answered a f x (streamed a f x)).audio.sending.len ≡ 0
  -- the answer of the frame taken: neither refused nor empty
  pub taken : taken_frame (answered a f x (streamed a f x)) (ring_left a f x (streamed a f x))
      ≡ record { refusal = 0; empty = false; frame = 0x1234_5678 ∷ 0x9ABC_DEF0 ∷ replicate 10 0; next = frame_taken (answered a f x (streamed a f x)) }

-- whether the bus is suspended then, and in how many microframes no MIDI was read so far (409, 427, 776)
pub record Rests (c : Settings) (cs : List Call) (mark : Bool) (unread : ℕ) : Type 0 where
  pub suspended : (after (new_host c) cs).port.suspended ≡ mark
  pub asleep : counter_of midi_asleep (after (new_host c) cs).stats ≡ unread

-- no request runs then, and the setups that wait are these bytes
pub record Waits (c : Settings) (cs : List Call) (ws : List ℕ) : Type 0 where
  pub free : (after (new_host c) cs).control.on ≡ false
  pub number : 8 * (after (new_host c) cs).lengths.setups ≡ length ws
  pub setups : take (length ws) (after (new_host c) cs).setups ≡ ws

-- no request runs and no setup waits then, and enumeration has ended so often (626-629)
pub record Settled (c : Settings) (cs : List Call) (n : ℕ) : Type 0 where
  pub ended : counter_of enumerations (after (new_host c) cs).stats ≡ n
  pub free : (after (new_host c) cs).control.on ≡ false
  pub none_waits : (after (new_host c) cs).lengths.setups ≡ 0

pub record Reached (a : Areas) (f : List ℕ) : Type 0 where
  pub made : Made plain × (Made with_stack × (Made with_span × (Made with_sleep × Made with_input)))
  -- the stream begins
  pub stream : Ends plain (to_stream a f) none none 0 Stream
  -- one good block in, and one out
  pub in_and_out_lem : Ends plain (in_and_out a f) (frames 7 7) (frames 7 7) 0 Stream
  pub at_once : Ends plain (in_and_out_at_once a f) (frames 7 7) (frames 7 7) 0 Stream
  -- a block of 368 bytes is read, and is bad: nothing is received, and nothing sent
  pub bad : Ends plain (bad_block a f) none none 0 Stream
  pub bad_read : Hears plain (to_stream a f) (lend a (words f (block_at400 0x0800_0000) (primed_page 0x80000))) ((8 ∷ replicate 367 0) ∷ [])
  -- other descriptors in every microframe
  pub other_descriptors : Ends plain (rewritten a f) (frames 14 14) (frames 14 14) 0 Stream
  -- a block in; gone and back: a reset; and a block in again
  pub before_gone : Ends with_span (one_block a f) (frames 7 0) (frames 7 0) 7 Stream
  pub gone : Ends with_span (gone_and_back a f) none (frames 7 0) 0 Vbus
  pub again : Ends with_span (gone_and_again a f) (frames 7 0) (frames 14 0) 7 Stream
  -- a frame given is sent, and one is taken, whatever its twelve words
  pub passes : (x : List ℕ) → length x ≡ 12 → Passes a f x
  -- the first four setups (USB 2.0, 9.4.3, 9.4.6); the configuration's total length, 32, is asked for once its header has come; and then it
  -- is set, with alternate 3 of interfaces 1 and 2 (9.4.7, 9.4.10)
  pub asks_first : Waits with_input (to_enumerate a f)
      (0x80 ∷ 6 ∷ 0 ∷ 1 ∷ 0 ∷ 0 ∷ 64 ∷ 0 ∷ 0 ∷ 5 ∷ 7 ∷ 0 ∷ 0 ∷ 0 ∷ 0 ∷ 0 ∷ 0x80 ∷ 6 ∷ 0 ∷ 1 ∷ 0 ∷ 0 ∷ 18 ∷ 0 ∷ 0x80 ∷ 6 ∷ 0 ∷ 2 ∷ 0 ∷ 0 ∷ 9 ∷ 0 ∷ [])
  pub asks_whole_lem : Waits with_input (answers_header a f) (0x80 ∷ 6 ∷ 0 ∷ 2 ∷ 0 ∷ 0 ∷ 32 ∷ 0 ∷ [])
  pub asks_last : Waits with_input (answers_whole a f)
      (0 ∷ 9 ∷ 1 ∷ 0 ∷ 0 ∷ 0 ∷ 0 ∷ 0 ∷ 1 ∷ 11 ∷ 3 ∷ 0 ∷ 1 ∷ 0 ∷ 0 ∷ 0 ∷ 1 ∷ 11 ∷ 3 ∷ 0 ∷ 2 ∷ 0 ∷ 0 ∷ 0 ∷ [])
  -- all eight setups are answered: no request runs and none waits, none is stalled and none times out; enumeration ends once, and then a block in and one out
  pub answered : Ends with_input (answers_setups a f) none none 0 Enumerate × Settled with_input (answers_setups a f) 0
  pub answered_streams : Ends with_input (then_streams a f) none none 0 Stream × Settled with_input (then_streams a f) 1
  pub answered_in_and_out : Ends with_input (then_in_and_out a f) (frames 7 7) (frames 7 7) 0 Stream × Settled with_input (then_in_and_out a f) 1
  -- a block in; suspended: the credit stays; resumed: its block goes out; in the sleep span another comes in
  pub before_suspend : Ends with_sleep (one_block a f) (frames 7 0) (frames 7 0) 7 Stream × Rests with_sleep (one_block a f) false 0
  pub suspended : Ends with_sleep (then_suspended a f) (frames 7 0) (frames 7 0) 7 Stream × Rests with_sleep (then_suspended a f) true 1
  pub resumed : Ends with_sleep (then_resumed a f) (frames 7 7) (frames 7 7) 0 Stream × Rests with_sleep (then_resumed a f) false 1
  pub asleep : Ends with_sleep (then_asleep a f) (frames 14 7) (frames 14 7) 7 Stream × Rests with_sleep (then_asleep a f) false 2
  -- a block in; RS cleared: a reset
  pub before_cleared : Ends with_stack (one_block a f) (frames 7 0) (frames 7 0) 7 Stream
  pub cleared : Ends with_stack (run_bit_cleared a f) none (frames 7 0) 0 Vbus
