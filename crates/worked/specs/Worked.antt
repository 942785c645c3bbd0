-- The eleven worked examples that document 01 marks, as one table, about the definitions that the contracts cite: the microframe's own steps,
-- replayed on any World that holds what the example names.
use Rattle.std.specs.Prelude.{ℕ, zero, suc, ◌^◌, Bool, true, false, ◌≡◌, refl, ℤ, pos, replicate}
use mathlib.Core.List.{List, [], ◌∷◌, ◌++◌, flat_map}
use Rattle.bits.specs.Word.{any}
use Rattle.bus.specs.Memory.{memory, place, read, write, at, peek8, poke8, after, word, peek32, poke32}
use Rattle.bus.specs.Words.{word_at, word_put}
use Rattle.bus.specs.Steps.{and_then, choose}
use Rattle.bus.specs.Stores as S
use Rattle.bus.specs.Stores.{putting}
use Rattle.midi.specs.Packer.{fresh, feed_of, message_length, message_code, running_of, events_of, packets_of}
use Rattle.usbdev.specs.Offsets.{USBSTS, FRINDEX, EPLISTADDR, EPSR, OTGSC}
use Rattle.usbdev.specs.Registers.{registers, store, on_bus, line_of, following, setting}
use Rattle.usbdev.specs.Access.{fits, refusal, listed, listing, writing_word, write_sized, written}
use Rattle.usbdev.specs.Transfer.{next_frindex, total_of, token_after}
use Rattle.transfer.specs.Transfer.{pointers, data_addr, stores, sending}
use Rattle.gptimers.specs.Timer.{none, count_of, signed, load_of, resetting, after_reset, start_of, stopping, expiring, next, expired, counted, counted_timer, ticking, ticked, ticking_both, ticked_both}
use Rattle.config.specs.Config.{cut, member, placed, chosen, step, walked, parsed}
use Rattle.dtd.specs.Dtd.{token_of, primed, queue_head, next_of, moves, bytes_of, data_out, framed, closing, completing, advancing, retiring, followed, turning, joined, turns, list_ends, unpriming, reporting, settling, settled, run_dtds}
use Rattle.dtd.specs.Dtd as D
use Rattle.record.specs.Record.{with_got, with_timers}
use Rattle.record.specs.World.{World, at_page, at_bus, with_midi_queue, with_reply_area, in_control}
use Rattle.record.specs.Change.{config, queued, apply, left, nothing, one, here, on_page, ran_stores, runs}
use Rattle.model.specs.Phases.{changing, starts_frame, ticks}
use Rattle.model.specs.Streams.{drains_midi}
use Rattle.model.specs.Control.{replied, sets_configuration, sets_interface, interface_setups, chooses, configures}

-- the packets of a new packer on cable 0
abbrev pub made : List ℕ → List ℕ
made bs = packets_of 0 fresh bs

-- a register page of zeros with one word on it
abbrev pub page_with : ℕ → ℕ → List ℕ
page_with off v = word_put (replicate 4096 0) off v

-- the register at an offset that held a word, after the device writes four bytes
abbrev pub rewritten : ℕ → ℕ → ℕ → ℕ
rewritten off old v = word_at (written (registers (page_with off old) false) off 4 v) off

-- FRINDEX after a start of frame (`starts_frame`), from a value
abbrev pub frindex_after : World → ℕ → ℕ
frindex_after w v = word_at (left starts_frame (at_page w w.state (page_with FRINDEX v))).lent.memory.page FRINDEX

-- a descriptor at 40000100 with a token, one data page behind it, named by the queue head of endpoint 1 towards the device, which is primed
abbrev pub primed_with : World → ℕ → World
primed_with w token =
    at_bus w w.state
    (memory (word_put (word_put (word_put (replicate 4096 0) 0x88 0x4000_0100) 0x104 token) 0x108 0x4000_0200) w.lent.memory.sram
    (word_put (page_with EPLISTADDR 0x4000_0000) EPSR 2))

-- its token after MIDI output (`drains_midi`) has sent a packet of four bytes
abbrev pub token_sent : World → ℕ → ℕ
token_sent w token =
    token_of 0x4000_0100 (left (drains_midi 4) (with_midi_queue (primed_with w token) (0x09 ∷ 0x90 ∷ 0x3C ∷ 0x40 ∷ []))).lent.memory

-- timer 0 not loaded, with the load 1,000, running and repeating (control 81000000)
abbrev pub repeating : World → World
repeating w =
    at_page w (with_timers w.state (record { zero = none; one = none })) (word_put (page_with 0x80 1000) 0x84 0x8100_0000)

-- after the timers (`ticks`) of so many microframes
unfoldable pub after_ticks : ℕ → World → World
after_ticks zero w = w
after_ticks (suc n) w = after_ticks n (left ticks w)

-- what timer 0's count means, and whether its bit of USBSTS is set
abbrev pub count : World → ℕ → ℤ
count w n = signed (count_of (after_ticks n (repeating w)).state.timers.zero)

abbrev pub raised : World → ℕ → Bool
raised w n = any (word_at (after_ticks n (repeating w)).lent.memory.page USBSTS) (2 ^ 24)

-- the last example: an interface and its endpoint
abbrev pub descriptors : List ℕ
descriptors = 0x09 ∷ 0x04 ∷ 0x01 ∷ 0x02 ∷ 0x01 ∷ 0xFF ∷ 0x00 ∷ 0x00 ∷ 0x00 ∷ 0x07 ∷ 0x05 ∷ 0x83 ∷ 0x03 ∷ 0x70 ∷ 0x01 ∷ 0x01 ∷ []

-- a configuration request that brought them
abbrev pub replying : World → World
replying w = with_reply_area (in_control w (with_got w.state.control 16)) descriptors

-- the table; the numbers are hexadecimal in document 01
pub record Worked : Type 0 where
  pub running_status : made (0x90 ∷ 0x3C ∷ 0x40 ∷ 0x3E ∷ 0x41 ∷ []) ≡ 0x09 ∷ 0x90 ∷ 0x3C ∷ 0x40 ∷ 0x09 ∷ 0x90 ∷ 0x3E ∷ 0x41 ∷ []
  pub sysex_of_two : made (0xF0 ∷ 0xF7 ∷ []) ≡ 0x06 ∷ 0xF0 ∷ 0xF7 ∷ 0x00 ∷ []
  pub sysex_of_four : made (0xF0 ∷ 0x01 ∷ 0x02 ∷ 0xF7 ∷ []) ≡ 0x04 ∷ 0xF0 ∷ 0x01 ∷ 0x02 ∷ 0x05 ∷ 0xF7 ∷ 0x00 ∷ 0x00 ∷ []
  pub realtime_in_sysex : made (0xF0 ∷ 0x01 ∷ 0xF8 ∷ 0xF7 ∷ []) ≡ 0x0F ∷ 0xF8 ∷ 0x00 ∷ 0x00 ∷ 0x07 ∷ 0xF0 ∷ 0x01 ∷ 0xF7 ∷ []
  pub two_bytes : (made (0xC0 ∷ 0x05 ∷ []) ≡ 0x0C ∷ 0xC0 ∷ 0x05 ∷ 0x00 ∷ []) × (made (0x3C ∷ []) ≡ [])
  pub usbsts : rewritten USBSTS 0x45 0x41 ≡ 0x04
  pub otgsc : rewritten OTGSC 0x0008_1E00 0x0808_0000 ≡ 0x0800_1E00
  pub frindex : (w : World) → frindex_after w 0x3FFF ≡ 0
  pub token : (w : World) → token_sent w 0x0012_8080 ≡ 0x000E_8000
  pub timer : (w : World) → (count w 8 ≡ pos 0) × (raised w 8 ≡ false) × (raised w 9 ≡ true) × (count w 9 ≡ pos 876)
  -- and the host asks for configuration 1 and that pair
  pub interface : (w : World) → (parsed (replied (replying w)) ≡ record { pairs = (1, 2) ∷ []; input = 368; output = 0 }) × (configures true (replying w) ≡ config descriptors ∷ queued (sets_configuration ++ sets_interface 1 2) ∷ [])

pub worked : Worked
unfolding feed_of message_length message_code running_of events_of packets_of flat_map word word_at word_put and_then store line_of following setting fits refusal listed listing writing_word write_sized written next_frindex total_of token_after signed load_of resetting after_reset start_of stopping expiring next expired counted counted_timer ticking ticked ticking_both ticked_both after_ticks cut member placed chosen step walked place read write at peek8 poke8 after peek32 poke32 choose S.store S.when putting on_bus pointers data_addr stores sending primed queue_head next_of moves bytes_of data_out framed closing completing advancing retiring followed turning D.following joined turns list_ends unpriming reporting settling settled run_dtds apply nothing one here on_page ran_stores runs changing starts_frame ticks drains_midi interface_setups chooses configures
worked =
    record {
      running_status = refl;
      sysex_of_two = refl;
      sysex_of_four = refl;
      realtime_in_sysex = refl;
      two_bytes = (refl, refl);
      usbsts = refl;
      otgsc = refl;
      frindex = λ w. refl;
      token = λ w. refl;
      timer = λ w. (refl, refl, refl, refl);
      interface = λ w. (refl, refl);
    }
