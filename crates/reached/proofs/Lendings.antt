-- What the memories of the lists hold: their lengths and bytes by law, and what their words bring by computing.
use Prim.Native.Nat.{ℕ, ◌+◌, ◌^◌, ◌≤◌}
use mathlib.Core.Path.{◌≡◌, refl, ap, ap₂, ◌∙◌}
use mathlib.Core.Bool.{Bool, true, false, ◌&&◌, ◌||◌}
use mathlib.Core.Logic.{◌⊎◌, inl, inr}
use native.Mathlib.Omega.{arith}
use mathlib.Core.List.{List, [], ◌∷◌, ◌++◌}
use lib.Dec.{eqb, leb, ltb}
use lib.ListN.{length, replicate, length-replicate}
use borrow.Author.Tests.{ltb-true, leb-true}
use Rattle.bits.specs.Word.{any}
use Rattle.bus.specs.Memory.{Memory, word, at, place, read, write, peek8, peek32, poke8, poke32, after}
use Rattle.bus.specs.Sized.{is_power, is_sized}
use Rattle.bus.specs.Words.{word_at, word_put}
use Rattle.bus.specs.Steps.{and_then}
use Rattle.bus.specs.Stores.{bus, Store, irq, putting, when, store, stored}
use Rattle.bus.specs.Stores as S
use Rattle.bus.proofs.Registers.{length_put, put_lt, word_apart}
use Rattle.usbdev.specs.Offsets.{BASE, USBCMD, USBSTS, EPSR, EPCOMPLETE, EPCR0}
use Rattle.usbdev.specs.Registers as R
use Rattle.usbdev.specs.Registers.{setting, line_of}
use Rattle.usbdev.specs.Transfer.{next_frindex, total_of, token_after}
use Rattle.transfer.specs.Transfer.{pointers, bytes_in, tabulate, data_addr}
use Rattle.dtd.specs.Dtd.{endpoint, primed, queue_head, next_of, next_active, run_dtds, turns, settled, joined, turning, data_out, moves, bytes_of, retiring, closing, advancing, completing, framed, followed, following, settling, unpriming, reporting, list_ends}
use Rattle.model.specs.Audio.{blocks_of, blocks, good}
use Rattle.model.specs.Ring.{frames_from, frames_of_block, frames_of_blocks, frames_read}
use Rattle.model.specs.Earned.{good_blocks}
use Rattle.gptimers.specs.Timer as T
use Rattle.bits.proofs.Tests.{and_first, and_second, or_case}
use Rattle.reached.specs.Lists.{puts, window, words, stalled_page, stopped_page, primed_page, block_at400, sound_at400, block_at600, room_at420, room_at620, no_data, device_answer, header_answer, whole_answer}
use Rattle.reached.proofs.Page.{framed_page, framed_memory, resumed_page, resumed_memory, Stopped}
use Rattle.reached.proofs.Summed.{bytes_asked, bytes_read, ran_memory}
use Rattle.reached.proofs.Leading.{Fit}
use Rattle.reached.proofs.Queued.{Below, below_zeros}
use Rattle.reached.proofs.Streamed.{Silent, Brings}

-- ---- lengths and bytes

length_puts : (ps : List (ℕ × ℕ)) (l : List ℕ) → length (puts l ps) ≡ length l
unfolding puts
length_puts [] l = refl
length_puts (p ∷ ps) l = length_puts ps (word_put l p.0 p.1) ∙ length_put l p.0 p.1

length_window : (ps : List (ℕ × ℕ)) → length (window ps) ≡ 4096
length_window ps = length_puts ps (replicate 4096 0) ∙ length-replicate {A = ℕ} 4096 0

-- every value is a word of 32 bits
abbrev pub all_words : List (ℕ × ℕ) → Bool
all_words [] = true
all_words (p ∷ ps) = ltb p.1 (2 ^ 32) && all_words ps

below_puts : (ps : List (ℕ × ℕ)) (l : List ℕ) → all_words ps ≡ true → Below l → Below (puts l ps)
unfolding puts
below_puts [] l e h = h
below_puts (p ∷ ps) l e h =
    below_puts ps (word_put l p.0 p.1) (and_second (ltb p.1 (2 ^ 32)) (all_words ps) e)
    (put_lt l p.0 p.1 h (ltb-true p.1 (2 ^ 32) (and_first (ltb p.1 (2 ^ 32)) (all_words ps) e)))

-- no word lies at the timers' control registers, 84 and 8C
abbrev no_timer : List (ℕ × ℕ) → Bool
no_timer [] = true
no_timer (p ∷ ps) = (leb (p.0 + 4) 0x84 || leb 0x90 p.0) && no_timer ps

apart : (o : ℕ) → 0x84 ≤ o → o + 4 ≤ 0x90 → (ps : List (ℕ × ℕ)) (l : List ℕ) → no_timer ps ≡ true → word_at (puts l ps) o ≡ word_at l o
unfolding puts
apart o low high [] l e = refl
apart o low high (p ∷ ps) l e =
    apart o low high ps (word_put l p.0 p.1) (and_second (leb (p.0 + 4) 0x84 || leb 0x90 p.0) (no_timer ps) e)
    ∙ word_apart l p.0 p.1 o (sides (and_first (leb (p.0 + 4) 0x84 || leb 0x90 p.0) (no_timer ps) e))
  where
    sides : (leb (p.0 + 4) 0x84 || leb 0x90 p.0) ≡ true → (o + 4 ≤ p.0) ⊎ (p.0 + 4 ≤ o)
    sides h =
        or_case (leb (p.0 + 4) 0x84) (leb 0x90 p.0) h
        (λ a. inr (omega (arith, leb-true (p.0 + 4) 0x84 a, low)))
        (λ b. inl (omega (arith, leb-true 0x90 p.0 b, high)))

stopped : (ps : List (ℕ × ℕ)) → no_timer ps ≡ true → Stopped (window ps)
unfolding word_at word
stopped ps e =
    let zero : word_at (window ps) 0x84 ≡ 0 = apart 0x84 (omega arith) (omega arith) ps (replicate 4096 0) e in
    let one : word_at (window ps) 0x8C ≡ 0 = apart 0x8C (omega arith) (omega arith) ps (replicate 4096 0) e in
    record {
      run_zero = ap (λ (v : ℕ). any v T.RUN) zero;
      reset_zero = ap (λ (v : ℕ). any v T.RESET) zero;
      run_one = ap (λ (v : ℕ). any v T.RUN) one;
      reset_one = ap (λ (v : ℕ). any v T.RESET) one;
    }

abbrev pub page_words : List (ℕ × ℕ) → Bool
page_words ps = all_words ps && no_timer ps

pub fit_words : (f : List ℕ) (ds ps : List (ℕ × ℕ)) → length f ≡ 65536 → Below f → all_words ds ≡ true → page_words ps ≡ true → Fit (words f ds ps)
unfolding is_sized is_power
fit_words f ds ps long bytes d p =
    record {
      sized =
          ap (λ (n : ℕ). eqb n 65536 && (eqb (length (window ps)) 4096 && is_power (length (window ds)))) long
          ∙ ap₂ (λ (i j : ℕ). eqb i 4096 && is_power j) (length_window ps) (length_window ds);
      bytes = record {
        dynamic = below_puts ds (replicate 4096 0) d (below_zeros 4096);
        sram = bytes;
        page = below_puts ps (replicate 4096 0) (and_first (all_words ps) (no_timer ps) p) (below_zeros 4096);
      };
      timers = stopped ps (and_second (all_words ps) (no_timer ps) p);
    }

-- ---- what the words bring

-- RS on the four pages; URI and the stall of endpoint 0
pub record Pages : Type 0 where
  pub rs_stalled : any (word_at (window stalled_page) USBCMD) 1 ≡ true
  pub uri_stalled : any (word_at (window stalled_page) USBSTS) 0x40 ≡ false
  pub stall : any (word_at (window stalled_page) EPCR0) 0x10001 ≡ true
  pub rs_in : any (word_at (window (primed_page 0x80000)) USBCMD) 1 ≡ true
  pub rs_out : any (word_at (window (primed_page 8)) USBCMD) 1 ≡ true
  pub rs_both : any (word_at (window (primed_page 0x80008)) USBCMD) 1 ≡ true
  pub rs_rests : any (word_at (window (primed_page 0)) USBCMD) 1 ≡ true
  pub uri_rests : any (word_at (window (primed_page 0)) USBSTS) 0x40 ≡ false
  pub rs_asked : any (word_at (window (primed_page 0x10001)) USBCMD) 1 ≡ true
  pub rs_stopped : any (word_at (window stopped_page) USBCMD) 1 ≡ false

pub pages : Pages
unfolding puts word_at word_put word
pages = record { rs_stalled = refl; uri_stalled = refl; stall = refl; rs_in = refl; rs_out = refl; rs_both = refl; rs_rests = refl; uri_rests = refl; rs_asked = refl; rs_stopped = refl }

-- the memories of the lists
pub record Contents (f : List ℕ) : Type 0 where
  pub waits : Silent (words f [] stalled_page) false
  pub good_block : Brings (words f (block_at400 0x0700_0000) (primed_page 0x80000)) 1 false
  pub sound : Brings (words f sound_at400 (primed_page 0x80000)) 1 false
  pub sound_frames : frames_read (bytes_read (framed_memory (words f sound_at400 (primed_page 0x80000)))) ≡ (0x1234_5678 ∷ 0x9ABC_DEF0 ∷ replicate 10 0) ∷ replicate 6 (replicate 12 0)
  pub bad_block_lem : Brings (words f (block_at400 0x0800_0000) (primed_page 0x80000)) 0 false
  pub bad_bytes : blocks_of (bytes_read (framed_memory (words f (block_at400 0x0800_0000) (primed_page 0x80000)))) ≡ (8 ∷ replicate 367 0) ∷ []
  pub other_block : Brings (words f block_at600 (primed_page 0x80000)) 1 false
  pub room : Silent (words f room_at420 (primed_page 8)) true
  pub other_room_lem : Silent (words f room_at620 (primed_page 8)) true
  pub resumed_room : Silent (resumed_memory (words f room_at420 (primed_page 8))) true
  pub rests : Silent (words f [] (primed_page 0)) false
  pub both : Brings (words f (block_at400 0x0700_0000 ++ room_at420) (primed_page 0x80008)) 1 true

module _ (f : List ℕ) where
  pub contents : Contents f
  unfolding puts framed_page resumed_page primed next_active next_of queue_head word_at word_put word at place read peek8 peek32 after next_frindex total_of ran_memory run_dtds turns settled joined turning data_out moves bytes_of retiring closing advancing completing framed followed following settling unpriming reporting list_ends and_then putting when store setting R.following R.store R.on_bus line_of poke8 poke32 write token_after pointers bytes_in tabulate data_addr good_blocks blocks good frames_of_blocks frames_of_block frames_from
  contents =
      record {
        waits = record { unprimed = refl; output = refl };
        good_block = record { input = refl; small = leb-true (bytes_asked (framed_memory (words f (block_at400 0x0700_0000) (primed_page 0x80000)))) 368 refl; blocks = refl; output = λ l. refl };
        sound = record { input = refl; small = leb-true (bytes_asked (framed_memory (words f sound_at400 (primed_page 0x80000)))) 368 refl; blocks = refl; output = λ l. refl };
        sound_frames = refl;
        bad_block_lem = record { input = refl; small = leb-true (bytes_asked (framed_memory (words f (block_at400 0x0800_0000) (primed_page 0x80000)))) 368 refl; blocks = refl; output = λ l. refl };
        bad_bytes = refl;
        other_block = record { input = refl; small = leb-true (bytes_asked (framed_memory (words f block_at600 (primed_page 0x80000)))) 368 refl; blocks = refl; output = λ l. refl };
        room = record { unprimed = refl; output = refl };
        other_room_lem = record { unprimed = refl; output = refl };
        resumed_room = record { unprimed = refl; output = refl };
        rests = record { unprimed = refl; output = refl };
        both = record { input = refl; small = leb-true (bytes_asked (framed_memory (words f (block_at400 0x0700_0000 ++ room_at420) (primed_page 0x80008)))) 368 refl; blocks = refl; output = λ l. refl };
      }

-- ---- answers on endpoint 0

-- endpoint 0 is not stalled, and the input run flags its completion
pub record Flags (m : Memory) : Type 0 where
  pub free : any (word_at (framed_memory m).page EPCR0) 0x10001 ≡ false
  pub done : (l : Bool) → (run_dtds (endpoint 0 true) [] (bus (framed_memory m) l)).done ≡ true

-- it brings these bytes, and the output run after it flags its completion too
pub record Replies (m : Memory) (bs : List ℕ) : Type 0 where
  pub flags : Flags m
  pub bytes : (l : Bool) → (run_dtds (endpoint 0 true) [] (bus (framed_memory m) l)).bytes ≡ bs
  pub status : (l : Bool) → (run_dtds (endpoint 0 false) [] (stored (run_dtds (endpoint 0 true) [] (bus (framed_memory m) l)).stores (bus (framed_memory m) l))).done ≡ true

-- what the input run stores (585-619): token, frame number, current pointer, next pointer, token copy, completion, un-primed, UI
abbrev input_stores : List Store
input_stores =
    S.word 0x4000_0404 0x8000 ∷ S.word 0x4000_040C 0 ∷ S.word 0x4000_0044 0x4000_0400 ∷ S.word 0x4000_0048 1 ∷ S.word 0x4000_004C 0x8000
    ∷ S.word (BASE + EPCOMPLETE) 0x10000 ∷ S.word (BASE + EPSR) 1 ∷ S.word (BASE + USBSTS) 0x81 ∷ irq false ∷ []

-- the output run is that on the memory with those stores
record Stored (m : Memory) : Type 0 where
  stores : (l : Bool) → (run_dtds (endpoint 0 true) [] (bus (framed_memory m) l)).stores ≡ input_stores
  status : (l : Bool) → (run_dtds (endpoint 0 false) [] (stored input_stores (bus (framed_memory m) l))).done ≡ true

status_of_lem : (m : Memory) → Stored m → (l : Bool) → (run_dtds (endpoint 0 false) [] (stored (run_dtds (endpoint 0 true) [] (bus (framed_memory m) l)).stores (bus (framed_memory m) l))).done ≡ true
status_of_lem m k l = ap (λ (ss : List Store). (run_dtds (endpoint 0 false) [] (stored ss (bus (framed_memory m) l))).done) (k.stores l) ∙ k.status l

module _ (f : List ℕ) where
  pub no_data_lem : Flags (words f no_data (primed_page 0x10001))
  unfolding puts framed_page primed next_active next_of queue_head word_at word_put word at place read peek8 peek32 after next_frindex total_of run_dtds turns settled joined turning data_out moves bytes_of retiring closing advancing completing framed followed following settling unpriming reporting list_ends and_then putting when store setting R.following R.store R.on_bus line_of poke8 poke32 write token_after pointers bytes_in tabulate data_addr
  no_data_lem = record { free = refl; done = λ l. refl }

  stored_device : Stored (words f device_answer (primed_page 0x10001))
  unfolding puts framed_page primed next_active next_of queue_head word_at word_put word at place read peek8 peek32 after next_frindex total_of run_dtds turns settled joined turning data_out moves bytes_of retiring closing advancing completing framed followed following settling unpriming reporting list_ends and_then putting when store setting R.following R.store R.on_bus line_of poke8 poke32 write token_after pointers bytes_in tabulate data_addr
  stored_device = record { stores = λ l. refl; status = λ l. refl }

  pub device : Replies (words f device_answer (primed_page 0x10001)) (0x12 ∷ 1 ∷ 0 ∷ 2 ∷ replicate 14 0)
  unfolding puts framed_page primed next_active next_of queue_head word_at word_put word at place read peek8 peek32 after next_frindex total_of run_dtds turns settled joined turning data_out moves bytes_of retiring closing advancing completing framed followed following settling unpriming reporting list_ends and_then putting when store setting R.following R.store R.on_bus line_of poke8 poke32 write token_after pointers bytes_in tabulate data_addr
  device = record { flags = record { free = refl; done = λ l. refl }; bytes = λ l. refl; status = status_of_lem (words f device_answer (primed_page 0x10001)) stored_device }

  stored_header : Stored (words f header_answer (primed_page 0x10001))
  unfolding puts framed_page primed next_active next_of queue_head word_at word_put word at place read peek8 peek32 after next_frindex total_of run_dtds turns settled joined turning data_out moves bytes_of retiring closing advancing completing framed followed following settling unpriming reporting list_ends and_then putting when store setting R.following R.store R.on_bus line_of poke8 poke32 write token_after pointers bytes_in tabulate data_addr
  stored_header = record { stores = λ l. refl; status = λ l. refl }

  pub header : Replies (words f header_answer (primed_page 0x10001)) (9 ∷ 2 ∷ 32 ∷ replicate 6 0)
  unfolding puts framed_page primed next_active next_of queue_head word_at word_put word at place read peek8 peek32 after next_frindex total_of run_dtds turns settled joined turning data_out moves bytes_of retiring closing advancing completing framed followed following settling unpriming reporting list_ends and_then putting when store setting R.following R.store R.on_bus line_of poke8 poke32 write token_after pointers bytes_in tabulate data_addr
  header = record { flags = record { free = refl; done = λ l. refl }; bytes = λ l. refl; status = status_of_lem (words f header_answer (primed_page 0x10001)) stored_header }

  stored_whole : Stored (words f whole_answer (primed_page 0x10001))
  unfolding puts framed_page primed next_active next_of queue_head word_at word_put word at place read peek8 peek32 after next_frindex total_of run_dtds turns settled joined turning data_out moves bytes_of retiring closing advancing completing framed followed following settling unpriming reporting list_ends and_then putting when store setting R.following R.store R.on_bus line_of poke8 poke32 write token_after pointers bytes_in tabulate data_addr
  stored_whole = record { stores = λ l. refl; status = λ l. refl }

  pub whole : Replies (words f whole_answer (primed_page 0x10001)) (9 ∷ 2 ∷ 32 ∷ replicate 29 0)
  unfolding puts framed_page primed next_active next_of queue_head word_at word_put word at place read peek8 peek32 after next_frindex total_of run_dtds turns settled joined turning data_out moves bytes_of retiring closing advancing completing framed followed following settling unpriming reporting list_ends and_then putting when store setting R.following R.store R.on_bus line_of poke8 poke32 write token_after pointers bytes_in tabulate data_addr
  whole = record { flags = record { free = refl; done = λ l. refl }; bytes = λ l. refl; status = status_of_lem (words f whole_answer (primed_page 0x10001)) stored_whole }
