-- Queue heads and transfer descriptors (dTDs): what a run over an endpoint's list stores, in order, and what it answers
-- (document 01, "Queue head and dTD"; usbhost.rs 514-621; MCF5441x Reference Manual, USB OTG: dQH, dTD).
use Rattle.std.specs.Prelude.{ℕ, zero, suc, ◌+◌, ◌*◌, ◌/◌, ◌^◌, min, Bool, false, not, ◌&&◌, ◌||◌, List, [], ◌∷◌, ◌++◌, length, drop, ◌==◌}
use Rattle.bits.specs.Pick.{pick}
use Rattle.bits.specs.Word.{clear, set, any, replace}
use Rattle.bus.specs.Memory.{Memory, after, peek32}
use Rattle.bus.specs.Words.{word_at}
use Rattle.bus.specs.Steps.{exec}
use Rattle.bus.specs.Stores.{Bus, Store, store, stored, BusStep, ◌then◌, putting, reading, when}
use Rattle.usbdev.specs.Offsets.{FRINDEX, EPLISTADDR, EPSR, EPCOMPLETE}
use Rattle.usbdev.specs.Registers.{PageStep, put, lifted, raising}
use Rattle.usbdev.specs.Transfer.{total_of, token_after}
use Rattle.transfer.specs.Transfer.{pointers, bytes_in, sending}
use Rattle.dtd.specs.declared.Found.{Found}
use Rattle.dtd.specs.declared.Found.TheVariants.{Unprimed, Ended, Active}

-- ---- endpoints and queue heads

-- an endpoint's number and direction; input is from the device to the host
pub record Endpoint : Type 0 where
  pub number : ℕ
  pub input : Bool

abbrev pub endpoint : ℕ → Bool → Endpoint
endpoint n input = record { number = n; input = input }

-- 537: its bit of EPSR and EPCOMPLETE
abbrev pub bit_of : Endpoint → ℕ
bit_of e = pick e.input (2 ^ (16 + e.number)) (2 ^ e.number)

-- 538: the endpoint is primed, by the register page (peek32-register: a word of the page is what the source reads at its address)
unfoldable pub primed : Endpoint → List ℕ → Bool
primed e p = any (word_at p EPSR) (bit_of e)

-- 514-516: the address of its queue head, 64 bytes each from EPLISTADDR on, OUT before IN
unfoldable pub queue_head : Endpoint → List ℕ → ℕ
queue_head e p = clear (word_at p EPLISTADDR) 0x7FF + 64 * (2 * e.number + pick e.input 1 0)

-- ---- descriptors, by the pointer n that names one

-- a word of memory
abbrev pub at : ℕ → Memory → ℕ
at a m = peek32 m a

-- 523, 547: bit 0 of a pointer: no descriptor
abbrev pub terminates : ℕ → Bool
terminates n = any n 1

-- 549: the address of the descriptor; the low five bits of a pointer are no part of it
abbrev pub descriptor : ℕ → ℕ
descriptor n = clear n 0x1F

-- 550: its token
abbrev pub token_of : ℕ → Memory → ℕ
token_of n m = peek32 m (after (descriptor n) 4)

-- a token's active bit (551) and interrupt bit, IOC (597)
abbrev pub is_active : ℕ → Bool
is_active tok = any tok 0x80

abbrev pub interrupts : ℕ → Bool
interrupts tok = any tok 0x8000

-- 521-531: the next descriptor's pointer: the overlay's, or, where that terminates, the current descriptor's own; 1 where there is none
unfoldable pub next_of : ℕ → Memory → ℕ
next_of qh m =
    pick (terminates (peek32 m (after qh 8)))
    (pick (descriptor (peek32 m (after qh 4)) == 0) 1 (peek32 m (descriptor (peek32 m (after qh 4)))))
    (peek32 m (after qh 8))

abbrev pub next_dtd : Endpoint → Memory → ℕ
next_dtd e m = next_of (queue_head e m.page) m

-- demand 3's words: the next descriptor is there and active
unfoldable pub next_active : Endpoint → Memory → Bool
next_active e m = not (terminates (next_dtd e m)) && is_active (token_of (next_dtd e m) m)

-- ---- one descriptor

-- 571, 577: how many bytes it moves; bs is what the host has to send
unfoldable pub moves : Endpoint → ℕ → List ℕ → ℕ
moves e tok bs = pick e.input (total_of tok) (min (total_of tok) (length bs))

-- 572-575: the bytes that an input descriptor gives
unfoldable pub bytes_of : Endpoint → ℕ → Memory → List ℕ
bytes_of e n m = pick e.input (bytes_in m (pointers m (descriptor n)) (total_of (token_of n m))) []

-- 576-582: what an output descriptor takes; its pointers are all read before any byte moves
unfoldable pub data_out : Endpoint → ℕ → ℕ → List ℕ → BusStep
data_out e n tok bs =
    when (not e.input) (reading (λ m. pointers m (descriptor n)) (λ ps. sending ps bs (moves e tok bs)))

-- 592: a second pointer with the frame number (FRINDEX without its three low bits) in its low 11 bits
unfoldable pub framed : ℕ → ℕ → ℕ
framed p frindex = replace p 0x7FF (frindex / 2 ^ 3)

-- 585-593: token, frame number, current pointer
unfoldable pub closing : ℕ → ℕ → ℕ → ℕ → BusStep
closing qh n tok moved =
    putting (after (descriptor n) 4) (token_after tok moved)
    then reading (at (after (descriptor n) 12)) (λ p. reading (λ m. word_at m.page FRINDEX) (λ fr. putting (after (descriptor n) 12) (framed p fr)))
    then putting (after qh 4) (descriptor n)

-- 597-601: the completion bit, where the token asks for an interrupt
unfoldable pub completing : ℕ → ℕ → PageStep
completing tok bit r = pick (interrupts tok) (put EPCOMPLETE (set (word_at r.page EPCOMPLETE) bit) ∷ []) []

-- 594-601: next pointer, token copy, completion bit
unfoldable pub advancing : ℕ → ℕ → ℕ → ℕ → BusStep
advancing qh n tok bit =
    reading (at (descriptor n)) (λ x. putting (after qh 8) x)
    then reading (at (after (descriptor n) 4)) (λ t. putting (after qh 12) t)
    then lifted (completing tok bit)

-- what retiring a descriptor stores once its bytes have moved
unfoldable pub retiring : ℕ → ℕ → ℕ → ℕ → ℕ → BusStep
retiring qh n tok moved bit = closing qh n tok moved then advancing qh n tok bit

-- 594: the pointer read on the way, after token, frame number and current pointer
unfoldable pub followed : ℕ → ℕ → ℕ → ℕ → Bus → ℕ
followed qh n tok moved b = peek32 (exec store (closing qh n tok moved) b).memory (descriptor n)

-- 558-601: the whole of one descriptor: its data, and then its retirement
unfoldable pub turning : Endpoint → ℕ → ℕ → List ℕ → BusStep
turning e qh n bs b =
    (data_out e n (token_of n b.memory) bs
    then retiring qh n (token_of n b.memory) (moves e (token_of n b.memory) bs) (bit_of e)) b

-- 602: the pointer that the run goes on with
unfoldable pub following : Endpoint → ℕ → ℕ → List ℕ → Bus → ℕ
following e qh n bs b =
    followed qh n (token_of n b.memory) (moves e (token_of n b.memory) bs) (exec store (data_out e n (token_of n b.memory) bs) b)

-- ---- a run over a list of descriptors

-- what it leaves: its stores in order, the bytes read, whether a completion was flagged, the pointer it ended at, how many bytes moved,
-- and how many descriptors were retired
pub record Run : Type 0 where
  pub stores : List Store
  pub bytes : List ℕ
  pub done : Bool
  pub last : ℕ
  pub moved : ℕ
  pub retired : ℕ

-- a run that retires nothing and ends at the pointer n
abbrev pub ended : ℕ → Run
ended n = record { stores = []; bytes = []; done = false; last = n; moved = 0; retired = 0 }

-- the descriptor n, and then the rest of the run
unfoldable pub joined : Endpoint → ℕ → ℕ → List ℕ → Bus → Run → Run
joined e qh n bs b r =
    record {
      stores = turning e qh n bs b ++ r.stores;
      bytes = bytes_of e n b.memory ++ r.bytes;
      done = interrupts (token_of n b.memory) || r.done;
      last = r.last;
      moved = moves e (token_of n b.memory) bs + r.moved;
      retired = 1 + r.retired;
    }

-- 547-609: at most k descriptors from the pointer n on; one that is not active ends the list
unfoldable pub turns : ℕ → Endpoint → ℕ → ℕ → List ℕ → Bus → Run
turns zero e qh n bs b = ended n
turns (suc k) e qh n bs b =
    pick (terminates n) (ended n)
    (pick (is_active (token_of n b.memory))
    (joined e qh n bs b
    (turns k e qh (following e qh n bs b) (drop (moves e (token_of n b.memory) bs) bs) (exec store (turning e qh n bs) b)))
    (ended 1))

-- 547, 606: endpoint 0 retires at most 64, any other at most one
abbrev pub most : Endpoint → ℕ
most e = pick (e.number == 0) 64 1

-- 613: the next descriptor is none, or is not active
unfoldable pub list_ends : ℕ → Memory → Bool
list_ends n m = terminates n || not (is_active (token_of n m))

-- 613-616: the endpoint's bit of EPSR goes where its list ends
unfoldable pub unpriming : Bool → ℕ → PageStep
unpriming ends bit r = pick ends (put EPSR (clear (word_at r.page EPSR) bit) ∷ []) []

-- 617-619: a flagged completion raises UI, bit 0 of USBSTS
unfoldable pub reporting : Bool → PageStep
reporting done r = pick done (raising 1 r) []

-- 613-619: what follows the last descriptor of a run that ended at the pointer n: its stores, and the run with them
unfoldable pub settling : ℕ → ℕ → Bool → BusStep
settling bit n done = reading (list_ends n) (λ ends. lifted (unpriming ends bit)) then lifted (reporting done)

unfoldable pub settled : Endpoint → Bus → Run → Run
settled e b r =
    record {
      stores = r.stores ++ settling (bit_of e) r.last r.done (stored r.stores b);
      bytes = r.bytes;
      done = r.done;
      last = r.last;
      moved = r.moved;
      retired = r.retired;
    }

-- 536-621: `run_dtds`; an endpoint that is not primed does nothing
unfoldable pub run_dtds : Endpoint → List ℕ → Bus → Run
run_dtds e bs b =
    pick (primed e b.memory.page)
    (settled e b (turns (most e) e (queue_head e b.memory.page) (next_dtd e b.memory) bs b))
    (ended 1)

-- ---- runs of at most one descriptor, in the parts that the host takes

-- the retirement of the one descriptor, and what follows it
unfoldable pub finishing : ℕ → ℕ → ℕ → ℕ → ℕ → BusStep
finishing qh n tok moved bit b =
    (retiring qh n tok moved bit then settling bit (followed qh n tok moved b) (interrupts tok)) b

-- an active descriptor of an endpoint, by its queue head, the pointer that names it, and its token
abbrev pub active : Endpoint → ℕ → ℕ → ℕ → Found
active e qh n tok = Active (record { queue_head = qh; pointer = n; token = tok; bit = bit_of e })

-- the endpoint is not primed; or its list ends; or its next descriptor is active
unfoldable pub found : Endpoint → Memory → Found
found e m =
    pick (primed e m.page)
    (pick (next_active e m) (active e (queue_head e m.page) (next_dtd e m) (token_of (next_dtd e m) m)) Ended)
    Unprimed
