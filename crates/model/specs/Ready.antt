-- What "primed", "next descriptor" and "active" are, in the bits of registers and of words of memory (demand 3; document 01, "Queue head and dTD";
-- usbhost.rs 514-551, 858-866; MCF5441x Reference Manual, USB OTG: EPSR, EPLISTADDR, dQH, dTD).
use Rattle.std.specs.Prelude.{ℕ, ◌+◌, ◌*◌, ◌/◌, ◌%◌, ◌^◌, ◌≤◌, ◌<◌, ◌≡◌, true, List}
use Rattle.bits.specs.Pick.{pick}
use Rattle.bus.specs.Memory.{Memory, peek32}
use Rattle.bus.specs.Words.{word_at}
use Rattle.dtd.specs.Dtd.{Endpoint, endpoint}

-- 537-538: the endpoint's bit of EPSR, the word at 1B8 of the register page, is set: its number's, or 16 more where it is from the device
abbrev pub Primed : Endpoint → List ℕ → Type 0
Primed e page = word_at page 0x1B8 / 2 ^ pick e.input (16 + e.number) e.number % 2 ≡ 1

-- 514-516: queue heads of 64 bytes stand from the address in bits 11 to 31 of EPLISTADDR on, the word at 158 of the page: two for each endpoint,
-- that towards the device first
abbrev pub head_address : Endpoint → List ℕ → ℕ
head_address e page = word_at page 0x158 / 2 ^ 11 % 2 ^ 21 * 2 ^ 11 + (128 * e.number + pick e.input 64 0)

-- the word k bytes behind an address, modulo 2^32
abbrev pub word_behind : Memory → ℕ → ℕ → ℕ
word_behind m a k = peek32 m ((a + k) % 2 ^ 32)

-- the address of the descriptor that a pointer names, its bits 5 to 31, and that of its token
abbrev pub descriptor_address : ℕ → ℕ
descriptor_address n = n / 2 ^ 5 % 2 ^ 27 * 2 ^ 5

abbrev pub token_address : ℕ → ℕ
token_address n = descriptor_address n + 4

-- 521-531: n is the pointer to the next descriptor of the queue head at h: the overlay's next pointer (at 8); where that has bit 0 set, the next
-- pointer of the descriptor that the current pointer (at 4) names; where that names none either, 1
pub data NextOf (h : ℕ) (m : Memory) (n : ℕ) : Type 0 where
  overlay : word_behind m h 8 % 2 ≡ 0 → n ≡ word_behind m h 8 → NextOf h m n
  current : word_behind m h 8 % 2 ≡ 1 → 0 < descriptor_address (word_behind m h 4) → n ≡ peek32 m (descriptor_address (word_behind m h 4)) → NextOf h m n
  none : word_behind m h 8 % 2 ≡ 1 → descriptor_address (word_behind m h 4) ≡ 0 → n ≡ 1 → NextOf h m n

-- 547-551: bit 0 of the pointer to the next descriptor is clear, and bit 7 of its token is set
pub record Active (e : Endpoint) (m : Memory) : Type 0 where
  pub pointer : ℕ
  pub next : NextOf (head_address e m.page) m pointer
  pub there : pointer % 2 ≡ 0
  pub active : peek32 m (token_address pointer) / 2 ^ 7 % 2 ≡ 1

-- 858-866: where the audio input endpoint is primed and has a next descriptor, active or not, its total, bits 16 to 30 of its token, is at most the
-- budget and 368 bytes more
abbrev pub Within : ℕ → Memory → Type 0
Within budget m =
    (p : ℕ) → Primed (endpoint 3 true) m.page → NextOf (head_address (endpoint 3 true) m.page) m p → p % 2 ≡ 0
    → peek32 m (token_address p) / 2 ^ 16 % 2 ^ 15 ≤ (budget + 368) % 2 ^ 64
