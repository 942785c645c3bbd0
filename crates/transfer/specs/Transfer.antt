-- The data of one transfer descriptor (dTD): its page pointers, the address of each byte, and the bytes that move (document 01, "Queue head and dTD"; usbhost.rs 558-583).
use Rattle.std.specs.Prelude.{ℕ, zero, suc, ◌+◌, ◌-◌, ◌*◌, ◌/◌, ◌%◌, List, [], ◌∷◌, ◌++◌, take, drop, bit_and, nat_le, nat_lt, slice_index, slice_index_or}
use Rattle.bits.specs.Pick.{pick}
use Rattle.bits.specs.Word.{clear}
use Rattle.bus.specs.Memory.{Memory, after, peek8, peek32, poke8, dropped8}
use Rattle.bus.specs.Stores.{Store, byte, BusStep}

-- the list of f 0, f 1, .., f (n - 1)
unfoldable pub tabulate : ℕ → (ℕ → ℕ) → List ℕ
tabulate zero f = []
tabulate (suc n) f = f zero ∷ tabulate n (λ k. f (suc k))

-- usbhost.rs 559, 566: the nine page pointers of the dTD at td, as many as a total of 32,767 bytes can use (document 01)
unfoldable pub pointers : Memory → ℕ → List ℕ
pointers m td =
    peek32 m (after td 8) ∷ peek32 m (after td 12) ∷ peek32 m (after td 16) ∷ peek32 m (after td 20)
    ∷ peek32 m (after td 24) ∷ peek32 m (after td 28) ∷ peek32 m (after td 32) ∷ peek32 m (after td 36)
    ∷ peek32 m (after td 40) ∷ []

-- 559, 566: the same list without the pointers to pages that begin behind the data's end: 0 stands for those, and no byte of the first total needs one (laws addr-for, bytes-for, sending-for)
unfoldable pub pointers_for : Memory → ℕ → ℕ → List ℕ
pointers_for m td total =
    tabulate 9 (λ i. pick (nat_le (4096 * i) (peek32 m (after td 8) % 4096 + total)) (peek32 m (after td (8 + 4 * i))) 0)

-- 560-568: the address of byte k in the source's own words: up to its page's end behind the first pointer, then by whole pages
unfoldable pub source_addr : List ℕ → ℕ → ℕ
source_addr ps k =
    let p0 = slice_index_or ps 0 0 in
    let first = 4096 - bit_and p0 0xFFF in
    pick (nat_lt k first) (p0 + k) (clear (slice_index ps (1 + (k - first) / 4096)) 0xFFF + (k - first) % 4096)

-- 560-568: the same address without masks and cases (law addr-source): pages of 4,096 bytes, counted from the start of the first pointer's page
unfoldable pub data_addr : List ℕ → ℕ → ℕ
data_addr ps k =
    let x = slice_index ps 0 % 4096 + k in
    slice_index ps (x / 4096) / 4096 * 4096 + x % 4096

-- 571-575: the first n bytes that the device sends
unfoldable pub bytes_in : Memory → List ℕ → ℕ → List ℕ
bytes_in m ps n = tabulate n (λ k. peek8 m (data_addr ps k))

-- 571-575: n of those bytes, from byte s on (law from-in)
unfoldable pub bytes_from : Memory → List ℕ → ℕ → ℕ → List ℕ
bytes_from m ps s n = tabulate n (λ k. peek8 m (data_addr ps (s + k)))

-- 574: an area with the first n bytes that the device sends in it, from index at on
unfoldable pub received : Memory → List ℕ → ℕ → List ℕ → ℕ → List ℕ
received m ps n out at = take at out ++ bytes_in m ps n ++ drop (at + n) out

-- 579-581: the stores of bytes k to k + n - 1 of s
unfoldable pub stores : List ℕ → List ℕ → ℕ → ℕ → List Store
stores ps s k zero = []
stores ps s k (suc n) = byte (data_addr ps k) (slice_index s k) ∷ stores ps s (suc k) n

-- 576-581: what sending the first n bytes of s to the device does, byte by byte in their order
unfoldable pub sending : List ℕ → List ℕ → ℕ → BusStep
sending ps s n b = stores ps s 0 n

-- 579-581: the memory that it leaves (law sending-is)
unfoldable pub written : Memory → List ℕ → List ℕ → ℕ → Memory
written m ps s zero = m
written m ps s (suc n) = poke8 (written m ps s n) (data_addr ps n) (slice_index s n)

-- 579-581: how many of the n bytes no window takes (law sending-dropped)
unfoldable pub dropped_out : List ℕ → ℕ → ℕ
dropped_out ps zero = 0
dropped_out ps (suc n) = dropped_out ps n + dropped8 (data_addr ps n)
