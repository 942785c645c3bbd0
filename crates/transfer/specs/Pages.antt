-- Runs of bytes at addresses that follow each other, as the bytes of a transfer do within a page of 4,096 bytes (usbhost.rs 560-581).
use Rattle.std.specs.Prelude.{ℕ, zero, suc, ◌+◌, List, slice_index}
use Rattle.bus.specs.Memory.{Memory, peek8, poke8}
use Rattle.transfer.specs.Transfer.{tabulate}

-- the n bytes from address a on
unfoldable pub run_in : Memory → ℕ → ℕ → List ℕ
run_in m a n = tabulate n (λ k. peek8 m (a + k))

-- the memory with the first n bytes of s written, in order, from address a on
unfoldable pub run_out : Memory → ℕ → List ℕ → ℕ → Memory
run_out m a s zero = m
run_out m a s (suc n) = poke8 (run_out m a s n) (a + n) (slice_index s n)
