-- What the entries for C answer and leave: the moves of transfer with the page pointers that the total needs.
use Rattle.std.specs.Prelude.{ℕ, ◌+◌, ◌*◌, List}
use Rattle.bus.specs.Checked.{Poked}
use Rattle.bus.specs.Memory.{Memory}
use Rattle.bus.specs.Stores.{BusStep, reading}
use Rattle.transfer.specs.Transfer.{pointers_for}
use Rattle.transfer.specs.Checked.{checked_received, checked_sending, sent}

-- the area after a move in of the first n bytes of the dTD at td
unfoldable pub metered : Memory → ℕ → ℕ → List ℕ → List ℕ
metered m td n out = checked_received m (pointers_for m td n) n out 0

-- what a move out of the first n bytes of s to the dTD at td does to the bus
unfoldable pub metering : ℕ → List ℕ → ℕ → BusStep
metering td s n = reading (λ m. pointers_for m td n) (λ ps. checked_sending ps s n)

-- a refusal's number and a count of dropped bytes in one word: a count is at most 32,767
unfoldable pub packed : Poked → ℕ
packed p = 65536 * p.refusal + p.dropped

-- the answer of that move out
unfoldable pub answered : Memory → ℕ → List ℕ → ℕ → ℕ
answered m td s n = packed (sent m (pointers_for m td n) s n)
