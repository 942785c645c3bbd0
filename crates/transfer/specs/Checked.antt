-- Moves of a transfer's data with windows and areas of any lengths: refused with a number, and then nothing is changed, or what the definitions say.
use Rattle.std.specs.Prelude.{ℕ, ◌+◌, Bool, ◌&&◌, List, length, ◌==◌, nat_le}
use Rattle.bits.specs.Pick.{pick}
use Rattle.bus.specs.Checked.{Poked}
use Rattle.bus.specs.Memory.{Memory}
use Rattle.bus.specs.Sized.{is_sized}
use Rattle.bus.specs.Stores.{BusStep, dropped_by, when}
use Rattle.transfer.specs.Transfer.{bytes_from, received, stores, sending}

-- a count is at most a total's largest, and an area of size bytes has that many from index at on
abbrev pub fits : ℕ → ℕ → ℕ → Bool
fits at n size = nat_le n 32767 && nat_le (at + n) size

-- 1 for the windows' lengths, 2 for the count or the area, 0 where the move is accepted
unfoldable pub refusal : Memory → ℕ → ℕ → ℕ → ℕ
refusal m at n size = pick (is_sized m) (pick (fits at n size) 0 2) 1

-- the area after a move in
unfoldable pub checked_received : Memory → List ℕ → ℕ → List ℕ → ℕ → List ℕ
checked_received m ps n out at = pick (refusal m at n (length out) == 0) (received m ps n out at) out

-- the area after a move in of the bytes from byte s on, which lie below a total's largest
unfoldable pub checked_from : Memory → List ℕ → ℕ → List ℕ → List ℕ
checked_from m ps s out = pick (refusal m s (length out) 32767 == 0) (bytes_from m ps s (length out)) out

-- what a move out does to the bus
unfoldable pub checked_sending : List ℕ → List ℕ → ℕ → BusStep
checked_sending ps s n b = when (refusal b.memory 0 n (length s) == 0) (sending ps s n) b

-- the answer of a move out: its number, and how many bytes no window took
unfoldable pub sent : Memory → List ℕ → List ℕ → ℕ → Poked
sent m ps s n =
    record {
      refusal = refusal m 0 n (length s);
      dropped = pick (refusal m 0 n (length s) == 0) (dropped_by (stores ps s 0 n)) 0;
    }
