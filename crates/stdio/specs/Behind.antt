-- What a call puts into an output.
use Rattle.std.specs.Prelude.{◌≡◌, ℕ, ◌+◌, ◌≤◌, List, length}
use Rattle.stdio.specs.Held as H
use Rattle.stdio.specs.Held.{Held}

-- at most n bytes more stand behind those held, where the buffer has room for so many
pub record Behind (n : ℕ) (old new : Held) : Type 0 where
  pub more : length old.bytes + n ≤ 65536 → (bytes : List ℕ) × ((length bytes ≤ n) × (new ≡ H.more old bytes))
