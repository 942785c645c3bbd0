-- A run of at most one descriptor reads at most 32,767 bytes, on every endpoint.
use Prim.Native.Nat.{ℕ, ◌≤◌}
use mathlib.Core.Path.{◌≡◌, refl}
use mathlib.Core.Bool.{Bool, true, false, ◌&&◌}
use mathlib.Core.List.{List}
use native.Mathlib.Omega.{arith}
use lib.ListN.{length}
use Rattle.bits.specs.Pick.{pick_both}
use Rattle.bus.specs.Memory.{Memory}
use Rattle.bus.specs.Stores.{Bus}
use Rattle.usbdev.specs.Transfer.{total_of}
use Rattle.usbdev.proofs.Tokens.{total_lt}
use Rattle.transfer.specs.Transfer.{pointers}
use Rattle.transfer.proofs.Laws.{length_bytes_in}
use Rattle.dtd.specs.Dtd.{Endpoint, run_dtds, most, next_active, primed, next_dtd, token_of, descriptor, bytes_of, queue_head}
use Rattle.dtd.proofs.Runs.{IsActive, active_bytes, idle_run}
use Rattle.bits.proofs.Tests.{and_first, and_second}

bytes_le : (e : Endpoint) (n : ℕ) (m : Memory) → length (bytes_of e n m) ≤ 32767
unfolding bytes_of
bytes_le e n m =
    let t = total_lt (token_of n m) in
    pick_both (λ (bs : List ℕ). length bs ≤ 32767) e.input
    (omega (arith, t, length_bytes_in m (pointers m (descriptor n)) (total_of (token_of n m))))
    (omega arith)

pub run_bytes : (e : Endpoint) → most e ≡ 1 → (bs : List ℕ) (b : Bus) → length (run_dtds e bs b).bytes ≤ 32767
run_bytes e single bs b = by_ready (primed e b.memory.page && next_active e b.memory) refl
  where
    by_ready : (t : Bool) → (primed e b.memory.page && next_active e b.memory) ≡ t → length (run_dtds e bs b).bytes ≤ 32767
    by_ready true r =
        let is : IsActive e b.memory (queue_head e b.memory.page) (next_dtd e b.memory) (token_of (next_dtd e b.memory) b.memory) =
        record { prime = and_first _ _ r; active = and_second (primed e b.memory.page) _ r; head = refl; next = refl; token = refl } in
        rw (active_bytes e bs b single _ _ _ is) (bytes_le e _ b.memory)
    by_ready false r = rw (idle_run e bs b single r).bytes (omega arith)
