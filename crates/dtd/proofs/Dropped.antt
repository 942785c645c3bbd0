-- How many bytes a run moves, and how many of its bytes no window takes, by the descriptors that it retires: a total has at most 32,767 bytes, and a
-- retirement stores five words outside the page (usbhost.rs 558-601).
use Rattle.std.proofs.Common.{◌≡◌, ℕ, zero, suc, ◌+◌, ◌*◌, ◌≤◌, Bool, not, List, drop, refl, arith}
use Rattle.bits.specs.Pick.{pick_both}
use Rattle.bus.specs.Steps.{exec, and_then}
use Rattle.bus.specs.Stores.{Bus, Store, store, dropped, dropped_by, dropped_append, putting, when}
use Rattle.usbdev.proofs.Laws.{none_dropped}
use Rattle.transfer.specs.Transfer.{pointers}
use Rattle.dtd.specs.Dtd.{Endpoint, primed, queue_head, next_dtd, terminates, descriptor, token_of, is_active, moves, data_out, closing, advancing, retiring, turning, following, Run, ended, joined, turns, most, settling, settled, run_dtds}
use Rattle.dtd.proofs.Laws.{dropped32_le, inside_completing, inside_unpriming, inside_reporting}
use Rattle.dtd.proofs.Runs.{moves_few, lost_few}

-- ---- one descriptor

data_few : (e : Endpoint) (n tok : ℕ) (bs : List ℕ) (b : Bus) → dropped_by (data_out e n tok bs b) ≤ moves e tok bs
unfolding data_out when dropped_by
data_few e n tok bs b =
    pick_both (λ (ss : List Store). dropped_by ss ≤ moves e tok bs) (not e.input) (lost_few (pointers b.memory (descriptor n)) bs (moves e tok bs) b refl) (omega arith)

close_dropped : (qh n tok moved : ℕ) (b : Bus) → dropped_by (closing qh n tok moved b) ≤ 12
unfolding closing and_then putting dropped_by dropped
close_dropped qh n tok moved b = grind (arith, dropped32_le)

advance_dropped : (qh n tok bit : ℕ) (b : Bus) → dropped_by (advancing qh n tok bit b) ≤ 8
unfolding advancing and_then putting dropped_by dropped
advance_dropped qh n tok bit b = grind (arith, dropped32_le, none_dropped, inside_completing)

turn_dropped : (e : Endpoint) (qh n : ℕ) (bs : List ℕ) (b : Bus) → dropped_by (turning e qh n bs b) ≤ moves e (token_of n b.memory) bs + 20
unfolding turning retiring and_then
turn_dropped e qh n bs b = grind (arith, dropped_append, data_few, close_dropped, advance_dropped)

-- ---- a run

-- what it moves, and what is dropped of it
pub record Bounded (r : Run) : Type 0 where
  pub moves : r.moved ≤ 32767 * r.retired
  pub drops : dropped_by r.stores ≤ r.moved + 20 * r.retired

none_bounded : (n : ℕ) → Bounded (ended n)
unfolding dropped_by
none_bounded n = record { moves = omega arith; drops = omega arith }

joined_bounded : (e : Endpoint) (qh n : ℕ) (bs : List ℕ) (b : Bus) (r : Run) → Bounded r → Bounded (joined e qh n bs b r)
unfolding joined
joined_bounded e qh n bs b r p = record { moves = grind (arith, moves_few, p.moves); drops = grind (arith, dropped_append, turn_dropped, p.drops) }

turns_bounded : (k : ℕ) (e : Endpoint) (qh n : ℕ) (bs : List ℕ) (b : Bus) → Bounded (turns k e qh n bs b)
unfolding turns
turns_bounded zero e qh n bs b = none_bounded n
turns_bounded (suc k) e qh n bs b =
    pick_both Bounded (terminates n) (none_bounded n)
    (pick_both Bounded (is_active (token_of n b.memory))
    (joined_bounded e qh n bs b _
    (turns_bounded k e qh (following e qh n bs b) (drop (moves e (token_of n b.memory) bs) bs) (exec store (turning e qh n bs) b)))
    (none_bounded 1))

none_settling : (bit n : ℕ) (done : Bool) (b : Bus) → dropped_by (settling bit n done b) ≡ 0
unfolding settling and_then
none_settling bit n done b = grind (arith, dropped_append, none_dropped, inside_unpriming, inside_reporting)

settled_bounded : (e : Endpoint) (b : Bus) (r : Run) → Bounded r → Bounded (settled e b r)
unfolding settled
settled_bounded e b r p = record { moves = p.moves; drops = grind (arith, dropped_append, none_settling, p.drops) }

pub run_bounded : (e : Endpoint) (bs : List ℕ) (b : Bus) → Bounded (run_dtds e bs b)
unfolding run_dtds
run_bounded e bs b =
    pick_both Bounded (primed e b.memory.page)
    (settled_bounded e b _ (turns_bounded (most e) e (queue_head e b.memory.page) (next_dtd e b.memory) bs b))
    (none_bounded 1)
