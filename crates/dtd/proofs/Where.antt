-- A run stores nowhere else, and retires no more than its endpoint may.
use Rattle.std.proofs.Common.{ℕ, zero, suc, ◌≤◌, Bool, not, List, [], ◌∷◌, ◌++◌, map, drop, arith}
use Rattle.bits.specs.Pick.{pick_both}
use Rattle.bus.specs.Steps.{exec, and_then}
use Rattle.bus.specs.Stores.{Bus, Store, store, putting, when}
use Rattle.usbdev.specs.Registers as usb
use Rattle.usbdev.specs.Registers.{registers, PageStore, on_bus, lifted, setting}
use Rattle.transfer.specs.Transfer.{pointers, stores, sending}
use Rattle.dtd.specs.Dtd.{Endpoint, bit_of, primed, queue_head, next_dtd, terminates, token_of, is_active, interrupts, moves, data_out, closing, completing, advancing, retiring, turning, following, Run, joined, turns, most, list_ends, unpriming, reporting, settling, settled, run_dtds}
use Rattle.dtd.specs.Where.{May, data_byte, token, frame, current, next, copy, completed, unprimed, raised, line, All}

module _ (qh : ℕ) where
  all_append : (ss us : List Store) → All (May qh) ss → All (May qh) us → All (May qh) (ss ++ us)
  unfolding All
  all_append [] us p q = q
  all_append (s ∷ ss) us p q = (p.0, all_append ss us p.1 q)

  may_send : (ps bs : List ℕ) (k n : ℕ) → All (May qh) (stores ps bs k n)
  unfolding All stores
  may_send ps bs k zero = tt
  may_send ps bs k (suc n) = (data_byte _ _, may_send ps bs (suc k) n)

  may_data : (e : Endpoint) (n tok : ℕ) (bs : List ℕ) (b : Bus) → All (May qh) (data_out e n tok bs b)
  unfolding All data_out when sending
  may_data e n tok bs b =
      pick_both (λ (ss : List Store). All (May qh) ss) (not e.input) (may_send (pointers b.memory _) bs 0 (moves e tok bs)) tt

  may_close : (n tok moved : ℕ) (b : Bus) → All (May qh) (closing qh n tok moved b)
  unfolding All closing and_then putting
  may_close n tok moved b = (token n _, (frame n _, (current _, tt)))

  may_complete : (tok bit : ℕ) (p : List ℕ) (l : Bool) → All (May qh) (map on_bus (completing tok bit (registers p l)))
  unfolding All completing on_bus
  may_complete tok bit p l =
      pick_both (λ (ss : List PageStore). All (May qh) (map on_bus ss)) (interrupts tok) (completed _, tt) tt

  may_advance : (n tok bit : ℕ) (b : Bus) → All (May qh) (advancing qh n tok bit b)
  unfolding All advancing and_then putting
  may_advance n tok bit b = (next _, (copy _, may_complete tok bit _ _))

  may_turn : (e : Endpoint) (n : ℕ) (bs : List ℕ) (b : Bus) → All (May qh) (turning e qh n bs b)
  unfolding turning retiring and_then
  may_turn e n bs b =
      all_append (data_out e n (token_of n b.memory) bs b) _ (may_data e n (token_of n b.memory) bs b)
      (all_append (closing qh n (token_of n b.memory) (moves e (token_of n b.memory) bs) _) _
      (may_close n (token_of n b.memory) (moves e (token_of n b.memory) bs) _) (may_advance n (token_of n b.memory) (bit_of e) _))

  may_turns : (k : ℕ) (e : Endpoint) (n : ℕ) (bs : List ℕ) (b : Bus) → All (May qh) (turns k e qh n bs b).stores
  unfolding turns joined All
  may_turns zero e n bs b = tt
  may_turns (suc k) e n bs b =
      pick_both (λ (r : Run). All (May qh) r.stores) (terminates n) tt
      (pick_both (λ (r : Run). All (May qh) r.stores) (is_active (token_of n b.memory))
      (all_append (turning e qh n bs b) _ (may_turn e n bs b) (may_turns k e (following e qh n bs b) (drop (moves e (token_of n b.memory) bs) bs) (exec store (turning e qh n bs) b)))
      tt)

  may_unprime : (ends : Bool) (bit : ℕ) (p : List ℕ) (l : Bool) → All (May qh) (map on_bus (unpriming ends bit (registers p l)))
  unfolding All unpriming on_bus
  may_unprime ends bit p l = pick_both (λ (ss : List PageStore). All (May qh) (map on_bus ss)) ends (unprimed _, tt) tt

  may_report : (done : Bool) (p : List ℕ) (l : Bool) → All (May qh) (map on_bus (reporting done (registers p l)))
  unfolding All reporting on_bus and_then setting usb.following
  may_report done p l = pick_both (λ (ss : List PageStore). All (May qh) (map on_bus ss)) done (raised _, (line _, tt)) tt

  may_settle : (bit n : ℕ) (done : Bool) (b : Bus) → All (May qh) (settling bit n done b)
  unfolding settling and_then
  may_settle bit n done b =
      all_append (lifted (unpriming (list_ends n b.memory) bit) b) _ (may_unprime (list_ends n b.memory) bit _ _) (may_report done _ _)

-- every store of a run is one of these, with the queue head as the run found it
pub run_where : (e : Endpoint) (bs : List ℕ) (b : Bus) → All (May (queue_head e b.memory.page)) (run_dtds e bs b).stores
unfolding run_dtds settled All
run_where e bs b =
    pick_both (λ (r : Run). All (May (queue_head e b.memory.page)) r.stores) (primed e b.memory.page)
    (all_append (queue_head e b.memory.page) (turns (most e) e (queue_head e b.memory.page) (next_dtd e b.memory) bs b).stores _
    (may_turns (queue_head e b.memory.page) (most e) e (next_dtd e b.memory) bs b) (may_settle (queue_head e b.memory.page) (bit_of e) _ _ _))
    tt

-- ---- how many descriptors are retired

turns_few : (k : ℕ) (e : Endpoint) (qh n : ℕ) (bs : List ℕ) (b : Bus) → (turns k e qh n bs b).retired ≤ k
unfolding turns joined
turns_few zero e qh n bs b = omega arith
turns_few (suc k) e qh n bs b =
    pick_both (λ (r : Run). r.retired ≤ suc k) (terminates n) (omega arith)
    (pick_both (λ (r : Run). r.retired ≤ suc k) (is_active (token_of n b.memory))
    (omega (arith, turns_few k e qh (following e qh n bs b) (drop (moves e (token_of n b.memory) bs) bs) (exec store (turning e qh n bs) b)))
    (omega arith))

-- endpoint 0 at most 64, any other at most one
pub run_few : (e : Endpoint) (bs : List ℕ) (b : Bus) → (run_dtds e bs b).retired ≤ most e
unfolding run_dtds settled
run_few e bs b =
    pick_both (λ (r : Run). r.retired ≤ most e) (primed e b.memory.page)
    (turns_few (most e) e (queue_head e b.memory.page) (next_dtd e b.memory) bs b) (omega arith)
