-- What a run of at most one descriptor is, by what stands before it.
use Rattle.std.proofs.Common.{◌≡◌, ℕ, ◌<◌, ◌≤◌, ◌-◌, Bool, drop, take, true, false, not, ◌&&◌, List, [], length, sym, refl, ap, ◌∙◌, subst, ap₂, append_assoc, append-nil, Ok, arith, ne_eqb}
use Rattle.bits.specs.Pick.{pick, pick_both}
use Rattle.bits.proofs.Tests.{or_false}
use Rattle.bus.specs.Memory.{Memory}
use Rattle.bus.specs.Steps.{and_then, replay_append}
use Rattle.bus.specs.Sized.{Sized}
use Rattle.bus.specs.Stores.{Bus, bus, dropped_by, ◌then◌, nothing, when, Does}
use Rattle.bus.proofs.Storing.{does_nothing, does_then, does_as}
use Rattle.usbdev.specs.Transfer.{total_of}
use Rattle.transfer.specs.Transfer.{pointers, pointers_for, bytes_in, sending}
use Rattle.transfer.proofs.Addresses.{sending_for}
use Rattle.transfer.proofs.Laws.{dropped_le, length_bytes_in}
use Rattle.transfer.proofs.Sending.{sending_dropped}
use Rattle.usbdev.proofs.Tokens.{total_lt}
use Rattle.dtd.specs.declared.Found.{Found}
use Rattle.dtd.specs.declared.Found.TheVariants.{Unprimed, Ended, Active}
use Rattle.dtd.specs.declared.Descriptor.{Descriptor}
use Rattle.dtd.specs.declared.Finished.{Finished}
use Rattle.dtd.specs.declared.Ran.{Ran}
use Rattle.dtd.specs.Promises.{Finishes, none_ran, ran_of, Turns, running, Runs, Idle, Begins, Held, holds_none, Moves, Serves, RunsOver}
use Rattle.dtd.specs.declared.side.Moved.{Moved}
use lib.ListN.{length-drop}
use lib.Seq.{drop-nil, take-length}
use Rattle.dtd.specs.Dtd.{Endpoint, endpoint, descriptor, bit_of, primed, queue_head, next_dtd, terminates, token_of, is_active, interrupts, next_active, moves, bytes_of, data_out, turning, following, Run, ended, joined, turns, most, list_ends, settling, settled, run_dtds, finishing, found, active}

-- ---- what each answer of `find` says

pub record IsActive (e : Endpoint) (m : Memory) (qh n tok : ℕ) : Type 0 where
  pub prime : primed e m.page ≡ true
  pub active : next_active e m ≡ true
  pub head : qh ≡ queue_head e m.page
  pub next : n ≡ next_dtd e m
  pub token : tok ≡ token_of n m

abbrev pub Says : Endpoint → Memory → Found → Type 0
Says e m Unprimed = primed e m.page ≡ false
Says e m Ended = (primed e m.page ≡ true) × (next_active e m ≡ false)
Says e m (Active d) = IsActive e m d.queue_head d.pointer d.token × (d.bit ≡ bit_of e)

pub says : (e : Endpoint) (m : Memory) {r : Found} → found e m ≡ r → Says e m r
unfolding found
says e m f = subst (Says e m) f (by_tests (primed e m.page) (next_active e m) refl refl)
  where
    by_tests : (p a : Bool) → primed e m.page ≡ p → next_active e m ≡ a → Says e m (pick p (pick a (active e (queue_head e m.page) (next_dtd e m) (token_of (next_dtd e m) m)) Ended) Unprimed)
    by_tests true true ep ea = (record { prime = ep; active = ea; head = refl; next = refl; token = refl }, refl)
    by_tests true false ep ea = (ep, ea)
    by_tests false a ep ea = ep

pub says_unprimed : (e : Endpoint) (m : Memory) → found e m ≡ Unprimed → primed e m.page ≡ false
says_unprimed e m f = says e m f

pub says_ended : (e : Endpoint) (m : Memory) → found e m ≡ Ended → (primed e m.page ≡ true) × (next_active e m ≡ false)
says_ended e m f = says e m f

pub says_active : (e : Endpoint) (m : Memory) (qh n tok : ℕ) → found e m ≡ active e qh n tok → IsActive e m qh n tok
says_active e m qh n tok f = (says e m f).0

-- ---- runs

-- an endpoint that is not primed: nothing at all
pub run_unprimed : (e : Endpoint) (bs : List ℕ) (b : Bus) → primed e b.memory.page ≡ false → run_dtds e bs b ≡ ended 1
unfolding run_dtds
run_unprimed e bs b h = simp h

-- a pointer that terminates, a descriptor that is active, or one that is not
turned : (x y : Bool) (n : ℕ) (r : Run) → pick x (ended n) (pick y r (ended 1)) ≡ pick (not x && y) r (ended (pick x n 1))
turned true y n r = refl
turned false true n r = refl
turned false false n r = refl

-- the stores of a run of one descriptor, with its token as memory has it
one_stores : (e : Endpoint) (bs : List ℕ) (b : Bus) (qh n : ℕ)
    → (settled e b (joined e qh n bs b (ended (following e qh n bs b)))).stores
    ≡ (data_out e n (token_of n b.memory) bs then finishing qh n (token_of n b.memory) (moves e (token_of n b.memory) bs) (bit_of e)) b
unfolding settled joined turning finishing following and_then
one_stores e bs b qh n = simp (or_false, append-nil, replay_append, append_assoc)

module _ (e : Endpoint) (bs : List ℕ) (b : Bus) (single : most e ≡ 1) where
  -- the run in the words of its first descriptor
  first : primed e b.memory.page ≡ true → run_dtds e bs b
      ≡ settled e b
      (pick (next_active e b.memory) (joined e (queue_head e b.memory.page) (next_dtd e b.memory) bs b (ended (following e (queue_head e b.memory.page) (next_dtd e b.memory) bs b)))
      (ended (pick (terminates (next_dtd e b.memory)) (next_dtd e b.memory) 1)))
  unfolding run_dtds turns next_active
  first h = simp (h, single) (ap (settled e b) (turned (terminates (next_dtd e b.memory)) (is_active (token_of (next_dtd e b.memory) b.memory)) (next_dtd e b.memory) _))

  -- its one descriptor is active
  module _ (qh n tok : ℕ) (is : IsActive e b.memory qh n tok) where
    pub run_active : run_dtds e bs b ≡ settled e b (joined e qh n bs b (ended (following e qh n bs b)))
    run_active = first is.prime ∙ simp (is.active, is.head, is.next)

    -- its stores: the data, the retirement, and what follows
    pub active_stores : (run_dtds e bs b).stores ≡ (data_out e n tok bs then finishing qh n tok (moves e tok bs) (bit_of e)) b
    active_stores = simp (run_active, is.token) (one_stores e bs b qh n)

    -- and its answers
    pub active_done : (run_dtds e bs b).done ≡ interrupts tok
    unfolding settled joined
    active_done = simp (run_active, or_false, is.token)

    pub active_moved : (run_dtds e bs b).moved ≡ moves e tok bs
    unfolding settled joined
    active_moved = simp (run_active, is.token) (omega arith)

    pub active_retired : (run_dtds e bs b).retired ≡ 1
    unfolding settled joined
    active_retired = simp run_active

    pub active_bytes : (run_dtds e bs b).bytes ≡ bytes_of e n b.memory
    unfolding settled joined
    active_bytes = simp (run_active, append-nil)

  -- its list ends: the endpoint is un-primed, and nothing else
  module _ (up : primed e b.memory.page ≡ true) (inactive : next_active e b.memory ≡ false) where
    pub run_ended : run_dtds e bs b ≡ settled e b (ended (pick (terminates (next_dtd e b.memory)) (next_dtd e b.memory) 1))
    run_ended = first up ∙ simp inactive

    ends_there : (t : Bool) → terminates (next_dtd e b.memory) ≡ t → list_ends (pick t (next_dtd e b.memory) 1) b.memory ≡ true
    unfolding list_ends
    ends_there true h = simp h
    ends_there false h = refl

    pub ended_stores : (run_dtds e bs b).stores ≡ settling (bit_of e) 1 false b
    unfolding settled settling and_then list_ends
    ended_stores = simp (run_ended, ends_there (terminates (next_dtd e b.memory)) refl)

-- ---- from what the code does to what it promises

module _ (e : Endpoint) (bs : List ℕ) (m : Memory) (l : Bool) (z : Sized m) where
  pub runs_none : primed e m.page ≡ false → Runs e bs (bus m l) (bus m l) (none_ran l)
  unfolding running nothing
  runs_none h =
      let none = run_unprimed e bs (bus m l) h in
      record { does = does_as (sym (ap (λ (r : Run). r.stores) none)) (does_nothing (bus m l) z); done = simp none; moved = simp none; retired = simp none }

  pub idle_unprimed : found e m ≡ Unprimed → Idle e bs (bus m l) (bus m l) (none_ran l)
  idle_unprimed f = record { runs = runs_none (says e m f); nothing = refl; bytes = ap (λ (r : Run). r.bytes) (run_unprimed e bs (bus m l) (says e m f)) }

  module _ (single : most e ≡ 1) where
    pub idle_ended : found e m ≡ Ended → {m' : Memory} {line : Bool} → Does (settling (bit_of e) 1 false) (bus m l) (bus m' line) 0 → Idle e bs (bus m l) (bus m' line) (none_ran line)
    unfolding running settled
    idle_ended f d =
        let ends = says e m f in
        let whole = run_ended e bs (bus m l) single ends.0 ends.1 in
        record {
          runs = record { does = does_as (sym (ended_stores e bs (bus m l) single ends.0 ends.1)) d; done = simp whole; moved = simp whole; retired = simp whole };
          nothing = refl;
          bytes = ap (λ (r : Run). r.bytes) whole;
        }

    pub runs_active : (qh n tok : ℕ) → found e m ≡ active e qh n tok → (bit : ℕ) → bit ≡ bit_of e → {b' : Bus} {r : Ran} → Turns e qh n tok bit bs (bus m l) b' r → Runs e bs (bus m l) b' r
    unfolding running
    runs_active qh n tok f bit eb {b'} {r} t =
        let is = (says e m f).0 in
        let same = ap (λ (x : ℕ). (data_out e n tok bs then finishing qh n tok (moves e tok bs) x) (bus m l)) eb in
        record {
          does = does_as (same ∙ sym (active_stores e bs (bus m l) single qh n tok is)) t.does;
          done = t.done ∙ sym (active_done e bs (bus m l) single qh n tok is);
          moved = t.moved ∙ sym (active_moved e bs (bus m l) single qh n tok is);
          retired = t.retired ∙ sym (active_retired e bs (bus m l) single qh n tok is);
        }

-- any endpoint but 0 retires one at most
pub single : (ep : ℕ) (input : Bool) → 0 < ep → most (endpoint ep input) ≡ 1
single ep input h = simp (ne_eqb ep 0 (λ e. omega arith))

pub moves_few : (e : Endpoint) (tok : ℕ) (bs : List ℕ) → moves e tok bs ≤ 32767
unfolding moves
moves_few e tok bs =
    pick_both (λ (n : ℕ). n ≤ 32767) e.input (omega (arith, total_lt tok)) (omega (arith, total_lt tok))

-- a descriptor that is found, by its parts
pub says_found : (e : Endpoint) (m : Memory) {d : Descriptor} → found e m ≡ Active d → found e m ≡ active e d.queue_head d.pointer d.token
says_found e m {d} f =
    f ∙ ap (λ (x : ℕ). Active (record { queue_head = d.queue_head; pointer = d.pointer; token = d.token; bit = x })) (says e m f).1

-- no more bytes are lost than are sent
pub lost_few : (ps bs : List ℕ) (n : ℕ) (b : Bus) {lost : ℕ} → lost ≡ dropped_by (sending ps bs n b) → lost ≤ n
lost_few ps bs n b e = omega (arith, e, sending_dropped ps bs n b, dropped_le ps n)

-- a part to the end is what is left
pub part_rest : (bs : List ℕ) (at : ℕ) → take (length bs - at) (drop at bs) ≡ drop at bs
part_rest bs at = ap (λ (n : ℕ). take n (drop at bs)) (sym (length-drop at bs)) ∙ take-length (drop at bs)

-- the bytes of one descriptor: of what is left to send, and where they are only counted
pub source_moves : (d : Descriptor) (bs : List ℕ) {m m' seen : Memory} {count td lost : ℕ} {ps : List ℕ} → ((ep : ℕ) → count ≡ moves (endpoint ep false) d.token bs) → td ≡ descriptor d.pointer → seen ≡ m → ps ≡ pointers_for seen td count
    → ((l : Bool) → Does (sending ps bs count) (bus m l) (bus m' l) lost) → Moves false d bs (drop count bs) holds_none holds_none m m' (record { bytes = count; lost = lost })
unfolding data_out when
source_moves d bs {m} {seen = seen} {count} {td} {ps = ps} is_moved is-descriptor same is-pointers does =
    let few : count ≤ 32767 = omega (arith, is_moved 0, moves_few (endpoint 0 false) d.token bs) in
    let sends : (ep : ℕ) (l : Bool) → sending ps bs count (bus m l) ≡ sending (pointers m (descriptor d.pointer)) bs (moves (endpoint ep false) d.token bs) (bus m l) =
    λ ep l.
    ap (λ (x : List ℕ). sending x bs count (bus m l)) (is-pointers ∙ ap (λ (x : Memory). pointers_for x td count) same)
    ∙ sending_for m td count few bs count (bus m l) (omega arith) ∙ ap₂ (λ (x y : ℕ). sending (pointers m x) bs y (bus m l)) is-descriptor (is_moved ep) in
    record {
      does = λ ep l. does_as (sends ep l) (does l);
      bytes = is_moved;
      left = λ ep. ap (λ (x : ℕ). drop x bs) (is_moved ep);
      holds = λ ys. refl;
      few = (few, omega (arith, few, lost_few ps bs count _ (does false).counted));
    }

pub counted_moves : (d : Descriptor) {m : Memory} {total : ℕ} → Sized m → total ≡ total_of d.token → Moves true d [] [] holds_none holds_none m m (record { bytes = total; lost = 0 })
unfolding moves data_out when nothing
counted_moves d {m} {total} z is-total =
    record {
      does = λ ep l. does_nothing (bus m l) z;
      bytes = λ ep. is-total;
      left = λ ep. sym (drop-nil (total_of d.token));
      holds = λ ys. refl;
      few = (omega (arith, is-total, total_lt d.token), omega arith);
    }

-- and its retirement
pub serve_steps : {input flag : Bool} {d : Descriptor} {bs bs' : List ℕ} {f f' : List ℕ → Held} {m m₁ m₂ : Memory} {p : Moved} {done : Finished} {r : Ran} → Moves input d bs bs' f f' m m₁ p
    → Finishes d.queue_head d.pointer d.token p.bytes d.bit (bus m₁ flag) (bus m₂ done.line) done → r ≡ ran_of done p.bytes p.lost → Serves input d bs f f' m (bus m flag) (bus m₂ r.line) r
serve_steps {input} {flag} {d} {bs} {f = f} {f'} {m} {m₁} {m₂} moved finished h =
    subst (λ (x : Ran). Serves input d bs f f' m (bus m flag) (bus m₂ x.line) x) (sym h)
    (record {
      turns = λ ep.
          record {
            does = does_then (moved.does ep flag) (does_as (ap (λ (x : ℕ). finishing d.queue_head d.pointer d.token x d.bit (bus m₁ flag)) (moved.bytes ep)) finished.does);
            done = finished.done;
            moved = moved.bytes ep;
            retired = refl;
          };
      holds = moved.holds;
    })

-- what is left to send, by how many bytes have moved
pub moved_unsent : {input : Bool} {d : Descriptor} {bs bs' : List ℕ} {f f' : List ℕ → Held} {m m' : Memory} {p : Moved} → Moves input d bs bs' f f' m m' p → bs' ≡ drop p.bytes bs
moved_unsent {bs = bs} moved = moved.left 0 ∙ ap (λ (n : ℕ). drop n bs) (sym (moved.bytes 0))

-- a run that begins at an active descriptor, and one that is over before
pub run_served : (ep : ℕ) (input : Bool) {flag : Bool} {d : Descriptor} {bs : List ℕ} {f f' : List ℕ → Held} {m m₁ : Memory} {b' : Bus} {r : Ran} → 0 < ep → Begins (endpoint ep input) flag m m₁ (Ok d) → Sized m
    → Serves input d bs f f' m₁ (bus m₁ flag) b' r → RunsOver (endpoint ep input) bs f f' (bus m flag) b' r
unfolding bytes_of
run_served ep input {flag} {d} {bs} {f} {f'} {m} {b' = b'} {r} some begun z p =
    let e = endpoint ep input in
    let one = single ep input some in
    let is = says e m begun.0 in
    let q = subst (λ (x : Memory). Serves input d bs f f' x (bus x flag) b' r) begun.1 p in
    let bytes = active_bytes e bs (bus m flag) one d.queue_head d.pointer d.token is.0 ∙ ap (λ (t : ℕ). pick input (bytes_in m (pointers m (descriptor d.pointer)) (total_of t)) []) (sym is.0.token) in
    record { runs = runs_active e bs m flag z one d.queue_head d.pointer d.token (says_found e m begun.0) d.bit is.1 (q.turns ep); holds = ap f (bytes ∙ sym (append-nil _)) ∙ q.holds [] }

pub run_idle : {e : Endpoint} {bs : List ℕ} (f : List ℕ → Held) {f' : List ℕ → Held} {b b' : Bus} {r : Ran} → f [] ≡ f' [] → Idle e bs b b' r → RunsOver e bs f f' b b' r
run_idle f same i = record { runs = i.runs; holds = ap f i.bytes ∙ same }

-- one that is over leaves all to send
pub idle_unsent : {e : Endpoint} {bs : List ℕ} {b b' : Bus} {r : Ran} (sent : List ℕ) → Idle e bs b b' r → sent ≡ drop r.moved sent
idle_unsent sent i = sym (ap (λ (x : Ran). drop x.moved sent) i.nothing)

-- an answer by another name
pub idle_as : {e : Endpoint} {bs : List ℕ} {b : Bus} {m : Memory} {r r' : Ran} → r ≡ r' → Idle e bs b (bus m r'.line) r' → Idle e bs b (bus m r.line) r
idle_as {e} {bs} {b} {m} h p = subst (λ (x : Ran). Idle e bs b (bus m x.line) x) (sym h) p

-- an endpoint that is not ready reads nothing and retires nothing
pub record Idles (r : Run) : Type 0 where
  pub bytes : r.bytes ≡ []
  pub retired : r.retired ≡ 0

pub idle_run : (e : Endpoint) (bs : List ℕ) (b : Bus) → most e ≡ 1 → (primed e b.memory.page && next_active e b.memory) ≡ false → Idles (run_dtds e bs b)
unfolding settled
idle_run e bs b one h = by_prime (primed e b.memory.page) refl
  where
    by_prime : (a : Bool) → primed e b.memory.page ≡ a → Idles (run_dtds e bs b)
    by_prime true p = let none = run_ended e bs b one p (simp p at h) in record { bytes = simp none; retired = simp none }
    by_prime false p = let none = run_unprimed e bs b p in record { bytes = simp none; retired = simp none }

-- ---- an active descriptor of an input endpoint other than 0

module _ (ep : ℕ) (other : 0 < ep) (m : Memory) (l : Bool) (qh n tok : ℕ) (is : IsActive (endpoint ep true) m qh n tok) where
  -- its bytes are those at its addresses, as many as its total
  pub input_bytes : (run_dtds (endpoint ep true) [] (bus m l)).bytes ≡ bytes_in m (pointers m (descriptor n)) (total_of tok)
  unfolding bytes_of
  input_bytes = simp (active_bytes (endpoint ep true) [] (bus m l) (single ep true other) qh n tok is, is.token)

  pub input_length : length (run_dtds (endpoint ep true) [] (bus m l)).bytes ≡ total_of tok
  input_length = ap length input_bytes ∙ length_bytes_in m (pointers m (descriptor n)) (total_of tok)
