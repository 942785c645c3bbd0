-- A run that flags a completion retired a descriptor whose interrupt bit was set (usbhost.rs 547-603).
use Prim.Native.Nat.{ℕ, zero, suc}
use mathlib.Core.Path.{◌≡◌, refl, sym, ap, ◌∙◌}
use mathlib.Core.Bool.{Bool, true, false, not, ◌||◌}
use mathlib.Core.List.{List, [], ◌++◌, append_assoc}
use lib.ListN.{drop}
use Rattle.bits.specs.Pick.{pick}
use Rattle.bits.proofs.Tests.{false_true, and_first, and_second, not-true}
use Rattle.bus.specs.Steps.{exec}
use Rattle.bus.specs.Stores.{Bus, Store, store, stored, stored_append}
use Rattle.dtd.specs.Dtd.{Endpoint, endpoint, Run, ended, joined, turns, most, settled, run_dtds, primed, queue_head, next_dtd, next_active, terminates, is_active, interrupts, token_of, moves, turning, following}

-- stores ss from the bus b on have in them those of one descriptor of the queue head qh, which was there, active, and asked for an interrupt
pub record Interrupted (e : Endpoint) (qh : ℕ) (b : Bus) (ss : List Store) : Type 0 where
  pub pointer : ℕ
  pub sent : List ℕ
  pub before : List Store
  pub rest : List Store
  pub whole : ss ≡ before ++ (turning e qh pointer sent (stored before b) ++ rest)
  pub named : terminates pointer ≡ false
  pub active : is_active (token_of pointer (stored before b).memory) ≡ true
  pub interrupt : interrupts (token_of pointer (stored before b).memory) ≡ true

-- with other stores before, and behind
interrupted_after : (e : Endpoint) (qh : ℕ) (b : Bus) (xs ss : List Store) → Interrupted e qh (stored xs b) ss → Interrupted e qh b (xs ++ ss)
interrupted_after e qh b xs ss p =
    let same = stored_append xs p.before b in
    record {
      pointer = p.pointer;
      sent = p.sent;
      before = xs ++ p.before;
      rest = p.rest;
      whole =
          ap (λ (l : List Store). xs ++ l) p.whole
          ∙ sym (append_assoc xs p.before (turning e qh p.pointer p.sent (stored p.before (stored xs b)) ++ p.rest))
          ∙ ap (λ (c : Bus). (xs ++ p.before) ++ (turning e qh p.pointer p.sent c ++ p.rest)) (sym same);
      named = p.named;
      active = ap (λ (c : Bus). is_active (token_of p.pointer c.memory)) same ∙ p.active;
      interrupt = ap (λ (c : Bus). interrupts (token_of p.pointer c.memory)) same ∙ p.interrupt;
    }

interrupted_before : (e : Endpoint) (qh : ℕ) (b : Bus) (ss xs : List Store) → Interrupted e qh b ss → Interrupted e qh b (ss ++ xs)
interrupted_before e qh b ss xs p =
    let own = turning e qh p.pointer p.sent (stored p.before b) in
    record {
      pointer = p.pointer;
      sent = p.sent;
      before = p.before;
      rest = p.rest ++ xs;
      whole =
          ap (λ (l : List Store). l ++ xs) p.whole
          ∙ append_assoc p.before (own ++ p.rest) xs
          ∙ ap (λ (l : List Store). p.before ++ l) (append_assoc own p.rest xs);
      named = p.named;
      active = p.active;
      interrupt = p.interrupt;
    }

-- ---- a run, descriptor by descriptor

turns_flags : (k : ℕ) (e : Endpoint) (qh n : ℕ) (bs : List ℕ) (b : Bus) → (turns k e qh n bs b).done ≡ true → Interrupted e qh b (turns k e qh n bs b).stores
unfolding turns joined
turns_flags zero e qh n bs b h = absurd (false_true h)
turns_flags (suc k) e qh n bs b h =
    by (λ d. turns_flags k e qh (following e qh n bs b) (drop (moves e (token_of n b.memory) bs) bs) (exec store (turning e qh n bs) b) d)
    (terminates n) (is_active (token_of n b.memory)) refl refl h
  where
    more : Run
    more = turns k e qh (following e qh n bs b) (drop (moves e (token_of n b.memory) bs) bs) (exec store (turning e qh n bs) b)

    split : (more.done ≡ true → Interrupted e qh (exec store (turning e qh n bs) b) more.stores)
        → (i : Bool) → interrupts (token_of n b.memory) ≡ i → terminates n ≡ false → is_active (token_of n b.memory) ≡ true → (i || more.done) ≡ true
        → Interrupted e qh b (turning e qh n bs b ++ more.stores)
    split rec true i x y d =
        record { pointer = n; sent = bs; before = []; rest = more.stores; whole = refl; named = x; active = y; interrupt = i }
    split rec false i x y d = interrupted_after e qh b (turning e qh n bs b) more.stores (rec d)

    by : (more.done ≡ true → Interrupted e qh (exec store (turning e qh n bs) b) more.stores)
        → (x y : Bool) → terminates n ≡ x → is_active (token_of n b.memory) ≡ y
        → (pick x (ended n) (pick y (joined e qh n bs b more) (ended 1))).done ≡ true
        → Interrupted e qh b (pick x (ended n) (pick y (joined e qh n bs b more) (ended 1))).stores
    by rec true y ex ey d = absurd (false_true d)
    by rec false true ex ey d = split rec (interrupts (token_of n b.memory)) refl ex ey d
    by rec false false ex ey d = absurd (false_true d)

pub run_flags : (e : Endpoint) (bs : List ℕ) (b : Bus) → (run_dtds e bs b).done ≡ true → Interrupted e (queue_head e b.memory.page) b (run_dtds e bs b).stores
unfolding run_dtds settled
run_flags e bs b = by (primed e b.memory.page)
  where
    run : Run
    run = turns (most e) e (queue_head e b.memory.page) (next_dtd e b.memory) bs b

    by : (x : Bool) → (pick x (settled e b run) (ended 1)).done ≡ true → Interrupted e (queue_head e b.memory.page) b (pick x (settled e b run) (ended 1)).stores
    by true d = interrupted_before e (queue_head e b.memory.page) b run.stores _ (turns_flags (most e) e (queue_head e b.memory.page) (next_dtd e b.memory) bs b d)
    by false d = absurd (false_true d)

-- and one whose first descriptor asks for an interrupt flags a completion
turns_answers : (k : ℕ) (e : Endpoint) (qh n : ℕ) (bs : List ℕ) (b : Bus) → terminates n ≡ false → is_active (token_of n b.memory) ≡ true → interrupts (token_of n b.memory) ≡ true
    → (turns (suc k) e qh n bs b).done ≡ true
unfolding turns joined
turns_answers k e qh n bs b x y i = simp (x, y, i)

pub run_answers : (input : Bool) (bs : List ℕ) (b : Bus) → primed (endpoint 0 input) b.memory.page ≡ true → next_active (endpoint 0 input) b.memory ≡ true
    → interrupts (token_of (next_dtd (endpoint 0 input) b.memory) b.memory) ≡ true → (run_dtds (endpoint 0 input) bs b).done ≡ true
unfolding run_dtds settled next_active
run_answers input bs b p a i =
    let e = endpoint 0 input in
    let n = next_dtd e b.memory in
    ap (λ (x : Bool). (pick x (settled e b (turns 64 e (queue_head e b.memory.page) n bs b)) (ended 1)).done) p
    ∙ turns_answers 63 e (queue_head e b.memory.page) n bs b (not-true (terminates n) (and_first (not (terminates n)) _ a)) (and_second (not (terminates n)) _ a) i
