-- Primed, next descriptor, active and within the budget are what the papers say, in the bits of registers and of words of memory: of any endpoint,
-- and of the two audio steps.
use Prim.Native.Nat.{ℕ, ◌+◌, ◌*◌, ◌/◌, ◌%◌, ◌^◌, ◌<◌}
use mathlib.Core.Path.{◌≡◌, refl, sym, ap, subst, ◌∙◌}
use mathlib.Core.Bool.{Bool, true, false, not, ◌&&◌}
use mathlib.Core.List.{List}
use mathlib.Core.Logic.{◌↔◌}
use native.Mathlib.Omega.{arith}
use lib.Bits.{and_high}
use lib.Dec.{eqb}
use borrow.Author.Tests.{eqb-true, eqb-false, ltb-true, ltb-false}
use Rattle.bits.specs.Pick.{pick}
use Rattle.bits.specs.Word.{any, clear}
use Rattle.bits.proofs.Bit.{any_is}
use Rattle.bits.proofs.Tests.{false_true, and_first, and_second, and_rest, and_both, not-true, not_holds}
use Rattle.bus.specs.Memory.{Memory, after, peek32}
use Rattle.bus.specs.Words.{word_at}
use Rattle.usbdev.specs.Transfer.{total_of}
use Rattle.usbdev.proofs.Tokens.{total_is}
use Rattle.dtd.specs.Dtd.{Endpoint, endpoint, primed, queue_head, terminates, descriptor, token_of, is_active, interrupts, next_of, next_dtd, next_active}
use Rattle.record.specs.Record.{wrapped}
use Rattle.record.specs.World.{World}
use Rattle.model.specs.Streams.{ready, next_total}
use Rattle.model.specs.Audio.{audio_in, named}
use Rattle.model.specs.Reach.{input_ready, output_ready, within_budget}
use Rattle.model.specs.Ready.{Primed, head_address, word_behind, descriptor_address, token_address, NextOf, overlay, current, none, Active, Within}

-- ---- bit 0 of a pointer

odd : (v : ℕ) → any v 1 ≡ true → v % 2 ≡ 1
odd v h = omega (arith, (any_is 0 v).0 h)

even : (v : ℕ) → any v 1 ≡ false → v % 2 ≡ 0
even v h =
    let n : v % 2 ≡ 1 → ⊥ = λ e. false_true (sym h ∙ (any_is 0 v).1 (omega (arith, e))) in
    omega (arith, n)

is_even : (v : ℕ) → v % 2 ≡ 0 → any v 1 ≡ false
is_even v h = not_holds (any v 1) (λ e. omega (arith, odd v e))

-- ---- primed

-- 538: the test of EPSR is that of the endpoint's bit
pub primed_bit : (e : Endpoint) (page : List ℕ) → (primed e page ≡ true) ↔ Primed e page
unfolding primed
primed_bit e page = by e.input
  where
    by : (b : Bool) → (any (word_at page 0x1B8) (pick b (2 ^ (16 + e.number)) (2 ^ e.number)) ≡ true) ↔ (word_at page 0x1B8 / 2 ^ pick b (16 + e.number) e.number % 2 ≡ 1)
    by true = any_is (16 + e.number) (word_at page 0x1B8)
    by false = any_is e.number (word_at page 0x1B8)

-- ---- the next descriptor

-- 514-516: the mask of EPLISTADDR leaves its bits 11 to 31
pub head_address_lem : (e : Endpoint) (page : List ℕ) → queue_head e page ≡ head_address e page
unfolding queue_head
head_address_lem e page = by e.input
  where
    by : (b : Bool) → clear (word_at page 0x158) 0x7FF + 64 * (2 * e.number + pick b 1 0) ≡ word_at page 0x158 / 2 ^ 11 % 2 ^ 21 * 2 ^ 11 + (128 * e.number + pick b 64 0)
    by true = omega (arith, and_high (word_at page 0x158) 21 11)
    by false = omega (arith, and_high (word_at page 0x158) 21 11)

-- the host reads a descriptor and its token where the bits of its pointer say
pub descriptor_address_lem : (n : ℕ) → descriptor n ≡ descriptor_address n
descriptor_address_lem n = and_high n 27 5

pub token_address_lem : (n : ℕ) → after (descriptor n) 4 ≡ token_address n
unfolding after
token_address_lem n = omega (arith, and_high n 27 5)

-- 521-531: the choice between overlay and current pointer, case by case
next_of_lem : (h : ℕ) (m : Memory) → NextOf h m (next_of h m)
unfolding next_of after
next_of_lem h m = by (terminates (word_behind m h 8)) (eqb (descriptor (word_behind m h 4)) 0) refl refl
  where
    by : (t n : Bool) → terminates (word_behind m h 8) ≡ t → eqb (descriptor (word_behind m h 4)) 0 ≡ n
        → NextOf h m (pick t (pick n 1 (peek32 m (descriptor (word_behind m h 4)))) (word_behind m h 8))
    by false n t e = overlay (even _ t) refl
    by true false t e =
        let some = eqb-false (descriptor (word_behind m h 4)) 0 e in
        current (odd _ t) (omega (arith, some, descriptor_address_lem (word_behind m h 4))) (ap (peek32 m) (descriptor_address_lem (word_behind m h 4)))
    by true true t e =
        none (odd _ t) (sym (descriptor_address_lem (word_behind m h 4)) ∙ eqb-true (descriptor (word_behind m h 4)) 0 e) refl

pub next_pointer : (e : Endpoint) (m : Memory) → NextOf (head_address e m.page) m (next_dtd e m)
next_pointer e m = subst (λ (h : ℕ). NextOf h m (next_dtd e m)) (head_address_lem e m.page) (next_of_lem (queue_head e m.page) m)

-- there is one such pointer
pub next_only : (h : ℕ) (m : Memory) (a b : ℕ) → NextOf h m a → NextOf h m b → a ≡ b
next_only h m a b (overlay x p) (overlay y q) = p ∙ sym q
next_only h m a b (overlay x p) (current y s q) = absurd (omega (arith, x, y))
next_only h m a b (overlay x p) (none y s q) = absurd (omega (arith, x, y))
next_only h m a b (current x r p) (overlay y q) = absurd (omega (arith, x, y))
next_only h m a b (current x r p) (current y s q) = p ∙ sym q
next_only h m a b (current x r p) (none y s q) = absurd (omega (arith, r, s))
next_only h m a b (none x r p) (overlay y q) = absurd (omega (arith, x, y))
next_only h m a b (none x r p) (current y s q) = absurd (omega (arith, r, s))
next_only h m a b (none x r p) (none y s q) = p ∙ sym q

-- 550: the host reads a token where it is
pub token_read : (n : ℕ) (m : Memory) → token_of n m ≡ peek32 m (token_address n)
token_read n m = ap (peek32 m) (token_address_lem n)

-- 547-551: the host's test, whichever way its pointer was found
pub next_active_lem : (e : Endpoint) (m : Memory) → (next_active e m ≡ true) ↔ Active e m
unfolding next_active
next_active_lem e m = (
  λ h.
      record {
        pointer = next_dtd e m;
        next = next_pointer e m;
        there = even (next_dtd e m) (not-true _ (and_first (not (terminates (next_dtd e m))) _ h));
        active =
            subst (λ (v : ℕ). v / 2 ^ 7 % 2 ≡ 1) (token_read (next_dtd e m) m)
            ((any_is 7 (token_of (next_dtd e m) m)).0 (and_second (not (terminates (next_dtd e m))) _ h));
      },
  λ a.
      let same = next_only (head_address e m.page) m a.pointer (next_dtd e m) a.next (next_pointer e m) in
      subst (λ (n : ℕ). (not (terminates n) && is_active (token_of n m)) ≡ true) same
      (and_both _ _ (ap not (is_even a.pointer a.there))
      ((any_is 7 (token_of a.pointer m)).1 (subst (λ (v : ℕ). v / 2 ^ 7 % 2 ≡ 1) (sym (token_read a.pointer m)) a.active))),
)

-- 597: a descriptor asks for an interrupt where bit 15 of its token is set
pub interrupt_bit : (tok : ℕ) → (interrupts tok ≡ true) ↔ (tok / 2 ^ 15 % 2 ≡ 1)
interrupt_bit tok = any_is 15 tok

-- ---- the audio steps: endpoint 3

-- 870: from the device; 904-917: towards it
ready_is : (e : Endpoint) (w : World) → (ready e w ≡ true) ↔ (Primed e w.lent.memory.page × Active e w.lent.memory)
ready_is e w = (
  λ h. ((primed_bit e w.lent.memory.page).0 (and_first (primed e w.lent.memory.page) _ h), (next_active_lem e w.lent.memory).0 (and_second (primed e w.lent.memory.page) _ h)),
  λ a. and_both _ _ ((primed_bit e w.lent.memory.page).1 a.0) ((next_active_lem e w.lent.memory).1 a.1),
)

pub input_ready_lem : (w : World) → (input_ready w ≡ true) ↔ (Primed (endpoint 3 true) w.lent.memory.page × Active (endpoint 3 true) w.lent.memory)
unfolding input_ready
input_ready_lem w = ready_is (endpoint 3 true) w

pub output_ready_lem : (w : World) → (output_ready w ≡ true) ↔ (Primed (endpoint 3 false) w.lent.memory.page × Active (endpoint 3 false) w.lent.memory)
unfolding output_ready
output_ready_lem w = ready_is (endpoint 3 false) w

-- ---- the input budget

-- 862: the total of the descriptor that a pointer names
total_read : (n : ℕ) (m : Memory) → total_of (token_of n m) ≡ peek32 m (token_address n) / 2 ^ 16 % 2 ^ 15
total_read n m = total_is (token_of n m) ∙ ap (λ (v : ℕ). v / 2 ^ 16 % 2 ^ 15) (token_read n m)

module _ (n : ℕ) (u : World) where
  abbrev m : Memory
  m = u.lent.memory

  fits : within_budget n u ≡ true → Within n m
  unfolding within_budget named
  fits h p a b c =
      let same = next_only (head_address audio_in m.page) m p (next_dtd audio_in m) b (next_pointer audio_in m) in
      let there : terminates (next_dtd audio_in m) ≡ false = subst (λ (k : ℕ). terminates k ≡ false) same (is_even p c) in
      let is : named u ≡ true = and_both _ _ ((primed_bit audio_in m.page).1 a) (ap not there) in
      let most = ltb-false (wrapped (n + 368)) (next_total audio_in u) (and_rest (named u) _ (not-true _ h) is) in
      omega (arith, most, ap (λ (k : ℕ). total_of (token_of k m)) same, total_read p m)

  above : Within n m → named u ≡ true → wrapped (n + 368) < next_total audio_in u → ⊥
  unfolding named
  above f h l =
      let a = and_first (primed audio_in m.page) _ h in
      let b = not-true _ (and_second (primed audio_in m.page) _ h) in
      let most = f (next_dtd audio_in m) ((primed_bit audio_in m.page).0 a) (next_pointer audio_in m) (even (next_dtd audio_in m) b) in
      omega (arith, l, most, total_read (next_dtd audio_in m) m)

  -- 858-866: the tests by which the input step is passed over
  pub within_budget_lem : (within_budget n u ≡ true) ↔ Within n m
  unfolding within_budget
  within_budget_lem = (
    fits,
    λ f. ap not (not_holds _ (λ h. above f (and_first (named u) _ h) (ltb-true (wrapped (n + 368)) (next_total audio_in u) (and_second (named u) _ h)))),
  )
