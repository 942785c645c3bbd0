-- The pairs that a configuration asks for: interface and alternate are bytes, and no alternate is 0.
use Prim.Native.Nat.{ℕ, zero, suc, ◌<◌}
use mathlib.Core.Path.{◌≡◌, refl}
use mathlib.Core.Bool.{Bool, true, false, not, ◌&&◌}
use mathlib.Core.List.{List, [], ◌∷◌}
use native.Mathlib.Omega.{arith}
use borrow.Author.Tests.{eqb-false, not-true}
use lib.Dec.{eqb, ltb}
use lib.ListN.{length, take, drop}
use Rattle.bits.specs.Pick.{pick, pick_both}
use Rattle.config.specs.Config.{Choice, Interface, Walk, Bytes, at, whole, cut, is_interface, interface_of, is_endpoint, is_interrupt, is_input, packet_size, counts, member, interfaces, placed, slot, chosen, step, walked, start, parsed}
use Rattle.config.proofs.Few.{bytes_take, bytes_drop}
use Rattle.bits.proofs.Tests.{and_first, and_second}

pub record Pair (interface alternate : ℕ) : Type 0 where
  pub interface_lt : interface < 256
  pub alternate_lt : alternate < 256
  pub some : 0 < alternate

abbrev pub Pairs : List (ℕ × ℕ) → Type 0
Pairs [] = Unit {0}
Pairs (p ∷ ps) = Pair p.0 p.1 × Pairs ps

pairs_pick : (t : Bool) (ps qs : List (ℕ × ℕ)) → Pairs ps → Pairs qs → Pairs (pick t ps qs)
pairs_pick true ps qs h k = h
pairs_pick false ps qs h k = k

pairs_placed : (i a : ℕ) (ps : List (ℕ × ℕ)) → Pair i a → Pairs ps → Pairs (placed i a ps)
unfolding placed
pairs_placed i a [] h k = (h, tt)
pairs_placed i a (p ∷ ps) h k =
    pairs_pick (eqb p.0 i) ((i, a) ∷ ps) (p ∷ placed i a ps) (h, k.1) (k.0, pairs_placed i a ps h k.1)

-- by a test, of which what it chooses may make use
by_choice : (t : Bool) (c d : Choice) → (t ≡ true → Pairs c.pairs) → Pairs d.pairs → Pairs (pick t c d).pairs
by_choice true c d h k = h refl
by_choice false c d h k = k

record Walking (w : Walk) : Type 0 where
  pairs : Pairs w.choice.pairs
  number : w.reading.number < 256
  alternate : w.reading.alternate < 256

-- an endpoint counts only in an alternate other than 0
some_alternate : (i : Interface) (x : List ℕ) → counts i x ≡ true → 0 < i.alternate
some_alternate i x e =
    let other = and_first (not (eqb i.alternate 0)) (is_interrupt x) (and_second (eqb i.class 0xFF) _ e) in
    let ne = eqb-false i.alternate 0 (not-true (eqb i.alternate 0) other) in
    omega arith

pairs_chosen : (i : Interface) (input : Bool) (size : ℕ) (c : Choice) → Pair i.number i.alternate → Pairs c.pairs → Pairs (chosen i input size c).pairs
unfolding chosen
pairs_chosen i input size c h k =
    by_choice (member i.number (interfaces c.pairs) && ltb size (slot input c)) c _ (λ e. k) (pairs_placed i.number i.alternate c.pairs h k)

walking_step : (x : List ℕ) (w : Walk) → Bytes x → Walking w → Walking (step x w)
unfolding step
walking_step x w b h =
    record {
      pairs =
          by_choice (is_endpoint x && counts w.reading x) _ w.choice
          (λ e. pairs_chosen w.reading (is_input x) (packet_size x) w.choice
          (record {
            interface_lt = h.number;
            alternate_lt = h.alternate;
            some = some_alternate w.reading x (and_second (is_endpoint x) _ e);
          })
          h.pairs)
          h.pairs;
      number = pick_both (λ (i : Interface). i.number < 256) (is_interface x) {a = interface_of x} {b = w.reading} (b 2) h.number;
      alternate = pick_both (λ (i : Interface). i.alternate < 256) (is_interface x) {a = interface_of x} {b = w.reading} (b 3) h.alternate;
    }

walking_pick : (t : Bool) (xs ys : List (List ℕ)) (w : Walk) → Walking (walked xs w) → Walking (walked ys w) → Walking (walked (pick t xs ys) w)
walking_pick true xs ys w h k = h
walking_pick false xs ys w h k = k

walking_cut : (fuel : ℕ) (d : List ℕ) (w : Walk) → Bytes d → Walking w → Walking (walked (cut fuel d) w)
unfolding walked cut
walking_cut zero d w b h = h
walking_cut (suc fuel) d w b h =
    walking_pick (whole d) (take (at d 0) d ∷ cut fuel (drop (at d 0) d)) [] w
    (walking_cut fuel (drop (at d 0) d) (step (take (at d 0) d) w) (bytes_drop (at d 0) d b) (walking_step (take (at d 0) d) w (bytes_take (at d 0) d b) h))
    h

pub pairs_bytes : (d : List ℕ) → Bytes d → Pairs (parsed d).pairs
pairs_bytes d b =
    (walking_cut (length d) d start b (record { pairs = tt; number = omega arith; alternate = omega arith })).pairs
