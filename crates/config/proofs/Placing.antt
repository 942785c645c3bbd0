-- Pairs in a list of structs: where an interface stands, and what a pair taken there leaves.
use Rattle.std.specs.Prelude.{◌≡◌, ℕ, suc, ◌+◌, ◌≤◌, ◌<◌, replicate, Bool, true, false, List, [], ◌∷◌, ◌++◌, length, take, eqb, ltb, refl, Some, None, position, is_some}
use Rattle.std.specs.List.{position_or_len}
use Rattle.std.proofs.Common.{set, sym, ap, ◌∙◌, arith}
use Rattle.std.proofs.lemmas.List.{map-set, map-append, take_more_set, length-set, drop-set-lt, drop-replicate}
use Rattle.std.proofs.lemmas.Grind.{drop_more_same}
use lib.ListN.{length-map, length-append}
use lib.Seq.{length-take-le}
use Rattle.std.proofs.Math.Seq.{take-set-lt}
use borrow.Author.Tests.{lt-ltb, ltb-true}
use lib.Dec.{leb-suc-suc}
use Rattle.config.specs.Config.{member, placed, interfaces}
use Rattle.config.specs.Pairs.{pair_of, place_of, no_pair, listed, OneEach, Holds}
use Rattle.config.specs.declared.Pair.{Pair}
use Rattle.config.proofs.Cases.{by_test}
use Rattle.config.proofs.Few.{one_each_placed, one_each_few}

one_more : (n : ℕ) → 1 + n ≡ suc n
one_more n = omega arith

module _ (i : ℕ) where
  abbrev pub is_here : Pair → Bool
  is_here p = eqb p.interface i

  -- the place is before the end exactly for a member
  place_member : (ps : List Pair) → ltb (position_or_len is_here ps) (length ps) ≡ member i (interfaces (listed ps))
  unfolding member
  place_member [] = refl
  place_member (p ∷ ps) =
      by_test (eqb p.interface i)
      (λ e. rw e (lt-ltb 0 (suc (length ps)) (omega arith)))
      (λ e. rw (e, one_more) (leb-suc-suc (suc (position_or_len is_here ps)) (length ps) ∙ place_member ps))

  module _ (a : ℕ) where
    placed_there : (ps : List Pair) → member i (interfaces (listed ps)) ≡ true → placed i a (listed ps) ≡ set (listed ps) (position_or_len is_here ps) (i, a)
    unfolding placed member
    placed_there [] e = cc
    placed_there (p ∷ ps) e =
        by_test (eqb p.interface i)
        (λ h. rw h)
        (λ h. rw (h, one_more) (ap (λ (l : List (ℕ × ℕ)). pair_of p ∷ l) (placed_there ps (rw h at e))))

    placed_nowhere : (ps : List Pair) → member i (interfaces (listed ps)) ≡ false → placed i a (listed ps) ≡ listed ps ++ (i, a) ∷ []
    unfolding placed member
    placed_nowhere [] e = refl
    placed_nowhere (p ∷ ps) e =
        by_test (eqb p.interface i)
        (λ h. cc (rw h at e))
        (λ h. rw h (ap (λ (l : List (ℕ × ℕ)). pair_of p ∷ l) (placed_nowhere ps (rw h at e))))

  -- a pair's place in a list of structs
  where_is : (ps : List Pair) → position_or_len (λ p. eqb p.0 i) (listed ps) ≡ position_or_len is_here ps
  where_is [] = refl
  where_is (p ∷ ps) =
      by_test (eqb p.interface i)
      (λ e. rw e refl)
      (λ e. rw e (ap (λ (k : ℕ). 1 + k) (where_is ps)))

  pub place_is : (ps : List Pair) → position is_here ps ≡ place_of i (listed ps)
  place_is ps = rw (where_is ps, length-map ps pair_of) refl

  -- what the search for the place says
  module _ (ps : List Pair) where
    pub found_member : {k : ℕ} → position is_here ps ≡ Some k → (member i (interfaces (listed ps)) ≡ true) × (position_or_len is_here ps ≡ k)
    found_member f =
        by_test (ltb (position_or_len is_here ps) (length ps))
        (λ e. (sym (place_member ps) ∙ e, cc (rw e at f)))
        (λ e. cc (rw e at f))

    pub not_member : position is_here ps ≡ None → member i (interfaces (listed ps)) ≡ false
    not_member f =
        by_test (ltb (position_or_len is_here ps) (length ps))
        (λ e. cc (rw e at f))
        (λ e. sym (place_member ps) ∙ e)

    pub found_is : is_some (position is_here ps) ≡ member i (interfaces (listed ps))
    found_is =
        by_test (ltb (position_or_len is_here ps) (length ps))
        (λ e. rw e (sym e ∙ place_member ps))
        (λ e. rw e (sym e ∙ place_member ps))

    pub placed_new : (a : ℕ) → position is_here ps ≡ None → placed i a (listed ps) ≡ listed ps ++ (i, a) ∷ []
    placed_new a f = placed_nowhere a ps (not_member f)

  -- the first pairs of a table, n of them, after the pair of the interface was taken
  module _ (a : ℕ) (ps table : List Pair) (n : ℕ) (same : listed ps ≡ listed (take n table)) (long : n ≤ length table) where
    size : length ps ≡ n
    size = sym (length-map ps pair_of) ∙ ap length same ∙ length-map (take n table) pair_of ∙ length-take-le n table long

    pub taken_there : {k : ℕ} → position is_here ps ≡ Some k → listed (take n (set table k (record { interface = i; alternate = a }))) ≡ placed i a (listed (take n table))
    taken_there {k} f =
        let m = found_member ps f in
        let inside : k < n = omega (arith, size, ltb-true (position_or_len is_here ps) (length ps) (place_member ps ∙ m.0), m.1) in
        ap listed (take-set-lt n table k _ inside) ∙ map-set pair_of (take n table) k _
        ∙ rw (← same, ← m.1) (sym (placed_there a ps m.0))

    -- there is room for the pair of another interface
    pub room : i < 256 → OneEach (listed (take n table)) → position is_here ps ≡ None → n < 256
    room h o f =
        let more = one_each_few (placed i a (listed (take n table))) (one_each_placed i a (listed (take n table)) h o) in
        let size-of : length (placed i a (listed (take n table))) ≡ length ps + 1 =
        rw (← same) (ap length (placed_new ps a f) ∙ length-append (listed ps) _ ∙ ap (λ (k : ℕ). k + 1) (length-map ps pair_of)) in
        omega (arith, size)

    pub taken_new : i < 256 → OneEach (listed (take n table)) → length table ≡ 256 → position is_here ps ≡ None
        → listed (take (n + 1) (set table n (record { interface = i; alternate = a }))) ≡ placed i a (listed (take n table))
    taken_new h o all f =
        let inside : n < length table = omega (arith, room h o f) in
        ap listed (take_more_set table n _ inside) ∙ map-append pair_of (take n table) _ ∙ rw (← same) (sym (placed_new ps a f))

    -- and the table still holds its pairs
    pub holds_there : {k : ℕ} → i < 256 → Holds table n → position is_here ps ≡ Some k → Holds (set table k (record { interface = i; alternate = a })) n
    holds_there {k} b h f =
        let m = found_member ps f in
        let inside : k < n = omega (arith, size, ltb-true (position_or_len is_here ps) (length ps) (place_member ps ∙ m.0), m.1) in
        record {
          few = h.few;
          long = length-set table k _ ∙ h.long;
          rest = drop-set-lt n table k _ inside ∙ h.rest;
          each = rw (taken_there f) (one_each_placed i a (listed (take n table)) b h.each);
        }

    pub holds_new : i < 256 → Holds table n → position is_here ps ≡ None → Holds (set table n (record { interface = i; alternate = a })) (n + 1)
    holds_new b h f =
        let fits = room b h.each f in
        record {
          few = omega (arith, fits);
          long = length-set table n _ ∙ h.long;
          rest =
              drop-set-lt (n + 1) table n _ (omega arith)
              ∙ drop_more_same table (replicate 256 no_pair) n (h.rest ∙ sym (drop-replicate n 256 no_pair))
              ∙ drop-replicate (n + 1) 256 no_pair;
          each = rw (taken_new b h.each h.long f) (one_each_placed i a (listed (take n table)) b h.each);
        }
