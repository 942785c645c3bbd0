-- Places give their pairs back, which the model of `Pairs` needs for its inverse: the pairs, and no pair behind them, are all 256 places.
use Rattle.std.specs.Prelude.{◌≡◌, ℕ, ◌-◌, List, [], ◌∷◌, ◌++◌, map, length, take, replicate}
use Rattle.std.proofs.Common.{sym, ap, ◌∙◌, refl, arith}
use Rattle.std.proofs.lemmas.List.{take-append-drop}
use lib.ListN.{length-map}
use lib.Seq.{length-take-le}
use Rattle.config.specs.Pairs.{pair_of, pair_at, no_pair, listed, placed_in, Holds}
use Rattle.config.specs.declared.Pair.{Pair}

pub pairs_back : (ps : List Pair) → map pair_at (listed ps) ≡ ps
pairs_back [] = refl
pairs_back (p ∷ ps) = ap (λ (l : List Pair). p ∷ l) (pairs_back ps)

pub count_back : (places : List Pair) (n : ℕ) → Holds places n → length (listed (take n places)) ≡ n
count_back places n h = length-map (take n places) pair_of ∙ length-take-le n places (omega (arith, h.few, h.long))

pub places_back : (places : List Pair) (n : ℕ) → Holds places n → placed_in (listed (take n places)) ≡ places
places_back places n h =
    rw (count_back places n h)
    (ap (λ (l : List Pair). l ++ replicate (256 - n) no_pair) (pairs_back (take n places)) ∙ ap (λ (l : List Pair). take n places ++ l) (sym h.rest) ∙ take-append-drop n places)
