-- Lists with zeros behind them, 256 in all: their length, their entries, and one entry more.
use mathlib.Core.Path.{◌≡◌, sym, ap, ◌∙◌}
use mathlib.Core.List.{List, [], ◌∷◌, ◌++◌, map, append_assoc}
use Prim.Native.Nat.{ℕ, suc, ◌+◌, ◌-◌, ◌≤◌, ◌<◌}
use native.Mathlib.Omega.{arith}
use lib.ListN.{length, get_or, take, set, replicate, length-append, length-replicate, length-map, get_or-append, get_or-map}
use lib.Seq.{length-take-le}
use Rattle.std.proofs.lemmas.List.{take_more, map-append, set_at}
use Rattle.config.specs.Pairs.{pair_of, listed}
use Rattle.config.specs.Table.{padded}
use Rattle.config.specs.declared.Pair.{Pair}

pub length_padded : (l : List ℕ) → length l ≤ 256 → length (padded l) ≡ 256
length_padded l h = simp (length-append, length-replicate) (omega arith)

-- an entry below the number of pairs is that pair's half
pub padded_entry : (f : ℕ × ℕ → ℕ) (ps : List (ℕ × ℕ)) (k : ℕ) → k < length ps → get_or (padded (map f ps)) k (f (0, 0)) ≡ f (get_or ps k (0, 0))
padded_entry f ps k h =
    get_or-append (map f ps) (replicate (256 - length (map f ps)) 0) (f (0, 0)) k (rw length-map h) ∙ get_or-map f ps k (0, 0)

-- the half of the next pair, stored behind those of the pairs before it
pub padded_more : (f : ℕ × ℕ → ℕ) (ps : List Pair) (i : ℕ) (d : Pair) → i < length ps → length ps ≤ 256
    → set (padded (map f (listed (take i ps)))) i (f (pair_of (get_or ps i d))) ≡ padded (map f (listed (take (i + 1) ps)))
padded_more f ps i d h few =
    let done = map f (listed (take i ps)) in
    let v = f (pair_of (get_or ps i d)) in
    let size : length done ≡ i = length-map (listed (take i ps)) f ∙ length-map (take i ps) pair_of ∙ length-take-le i ps (omega arith) in
    let zeros : 256 - length done ≡ suc (256 - (i + 1)) = omega arith in
    let all : map f (listed (take (i + 1) ps)) ≡ done ++ v ∷ [] =
    ap (λ (l : List Pair). map f (listed l)) (take_more ps i d h)
    ∙ ap (map f) (map-append pair_of (take i ps) (get_or ps i d ∷ []))
    ∙ map-append f (listed (take i ps)) (pair_of (get_or ps i d) ∷ []) in
    let behind : 256 - (i + 1) ≡ 256 - length (done ++ v ∷ []) = omega (arith, length-append done (v ∷ [])) in
    ap (λ (n : ℕ). set (done ++ replicate n 0) i v) zeros
    ∙ set_at done 0 (replicate (256 - (i + 1)) 0) v i size
    ∙ sym (append_assoc done (v ∷ []) (replicate (256 - (i + 1)) 0))
    ∙ ap (λ (n : ℕ). (done ++ v ∷ []) ++ replicate n 0) behind
    ∙ ap padded (sym all)
