-- Pairs as the code keeps them, and what is true of them.
use Rattle.std.specs.Prelude.{◌≡◌, ℕ, ◌-◌, ◌<◌, ◌≤◌, Option, position, eqb, List, [], ◌∷◌, ◌++◌, map, length, take, drop, replicate}
use Rattle.config.specs.Config.{Distinct, interfaces}
use Rattle.config.specs.declared.Pair.{Pair}

-- an interface, and the alternate taken for it
abbrev pub pair_of : Pair → ℕ × ℕ
pair_of p = (p.interface, p.alternate)

abbrev pub listed : List Pair → List (ℕ × ℕ)
listed ps = map pair_of ps

-- the place of an interface's pair
abbrev pub place_of : ℕ → List (ℕ × ℕ) → Option ℕ
place_of i ps = position (λ p. eqb p.0 i) ps

abbrev pub pair_at : ℕ × ℕ → Pair
pair_at p = record { interface = p.0; alternate = p.1 }

-- what stands behind the last pair
abbrev pub no_pair : Pair
no_pair = record { interface = 0; alternate = 1 }

-- pairs in 256 places, no pair behind the last
abbrev pub placed_in : List (ℕ × ℕ) → List Pair
placed_in ps = map pair_at ps ++ replicate (256 - length ps) no_pair

-- every number of a list is below k
unfoldable pub Below : ℕ → List ℕ → Type 0
Below k [] = Unit {0}
Below k (x ∷ xs) = (x < k) × Below k xs

-- no interface has two pairs, and interfaces are bytes
pub record OneEach (ps : List (ℕ × ℕ)) : Type 0 where
  pub distinct : Distinct (interfaces ps)
  pub below : Below 256 (interfaces ps)

-- the first n of 256 places hold pairs, and the others none
pub record Holds (places : List Pair) (n : ℕ) : Type 0 where
  pub few : n ≤ 256
  pub long : length places ≡ 256
  pub rest : drop n places ≡ replicate (256 - n) no_pair
  pub each : OneEach (listed (take n places))
