-- What a clause sees of an input or an output: the bytes that it holds, and whether a call to the system failed.
use Rattle.std.specs.Prelude.{◌≡◌, ℕ, Bool, true, false, List, [], ◌++◌}

pub record Held : Type 0 where
  pub bytes : List ℕ
  pub failed : Bool

-- one that holds nothing, and of which nothing was asked
abbrev pub fresh : Held
fresh = record { bytes = []; failed = false }

-- more bytes behind those held
abbrev pub more : Held → List ℕ → Held
more h bytes = record { bytes = h.bytes ++ bytes; failed = h.failed }

-- what failed once has failed
abbrev pub Stays : Held → Held → Type 0
Stays old new = old.failed ≡ true → new.failed ≡ true
