-- The one or the other by a test, and what that keeps: the branch that every definition of the project uses.
use Rattle.std.specs.Prelude.{◌≡◌, refl, Bool, true, false, ◌&&◌}

abbrev pub pick : {A : Type 0} → Bool → A → A → A
pick true a b = a
pick false a b = b

-- what is true of both choices is true of the one taken
pub pick_both : {A : Type 0} (P : A → Type 0) (t : Bool) {a b : A} → P a → P b → P (pick t a b)
pick_both P true p q = p
pick_both P false p q = q

-- a function of a choice is the choice of its values
pub pick_map : {A B : Type 0} (f : A → B) (t : Bool) (a b : A) → f (pick t a b) ≡ pick t (f a) (f b)
pick_map f true a b = refl
pick_map f false a b = refl

-- a choice between two that are the same is that one
pub pick_same : {A : Type 0} (t : Bool) (a : A) → pick t a a ≡ a
pick_same true a = refl
pick_same false a = refl

-- choices of equal values by one test are equal
pub pick_eq : {A : Type 0} (t : Bool) {a b a' b' : A} → a ≡ a' → b ≡ b' → pick t a b ≡ pick t a' b'
pick_eq true p q = p
pick_eq false p q = q

-- a choice in a choice with the same other value is one choice by both tests
pub pick_and : {A : Type 0} (s t : Bool) (a b : A) → pick s (pick t a b) b ≡ pick (s && t) a b
pick_and true t a b = refl
pick_and false t a b = refl
