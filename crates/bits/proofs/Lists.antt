-- Laws on lists that several crates cite.
use Prim.Native.Nat.{ℕ, suc, ◌+◌, ◌-◌, ◌≤◌}
use mathlib.Core.List.{List, [], ◌∷◌, ◌++◌, append_assoc, append-nil}
use mathlib.Core.Path.{◌≡◌, sym, ap, ap₂, ◌∙◌}
use native.Mathlib.Nat.{add-zero, suc-add, add-suc}
use native.Mathlib.Omega.{arith}
use borrow.Rule.Slice.PartMut.{put_mid, Post-is}
use lib.ListN.{length, set, take, drop, drop_of_length-le}
use lib.Seq.{sets, sets-eq, take-length}

-- stores of a list and then of another are the stores of both
pub sets_append : (q : List ℕ) (at : ℕ) (xs ys : List ℕ) → sets q at (xs ++ ys) ≡ sets (sets q at xs) (at + length xs) ys
sets_append q at [] ys = rw add-zero
sets_append q at (x ∷ xs) ys = sets_append (set q at x) (suc at) xs ys ∙ rw (suc-add, add-suc)

-- a list that is copied over one as long is what is left (`bytes::copy`)
pub copied_whole : (to from : List ℕ) → length to ≡ length from → take (length from) from ++ drop (length from) to ≡ from
copied_whole to from e = let all : length to ≤ length from = omega arith in ap₂ ◌++◌ (take-length from) (drop_of_length-le to all) ∙ append-nil from

-- a part of a list that is put back as another one is the stores of that
pub put_sets : {A : Type 0} (d s l : List A) (i : ℕ) → i + length s ≤ length d → l ≡ s → put_mid i (i + length s - i) d l ≡ sets d i s
put_sets {A} d s l i inside is =
    ap (λ (x : List A). put_mid i (i + length s - i) d x) is
    ∙ ap (λ (x : List A). take i d ++ (s ++ x)) (Post-is i (i + length s) d (omega arith))
    ∙ sym (append_assoc (take i d) s (drop (i + length s) d)) ∙ sym (sets-eq s d i inside)
