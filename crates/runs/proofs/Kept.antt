-- What an area keeps of bytes that come in parts.
use Prim.Native.Nat.{ℕ, zero, suc, ◌+◌, ◌-◌, ◌≤◌, min}
use mathlib.Core.List.{List, [], ◌∷◌, ◌++◌}
use mathlib.Core.Path.{◌≡◌, refl, sym, ap, ◌∙◌}
use native.Mathlib.Nat.{add-zero, suc-min-suc, zero-min, min-zero, min-le_left, min-le_right}
use native.Mathlib.Omega.{arith}
use lib.ListN.{length, take, drop, length-take, length-append}
use lib.Seq.{sets, sets-eq, length-sets}
use Rattle.bits.proofs.Lists.{sets_append}
use Rattle.bus.specs.Memory.{Memory}
use Rattle.transfer.specs.Transfer.{pointers, pointers_for, bytes_in, received}
use Rattle.transfer.proofs.Addresses.{received_for}
use Rattle.transfer.proofs.Laws.{length_bytes_in, in_take}
use Rattle.runs.specs.Turns.{kept, kept_end}

take_none : (n : ℕ) → take {A = ℕ} n [] ≡ []
take_none zero = refl
take_none (suc n) = refl

-- taking more than there is takes all
take_min : (n : ℕ) (xs : List ℕ) → take (min (length xs) n) xs ≡ take n xs
take_min n [] = ap (λ (k : ℕ). take {A = ℕ} k []) (zero-min n) ∙ sym (take_none n)
take_min zero (x ∷ xs) = ap (λ (k : ℕ). take k (x ∷ xs)) (min-zero (suc (length xs)))
take_min (suc n) (x ∷ xs) = ap (λ (k : ℕ). take k (x ∷ xs)) (suc-min-suc (length xs) n) ∙ ap (λ (r : List ℕ). x ∷ r) (take_min n xs)

-- the first n of two lists: those of the first, and what is left of n of the second
take_append : (n : ℕ) (xs ys : List ℕ) → take n (xs ++ ys) ≡ take n xs ++ take (n - length (take n xs)) ys
take_append zero xs ys = refl
take_append (suc n) [] ys = let all : suc n - 0 ≡ suc n = omega arith in ap (λ (k : ℕ). take k ys) (sym all)
take_append (suc n) (x ∷ xs) ys =
    let less : suc n - suc (length (take n xs)) ≡ n - length (take n xs) = omega arith in
    ap (λ (r : List ℕ). x ∷ r) (take_append n xs ys) ∙ ap (λ (k : ℕ). x ∷ (take n xs ++ take k ys)) (sym less)

-- two parts kept one after the other
module _ (out : List ℕ) (at limit : ℕ) (xs ys : List ℕ) where
  left_over : limit - at - length (take (limit - at) xs) ≡ limit - kept_end at limit xs
  unfolding kept_end
  left_over = omega arith

  pub kept_append : kept out at limit (xs ++ ys) ≡ kept (kept out at limit xs) (kept_end at limit xs) limit ys
  unfolding kept kept_end
  kept_append =
      ap (sets out at) (take_append (limit - at) xs ys)
      ∙ sets_append out at (take (limit - at) xs) (take (limit - at - length (take (limit - at) xs)) ys)
      ∙ ap (λ (k : ℕ). sets (sets out at (take (limit - at) xs)) (at + length (take (limit - at) xs)) (take k ys)) left_over

  pub end_append : kept_end at limit (xs ++ ys) ≡ kept_end (kept_end at limit xs) limit ys
  unfolding kept_end
  end_append =
      ap (λ (l : List ℕ). at + length l) (take_append (limit - at) xs ys)
      ∙ ap (λ (k : ℕ). at + k) (length-append (take (limit - at) xs) (take (limit - at - length (take (limit - at) xs)) ys))
      ∙ sum ∙ ap (λ (k : ℕ). at + length (take (limit - at) xs) + length (take k ys)) left_over
    where
      sum : at + (length (take (limit - at) xs) + length (take (limit - at - length (take (limit - at) xs)) ys))
          ≡ at + length (take (limit - at) xs) + length (take (limit - at - length (take (limit - at) xs)) ys)
      sum = omega arith

-- nothing more to keep
pub kept_none : (out : List ℕ) (at limit : ℕ) → kept out at limit [] ≡ out
unfolding kept
kept_none out at limit = ap (sets out at) (take_none (limit - at))

pub end_none : (at limit : ℕ) → kept_end at limit [] ≡ at
unfolding kept_end
end_none at limit = ap (λ (l : List ℕ). at + length l) (take_none (limit - at)) ∙ add-zero at

pub length_kept : (out : List ℕ) (at limit : ℕ) (bs : List ℕ) → length (kept out at limit bs) ≡ length out
unfolding kept
length_kept out at limit bs = length-sets out at (take (limit - at) bs)

pub end_inside : (at limit : ℕ) (bs : List ℕ) → at ≤ limit → kept_end at limit bs ≤ limit
unfolding kept_end
end_inside at limit bs h = omega (arith, length-take (limit - at) bs, min-le_left (limit - at) (length bs))

-- a descriptor's bytes, as far as there is room for them
module _ (m : Memory) (td total keep : ℕ) (out : List ℕ) (at limit : ℕ) (is-keep : keep ≡ min total (limit - at)) (few : total ≤ 32767) (inside : at ≤ limit) (room : limit ≤ length out) where
  as_taken : bytes_in m (pointers m td) keep ≡ take (limit - at) (bytes_in m (pointers m td) total)
  as_taken =
      in_take m (pointers m td) keep total (omega (arith, is-keep, min-le_left total (limit - at)))
      ∙ ap (λ (k : ℕ). take k (bytes_in m (pointers m td) total)) (is-keep ∙ ap (λ (x : ℕ). min x (limit - at)) (sym (length_bytes_in m (pointers m td) total)))
      ∙ take_min (limit - at) (bytes_in m (pointers m td) total)

  pub received_kept : received m (pointers_for m td keep) keep out at ≡ kept out at limit (bytes_in m (pointers m td) total)
  unfolding kept received
  received_kept =
      received_for m td keep (omega (arith, is-keep, min-le_left total (limit - at))) m keep out at (omega arith)
      ∙ ap (λ (k : ℕ). take at out ++ bytes_in m (pointers m td) keep ++ drop (at + k) out) (sym (length_bytes_in m (pointers m td) keep))
      ∙ sym (sets-eq (bytes_in m (pointers m td) keep) out at (omega (arith, length_bytes_in m (pointers m td) keep, is-keep, min-le_right total (limit - at))))
      ∙ ap (sets out at) as_taken

  pub end_kept : at + keep ≡ kept_end at limit (bytes_in m (pointers m td) total)
  unfolding kept_end
  end_kept = ap (λ (k : ℕ). at + k) (sym (length_bytes_in m (pointers m td) keep)) ∙ ap (λ (l : List ℕ). at + length l) as_taken
