-- What a kept count means as a number with a sign: taking from it, adding to it, and the test against zero.
use Prim.Native.Nat.{ℕ, suc, ◌+◌, ◌-◌, ◌≤◌}
use mathlib.Core.Bool.{Bool, true, false}
use mathlib.Core.Path.{◌≡◌, refl, sym, ap, ◌∙◌}
use native.Mathlib.Omega.{arith}
use native.Mathlib.Nat.{sub-add_cancel}
use borrow.Author.Tests.{le-ltb, ltb-true, ltb-false}
use lib.Dec.{ltb}
use lib.IntN.{ℤ, pos, negsuc, neg_ℤ, ◌+ℤ◌, ◌-ℤ◌, +ℤ_assoc, +ℤ_comm, +ℤ_invr, +ℤ_idl, neg_ℤ-+ℤ, +ℤ-neg_ℤ_cancel, pos-+ℤ-pos}
use lib.Signed.{lt_z}
use Rattle.gptimers.specs.Timer.{ZERO, signed}

module _ (z : ℕ) where
  -- a sum, before and after z is taken away
  plus : (n k : ℕ) → pos (n + k) -ℤ pos z ≡ pos n -ℤ pos z +ℤ pos k
  plus n k =
      ap (λ (x : ℤ). x -ℤ pos z) (sym (pos-+ℤ-pos n k)) ∙ +ℤ_assoc (pos n) (pos k) (neg_ℤ (pos z))
      ∙ ap (λ (x : ℤ). pos n +ℤ x) (+ℤ_comm (pos k) (neg_ℤ (pos z))) ∙ sym (+ℤ_assoc (pos n) (neg_ℤ (pos z)) (pos k))

  -- what is not below z is not below zero, and what is, is
  from_z : (d : ℕ) → pos (d + z) -ℤ pos z ≡ pos d
  from_z d = ap (λ (x : ℤ). x -ℤ pos z) (sym (pos-+ℤ-pos d z)) ∙ +ℤ-neg_ℤ_cancel (pos d) (pos z)

below_z : (n d : ℕ) → pos n -ℤ pos (n + suc d) ≡ negsuc d
below_z n d =
    ap (λ (x : ℤ). pos n -ℤ x) (sym (pos-+ℤ-pos n (suc d))) ∙ ap (λ (x : ℤ). pos n +ℤ x) (neg_ℤ-+ℤ (pos n) (pos (suc d)))
    ∙ sym (+ℤ_assoc (pos n) (neg_ℤ (pos n)) (neg_ℤ (pos (suc d)))) ∙ ap (λ (x : ℤ). x +ℤ neg_ℤ (pos (suc d))) (+ℤ_invr (pos n))
    ∙ +ℤ_idl (neg_ℤ (pos (suc d)))

pub signed_add : (n k : ℕ) → signed (n + k) ≡ signed n +ℤ pos k
unfolding signed
signed_add n k = plus ZERO n k

pub signed_sub : (n k : ℕ) → k ≤ n → signed (n - k) ≡ signed n -ℤ pos k
unfolding signed
signed_sub n k h =
    sym (+ℤ-neg_ℤ_cancel (pos (n - k) -ℤ pos ZERO) (pos k)) ∙ ap (λ (x : ℤ). x -ℤ pos k) (sym (plus ZERO (n - k) k))
    ∙ ap (λ (x : ℕ). pos x -ℤ pos ZERO -ℤ pos k) (sub-add_cancel h)

below : (n z : ℕ) → lt_z (pos n -ℤ pos z) (pos 0) ≡ ltb n z
below n z = by_test (ltb n z) refl
  where
    by_test : (t : Bool) → ltb n z ≡ t → lt_z (pos n -ℤ pos z) (pos 0) ≡ t
    by_test true e =
        let h = ltb-true n z e in
        let d : z ≡ n + suc (z - n - 1) = omega (arith, h) in
        ap (λ (x : ℕ). lt_z (pos n -ℤ pos x) (pos 0)) d ∙ ap (λ (x : ℤ). lt_z x (pos 0)) (below_z n (z - n - 1))
    by_test false e =
        let h = ltb-false n z e in
        let d : n ≡ n - z + z = omega (arith, h) in
        ap (λ (x : ℕ). lt_z (pos x -ℤ pos z) (pos 0)) d ∙ ap (λ (x : ℤ). lt_z x (pos 0)) (from_z z (n - z)) ∙ le-ltb (n - z) 0 (omega arith)

pub signed_below : (n : ℕ) → lt_z (signed n) (pos 0) ≡ ltb n ZERO
unfolding signed
signed_below n = below n ZERO
