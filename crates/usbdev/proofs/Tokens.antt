-- A descriptor's token after a transfer: its total, its status and its other bits.
use Rattle.std.proofs.Common.{◌≡◌, ℕ, ◌-◌, ◌*◌, ◌/◌, ◌%◌, ◌^◌, ◌<◌, min, false, not, eqb, sym, refl, ap, ◌∙◌, ap₂, mod-eq_of_lt, arith, lit<}
use native.Mathlib.Nat.{min-zero}
use lib.Bits.{bit_and, bit_or, and_mask, and_le_r, and_shr, or_shr, and_mod, or_mod, and_zero_r, or_zero_l, or_zero_r}
use Rattle.bits.specs.Word.{clear, any, inv32}
use Rattle.bits.proofs.Bit.{bit, bit_lt, bit_and_lem, any_bit, any_agrees, min_one}
use Rattle.usbdev.specs.Transfer.{total_of, token_after}

-- a total is the 15 bits from bit 16 on
pub total_is : (tok : ℕ) → total_of tok ≡ tok / 2 ^ 16 % 2 ^ 15
unfolding total_of
total_is tok = and_mask (tok / 2 ^ 16) 15

pub total_lt : (tok : ℕ) → total_of tok < 2 ^ 15
total_lt tok = omega (arith, total_is tok)

-- the bytes left, in their place
left_fits : (tok n : ℕ) → (total_of tok - n) * 2 ^ 16 % 2 ^ 32 ≡ (total_of tok - n) * 2 ^ 16
left_fits tok n = mod-eq_of_lt (omega (arith, total_lt tok))

-- after n bytes the total is n less
pub total_after : (tok n : ℕ) → total_of (token_after tok n) ≡ total_of tok - n
unfolding token_after
total_after tok n =
    total_is _
    ∙ ap (λ (x : ℕ). x % 2 ^ 15) (or_shr (clear (clear tok 0x7FFF0000) 0xFF) ((total_of tok - n) * 2 ^ 16 % 2 ^ 32) 16)
    ∙ or_mod (clear (clear tok 0x7FFF0000) 0xFF / 2 ^ 16) ((total_of tok - n) * 2 ^ 16 % 2 ^ 32 / 2 ^ 16) 15
    ∙ ap₂ bit_or none rest ∙ or_zero_l (total_of tok - n)
  where
    none : clear (clear tok 0x7FFF0000) 0xFF / 2 ^ 16 % 2 ^ 15 ≡ 0
    none =
        ap (λ (x : ℕ). x % 2 ^ 15) (and_shr (clear tok 0x7FFF0000) (inv32 0xFF) 16)
        ∙ and_mod (clear tok 0x7FFF0000 / 2 ^ 16) (inv32 0xFF / 2 ^ 16) 15
        ∙ ap (λ (x : ℕ). bit_and x 0x7FFF) (ap (λ (x : ℕ). x % 2 ^ 15) (and_shr tok (inv32 0x7FFF0000) 16) ∙ and_mod (tok / 2 ^ 16) (inv32 0x7FFF0000 / 2 ^ 16) 15 ∙ and_zero_r (tok / 2 ^ 16 % 2 ^ 15))

    rest : (total_of tok - n) * 2 ^ 16 % 2 ^ 32 / 2 ^ 16 % 2 ^ 15 ≡ total_of tok - n
    rest = omega (arith, left_fits tok n, total_lt tok)

-- the low half keeps all but the status: the interrupt bit (15) and the bits up to it stay, the active bit (7) is clear
pub low_after : (tok n : ℕ) → token_after tok n % 2 ^ 16 ≡ bit_and (tok % 2 ^ 16) 0xFF00
unfolding token_after
low_after tok n =
    or_mod (clear (clear tok 0x7FFF0000) 0xFF) ((total_of tok - n) * 2 ^ 16 % 2 ^ 32) 16
    ∙ ap₂ bit_or kept nothing ∙ or_zero_r (bit_and (tok % 2 ^ 16) 0xFF00)
  where
    kept : clear (clear tok 0x7FFF0000) 0xFF % 2 ^ 16 ≡ bit_and (tok % 2 ^ 16) 0xFF00
    kept =
        and_mod (clear tok 0x7FFF0000) (inv32 0xFF) 16
        ∙ ap (λ (x : ℕ). bit_and x 0xFF00) (and_mod tok (inv32 0x7FFF0000) 16 ∙ and_mask (tok % 2 ^ 16) 16 ∙ omega_same)
      where
        omega_same : tok % 2 ^ 16 % 2 ^ 16 ≡ tok % 2 ^ 16
        omega_same = omega arith

    nothing : (total_of tok - n) * 2 ^ 16 % 2 ^ 32 % 2 ^ 16 ≡ 0
    nothing = omega (arith, left_fits tok n)

-- a mask below 2^16 tests the low half alone
low_test : (v m : ℕ) → m < 2 ^ 16 → any v m ≡ any (v % 2 ^ 16) m
low_test v m h = ap (λ (x : ℕ). not (eqb x 0)) (sym small ∙ and_mod v m 16 ∙ ap (bit_and (v % 2 ^ 16)) (mod-eq_of_lt h))
  where
    small : bit_and v m % 2 ^ 16 ≡ bit_and v m
    small = mod-eq_of_lt (omega (arith, and_le_r v m))

-- bits 7 and 15 of the mask FF00
clear_seven : bit 7 0xFF00 ≡ 0
unfolding bit
clear_seven = refl

set_fifteen : bit 15 0xFF00 ≡ 1
unfolding bit
set_fifteen = refl

-- a retired descriptor is not active
pub inactive_after : (tok n : ℕ) → any (token_after tok n) 0x80 ≡ false
inactive_after tok n =
    low_test (token_after tok n) 0x80 (lit< tt) ∙ ap (λ (x : ℕ). any x 0x80) (low_after tok n) ∙ any_bit 7 (bit_and (tok % 2 ^ 16) 0xFF00)
    ∙ ap (λ (x : ℕ). eqb x 1) (bit_and_lem 7 (tok % 2 ^ 16) 0xFF00 ∙ ap (min (bit 7 (tok % 2 ^ 16))) clear_seven ∙ min-zero (bit 7 (tok % 2 ^ 16)))

-- its interrupt bit stays
pub interrupt_after : (tok n : ℕ) → any (token_after tok n) 0x8000 ≡ any tok 0x8000
interrupt_after tok n =
    low_test (token_after tok n) 0x8000 (lit< tt) ∙ ap (λ (x : ℕ). any x 0x8000) (low_after tok n)
    ∙ any_agrees 15 (bit_and (tok % 2 ^ 16) 0xFF00) (tok % 2 ^ 16)
    (bit_and_lem 15 (tok % 2 ^ 16) 0xFF00 ∙ ap (min (bit 15 (tok % 2 ^ 16))) set_fifteen ∙ min_one (bit 15 (tok % 2 ^ 16)) (bit_lt 15 (tok % 2 ^ 16)))
    ∙ sym (low_test tok 0x8000 (lit< tt))
