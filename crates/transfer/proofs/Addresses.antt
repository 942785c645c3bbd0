-- The address of a byte: the code's form is the source's, and within a page the addresses follow each other.
use Rattle.std.proofs.Common.{◌≡◌, ℕ, zero, suc, ◌+◌, ◌-◌, ◌*◌, ◌/◌, ◌%◌, ◌^◌, ◌<◌, ◌≤◌, Bool, true, false, ltb, List, get_or, sym, refl, ap, ◌∙◌, arith, lit<, ltb-false, ltb-true, le-leb}
use lib.Bits.{bit_and, and_mask, and_high}
use Rattle.bits.specs.Pick.{pick}
use Rattle.bits.specs.Word.{clear}
use Rattle.bus.specs.Memory.{Memory, after, peek32}
use Rattle.bus.specs.Stores.{Bus}
use Rattle.bus.proofs.WordLaws.{Bytes, peek32_lt}
use Rattle.transfer.specs.Transfer.{pointers, pointers_for, source_addr, data_addr, bytes_in, bytes_from, received, sending}
use Rattle.transfer.proofs.Laws.{get_d_tabulate, bytes_same, from_same, received_same, sending_same}

-- a pointer with its low 12 bits cleared
cleared : (p : ℕ) → p < 2 ^ 32 → clear p 0xFFF ≡ p / 4096 * 4096
cleared p h = omega (arith, and_high p 20 12)

by_test : (t : Bool) (x y z : ℕ) → (t ≡ true → x ≡ z) → (t ≡ false → y ≡ z) → pick t x y ≡ z
by_test true x y z f g = f refl
by_test false x y z f g = g refl

-- the code's form of an address is the source's
pub addr_source : (ps : List ℕ) (k : ℕ) → ((i : ℕ) → get_or ps i 0 < 2 ^ 32) → source_addr ps k ≡ data_addr ps k
unfolding source_addr data_addr
addr_source ps k h =
    by_test (ltb k first) _ _ _ (λ e. before (ltb-true k first e)) (λ e. behind (ltb-false k first e))
  where
    p0 : ℕ
    p0 = get_or ps 0 0

    first : ℕ
    first = 4096 - bit_and p0 0xFFF

    low : bit_and p0 0xFFF ≡ p0 % 4096
    low = and_mask p0 12

    x : ℕ
    x = p0 % 4096 + k

    before : k < first → p0 + k ≡ get_or ps (x / 4096) 0 / 4096 * 4096 + x % 4096
    before less = omega (arith, low, ap (λ (i : ℕ). get_or ps i 0 / 4096) here)
      where
        here : x / 4096 ≡ 0
        here = omega (arith, low)

    behind : first ≤ k → clear (get_or ps (1 + (k - first) / 4096) 0) 0xFFF + (k - first) % 4096 ≡ get_or ps (x / 4096) 0 / 4096 * 4096 + x % 4096
    behind more =
        omega (arith, low, cleared (get_or ps (1 + (k - first) / 4096) 0) (h (1 + (k - first) / 4096)), ap (λ (i : ℕ). get_or ps i 0 / 4096) there)
      where
        there : 1 + (k - first) / 4096 ≡ x / 4096
        there = omega (arith, low)

-- nine pointers are enough: the page of each byte of a total of at most 32,767 is one of theirs
pub page_lt : (p k : ℕ) → k ≤ 32766 → 1 + (k - (4096 - bit_and p 0xFFF)) / 4096 < 9
page_lt p k h = omega (arith, and_mask p 12)

-- words are below 2^32, and so are the pointers of memory that holds bytes
pub pointers_lt : {m : Memory} → Bytes m → (td i : ℕ) → get_or (pointers m td) i 0 < 2 ^ 32
unfolding pointers
pointers_lt b td zero = peek32_lt b _
pointers_lt b td (suc zero) = peek32_lt b _
pointers_lt b td (suc (suc zero)) = peek32_lt b _
pointers_lt b td (suc (suc (suc zero))) = peek32_lt b _
pointers_lt b td (suc (suc (suc (suc zero)))) = peek32_lt b _
pointers_lt b td (suc (suc (suc (suc (suc zero))))) = peek32_lt b _
pointers_lt b td (suc (suc (suc (suc (suc (suc zero)))))) = peek32_lt b _
pointers_lt b td (suc (suc (suc (suc (suc (suc (suc zero))))))) = peek32_lt b _
pointers_lt b td (suc (suc (suc (suc (suc (suc (suc (suc zero)))))))) = peek32_lt b _
pointers_lt b td (suc (suc (suc (suc (suc (suc (suc (suc (suc i))))))))) = lit< tt

-- within a page the addresses of a transfer follow each other
pub addr_shift : (ps : List ℕ) (i k : ℕ) → data_addr ps i % 4096 + k < 4096 → data_addr ps (i + k) ≡ data_addr ps i + k
unfolding data_addr
addr_shift ps i k h = omega (arith, ap (λ (x : ℕ). get_or ps x 0 / 4096) same)
  where
    same : (get_or ps 0 0 % 4096 + (i + k)) / 4096 ≡ (get_or ps 0 0 % 4096 + i) / 4096
    same = omega arith

-- ---- the pointers that a total uses

-- pointer i of nine
pub pointer_at : (m : Memory) (td i : ℕ) → i < 9 → get_or (pointers m td) i 0 ≡ peek32 m (after td (8 + 4 * i))
unfolding pointers
pointer_at m td zero h = refl
pointer_at m td (suc zero) h = refl
pointer_at m td (suc (suc zero)) h = refl
pointer_at m td (suc (suc (suc zero))) h = refl
pointer_at m td (suc (suc (suc (suc zero)))) h = refl
pointer_at m td (suc (suc (suc (suc (suc zero))))) h = refl
pointer_at m td (suc (suc (suc (suc (suc (suc zero)))))) h = refl
pointer_at m td (suc (suc (suc (suc (suc (suc (suc zero))))))) h = refl
pointer_at m td (suc (suc (suc (suc (suc (suc (suc (suc zero)))))))) h = refl
pointer_at m td (suc (suc (suc (suc (suc (suc (suc (suc (suc i))))))))) h = absurd (omega arith)

-- a pointer to a page that begins by the data's end is read
for_at : (m : Memory) (td total i : ℕ) → i < 9 → 4096 * i ≤ peek32 m (after td 8) % 4096 + total → get_or (pointers_for m td total) i 0 ≡ get_or (pointers m td) i 0
unfolding pointers_for
for_at m td total i h used =
    get_d_tabulate 9 _ i 0 h ∙ simp (le-leb (4096 * i) (peek32 m (after td 8) % 4096 + total) used) (sym (pointer_at m td i h))

-- the first total bytes have the same addresses by the pointers that the total uses
pub addr_for : (m : Memory) (td total k : ℕ) → total ≤ 32767 → k < total → data_addr (pointers_for m td total) k ≡ data_addr (pointers m td) k
unfolding data_addr
addr_for m td total k bound less =
    ap (λ (p : ℕ). by p (get_or (pointers_for m td total) ((p % 4096 + k) / 4096) 0)) first
    ∙ ap (λ (p : ℕ). by (get_or (pointers m td) 0 0) p) (for_at m td total (x / 4096) (omega arith) (omega (arith, start)))
  where
    by : ℕ → ℕ → ℕ
    by p q = q / 4096 * 4096 + (p % 4096 + k) % 4096

    x : ℕ
    x = get_or (pointers m td) 0 0 % 4096 + k

    start : get_or (pointers m td) 0 0 ≡ peek32 m (after td 8)
    start = pointer_at m td 0 (lit< tt)

    first : get_or (pointers_for m td total) 0 0 ≡ get_or (pointers m td) 0 0
    first = for_at m td total 0 (lit< tt) (omega arith)

-- so what moves is the same, whatever memory it moves to or from
module _ (m : Memory) (td total : ℕ) (bound : total ≤ 32767) where
  pub bytes_for : (m' : Memory) (n : ℕ) → n ≤ total → bytes_in m' (pointers_for m td total) n ≡ bytes_in m' (pointers m td) n
  bytes_for m' n h = bytes_same (pointers_for m td total) (pointers m td) total (λ k less. addr_for m td total k bound less) m' n h

  pub from_for : (m' : Memory) (s n : ℕ) → s + n ≤ total → bytes_from m' (pointers_for m td total) s n ≡ bytes_from m' (pointers m td) s n
  from_for m' s n h = from_same (pointers_for m td total) (pointers m td) total (λ k less. addr_for m td total k bound less) m' s n h

  pub received_for : (m' : Memory) (n : ℕ) (out : List ℕ) (at : ℕ) → n ≤ total
      → received m' (pointers_for m td total) n out at ≡ received m' (pointers m td) n out at
  received_for m' n out at h =
      received_same (pointers_for m td total) (pointers m td) total (λ k less. addr_for m td total k bound less) m' n out at h

  pub sending_for : (s : List ℕ) (n : ℕ) (b : Bus) → n ≤ total → sending (pointers_for m td total) s n b ≡ sending (pointers m td) s n b
  sending_for s n b h = sending_same (pointers_for m td total) (pointers m td) total (λ k less. addr_for m td total k bound less) s n b h
