-- Facts on device accesses that their proofs cite.
use Rattle.std.proofs.Common.{◌≡◌, ℕ, ◌+◌, ◌≤◌, Bool, true, false, leb, ◌⊎◌, List, [], ◌∷◌, map, sym, refl, ap, ◌∙◌, subst, inl, inr, ⊎_elim, arith, ne_eqb, le-leb, leb-false, leb-true}
use borrow.Author.Tests.{lt-leb}
use Rattle.bus.specs.Memory.{Memory, memory}
use Rattle.bus.specs.Steps.{replay, exec_then}
use Rattle.bus.specs.Stores as S
use Rattle.bus.specs.Words.{word_put}
use Rattle.bus.specs.Sized.{Sized}
use Rattle.bus.proofs.Places.{sized_kept}
use Rattle.bus.proofs.Registers.{poke32_register, dropped_register}
use Rattle.bus.proofs.Storing.{kept_stored}
use Rattle.usbdev.specs.Access.{clears_by_one}
use Rattle.usbdev.specs.Registers.{Registers, registers, PageStore, put, irq, store, on_bus, PageStep, lifted, done, ◌then◌}

-- a bound on where an access ends as one on where it starts
pub within : (off size last : ℕ) → last + size ≡ 4096 → leb (off + size) 4096 ≡ leb off last
within off size last e = by_test (leb off last) refl
  where
    by_test : (t : Bool) → leb off last ≡ t → leb (off + size) 4096 ≡ t
    by_test true h = le-leb (off + size) 4096 (omega (arith, leb-true off last h))
    by_test false h = lt-leb (off + size) 4096 (omega (arith, leb-false off last h))

-- a register whose bits a one clears is one of four, and any other is none of them
pub clears : (off : ℕ) → (off ≡ 0x144) ⊎ ((off ≡ 0x178) ⊎ ((off ≡ 0x1AC) ⊎ (off ≡ 0x1BC))) → clears_by_one off ≡ true
clears off = ⊎_elim (λ e. rw e) (⊎_elim (λ e. rw e) (⊎_elim (λ e. rw e) (λ e. rw e)))

pub clears_not : (off : ℕ) → ((off ≡ 0x144) ⊎ ((off ≡ 0x178) ⊎ ((off ≡ 0x1AC) ⊎ (off ≡ 0x1BC))) → ⊥) → clears_by_one off ≡ false
clears_not off none =
    simp (ne_eqb off 0x144 (λ e. none (inl e)), ne_eqb off 0x178 (λ e. none (inr (inl e))), ne_eqb off 0x1AC (λ e. none (inr (inr (inl e)))), ne_eqb off 0x1BC (λ e. none (inr (inr (inr e)))))

-- ---- steps on the registers

-- one step after the other
pub done_then : (f g : PageStep) (r : Registers) → done (f then g) r ≡ done g (done f r)
done_then f g r = exec_then store f g r

-- ---- the same stores on the bus

-- every word of a list lies in the page
abbrev pub Inside : List PageStore → Type 0
Inside [] = Unit {0}
Inside (put o v ∷ ss) = (o + 4 ≤ 4096) × Inside ss
Inside (irq l ∷ ss) = Inside ss

-- stores on the registers are stores of the bus at the page's addresses, and leave the other windows
pub on_bus_lem : (ss : List PageStore) (d f p : List ℕ) (l : Bool) → Inside ss
    → S.stored (map on_bus ss) (S.bus (memory d f p) l) ≡ S.bus (memory d f (replay store ss (registers p l)).page) (replay store ss (registers p l)).line
unfolding on_bus store S.store
on_bus_lem [] d f p l h = refl
on_bus_lem (put o v ∷ ss) d f p l h =
    ap (λ (m : Memory). S.stored (map on_bus ss) (S.bus m l)) (poke32_register d f p o v h.0) ∙ on_bus_lem ss d f (word_put p o v) l h.1
on_bus_lem (irq k ∷ ss) d f p l h = on_bus_lem ss d f p k h

pub none_dropped : (ss : List PageStore) → Inside ss → 0 ≡ S.dropped_by (map on_bus ss)
unfolding on_bus S.dropped_by S.dropped
none_dropped [] h = refl
none_dropped (put o v ∷ ss) h = omega (arith, dropped_register o h.0, none_dropped ss h.1)
none_dropped (irq l ∷ ss) h = omega (arith, none_dropped ss h)

-- a function on the registers, as one on the bus
pub does_page : (f : PageStep) (d s p p' : List ℕ) (l l' : Bool) → Inside (f (registers p l)) → registers p' l' ≡ done f (registers p l) → Sized (memory d s p)
    → S.Does (lifted f) (S.bus (memory d s p) l) (S.bus (memory d s p') l') 0
does_page f d s p p' l l' h e z =
    let after = ap (λ (r : Registers). S.bus (memory d s r.page) r.line) e ∙ sym (on_bus_lem (f (registers p l)) d s p l h) in
    record {
      is = after;
      sized = subst (λ (b : S.Bus). Sized b.memory) (sym after) (sized_kept (kept_stored (map on_bus (f (registers p l))) (S.bus (memory d s p) l)) z);
      counted = none_dropped (f (registers p l)) h;
    }
