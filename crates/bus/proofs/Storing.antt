-- How the promises of functions that store on the bus compose.
use Rattle.std.proofs.Common.{◌≡◌, ℕ, ◌+◌, Bool, true, false, List, [], ◌∷◌, sym, refl, ap, ◌∙◌, subst, ap₂, arith}
use Rattle.bus.specs.Memory.{Memory, poke32, dropped32}
use Rattle.bus.specs.Sized.{Sized, Left}
use Rattle.bus.specs.Steps.{exec, and_then, exec_then}
use Rattle.bus.proofs.Places.{Kept, kept_refl, kept_trans, kept_poke8}
use Rattle.bus.proofs.Words.{kept_poke32}
use Rattle.bus.specs.Stores.{Bus, bus, Store, word, byte, irq, store, stored, dropped, dropped_by, dropped_append, BusStep, ◌then◌, nothing, putting, reading, when, Does}

-- one step after the other
pub does_then : {f g : BusStep} {b b₁ b₂ : Bus} {d e : ℕ} → Does f b b₁ d → Does g b₁ b₂ e → Does (f then g) b b₂ (d + e)
unfolding and_then
does_then {f} {g} {b} {b₁} p q =
    record {
      is = q.is ∙ ap (exec store g) p.is ∙ sym (exec_then store f g b);
      sized = q.sized;
      counted = ap₂ ◌+◌ p.counted (q.counted ∙ ap (λ (x : Bus). dropped_by (g x)) p.is) ∙ sym (dropped_append (f b) (g (exec store f b)));
    }

-- no step at all
pub does_nothing : (b : Bus) → Sized b.memory → Does nothing b b 0
unfolding nothing dropped_by
does_nothing b s = record { is = refl; sized = s; counted = refl }

-- a word stored
pub does_put : {m m' : Memory} (a v : ℕ) (l : Bool) {n : ℕ} → Left m' (poke32 m a v) → n ≡ dropped32 a → Does (putting a v) (bus m l) (bus m' l) n
unfolding putting store dropped dropped_by
does_put a v l {n} p e = record { is = ap (λ (x : Memory). bus x l) p.is; sized = p.sized; counted = omega (arith, e) }

-- a step that goes on with what was read
pub does_reading : {A : Type 0} (get : Memory → A) (f : A → BusStep) {b b' : Bus} {d : ℕ} (v : A) → v ≡ get b.memory → Does (f v) b b' d
    → Does (reading get f) b b' d
does_reading get f {b} {b'} {d} v e p =
    record {
      is = p.is ∙ ap (λ (x : _). exec store (f x) b) e;
      sized = p.sized;
      counted = p.counted ∙ ap (λ (x : _). dropped_by (f x b)) e;
    }

pub does_when : {t : Bool} {f : BusStep} {b b' : Bus} {d : ℕ} → t ≡ true → Does f b b' d → Does (when t f) b b' d
unfolding when
does_when {t} {f} {b} {b'} {d} e p = record { is = simp e p.is; sized = p.sized; counted = simp e p.counted }

pub does_unless : {t : Bool} (f : BusStep) (b : Bus) → t ≡ false → Sized b.memory → Does (when t f) b b 0
unfolding when dropped_by
does_unless {t} f b e s = record { is = simp e; sized = s; counted = simp e }

-- the same step by another name
pub does_as : {f g : BusStep} {b b' : Bus} {d : ℕ} → f b ≡ g b → Does f b b' d → Does g b b' d
does_as {f} {g} {b} {b'} {d} e p =
    record {
      is = p.is ∙ ap (λ (ss : List Store). exec store (λ x. ss) b) e;
      sized = p.sized;
      counted = p.counted ∙ ap dropped_by e;
    }

-- a list of stores keeps the windows' lengths
kept_store : (s : Store) (b : Bus) → Kept b.memory (store s b).memory
unfolding store
kept_store (word a v) b = kept_poke32 b.memory a v
kept_store (byte a v) b = kept_poke8 b.memory a v
kept_store (irq l) b = kept_refl b.memory

pub kept_stored : (ss : List Store) (b : Bus) → Kept b.memory (stored ss b).memory
kept_stored [] b = kept_refl b.memory
kept_stored (s ∷ ss) b = kept_trans (kept_store s b) (kept_stored ss (store s b))

pub does_kept : {f : BusStep} {b b' : Bus} {d : ℕ} → Does f b b' d → Kept b.memory b'.memory
does_kept {f} {b} p = subst (λ (x : Bus). Kept b.memory x.memory) (sym p.is) (kept_stored (f b) b)

-- the same count by another name
pub does_counted : {f : BusStep} {b b' : Bus} {d e : ℕ} → d ≡ e → Does f b b' d → Does f b b' e
does_counted h p = record { is = p.is; sized = p.sized; counted = sym h ∙ p.counted }
