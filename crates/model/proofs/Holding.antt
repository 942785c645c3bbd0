-- What holds before a step and after it: laws for every form of a step.
use Prim.Native.Nat.{ℕ}
use mathlib.Core.Path.{◌≡◌, refl, ap, sym, subst}
use mathlib.Core.Bool.{Bool, true, false}
use mathlib.Core.List.{List}
use Rattle.bits.specs.Pick.{pick}
use Rattle.bus.specs.Steps.{exec_then, exec_choose}
use Rattle.dtd.specs.Dtd.{Endpoint, Run, run_dtds}
use Rattle.record.specs.World.{World, bus_of}
use Rattle.record.specs.Change.{Change, apply, Step, left, ◌then◌, nothing, if, one, here, runs}
use Rattle.model.proofs.Fields.{Fields, Keeps, left_runs, fields_ran, ran_world}

-- a property of Worlds that a step keeps
abbrev pub Holds : (World → Type 0) → Step → Type 0
Holds P f = (w : World) → P w → P (left f w)

module _ (P : World → Type 0) where
  pub holds_then : (f g : Step) → Holds P f → Holds P g → Holds P (f then g)
  holds_then f g p q w h = subst P (sym (exec_then apply f g w)) (q (left f w) (p w h))

  -- a step that needs more than P, which the one before it gives
  pub holds_seq : (f g : Step) (w : World) → P (left g (left f w)) → P (left (f then g) w)
  holds_seq f g w h = subst P (sym (exec_then apply f g w)) h

  pub by_case : (b : Bool) (x y : World) → (b ≡ true → P x) → (b ≡ false → P y) → P (pick b x y)
  by_case true x y p q = p refl
  by_case false x y p q = q refl

  pub holds_if : (t : World → Bool) (f g : Step) → ((w : World) → t w ≡ true → P w → P (left f w)) → ((w : World) → t w ≡ false → P w → P (left g w)) → Holds P (if t f g)
  holds_if t f g p q w h =
      subst P (sym (exec_choose apply t f g w)) (by_case (t w) (left f w) (left g w) (λ e. p w e h) (λ e. q w e h))

  pub holds_nothing : Holds P nothing
  unfolding nothing
  holds_nothing w h = h

  pub holds_one : (c : World → Change) → ((w : World) → P w → P (apply (c w) w)) → Holds P (one c)
  unfolding one
  holds_one c p w h = p w h

  pub holds_here : (f : World → Step) → ((v : World) → P v → P (left (f v) v)) → Holds P (here f)
  unfolding here
  holds_here f p w h = p w h

  pub holds_pick : (t : Bool) (f g : Step) → Holds P f → Holds P g → Holds P (pick t f g)
  holds_pick true f g p q = p
  holds_pick false f g p q = q

-- a property of some fields
module _ {K : Type 0} (F : Fields K) (P : K → Type 0) where
  abbrev pub On : World → Type 0
  On w = P (F.of w)

  pub holds_keeps : (f : Step) → Keeps F f → Holds On f
  holds_keeps f k w h = subst P (sym (k w)) h

  pub holds_runs : (e : Endpoint) (bs : List ℕ) (k : Run → Step) → ((w v : World) → F.of v ≡ F.of w → P (F.of v) → P (F.of (left (k (run_dtds e bs (bus_of w))) v))) → Holds On (runs e bs k)
  holds_runs e bs k p w h =
      subst P (ap F.of (sym (left_runs F e bs k w)))
      (p w (ran_world F e bs w) (fields_ran F e bs w) (subst P (sym (fields_ran F e bs w)) h))
