-- What a step leaves of the stand, by any function of it: a part of the stand may be kept where the whole is not.
use Prim.Native.Nat.{ℕ}
use mathlib.Core.Path.{◌≡◌, refl, ap, ◌∙◌}
use mathlib.Core.Bool.{Bool, true, false}
use mathlib.Core.List.{List}
use Rattle.bits.specs.Pick.{pick, pick_map, pick_eq, pick_same}
use Rattle.bus.specs.Stores.{BusStep}
use Rattle.bus.specs.Steps.{exec_choose}
use Rattle.usbdev.specs.Registers.{PageStep}
use Rattle.dtd.specs.Dtd.{Endpoint, Run, run_dtds}
use Rattle.record.specs.World.{World, bus_of}
use Rattle.record.specs.Change.{Change, apply, Step, left, ◌then◌, nothing, if, one, here, on_bus, on_page, runs}
use Rattle.model.proofs.Fields.{fields_then, keeps_bus, keeps_page, left_runs, fields_ran, ran_world}
use Rattle.model.proofs.Progress.{Stand, stand_of, stand_on, stand_apply, stands}

module _ {K : Type 0} (part : Stand → K) where
  abbrev pub Same : Step → Type 0
  Same f = (v : World) → part (stand_of (left f v)) ≡ part (stand_of v)

  pub same_then : (f g : Step) → Same f → Same g → Same (f then g)
  same_then f g p q v = ap part (fields_then stands f g v) ∙ q (left f v) ∙ p v

  pub same_if : (t : World → Bool) (f g : Step) → Same f → Same g → Same (if t f g)
  same_if t f g p q v =
      ap (λ (x : World). part (stand_of x)) (exec_choose apply t f g v)
      ∙ pick_map (λ (x : World). part (stand_of x)) (t v) (left f v) (left g v)
      ∙ pick_eq (t v) (p v) (q v)
      ∙ pick_same (t v) (part (stand_of v))

  pub same_nothing : Same nothing
  unfolding nothing
  same_nothing v = refl

  pub same_pick : (t : Bool) (f g : Step) → Same f → Same g → Same (pick t f g)
  same_pick true f g p q = p
  same_pick false f g p q = q

  pub same_here : (f : World → Step) → ((v : World) → Same (f v)) → Same (here f)
  unfolding here
  same_here f p v = p v v

  pub same_one : (c : World → Change) → ((w : World) → part (stand_on (c w) (stand_of w)) ≡ part (stand_of w)) → Same (one c)
  unfolding one
  same_one c p v = ap part (stand_apply (c v) v) ∙ p v

  pub same_bus : (f : BusStep) → Same (on_bus f)
  same_bus f v = ap part (keeps_bus stands f v)

  pub same_page : (f : PageStep) → Same (on_page f)
  same_page f v = ap part (keeps_page stands f v)

  pub same_ran : (e : Endpoint) (bs : List ℕ) (v : World) → part (stand_of (ran_world stands e bs v)) ≡ part (stand_of v)
  same_ran e bs v = ap part (fields_ran stands e bs v)

  pub same_runs : (e : Endpoint) (bs : List ℕ) (k : Run → Step) → ((r : Run) → Same (k r)) → Same (runs e bs k)
  same_runs e bs k p v =
      ap (λ (x : World). part (stand_of x)) (left_runs stands e bs k v)
      ∙ p (run_dtds e bs (bus_of v)) (ran_world stands e bs v)
      ∙ same_ran e bs v
