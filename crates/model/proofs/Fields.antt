-- What a list of changes does to some fields of the World alone, whichever they are: one section serves every choice of fields.
use Prim.Native.Nat.{ℕ}
use mathlib.Core.Path.{◌≡◌, refl, ap, ◌∙◌}
use mathlib.Core.Bool.{Bool, true, false}
use mathlib.Core.List.{List, [], ◌∷◌, ◌++◌, map}
use Rattle.bits.specs.Pick.{pick, pick_map}
use Rattle.bus.specs.Steps.{replay, replay_append, exec_then, exec_choose}
use Rattle.bus.specs.Stores.{Store, BusStep, dropped_by}
use Rattle.usbdev.specs.Registers.{PageStep, lifted}
use Rattle.dtd.specs.Dtd.{Endpoint, Run, run_dtds}
use Rattle.record.specs.World.{World, bus_of}
use Rattle.record.specs.Change.{Change, bus, ran, lost, apply, Step, left, ◌then◌, nothing, if, one, here, on_bus, on_page, ran_stores, runs}

-- fields of the World, and what each change does to them: nothing where it is a store, a mark or a count of lost bytes
pub record Fields (K : Type 0) : Type 0 where
  pub of : World → K
  pub on : Change → K → K
  pub applies : (c : Change) (w : World) → of (apply c w) ≡ on c (of w)
  pub stores : (s : Store) (k : K) → on (bus s) k ≡ k
  pub marks : (e : Endpoint) (n m : ℕ) (k : K) → on (ran e n m) k ≡ k
  pub drops : (n : ℕ) (k : K) → on (lost n) k ≡ k

module _ {K : Type 0} (F : Fields K) where
  pub fields_replay : (cs : List Change) (w : World) → F.of (replay apply cs w) ≡ replay F.on cs (F.of w)
  fields_replay [] w = refl
  fields_replay (c ∷ cs) w = fields_replay cs (apply c w) ∙ ap (replay F.on cs) (F.applies c w)

  stores_keep : (ss : List Store) (k : K) → replay F.on (map bus ss) k ≡ k
  stores_keep [] k = refl
  stores_keep (s ∷ ss) k = ap (replay F.on (map bus ss)) (F.stores s k) ∙ stores_keep ss k

  -- a step that leaves them
  abbrev pub Keeps : Step → Type 0
  Keeps f = (w : World) → F.of (left f w) ≡ F.of w

  pub fields_then : (f g : Step) (w : World) → F.of (left (f then g) w) ≡ F.of (left g (left f w))
  fields_then f g w = ap F.of (exec_then apply f g w)

  pub fields_if : (t : World → Bool) (f g : Step) (w : World) → F.of (left (if t f g) w) ≡ pick (t w) (F.of (left f w)) (F.of (left g w))
  fields_if t f g w = ap F.of (exec_choose apply t f g w) ∙ pick_map F.of (t w) (left f w) (left g w)

  pub keeps_then : (f g : Step) → Keeps f → Keeps g → Keeps (f then g)
  keeps_then f g p q w = fields_then f g w ∙ q (left f w) ∙ p w

  both : (b : Bool) {x y z : K} → x ≡ z → y ≡ z → pick b x y ≡ z
  both true p q = p
  both false p q = q

  pub keeps_if : (t : World → Bool) (f g : Step) → Keeps f → Keeps g → Keeps (if t f g)
  keeps_if t f g p q w = fields_if t f g w ∙ both (t w) (p w) (q w)

  pub keeps_pick : (b : Bool) (f g : Step) → Keeps f → Keeps g → Keeps (pick b f g)
  keeps_pick true f g p q = p
  keeps_pick false f g p q = q

  pub keeps_nothing : Keeps nothing
  unfolding nothing
  keeps_nothing w = refl

  pub keeps_one : (c : World → Change) → ((w : World) → F.on (c w) (F.of w) ≡ F.of w) → Keeps (one c)
  unfolding one
  keeps_one c p w = F.applies (c w) w ∙ p w

  pub keeps_bus : (f : BusStep) → Keeps (on_bus f)
  unfolding on_bus
  keeps_bus f w = fields_replay (map bus (f (bus_of w))) w ∙ stores_keep (f (bus_of w)) (F.of w)

  pub keeps_page : (f : PageStep) → Keeps (on_page f)
  unfolding on_page
  keeps_page f w = fields_replay (map bus (lifted f (bus_of w))) w ∙ stores_keep (lifted f (bus_of w)) (F.of w)

  -- the World after a run, and what follows it
  abbrev pub ran_world : Endpoint → List ℕ → World → World
  ran_world e bs w = replay apply (ran_stores e (run_dtds e bs (bus_of w))) w

  pub left_runs : (e : Endpoint) (bs : List ℕ) (k : Run → Step) (w : World) → left (runs e bs k) w ≡ left (k (run_dtds e bs (bus_of w))) (ran_world e bs w)
  unfolding runs
  left_runs e bs k w = exec_then apply (λ v. ran_stores e (run_dtds e bs (bus_of w))) (k (run_dtds e bs (bus_of w))) w

  pub fields_ran : (e : Endpoint) (bs : List ℕ) (w : World) → F.of (ran_world e bs w) ≡ F.of w
  unfolding ran_stores
  fields_ran e bs w =
      let r = run_dtds e bs (bus_of w) in
      fields_replay (map bus r.stores ++ (ran e r.retired r.moved ∷ lost (dropped_by r.stores) ∷ [])) w
      ∙ replay_append F.on (map bus r.stores) (ran e r.retired r.moved ∷ lost (dropped_by r.stores) ∷ []) (F.of w)
      ∙ ap (replay F.on (ran e r.retired r.moved ∷ lost (dropped_by r.stores) ∷ [])) (stores_keep r.stores (F.of w))
      ∙ ap (F.on (lost (dropped_by r.stores))) (F.marks e r.retired r.moved (F.of w))
      ∙ F.drops (dropped_by r.stores) (F.of w)

  pub keeps_runs : (e : Endpoint) (bs : List ℕ) (k : Run → Step) → ((r : Run) → Keeps (k r)) → Keeps (runs e bs k)
  keeps_runs e bs k h w = ap F.of (left_runs e bs k w) ∙ h (run_dtds e bs (bus_of w)) (ran_world e bs w) ∙ fields_ran e bs w

  pub keeps_here : (f : World → Step) → ((v : World) → Keeps (f v)) → Keeps (here f)
  unfolding here
  keeps_here f h w = h w w
