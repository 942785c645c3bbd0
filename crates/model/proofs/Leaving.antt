-- Fields of the World that a step leaves, by the walk: those that the kinds of change which the step makes do not touch.
use Prim.Native.Nat.{ℕ}
use mathlib.Core.Path.{◌≡◌, refl, ◌∙◌}
use mathlib.Core.Bool.{Bool, true, false}
use mathlib.Core.List.{List}
use Rattle.gptimers.specs.declared.Timers.{Timers}
use Rattle.record.specs.declared.Settings.{Settings}
use Rattle.record.specs.Record.{Counter, midi_dtds, midi_asleep}
use Rattle.record.specs.World.{World}
use Rattle.record.specs.Change.{Change, bus, ran, lost, count, gone, suspended, credit, budget, counter, timers, midi, serial, cabled, received, frame, taken, apply, Step}
use Rattle.model.specs.Phases.{ticks, cable, sleeps, suspends, starts_frame}
use Rattle.model.specs.Streams.{midi_in, serial_step}
use Rattle.model.specs.Microframe.{transfers}
use Rattle.model.proofs.Fields.{Fields, Keeps}
use Rattle.model.proofs.Holding.{Holds}
use Rattle.model.proofs.Walk.{adds_any, clears_any, Ran, Carried, Sounded, walk_ticks, walk_unplugs, walk_sleeps, walk_suspends, walk_frame, walk_awake, walk_serves, walk_transfers}

module _ {K : Type 0} (F : Fields K) where
  -- the fields are j
  abbrev pub Is : K → World → Type 0
  Is j w = F.of w ≡ j

  -- a change that does not touch them
  pub leaves_is : (c : Change) → ((k : K) → F.on c k ≡ k) → (j : K) (w : World) → Is j w → Is j (apply c w)
  leaves_is c e j w h = F.applies c w ∙ e (F.of w) ∙ h

  pub ran_is : (j : K) → Ran (Is j)
  ran_is j =
      record {
        stores = λ s. leaves_is (bus s) (F.stores s) j;
        marks = λ e n m. leaves_is (ran e n m) (F.marks e n m) j;
        loses = λ n. leaves_is (lost n) (F.drops n) j;
      }

  pub keeps_walked : (f : Step) → ((j : K) → Holds (Is j) f) → Keeps F f
  keeps_walked f h w = h (F.of w) w refl

  -- ---- steps that change one field beside the register page, or none

  pub keeps_ticks : ((ts : Timers) (k : K) → F.on (timers ts) k ≡ k) → Keeps F ticks
  keeps_ticks p = keeps_walked ticks (λ j. walk_ticks (Is j) (ran_is j).stores (λ ts. leaves_is (timers ts) (p ts) j))

  pub keeps_unplugs : ((b : Bool) (k : K) → F.on (gone b) k ≡ k) → Keeps F (cable true)
  keeps_unplugs p = keeps_walked (cable true) (λ j. walk_unplugs (Is j) (ran_is j).stores (λ b. leaves_is (gone b) (p b) j))

  pub keeps_sleeps : ((n : ℕ) (k : K) → F.on (count midi_asleep n) k ≡ k) → Keeps F sleeps
  keeps_sleeps p = keeps_walked sleeps (λ j. walk_sleeps (Is j) (leaves_is (count midi_asleep 1) (p 1) j))

  pub keeps_suspends : ((b : Bool) (k : K) → F.on (suspended b) k ≡ k) → (s : Bool) → Keeps F (suspends s)
  keeps_suspends p s = keeps_walked (suspends s) (λ j. walk_suspends (Is j) (ran_is j).stores (λ b. leaves_is (suspended b) (p b) j) s)

  pub keeps_frame : Keeps F starts_frame
  keeps_frame = keeps_walked starts_frame (λ j. walk_frame (Is j) (ran_is j).stores)

  -- ---- bytes that come

  module _ (receives : (bs : List ℕ) (k : K) → F.on (received bs) k ≡ k) where
    pub keeps_awake : ((cs : List ℕ) (k : K) → F.on (cabled cs) k ≡ k) → ((n : ℕ) (k : K) → F.on (count midi_dtds n) k ≡ k) → (every : ℕ) → Keeps F (midi_in false every)
    keeps_awake q p every =
        keeps_walked (midi_in false every) (λ j. walk_awake (Is j) (ran_is j) (leaves_is (count midi_dtds 1) (p 1) j) (λ bs. leaves_is (received bs) (receives bs) j) (λ cs. leaves_is (cabled cs) (q cs) j) every)

    pub keeps_serves : ((n : ℕ) (k : K) → F.on (serial n) k ≡ k) → Keeps F serial_step
    keeps_serves p =
        keeps_walked serial_step (λ j. walk_serves (Is j) (ran_is j) (λ n w l. leaves_is (serial n) (p n) j w) (λ bs. leaves_is (received bs) (receives bs) j))

-- ---- the transfers (usbhost.rs 497-509, 773-952)

-- fields that none of their changes touches
pub record Untouched {K : Type 0} (F : Fields K) : Type 0 where
  pub counts : (c : Counter) (n : ℕ) (k : K) → F.on (count c n) k ≡ k
  pub credits : (n : ℕ) (k : K) → F.on (credit n) k ≡ k
  pub budgets : (n : ℕ) (k : K) → F.on (budget n) k ≡ k
  pub counters : (n : ℕ) (k : K) → F.on (counter n) k ≡ k
  pub midis : (n : ℕ) (k : K) → F.on (midi n) k ≡ k
  pub serials : (n : ℕ) (k : K) → F.on (serial n) k ≡ k
  pub receives : (bs : List ℕ) (k : K) → F.on (received bs) k ≡ k
  pub cables : (cs : List ℕ) (k : K) → F.on (cabled cs) k ≡ k
  pub frames : (f : List ℕ) (k : K) → F.on (frame f) k ≡ k
  pub takes : (n : ℕ) (k : K) → F.on (taken n) k ≡ k

module _ {K : Type 0} (F : Fields K) (U : Untouched F) where
  carried : (j : K) → Carried (Is F j)
  carried j =
      record {
        sleeps = leaves_is F (count midi_asleep 1) (U.counts midi_asleep 1) j;
        reads = leaves_is F (count midi_dtds 1) (U.counts midi_dtds 1) j;
        counts = λ c n e. leaves_is F (count c n) (U.counts c n) j;
        midis = λ n w l f. leaves_is F (midi n) (U.midis n) j w;
        serials = λ n w l. leaves_is F (serial n) (U.serials n) j w;
        receives = λ bs. leaves_is F (received bs) (U.receives bs) j;
        cables = λ cs. leaves_is F (cabled cs) (U.cables cs) j;
      }

  any_budget : (j : K) (n : ℕ) (w : World) → Is F j w → Is F j (apply (budget n) w)
  any_budget j n = leaves_is F (budget n) (U.budgets n) j

  sounded : (j : K) → Sounded (Is F j)
  sounded j =
      record {
        counts = λ c n e. leaves_is F (count c n) (U.counts c n) j;
        credits = λ n. leaves_is F (credit n) (U.credits n) j;
        frames = λ f. leaves_is F (frame f) (U.frames f) j;
        waits = λ w h e. adds_any (Is F j) (any_budget j) w h;
        passes = λ w h e. clears_any (Is F j) (any_budget j) _ (adds_any (Is F j) (any_budget j) w h);
        numbers = λ n. leaves_is F (counter n) (U.counters n) j;
        takes = λ n. leaves_is F (taken n) (U.takes n) j;
      }

  pub keeps_transfers : (c : Settings) (t : ℕ) → Keeps F (transfers c t)
  keeps_transfers c t = keeps_walked F (transfers c t) (λ j. walk_transfers (Is F j) (ran_is F j) (carried j) (sounded j) c t)
