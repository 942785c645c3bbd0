-- Fields that few changes touch: which steps of a microframe leave them. One law for each step serves every choice of such fields.
use Prim.Native.Nat.{ℕ}
use mathlib.Core.Path.{◌≡◌, refl, sym, ap}
use mathlib.Core.Bool.{Bool, true, false, not, ◌&&◌, ◌||◌}
use mathlib.Core.List.{List}
use lib.Dec.{eqb}
use Rattle.bits.proofs.Tests.{false_true}
use Rattle.bus.proofs.Sizes.{and_true}
use Rattle.record.specs.declared.Phase.{Phase}
use Rattle.record.specs.declared.Phase.TheVariants.{Idle, Stream}
use Rattle.record.specs.declared.Settings.{Settings}
use Rattle.record.specs.Record.{Counter, place, microframes, midi_dtds, midi_asleep, restarts, enumerations}
use Rattle.record.specs.World.{World}
use Rattle.record.specs.Parts as Part
use Rattle.record.specs.Change.{Change, bus, ran, lost, count, uf, phase, started, gone, suspended, credit, budget, counter, block, timers, control, queued, popped, pushed, cleared, reply, device, config, forgot, midi, serial, cabled, received, frame, taken, apply, port, audio, request, stream}
use Rattle.model.specs.Phases.{within, counts, ticks, forgets, returns, cable, suspends, enters, idles, powers, resets, starts_frame}
use Rattle.model.specs.Control.{posts, unstalls, stages, controls}
use Rattle.model.specs.Streams.{midi_in, serial_step, midi_out, reads_vendor}
use Rattle.model.specs.Audio.{stream_in, streams}
use Rattle.model.specs.Microframe.{opens, others, transfers, enumerates}
use Rattle.model.proofs.Fields.{Fields, Keeps, keeps_then, keeps_if, keeps_nothing}
use Rattle.model.proofs.Holding.{Holds}
use Rattle.model.proofs.Walk.{is_other, is_streamed, adds_any, clears_any, Forgotten, Requested, Chosen, Sounded, walk_counts, walk_ticks, walk_forgets, walk_returns, walk_enters, walk_idles, walk_powers, walk_resets, walk_posts, walk_unstalls, walk_stages, walk_configured, walk_controls, walk_writes, walk_vendor, walk_hears, walk_streams, walk_cable, walk_opens}
use Rattle.model.proofs.Leaving.{Is, leaves_is, ran_is, keeps_walked, keeps_ticks, keeps_suspends, keeps_frame, keeps_awake, keeps_serves}

-- what a change does to the fields that few changes touch: counters, the port's marks, the block, the bytes that came and their cables
pub data Effect : Type 0 where
  none : Effect
  tallied : Counter → ℕ → Effect
  cable_is : Bool → Effect
  suspend_is : Bool → Effect
  run_is : Bool → Effect
  block_is : ℕ → ℕ → Effect
  came : List ℕ → Effect
  cables_came : List ℕ → Effect

abbrev pub effect_of : Change → Effect
effect_of (bus s) = none
effect_of (ran e r n) = none
effect_of (lost n) = none
effect_of (count c n) = tallied c n
effect_of (timers ts) = none
effect_of (port (Part.uf n)) = none
effect_of (port (Part.phase p)) = none
effect_of (port (Part.started n)) = none
effect_of (port (Part.gone b)) = cable_is b
effect_of (port (Part.suspended b)) = suspend_is b
effect_of (port (Part.was_running b)) = run_is b
effect_of (audio (Part.credit n)) = none
effect_of (audio (Part.budget n)) = none
effect_of (audio (Part.counter n)) = none
effect_of (audio (Part.block n m)) = block_is n m
effect_of (audio (Part.frame f)) = none
effect_of (audio (Part.taken n)) = none
effect_of (request c) = none
effect_of (stream (Part.midi n)) = none
effect_of (stream (Part.serial n)) = none
effect_of (stream (Part.cabled cs)) = cables_came cs
effect_of (stream (Part.received bs)) = came bs

-- which changes beside the plain ones the fields ignore too: of the block, of the count of enumerations, of MIDI that comes, of the port's marks
pub record Ignored : Type 0 where
  pub block : Bool
  pub enumerations : Bool
  pub midi : Bool
  pub marks : Bool

-- the plain counters and changes, with those ignored; the count of microframes without MIDI is never one
abbrev pub plain_counter_by : Ignored → Counter → Bool
plain_counter_by i c =
    not (eqb (place midi_asleep) (place c))
    && ((not (eqb (place midi_dtds) (place c)) || i.midi) && (not (eqb (place enumerations) (place c)) || i.enumerations))

abbrev pub plain_effect : Ignored → Effect → Bool
plain_effect i none = true
plain_effect i (tallied c n) = plain_counter_by i c
plain_effect i (cable_is b) = i.marks
plain_effect i (suspend_is b) = i.marks
plain_effect i (run_is b) = i.marks
plain_effect i (block_is n m) = i.block
plain_effect i (came bs) = i.midi
plain_effect i (cables_came cs) = i.midi

abbrev pub plain_by : Ignored → Change → Bool
plain_by i c = plain_effect i (effect_of c)

-- fields of the marks and of MIDI alone: every change but those of the marks and of MIDI that comes
abbrev pub block_and_enumerations : Ignored
block_and_enumerations = record { block = true; enumerations = true; midi = false; marks = false }

abbrev pub plain : Change → Bool
plain c = plain_by block_and_enumerations c

plain_streamed : (i : Ignored) (c : Counter) → is_streamed c ≡ true → plain_counter_by i c ≡ true
plain_streamed i c e =
    let rest = (and_true (is_other c) _ e).1 in
    let more = and_true (not (eqb (place midi_dtds) (place c))) _ rest in
    let last = and_true (not (eqb (place midi_asleep) (place c))) _ more.1 in
    simp (more.0, last.0, last.1)

-- with the device stack the block must be ignored
chosen : (b : Bool) → (not b && true) ≡ false → b ≡ true
chosen true e = refl
chosen false e = absurd (false_true (sym e))

module _ {K : Type 0} (i : Ignored) (F : Fields K) (P : (c : Change) → plain_by i c ≡ true → (k : K) → F.on c k ≡ k) where
  -- ---- the kinds of change that are plain

  plain_is : (c : Change) → plain_by i c ≡ true → (j : K) (w : World) → Is F j w → Is F j (apply c w)
  plain_is c p = leaves_is F c (P c p)

  forgotten : (j : K) → Forgotten (Is F j)
  forgotten j =
      record {
        clears = plain_is cleared refl j;
        drops = λ w. plain_is (control _) refl j w;
        credits = plain_is (credit 0) refl j;
        budgets = plain_is (budget 0) refl j;
        forgets = plain_is forgot refl j;
      }

  requested : (j : K) → Requested (Is F j)
  requested j =
      record {
        controls = λ c. plain_is (control c) refl j;
        replies = λ n bs. plain_is (reply n bs) refl j;
        pushes = λ bs. plain_is (pushed bs) refl j;
        queues = λ bs. plain_is (queued bs) refl j;
        devices = λ bs. plain_is (device bs) refl j;
        configs = λ bs. plain_is (config bs) refl j;
      }

  any_budget : (j : K) (n : ℕ) (w : World) → Is F j w → Is F j (apply (budget n) w)
  any_budget j n = plain_is (budget n) refl j

  counts_is : (j : K) (c : Counter) (n : ℕ) → is_streamed c ≡ true → (w : World) → Is F j w → Is F j (apply (count c n) w)
  counts_is j c n e = plain_is (count c n) (plain_streamed i c e) j

  sounded : (j : K) → Sounded (Is F j)
  sounded j =
      record {
        counts = counts_is j;
        credits = λ n. plain_is (credit n) refl j;
        frames = λ f. plain_is (frame f) refl j;
        waits = λ w h e. adds_any (Is F j) (any_budget j) w h;
        passes = λ w h e. clears_any (Is F j) (any_budget j) _ (adds_any (Is F j) (any_budget j) w h);
        numbers = λ n. plain_is (counter n) refl j;
        takes = λ n. plain_is (taken n) refl j;
      }

  -- ---- the steps

  pub still_counts : Keeps F counts
  still_counts = keeps_walked F counts (λ j. walk_counts (Is F j) (plain_is (count microframes 1) refl j) (λ n. plain_is (uf n) refl j))

  pub still_ticks : Keeps F ticks
  still_ticks = keeps_ticks F (λ ts. P (timers ts) refl)

  pub still_forgets : Keeps F forgets
  still_forgets = keeps_walked F forgets (λ j. walk_forgets (Is F j) (forgotten j))

  pub still_returns : Keeps F returns
  still_returns =
      keeps_walked F returns (λ j. walk_returns (Is F j) (forgotten j) (plain_is (phase Idle) refl j) (plain_is (count restarts 1) refl j))

  enters_is : (j : K) (p : Phase) → Holds (Is F j) (enters p)
  enters_is j p = walk_enters (Is F j) p (plain_is (phase p) refl j) (λ w. plain_is (started _) refl j w)

  pub still_enters : (p : Phase) → Keeps F (enters p)
  still_enters p = keeps_walked F (enters p) (λ j. enters_is j p)

  pub still_idles : Keeps F idles
  still_idles = keeps_walked F idles (λ j. walk_idles (Is F j) (ran_is F j).stores (enters_is j))

  pub still_powers : (rs : Bool) → Keeps F (powers rs)
  still_powers rs = keeps_walked F (powers rs) (λ j. walk_powers (Is F j) (ran_is F j).stores (enters_is j) rs)

  pub still_resets : Keeps F resets
  still_resets = keeps_walked F resets (λ j. walk_resets (Is F j) (ran_is F j).stores (enters_is j) (λ bs. plain_is (queued bs) refl j))

  pub still_frame : Keeps F starts_frame
  still_frame = keeps_frame F

  posts_is : (j : K) → Holds (Is F j) posts
  posts_is j = walk_posts (Is F j) (ran_is F j) (requested j) (plain_is popped refl j)

  pub still_posts : Keeps F posts
  still_posts = keeps_walked F posts posts_is

  pub still_unstalls : Keeps F unstalls
  still_unstalls = keeps_walked F unstalls (λ j. walk_unstalls (Is F j) (ran_is F j) (requested j))

  -- only with the device stack is a block chosen (717-727)
  chosen_is : (stack : Bool) → (not i.block && stack) ≡ false → (j : K) → Chosen (Is F j) stack
  chosen_is true e j s bs w l = plain_is (block _ _) (chosen i.block e) j w
  chosen_is false e j s bs w l = absurd (false_true s)

  pub still_stages : (stack : Bool) → (not i.block && stack) ≡ false → Keeps F (stages stack)
  still_stages stack e = keeps_walked F (stages stack) (λ j. walk_stages (Is F j) (ran_is F j) (requested j) stack (chosen_is stack e j))

  pub still_controls : i.enumerations ≡ true → (stack : Bool) → (not i.block && stack) ≡ false → Keeps F (controls stack)
  still_controls n stack e =
      keeps_walked F (controls stack)
      (λ j. walk_controls (Is F j) (ran_is F j) (requested j) (walk_configured (Is F j) (plain_is (phase Stream) refl j) (plain_is (count enumerations 1) n j)) (posts_is j) stack (chosen_is stack e j))

  writes_is : (j : K) → Holds (Is F j) midi_out
  writes_is j = walk_writes (Is F j) (ran_is F j) (counts_is j) (λ n w l f. plain_is (midi n) refl j w)

  pub still_writes : Keeps F midi_out
  still_writes = keeps_walked F midi_out writes_is

  vendor_is : (j : K) → Holds (Is F j) reads_vendor
  vendor_is j = walk_vendor (Is F j) (ran_is F j) (counts_is j)

  pub still_vendor : Keeps F reads_vendor
  still_vendor = keeps_walked F reads_vendor vendor_is

  pub still_hears : Keeps F stream_in
  still_hears = keeps_walked F stream_in (λ j. walk_hears (Is F j) (ran_is F j) (sounded j))

  pub still_streams : Keeps F streams
  still_streams = keeps_walked F streams (λ j. walk_streams (Is F j) (ran_is F j) (sounded j))

  -- ---- fields that MIDI that comes does not touch

  module _ (M : i.midi ≡ true) where
    reads_plain : (n : ℕ) → plain_by i (count midi_dtds n) ≡ true
    reads_plain n = ap (λ (b : Bool). b && true) M

    pub still_awake : (every : ℕ) → Keeps F (midi_in false every)
    still_awake = keeps_awake F (λ bs. P (received bs) M) (λ cs. P (cabled cs) M) (λ n. P (count midi_dtds n) (reads_plain n))

    serves_is : Keeps F serial_step
    serves_is = keeps_serves F (λ bs. P (received bs) M) (λ n. P (serial n) refl)

    -- a microframe's transfers, by its MIDI input
    pub still_transfers : (c : Settings) (t : ℕ) → Keeps F (midi_in (within c.sleep t) c.midi_every) → Keeps F (transfers c t)
    unfolding transfers others
    still_transfers c t heard =
        search (keeps_then, keeps_if, keeps_nothing, heard, serves_is, still_streams, still_writes, still_vendor) depth 8

  -- ---- fields that the marks do not touch

  module _ (G : i.marks ≡ true) where
    still_back : (j : K) (g : Bool) → Holds (Is F j) (cable g)
    still_back j =
        walk_cable (Is F j) (ran_is F j).stores (λ b. plain_is (gone b) G j)
        (walk_returns (Is F j) (forgotten j) (plain_is (phase Idle) refl j) (plain_is (count restarts 1) refl j))

    pub still_opens : (c : Settings) → Keeps F (opens c false)
    still_opens c =
        keeps_walked F (opens c false)
        (λ j. walk_opens (Is F j)
        (walk_counts (Is F j) (plain_is (count microframes 1) refl j) (λ n. plain_is (uf n) refl j))
        (walk_ticks (Is F j) (ran_is F j).stores (λ ts. plain_is (timers ts) refl j)) (still_back j) c false)

    pub still_suspends : (s : Bool) → Keeps F (suspends s)
    still_suspends = keeps_suspends F (λ b. P (suspended b) G)

module _ {K : Type 0} (F : Fields K) (P : (c : Change) → plain c ≡ true → (k : K) → F.on c k ≡ k) where
  pub still_enumerates : (c : Settings) → Keeps F (enumerates c)
  unfolding enumerates
  still_enumerates c = keeps_then F _ _ (still_frame block_and_enumerations F P) (still_controls block_and_enumerations F P refl c.device_stack refl)
