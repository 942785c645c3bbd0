-- What is read of a list of changes, one change after the other, whatever it is, and the steps whose changes leave it alone: one law for each
-- step serves every reading.
use Prim.Native.Nat.{ℕ, zero, suc}
use mathlib.Core.Path.{◌≡◌, refl, ap, ◌∙◌}
use mathlib.Core.Bool.{Bool, true, false, not, ◌&&◌}
use mathlib.Core.List.{List, [], ◌∷◌, map}
use lib.Dec.{eqb}
use Rattle.bits.specs.Pick.{pick, pick_map, pick_eq, pick_same}
use Rattle.bus.specs.Steps.{replay, replay_append, and_then, choose}
use Rattle.bus.specs.Stores.{Store, BusStep, dropped_by}
use Rattle.usbdev.specs.Registers.{PageStep, lifted}
use Rattle.dtd.specs.Dtd.{Endpoint, Run, run_dtds}
use Rattle.config.specs.Config.{Choice}
use Rattle.record.specs.declared.Phase.{Phase}
use Rattle.record.specs.declared.Settings.{Settings}
use Rattle.record.specs.Record.{Counter, place, in_frames, out_frames}
use Rattle.record.specs.World.{World, bus_of}
use Rattle.record.specs.Parts as Part
use Rattle.record.specs.Change.{Change, bus, ran, lost, count, phase, gone, was_running, credit, budget, timers, frame, Step, left, ◌then◌, nothing, if, one, here, on_bus, on_page, runs, ran_stores, port, audio, request, stream}
use Rattle.model.specs.Phases.{counts, ticks, cable, returns, forgets, drops_request, sleeps, suspends, leaves, departs, enters, idles, powers, resets, starts_frame}
use Rattle.model.specs.Control.{to_status, posted, posts, configured, keeps_reply, data_stage, asks_whole, chooses, configures, finishes, status_ends, status_stage, unstalls, stages, controls}
use Rattle.model.specs.Streams.{naks, reads, midi_in, drains_serial, serial_step, drains_midi, midi_out, reads_vendor}
use Rattle.model.specs.Audio.{audio_in, adds_budget, clears_budget, keeps_frames, keeps_good, keeps_block, keeps_blocks, keeps_run, inputs, stream_in, unprimes}
use Rattle.model.specs.Microframe.{opens, enumerates, others}
use Rattle.model.proofs.Fields.{Fields, Keeps, fields_replay}

-- ---- changes that no reading looks at: neither the phase, nor the budget, nor what a reset changes, nor frames that come, go or are counted, nor the mark of
-- a run or the bytes that it lost

abbrev pub quiet_counter : Counter → Bool
quiet_counter c = not (eqb (place in_frames) (place c)) && not (eqb (place out_frames) (place c))

abbrev pub quiet : Change → Bool
quiet (bus s) = true
quiet (ran e r n) = false
quiet (lost n) = false
quiet (count c n) = quiet_counter c
quiet (timers ts) = true
quiet (port (Part.uf n)) = true
quiet (port (Part.phase p)) = false
quiet (port (Part.started n)) = true
quiet (port (Part.gone b)) = false
quiet (port (Part.suspended b)) = true
quiet (port (Part.was_running b)) = false
quiet (audio (Part.credit n)) = false
quiet (audio (Part.budget n)) = false
quiet (audio (Part.counter n)) = false
quiet (audio (Part.block n m)) = true
quiet (audio (Part.frame f)) = false
quiet (audio (Part.taken n)) = false
quiet (request c) = true
quiet (stream c) = true

-- what each change does to the value read; quiet ones do nothing
pub record Reading (K : Type 0) : Type 0 where
  pub on : Change → K → K
  pub leaves : (c : Change) → quiet c ≡ true → (k : K) → on c k ≡ k

-- fields of the World as a reading
abbrev pub reading_of : {K : Type 0} (F : Fields K) → ((c : Change) → quiet c ≡ true → (k : K) → F.on c k ≡ k) → Reading K
reading_of F leaves = record { on = F.on; leaves = leaves }

-- a reading that looks at no run but those on the audio endpoints, and not at bytes lost
pub record AudioAlone {K : Type 0} (R : Reading K) : Type 0 where
  pub others : (e : Endpoint) → not (eqb e.number 3) ≡ true → (r n : ℕ) (k : K) → R.on (ran e r n) k ≡ k
  pub drops : (n : ℕ) (k : K) → R.on (lost n) k ≡ k

-- as fields of the World are, which no run changes
abbrev pub fields_alone : {K : Type 0} (F : Fields K) (l : (c : Change) → quiet c ≡ true → (k : K) → F.on c k ≡ k) → AudioAlone (reading_of F l)
fields_alone F l = record { others = λ e h r n k. F.marks e r n k; drops = F.drops }

-- a step whose changes leave them keeps them
pub silent_keeps : {K : Type 0} (F : Fields K) (f : Step) → ((w : World) (k : K) → replay F.on (f w) k ≡ k) → Keeps F f
silent_keeps F f p w = fields_replay F (f w) w ∙ p w (F.of w)

-- a reading that does not look at the phase, nor at the budget, nor at what a reset changes
pub record Lasting {K : Type 0} (R : Reading K) : Type 0 where
  pub phases : (p : Phase) (k : K) → R.on (phase p) k ≡ k
  pub goes : (b : Bool) (k : K) → R.on (gone b) k ≡ k
  pub runs : (b : Bool) (k : K) → R.on (was_running b) k ≡ k
  pub credits : (n : ℕ) (k : K) → R.on (credit n) k ≡ k
  pub budgets : (n : ℕ) (k : K) → R.on (budget n) k ≡ k

-- nor at frames that come
pub record Unheard {K : Type 0} (R : Reading K) : Type 0 where
  pub frames : (f : List ℕ) (k : K) → R.on (frame f) k ≡ k
  pub counted : (n : ℕ) (k : K) → R.on (count in_frames n) k ≡ k

-- nor at the marks of runs on the audio input endpoint
abbrev pub Unmarked : {K : Type 0} → Reading K → Type 0
Unmarked {K = K} R = (r n : ℕ) (k : K) → R.on (ran audio_in r n) k ≡ k

module _ {K : Type 0} (R : Reading K) where
  -- what a step makes of the value k
  abbrev pub through : Step → World → K → K
  through f w k = replay R.on (f w) k

  -- its changes leave the value alone
  abbrev pub Silent : Step → Type 0
  Silent f = (w : World) (k : K) → through f w k ≡ k

  pub through_then : (f g : Step) (w : World) (k : K) → through (f then g) w k ≡ through g (left f w) (through f w k)
  unfolding and_then
  through_then f g w k = replay_append R.on (f w) (g (left f w)) k

  pub through_if : (t : World → Bool) (f g : Step) (w : World) (k : K) → through (if t f g) w k ≡ pick (t w) (through f w k) (through g w k)
  unfolding choose
  through_if t f g w k = pick_map (λ (cs : List Change). replay R.on cs k) (t w) (f w) (g w)

  -- a silent step, and then another; another, and then a silent one
  pub after_silent : (f g : Step) (w : World) (k : K) → Silent f → through (f then g) w k ≡ through g (left f w) k
  after_silent f g w k p = through_then f g w k ∙ ap (through g (left f w)) (p w k)

  pub before_silent : (f g : Step) (w : World) (k : K) → Silent g → through (f then g) w k ≡ through f w k
  before_silent f g w k p = through_then f g w k ∙ p (left f w) (through f w k)

  pub silent_then : (f g : Step) → Silent f → Silent g → Silent (f then g)
  silent_then f g p q w k = after_silent f g w k p ∙ q (left f w) k

  pub silent_if : (t : World → Bool) (f g : Step) → Silent f → Silent g → Silent (if t f g)
  silent_if t f g p q w k = through_if t f g w k ∙ pick_eq (t w) (p w k) (q w k) ∙ pick_same (t w) k

  pub silent_nothing : Silent nothing
  unfolding nothing
  silent_nothing w k = refl

  pub silent_pick : (t : Bool) (f g : Step) → Silent f → Silent g → Silent (pick t f g)
  silent_pick true f g p q = p
  silent_pick false f g p q = q

  pub silent_here : (f : World → Step) → ((v : World) → Silent (f v)) → Silent (here f)
  unfolding here
  silent_here f p w k = p w w k

  pub silent_by : (c : World → Change) → ((w : World) (k : K) → R.on (c w) k ≡ k) → Silent (one c)
  unfolding one
  silent_by c p w k = p w k

  pub silent_one : (c : World → Change) → ((w : World) → quiet (c w) ≡ true) → Silent (one c)
  silent_one c p = silent_by c (λ w k. R.leaves (c w) (p w) k)

  pub silent_stores : (ss : List Store) (k : K) → replay R.on (map bus ss) k ≡ k
  silent_stores [] k = refl
  silent_stores (s ∷ ss) k = ap (replay R.on (map bus ss)) (R.leaves (bus s) refl k) ∙ silent_stores ss k

  pub silent_bus : (f : BusStep) → Silent (on_bus f)
  unfolding on_bus
  silent_bus f w k = silent_stores (f (bus_of w)) k

  pub silent_page : (f : PageStep) → Silent (on_page f)
  unfolding on_page
  silent_page f w k = silent_stores (lifted f (bus_of w)) k

  ruleset silent-rules = (silent_then, silent_if, silent_nothing, silent_one, silent_bus, silent_page, silent_here, silent_pick)

  -- ---- the steps that run no descriptor

  pub silent_counts : Silent counts
  unfolding counts
  silent_counts = search silent-rules

  pub silent_ticks : Silent ticks
  unfolding ticks
  silent_ticks = search silent-rules depth 8

  pub silent_drops : Silent drops_request
  unfolding drops_request
  silent_drops = search silent-rules

  pub silent_sleeps : Silent sleeps
  unfolding sleeps
  silent_sleeps = search silent-rules

  pub silent_suspends : (s : Bool) → Silent (suspends s)
  unfolding suspends
  silent_suspends true = search silent-rules depth 8
  silent_suspends false = search silent-rules depth 8

  pub silent_frame : Silent starts_frame
  unfolding starts_frame
  silent_frame = search silent-rules

  pub silent_status : Silent to_status
  unfolding to_status
  silent_status = search silent-rules

  pub silent_reply : (r : Run) → Silent (keeps_reply r)
  unfolding keeps_reply
  silent_reply r = search (silent-rules, silent_status) depth 8

  pub silent_whole : Silent asks_whole
  unfolding asks_whole
  silent_whole = search silent-rules

  pub silent_chooses : (c : Choice) → Silent (chooses c)
  unfolding chooses
  silent_chooses c = search silent-rules depth 8

  pub silent_configures : (stack : Bool) → Silent (configures stack)
  unfolding configures
  silent_configures stack = search (silent-rules, silent_chooses) depth 8

  pub silent_finishes : (stack : Bool) → Silent (finishes stack)
  unfolding finishes
  silent_finishes stack = search (silent-rules, silent_drops, silent_whole, silent_configures) depth 8

  pub silent_ends : (stack : Bool) (r : Run) → Silent (status_ends stack r)
  unfolding status_ends
  silent_ends stack r = search (silent-rules, silent_finishes, silent_drops) depth 8

  pub silent_unstalls : Silent unstalls
  unfolding unstalls
  silent_unstalls = search (silent-rules, silent_drops)

  pub silent_naks : Silent naks
  unfolding naks
  silent_naks = search silent-rules

  pub silent_unprimes : Silent unprimes
  unfolding unprimes
  silent_unprimes = search silent-rules

  -- ---- a reading that does not look at bytes lost

  module _ (D : (n : ℕ) (k : K) → R.on (lost n) k ≡ k) where
    silent_lost : (n : ℕ) → Silent (one (λ w. lost n))
    silent_lost n = silent_by (λ w. lost n) (λ w k. D n k)

    silent_posted : (qh first second : ℕ) → Silent (posted qh first second)
    unfolding posted
    silent_posted qh first second = search (silent-rules, silent_lost) depth 12

    pub silent_posts : Silent posts
    unfolding posts
    silent_posts = search (silent-rules, silent_posted)

  -- ---- a reading that does not look at the phase

  module _ (P : (p : Phase) (k : K) → R.on (phase p) k ≡ k) where
    silent_phase : (p : Phase) → Silent (one (λ w. phase p))
    silent_phase p = silent_by (λ w. phase p) (λ w k. P p k)

    pub silent_enters : (p : Phase) → Silent (enters p)
    unfolding enters
    silent_enters p = search (silent-rules, silent_phase)

    pub silent_idles : Silent idles
    unfolding idles
    silent_idles = search (silent-rules, silent_enters)

    pub silent_powers : (rs : Bool) → Silent (powers rs)
    unfolding powers
    silent_powers rs = search (silent-rules, silent_enters)

    pub silent_resets : Silent resets
    unfolding resets
    silent_resets = search (silent-rules, silent_enters) depth 8

    pub silent_configured : Silent configured
    unfolding configured
    silent_configured = search (silent-rules, silent_phase) depth 8

  -- ---- those that run some

  module _ (A : AudioAlone R) where
    -- a run, by what its mark does
    pub ran_marks : (e : Endpoint) (r : Run) (k : K) → replay R.on (ran_stores e r) k ≡ R.on (ran e r.retired r.moved) k
    unfolding ran_stores
    ran_marks e r k =
        replay_append R.on (map bus r.stores) (ran e r.retired r.moved ∷ lost (dropped_by r.stores) ∷ []) k
        ∙ ap (λ (j : K). R.on (lost (dropped_by r.stores)) (R.on (ran e r.retired r.moved) j)) (silent_stores r.stores k)
        ∙ A.drops (dropped_by r.stores) (R.on (ran e r.retired r.moved) k)

    pub through_runs : (e : Endpoint) (bs : List ℕ) (f : Run → Step) (w : World) (k : K) → ((r : Run) → Silent (f r))
        → through (runs e bs f) w k ≡ R.on (ran e (run_dtds e bs (bus_of w)).retired (run_dtds e bs (bus_of w)).moved) k
    unfolding runs
    through_runs e bs f w k p =
        let r = run_dtds e bs (bus_of w) in
        before_silent (λ v. ran_stores e r) (f r) w k (p r) ∙ ran_marks e r k

    pub silent_runs : (e : Endpoint) (bs : List ℕ) (f : Run → Step) → not (eqb e.number 3) ≡ true → ((r : Run) → Silent (f r)) → Silent (runs e bs f)
    silent_runs e bs f other p w k = through_runs e bs f w k p ∙ A.others e other _ _ k

    ruleset runs-rules = (silent-rules, silent_runs)

    pub silent_data : Silent data_stage
    unfolding data_stage
    silent_data = search (runs-rules, silent_status, silent_reply) depth 8

    pub silent_last : (stack : Bool) → Silent (status_stage stack)
    unfolding status_stage
    silent_last stack = search (runs-rules, silent_ends)

    pub silent_stages : (stack : Bool) → Silent (stages stack)
    unfolding stages
    silent_stages stack = search (runs-rules, silent_last, silent_data, silent_drops) depth 8

    pub silent_reads : (n : ℕ) → Silent (reads n)
    unfolding reads
    silent_reads zero = silent_nothing
    silent_reads (suc n) =
        let rest : Silent (reads n) = silent_reads n in
        search (runs-rules, rest) depth 8

    pub silent_midi : (asleep : Bool) (every : ℕ) → Silent (midi_in asleep every)
    unfolding midi_in
    silent_midi true every = silent_sleeps
    silent_midi false every = search (runs-rules, silent_naks, silent_reads) depth 8

    pub silent_serial : (n : ℕ) → Silent (drains_serial n)
    unfolding drains_serial
    silent_serial n = search runs-rules depth 8

    pub silent_serves : Silent serial_step
    unfolding serial_step
    silent_serves = search (runs-rules, silent_serial) depth 8

    pub silent_drains : (n : ℕ) → Silent (drains_midi n)
    unfolding drains_midi
    silent_drains n = search runs-rules depth 8

    pub silent_writes : Silent midi_out
    unfolding midi_out
    silent_writes = search (runs-rules, silent_drains)

    pub silent_vendor : Silent reads_vendor
    unfolding reads_vendor
    silent_vendor = search runs-rules

    pub silent_others : (c : Settings) (t : ℕ) → Silent (others c t)
    unfolding others
    silent_others c t = search (runs-rules, silent_midi, silent_writes, silent_vendor) depth 8

    module _ (P : (p : Phase) (k : K) → R.on (phase p) k ≡ k) where
      pub silent_controls : (stack : Bool) → Silent (controls stack)
      unfolding controls
      silent_controls stack = search (silent-rules, silent_stages, silent_unstalls, silent_configured P, silent_posts A.drops) depth 8

      pub silent_enumerates : (c : Settings) → Silent (enumerates c)
      unfolding enumerates
      silent_enumerates c = search (silent-rules, silent_frame, silent_controls)

  -- ---- one that does not look at the budget

  module _ (B : (n : ℕ) (k : K) → R.on (budget n) k ≡ k) where
    silent_budget : (n : World → ℕ) → Silent (one (λ w. budget (n w)))
    silent_budget n = silent_by (λ w. budget (n w)) (λ w k. B (n w) k)

    pub silent_adds : Silent adds_budget
    unfolding adds_budget
    silent_adds = search (silent-rules, silent_budget)

    pub silent_clears : Silent clears_budget
    unfolding clears_budget
    silent_clears = search (silent-rules, silent_budget)

  -- ---- one that does not look at what a reset changes either

  module _ (L : Lasting R) where
    silent_credit : (n : World → ℕ) → Silent (one (λ w. credit (n w)))
    silent_credit n = silent_by (λ w. credit (n w)) (λ w k. L.credits (n w) k)

    silent_gone : (b : Bool) → Silent (one (λ w. gone b))
    silent_gone b = silent_by (λ w. gone b) (λ w k. L.goes b k)

    silent_running : (b : Bool) → Silent (one (λ w. was_running b))
    silent_running b = silent_by (λ w. was_running b) (λ w k. L.runs b k)

    silent_idle : (p : Phase) → Silent (one (λ w. phase p))
    silent_idle = silent_phase L.phases

    silent_forgets : Silent forgets
    unfolding forgets
    silent_forgets = search (silent-rules, silent_drops, silent_credit, silent_budget L.budgets) depth 12

    silent_returns : Silent returns
    unfolding returns
    silent_returns = search (silent-rules, silent_idle, silent_forgets) depth 8

    silent_cable : (g : Bool) → Silent (cable g)
    unfolding cable
    silent_cable true = search (silent-rules, silent_gone) depth 8
    silent_cable false = search (silent-rules, silent_gone, silent_returns) depth 8

    pub silent_opens : (c : Settings) (g : Bool) → Silent (opens c g)
    unfolding opens
    silent_opens c g = search (silent-rules, silent_counts, silent_ticks, silent_cable) depth 8

    silent_departs : Silent departs
    unfolding departs
    silent_departs = search (silent-rules, silent_running, silent_enters L.phases, silent_forgets) depth 12

    pub silent_leaves : (stack rs : Bool) → Silent (leaves stack rs)
    unfolding leaves
    silent_leaves false rs = silent_nothing
    silent_leaves true true = search (silent-rules, silent_running)
    silent_leaves true false = search (silent-rules, silent_departs)

    -- ---- nor at frames that come

    module _ (U : Unheard R) where
      silent_new : (f : List ℕ) → Silent (one (λ w. frame f))
      silent_new f = silent_by (λ w. frame f) (λ w k. U.frames f k)

      silent_counted : (n : ℕ) → Silent (one (λ w. count in_frames n))
      silent_counted n = silent_by (λ w. count in_frames n) (λ w k. U.counted n k)

      ruleset heard-rules = (silent-rules, silent_credit, silent_new, silent_counted)

      silent_frames : (n : ℕ) (bs : List ℕ) → Silent (keeps_frames n bs)
      unfolding keeps_frames
      silent_frames zero bs = silent_nothing
      silent_frames (suc n) bs = silent_then _ _ (silent_new _) (silent_frames n _)

      silent_good : (b : List ℕ) → Silent (keeps_good b)
      unfolding keeps_good
      silent_good b = search (heard-rules, silent_frames)

      silent_block : (b : List ℕ) → Silent (keeps_block b)
      unfolding keeps_block
      silent_block b = search (heard-rules, silent_good)

      silent_blocks : (bs : List (List ℕ)) → Silent (keeps_blocks bs)
      unfolding keeps_blocks
      silent_blocks [] = silent_nothing
      silent_blocks (b ∷ bs) = silent_then _ _ (silent_block b) (silent_blocks bs)

      pub silent_kept : (r : Run) → Silent (keeps_run r)
      unfolding keeps_run
      silent_kept r = search (heard-rules, silent_blocks)

      module _ (A : AudioAlone R) (M : Unmarked R) where
        silent_inputs : Silent inputs
        unfolding inputs
        silent_inputs w k = through_runs A audio_in [] keeps_run w k silent_kept ∙ M _ _ k

        pub silent_hears : Silent stream_in
        unfolding stream_in
        silent_hears = search (heard-rules, silent_adds L.budgets, silent_clears L.budgets, silent_inputs)
