-- The steps of a microframe, walked once: a property of Worlds is kept by a step where the kinds of change that the step makes keep it.
use Prim.Native.Nat.{ℕ, zero, suc, ◌-◌, ◌*◌, ◌/◌, ◌%◌, ◌≤◌, min}
use mathlib.Core.Path.{◌≡◌, refl, sym, subst}
use mathlib.Core.Bool.{Bool, true, false, not, ◌&&◌}
use mathlib.Core.List.{List, [], ◌∷◌, map}
use native.Mathlib.Omega.{arith}
use lib.Dec.{eqb, ltb}
use Rattle.bits.proofs.Tests.{false_true}
use Rattle.bus.specs.Steps.{replay, replay_append, exec_then, exec_choose}
use Rattle.bus.specs.Stores.{Store, BusStep, dropped_by}
use Rattle.usbdev.specs.Registers.{PageStep, lifted}
use Rattle.dtd.specs.Dtd.{Endpoint, Run, run_dtds}
use Rattle.config.specs.Config.{parsed}
use Rattle.gptimers.specs.declared.Timers.{Timers}
use Rattle.record.specs.declared.Phase.{Phase}
use Rattle.record.specs.declared.Phase.TheVariants.{Idle, Vbus, Stream}
use Rattle.record.specs.declared.Control.{Control}
use Rattle.record.specs.declared.Settings.{Settings}
use Rattle.record.specs.Record.{Stats, with_on, Counter, place, counter_of, counted, microframes, midi_dtds, midi_asleep, restarts, enumerations}
use Rattle.record.specs.World.{World, bus_of}
use Rattle.record.specs.Change.{Change, bus, ran, lost, count, uf, timers, phase, started, gone, suspended, was_running, credit, budget, counter, block, control, queued, popped, pushed, cleared, reply, device, config, forgot, midi, serial, cabled, received, frame, taken, apply, Step, left, ◌then◌, nothing, if, when, one, here, on_bus, on_page, ran_stores, runs}
use Rattle.record.proofs.Counters.{raised_other}
use Rattle.model.specs.Phases.{now, within, counts, ticks, drops_request, forgets, returns, cable, sleeps, suspends, enters, departs, leaves, idles, powers, resets, starts_frame}
use Rattle.model.specs.Control.{to_status, posted, posts, configured, keeps_reply, data_stage, asks_whole, chooses, configures, finishes, status_ends, status_stage, stalled, unstalls, stages, controls}
use Rattle.model.specs.Streams.{naks, reads, midi_in, drains_serial, serial_step, drains_midi, midi_out, reads_vendor}
use Rattle.model.specs.Audio.{over_budget, adds_budget, clears_budget, keeps_frames, keeps_good, keeps_block, keeps_blocks, keeps_run, inputs, stream_in, sends_block, unprimes, stream_out, streams}
use Rattle.model.specs.Microframe.{opens, others, transfers}
use Rattle.model.proofs.Holding.{Holds, by_case, holds_then, holds_seq, holds_if, holds_nothing, holds_one, holds_here, holds_pick}

-- every counter but the microframes'
abbrev pub is_other : Counter → Bool
is_other c = not (eqb (place c) (place microframes))

-- no other counter is the microframes'
pub other_same : (c : Counter) (n : ℕ) (r : Stats) → is_other c ≡ true → counter_of microframes (counted c n r) ≡ counter_of microframes r
other_same c n r e = raised_other 0 (place c) n r (λ z. false_true (subst (λ (x : ℕ). not (eqb x 0) ≡ true) (sym z) e))

-- a counter of the streams beside MIDI that is read: neither the microframes, nor reads of MIDI, nor microframes without one, nor enumerations
abbrev pub is_streamed : Counter → Bool
is_streamed c =
    is_other c
    && (not (eqb (place midi_dtds) (place c)) && (not (eqb (place midi_asleep) (place c)) && not (eqb (place enumerations) (place c))))

-- ---- kinds of change, by what makes them

-- a run: its stores, its mark, and the bytes that it lost
pub record Ran (P : World → Type 0) : Type 0 where
  pub stores : (s : Store) (w : World) → P w → P (apply (bus s) w)
  pub marks : (e : Endpoint) (k n : ℕ) (w : World) → P w → P (apply (ran e k n) w)
  pub loses : (n : ℕ) (w : World) → P w → P (apply (lost n) w)

-- a fresh host
pub record Forgotten (P : World → Type 0) : Type 0 where
  pub clears : (w : World) → P w → P (apply cleared w)
  pub drops : (w : World) → P w → P (apply (control (with_on w.state.control false)) w)
  pub credits : (w : World) → P w → P (apply (credit 0) w)
  pub budgets : (w : World) → P w → P (apply (budget 0) w)
  pub forgets : (w : World) → P w → P (apply forgot w)

-- a request that runs
pub record Requested (P : World → Type 0) : Type 0 where
  pub controls : (c : Control) (w : World) → P w → P (apply (control c) w)
  pub replies : (n : ℕ) (bs : List ℕ) (w : World) → P w → P (apply (reply n bs) w)
  pub pushes : (bs : List ℕ) (w : World) → P w → P (apply (pushed bs) w)
  pub queues : (bs : List ℕ) (w : World) → P w → P (apply (queued bs) w)
  pub devices : (bs : List ℕ) (w : World) → P w → P (apply (device bs) w)
  pub configs : (bs : List ℕ) (w : World) → P w → P (apply (config bs) w)

-- and its block, which a configuration gives, with the device stack alone
abbrev pub Chosen : (P : World → Type 0) → Bool → Type 0
Chosen P stack = stack ≡ true → (bs : List ℕ) (w : World) → ltb 32 (parsed bs).output ≡ true → P w → P (apply (block (parsed bs).output (((parsed bs).output - 32) / 28)) w)

-- MIDI, serial and vendor bytes: a queue is drained of no more than it holds
pub record Carried (P : World → Type 0) : Type 0 where
  pub sleeps : (w : World) → P w → P (apply (count midi_asleep 1) w)
  pub reads : (w : World) → P w → P (apply (count midi_dtds 1) w)
  pub counts : (c : Counter) (n : ℕ) → is_streamed c ≡ true → (w : World) → P w → P (apply (count c n) w)
  pub midis : (n : ℕ) (w : World) → n ≤ w.state.lengths.midi → n % 4 ≡ 0 → P w → P (apply (midi n) w)
  pub serials : (n : ℕ) (w : World) → n ≤ w.state.lengths.serial → P w → P (apply (serial n) w)
  pub receives : (bs : List ℕ) (w : World) → P w → P (apply (received bs) w)
  pub cables : (cs : List ℕ) (w : World) → P w → P (apply (cabled cs) w)

-- the audio stream: the budget is seen past its test
pub record Sounded (P : World → Type 0) : Type 0 where
  pub counts : (c : Counter) (n : ℕ) → is_streamed c ≡ true → (w : World) → P w → P (apply (count c n) w)
  pub credits : (n : ℕ) (w : World) → P w → P (apply (credit n) w)
  pub frames : (f : List ℕ) (w : World) → P w → P (apply (frame f) w)
  pub waits : (w : World) → P w → over_budget (left adds_budget w) ≡ true → P (left adds_budget w)
  pub passes : (w : World) → P w → over_budget (left adds_budget w) ≡ false → P (left clears_budget (left adds_budget w))
  pub numbers : (n : ℕ) (w : World) → P w → P (apply (counter n) w)
  pub takes : (n : ℕ) (w : World) → P w → P (apply (taken n) w)

-- ---- the forms of a step
module _ (P : World → Type 0) where
  pub at_if : (t : World → Bool) (f g : Step) (w : World) → (t w ≡ true → P (left f w)) → (t w ≡ false → P (left g w)) → P (left (if t f g) w)
  at_if t f g w p q = subst P (sym (exec_choose apply t f g w)) (by_case P (t w) (left f w) (left g w) p q)

  pub at_one : (c : Change) (w : World) → P (apply c w) → P (left (one (λ v. c)) w)
  unfolding one
  at_one c w h = h

  -- a step whose first part leaves it
  pub then_holds : (f g : Step) (w : World) → P (left f w) → Holds P g → P (left (f then g) w)
  then_holds f g w h p = holds_seq P f g w (p (left f w) h)

  pub on_if : (t : World → Bool) (f g : Step) → Holds P f → Holds P g → Holds P (if t f g)
  on_if t f g p q = holds_if P t f g (λ w e h. p w h) (λ w e h. q w h)

  pub on_here : (f : World → Step) → ((v : World) → Holds P (f v)) → Holds P (here f)
  on_here f p = holds_here P f (λ v h. p v v h)

-- ---- stores and runs

module _ (P : World → Type 0) (stored : (s : Store) (w : World) → P w → P (apply (bus s) w)) where
  after_stores : (ss : List Store) (w : World) → P w → P (replay apply (map bus ss) w)
  after_stores [] w h = h
  after_stores (s ∷ ss) w h = after_stores ss (apply (bus s) w) (stored s w h)

  pub holds_bus : (f : BusStep) → Holds P (on_bus f)
  unfolding on_bus
  holds_bus f w h = after_stores (f (bus_of w)) w h

  pub holds_page : (f : PageStep) → Holds P (on_page f)
  unfolding on_page
  holds_page f w h = after_stores (lifted f (bus_of w)) w h

  module _ (marked : (e : Endpoint) (k n : ℕ) (w : World) → P w → P (apply (ran e k n) w)) (dropped : (n : ℕ) (w : World) → P w → P (apply (lost n) w)) where
    pub after_run_lem : (e : Endpoint) (r : Run) (w : World) → P w → P (replay apply (ran_stores e r) w)
    unfolding ran_stores
    after_run_lem e r w h =
        subst P (sym (replay_append apply (map bus r.stores) (ran e r.retired r.moved ∷ lost (dropped_by r.stores) ∷ []) w))
        (dropped (dropped_by r.stores) _ (marked e r.retired r.moved _ (after_stores r.stores w h)))

    pub holds_run : (e : Endpoint) (bs : List ℕ) (k : Run → Step) → ((r : Run) → Holds P (k r)) → Holds P (runs e bs k)
    unfolding runs
    holds_run e bs k p w h =
        subst P (sym (exec_then apply (λ v. ran_stores e (run_dtds e bs (bus_of w))) (k (run_dtds e bs (bus_of w))) w))
        (p (run_dtds e bs (bus_of w)) _ (after_run_lem e (run_dtds e bs (bus_of w)) w h))

-- ---- steps that store alone, and those that beside it change the port

module _ (P : World → Type 0) (stores : (s : Store) (w : World) → P w → P (apply (bus s) w)) where
  on_bus_lem : (f : BusStep) → Holds P (on_bus f)
  on_bus_lem f = holds_bus P stores f

  pub on_page_lem : (f : PageStep) → Holds P (on_page f)
  on_page_lem f = holds_page P stores f

  ruleset form = (holds_then, on_if, holds_nothing, holds_one, on_here, holds_pick, on_bus_lem, on_page_lem)

  pub walk_frame : Holds P starts_frame
  unfolding starts_frame
  walk_frame = search form

  pub walk_ticks : ((ts : Timers) (w : World) → P w → P (apply (timers ts) w)) → Holds P ticks
  unfolding ticks
  walk_ticks sets = search (form, sets) depth 8

  pub walk_naks : Holds P naks
  unfolding naks
  walk_naks = search form

  pub walk_unprimes : Holds P unprimes
  unfolding unprimes
  walk_unprimes = search form

  pub walk_suspends : ((b : Bool) (w : World) → P w → P (apply (suspended b) w)) → (s : Bool) → Holds P (suspends s)
  unfolding suspends
  walk_suspends marks true = search (form, marks) depth 8
  walk_suspends marks false = search (form, marks) depth 8

  -- a phase begins behind stores
  module _ (enter : (p : Phase) → Holds P (enters p)) where
    pub walk_idles : Holds P idles
    unfolding idles
    walk_idles = search (form, enter)

    pub walk_powers : (rs : Bool) → Holds P (powers rs)
    unfolding powers
    walk_powers rs = search (form, enter)

    pub walk_resets : ((bs : List ℕ) (w : World) → P w → P (apply (queued bs) w)) → Holds P resets
    unfolding resets
    walk_resets queues = search (form, enter, queues) depth 8

  -- the cable goes, or a fresh host is back
  pub walk_unplugs : ((b : Bool) (w : World) → P w → P (apply (gone b) w)) → Holds P (cable true)
  unfolding cable
  walk_unplugs goes = search (form, goes) depth 8

  pub walk_cable : ((b : Bool) (w : World) → P w → P (apply (gone b) w)) → Holds P returns → (g : Bool) → Holds P (cable g)
  unfolding cable
  walk_cable goes back true = walk_unplugs goes
  walk_cable goes back false = search (form, goes, back) depth 8

module _ (P : World → Type 0) where
  ruleset plain = (holds_then, on_if, holds_nothing, holds_one, on_here, holds_pick)

  pub walk_counts : ((w : World) → P w → P (apply (count microframes 1) w)) → ((n : ℕ) (w : World) → P w → P (apply (uf n) w)) → Holds P counts
  unfolding counts
  walk_counts made numbers = search (plain, made, numbers)

  pub walk_opens : Holds P counts → Holds P ticks → ((g : Bool) → Holds P (cable g)) → (c : Settings) (g : Bool) → Holds P (opens c g)
  unfolding opens
  walk_opens made ticked wired c g = search (plain, made, ticked, wired) depth 8

  pub walk_sleeps : ((w : World) → P w → P (apply (count midi_asleep 1) w)) → Holds P sleeps
  unfolding sleeps
  walk_sleeps counts = search (plain, counts)

  pub walk_drops : ((w : World) → P w → P (apply (control (with_on w.state.control false)) w)) → Holds P drops_request
  unfolding drops_request
  walk_drops drops = search (plain, drops)

  pub walk_enters : (p : Phase) → ((w : World) → P w → P (apply (phase p) w)) → ((w : World) → P w → P (apply (started (now w)) w)) → Holds P (enters p)
  unfolding enters
  walk_enters p enter starts = search (plain, enter, starts) depth 8

  module _ (F : Forgotten P) where
    pub walk_forgets : Holds P forgets
    unfolding forgets
    walk_forgets = search (plain, walk_drops F.drops, F.clears, F.credits, F.budgets, F.forgets) depth 8

    pub walk_returns : ((w : World) → P w → P (apply (phase Idle) w)) → ((w : World) → P w → P (apply (count restarts 1) w)) → Holds P returns
    unfolding returns
    walk_returns idle counts = search (plain, walk_forgets, idle, counts) depth 8

    module _ (enter : Holds P (enters Vbus)) (marks : (b : Bool) (w : World) → P w → P (apply (was_running b) w)) where
      walk_departs : Holds P departs
      unfolding departs
      walk_departs = search (plain, enter, walk_forgets, marks) depth 8

      pub walk_leaves : (stack rs : Bool) → Holds P (leaves stack rs)
      unfolding leaves
      walk_leaves false rs = holds_nothing P
      walk_leaves true true = search (plain, marks)
      walk_leaves true false = search (plain, walk_departs)

  pub walk_configured : ((w : World) → P w → P (apply (phase Stream) w)) → ((w : World) → P w → P (apply (count enumerations 1) w)) → Holds P configured
  unfolding configured
  walk_configured enter counts = search (plain, enter, counts) depth 8

-- frames to the received ring, and a property that any budget keeps
module _ (P : World → Type 0) where
  pub walk_frames : ((f : List ℕ) (w : World) → P w → P (apply (frame f) w)) → (n : ℕ) (bs : List ℕ) → Holds P (keeps_frames n bs)
  unfolding keeps_frames
  walk_frames frames zero bs = holds_nothing P
  walk_frames frames (suc n) bs = holds_then P _ _ (holds_one P _ (λ w h. frames _ w h)) (walk_frames frames n _)

module _ (P : World → Type 0) (any : (n : ℕ) (w : World) → P w → P (apply (budget n) w)) where
  pub adds_any : Holds P adds_budget
  unfolding adds_budget
  adds_any = holds_if P _ _ nothing (λ w e h. holds_one P _ (λ v p. any _ v p) w h) (λ w e h. holds_nothing P w h)

  pub clears_any : Holds P clears_budget
  unfolding clears_budget
  clears_any = holds_if P _ _ nothing (λ w e h. holds_one P _ (λ v p. any _ v p) w h) (λ w e h. holds_nothing P w h)

-- ---- control transfers

module _ (P : World → Type 0) (R : Ran P) where
  pub on_runs : (e : Endpoint) (bs : List ℕ) (k : Run → Step) → ((r : Run) → Holds P (k r)) → Holds P (runs e bs k)
  on_runs e bs k p = holds_run P R.stores R.marks R.loses e bs k p

  bus_step : (f : BusStep) → Holds P (on_bus f)
  bus_step f = holds_bus P R.stores f

  page_step : (f : PageStep) → Holds P (on_page f)
  page_step f = holds_page P R.stores f

  ruleset steps = (holds_then, on_if, holds_nothing, holds_one, on_here, holds_pick, bus_step, page_step, on_runs)

  module _ (Q : Requested P) where
    drops : Holds P drops_request
    drops = walk_drops P (λ w h. Q.controls _ w h)

    walk_status : Holds P to_status
    unfolding to_status
    walk_status = search (steps, Q.controls)

    walk_reply : (r : Run) → Holds P (keeps_reply r)
    unfolding keeps_reply
    walk_reply r = search (steps, walk_status, Q.replies, Q.controls) depth 8

    walk_data : Holds P data_stage
    unfolding data_stage
    walk_data = search (steps, walk_status, walk_reply) depth 8

    walk_whole : Holds P asks_whole
    unfolding asks_whole
    walk_whole = search (steps, Q.pushes)

    walk_block : Chosen P true → (bs : List ℕ) → Holds P (when (λ w. ltb 32 (parsed bs).output) (one (λ w. block (parsed bs).output (((parsed bs).output - 32) / 28))))
    unfolding one
    walk_block B bs = holds_if P _ _ nothing (λ w e h. B refl bs w e h) (λ w e h. holds_nothing P w h)

    walk_chooses : Chosen P true → (bs : List ℕ) → Holds P (chooses (parsed bs))
    unfolding chooses
    walk_chooses B bs = search (steps, walk_block B, Q.queues) depth 8

    walk_configures : (stack : Bool) → Chosen P stack → Holds P (configures stack)
    unfolding configures
    walk_configures true B = search (steps, walk_chooses B, Q.configs) depth 8
    walk_configures false B = search (steps, Q.configs, Q.queues) depth 8

    module _ (stack : Bool) (B : Chosen P stack) where
      walk_finishes : Holds P (finishes stack)
      unfolding finishes
      walk_finishes = search (steps, drops, walk_whole, walk_configures stack B, Q.devices) depth 8

      walk_ends : (r : Run) → Holds P (status_ends stack r)
      unfolding status_ends
      walk_ends r = search (steps, drops, walk_finishes)

      walk_last : Holds P (status_stage stack)
      unfolding status_stage
      walk_last = search (steps, walk_ends)

      pub walk_stages : Holds P (stages stack)
      unfolding stages
      walk_stages = search (steps, drops, walk_last, walk_data) depth 8

    pub walk_unstalls : Holds P unstalls
    unfolding unstalls
    walk_unstalls = search (steps, drops)

    -- a setup is posted, once it has left the queue
    pub walk_posted : (qh first second : ℕ) (w : World) → P (apply popped w) → P (left (posted qh first second) w)
    unfolding posted
    walk_posted qh first second w h =
        then_holds P (one (λ v. popped)) _ w (at_one P popped w h) (search (holds_then, holds_one, bus_step, page_step, R.loses, Q.controls) depth 12)

    pub walk_posts : ((w : World) → P w → P (apply popped w)) → Holds P posts
    unfolding posts here
    walk_posts pops w h = walk_posted _ _ _ w (pops w h)

    pub walk_controls : Holds P configured → Holds P posts → (stack : Bool) → Chosen P stack → Holds P (controls stack)
    unfolding controls
    walk_controls ended post stack B =
        on_if P _ _ _ (on_if P stalled unstalls (stages stack) walk_unstalls (walk_stages stack B)) (on_if P _ configured posts ended post)

  -- ---- serial

  module _ (serials : (n : ℕ) (w : World) → n ≤ w.state.lengths.serial → P w → P (apply (serial n) w)) (receives : (bs : List ℕ) (w : World) → P w → P (apply (received bs) w)) where
    -- at most what the queue holds
    drains_serial_lem : (n : ℕ) (v : World) → n ≤ v.state.lengths.serial → P v → P (left (drains_serial n) v)
    unfolding drains_serial here
    drains_serial_lem n v le h =
        holds_seq P (one (λ w. serial n)) _ v (on_runs _ _ _ (λ r. holds_nothing P) _ (at_one P (serial n) v (serials n v le h)))

    least_right : (a b : ℕ) → min a b ≤ b
    least_right a b = omega arith

    pub walk_serves : Holds P serial_step
    unfolding serial_step
    walk_serves =
        holds_then P _ _ (search (steps, receives))
        (on_if P _ _ nothing (holds_here P _ (λ v h. drains_serial_lem _ v (least_right _ _) h)) (holds_nothing P))

  -- ---- MIDI and vendor

  naks_here : Holds P naks
  naks_here = walk_naks P R.stores

  module _ (counts : (w : World) → P w → P (apply (count midi_dtds 1) w)) (receives : (bs : List ℕ) (w : World) → P w → P (apply (received bs) w)) (cables : (cs : List ℕ) (w : World) → P w → P (apply (cabled cs) w)) where
    walk_reads : (n : ℕ) → Holds P (reads n)
    unfolding reads
    walk_reads zero = holds_nothing P
    walk_reads (suc n) =
        let rest : Holds P (reads n) = walk_reads n in
        search (steps, rest, counts, receives, cables) depth 10

    pub walk_awake : (every : ℕ) → Holds P (midi_in false every)
    unfolding midi_in
    walk_awake every = search (steps, naks_here, walk_reads) depth 8

  pub walk_midi : Holds P sleeps → ((every : ℕ) → Holds P (midi_in false every)) → (asleep : Bool) (every : ℕ) → Holds P (midi_in asleep every)
  unfolding midi_in
  walk_midi slept awake true every = slept
  walk_midi slept awake false every = awake every

  module _ (counts : (c : Counter) (n : ℕ) → is_streamed c ≡ true → (w : World) → P w → P (apply (count c n) w)) where
    module _ (midis : (n : ℕ) (w : World) → n ≤ w.state.lengths.midi → n % 4 ≡ 0 → P w → P (apply (midi n) w)) where
      -- at most what the queue holds, in whole packets
      drains_midi_lem : (n : ℕ) (v : World) → n ≤ v.state.lengths.midi → n % 4 ≡ 0 → P v → P (left (drains_midi n) v)
      unfolding drains_midi here
      drains_midi_lem n v le four h =
          holds_seq P (one (λ w. midi n)) _ v (on_runs _ _ _ (λ r. search (steps, counts)) _ (at_one P (midi n) v (midis n v le four h)))

      packets_le : (a b : ℕ) → min a b / 4 * 4 ≤ b
      packets_le a b = omega arith

      packets_four : (n : ℕ) → n / 4 * 4 % 4 ≡ 0
      packets_four n = omega arith

      pub walk_writes : Holds P midi_out
      unfolding midi_out
      walk_writes =
          on_if P _ _ nothing (holds_here P _ (λ v h. drains_midi_lem _ v (packets_le _ _) (packets_four _) h)) (holds_nothing P)

    pub walk_vendor : Holds P reads_vendor
    unfolding reads_vendor
    walk_vendor = search (steps, counts)

  -- by what its MIDI input does
  pub walk_others : Holds P midi_out → Holds P reads_vendor → (c : Settings) (t : ℕ) → Holds P (midi_in (within c.sleep t) c.midi_every) → Holds P (others c t)
  unfolding others
  walk_others writes vendor c t heard = search (steps, heard, writes, vendor) depth 8

  -- ---- the audio stream

  module _ (S : Sounded P) where
    kept_frames : (n : ℕ) (bs : List ℕ) → Holds P (keeps_frames n bs)
    kept_frames = walk_frames P S.frames

    walk_good : (b : List ℕ) → Holds P (keeps_good b)
    unfolding keeps_good
    walk_good b = search (steps, kept_frames, S.counts, S.credits) depth 8

    walk_of : (b : List ℕ) → Holds P (keeps_block b)
    unfolding keeps_block
    walk_of b = search (steps, walk_good, S.counts) depth 8

    walk_blocks : (bs : List (List ℕ)) → Holds P (keeps_blocks bs)
    unfolding keeps_blocks
    walk_blocks [] = holds_nothing P
    walk_blocks (b ∷ bs) = holds_then P _ _ (walk_of b) (walk_blocks bs)

    walk_run : (r : Run) → Holds P (keeps_run r)
    unfolding keeps_run
    walk_run r = search (steps, walk_blocks, S.counts) depth 8

    walk_inputs : Holds P inputs
    unfolding inputs
    walk_inputs = search (steps, walk_run)

    pub walk_hears : Holds P stream_in
    unfolding stream_in
    walk_hears w h =
        holds_seq P adds_budget _ w
        (at_if P over_budget nothing (clears_budget then inputs) (left adds_budget w)
        (λ e. holds_nothing P _ (S.waits w h e))
        (λ e. holds_seq P clears_budget inputs _ (walk_inputs _ (S.passes w h e))))

    walk_sends : (bs : List ℕ) → Holds P (sends_block bs)
    unfolding sends_block
    walk_sends bs = search (steps, S.numbers, S.counts, S.takes, S.credits) depth 12

    unprimes_here : Holds P unprimes
    unprimes_here = walk_unprimes P R.stores

    walk_outputs : Holds P stream_out
    unfolding stream_out
    walk_outputs = search (steps, walk_sends, unprimes_here) depth 8

    pub walk_streams : Holds P streams
    unfolding streams
    walk_streams = search (steps, walk_hears, walk_outputs)

  -- ---- all of them, by what their MIDI input does

  pub walk_streaming : Carried P → Sounded P → (c : Settings) (t : ℕ) → Holds P (midi_in (within c.sleep t) c.midi_every) → Holds P (transfers c t)
  unfolding transfers
  walk_streaming C S c t heard =
      let rest : Holds P (others c t) = walk_others (walk_writes C.counts C.midis) (walk_vendor C.counts) c t heard in
      search (steps, walk_serves C.serials C.receives, walk_streams S, rest) depth 8

  pub walk_transfers : Carried P → Sounded P → (c : Settings) (t : ℕ) → Holds P (transfers c t)
  walk_transfers C S c t =
      walk_streaming C S c t
      (walk_midi (walk_sleeps P C.sleeps) (walk_awake C.reads C.receives C.cables) (within c.sleep t) c.midi_every)
