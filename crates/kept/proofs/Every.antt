-- What a microframe keeps: a property that every change keeps, as the steps make them, from the entry to the end.
use Prim.Native.Nat.{ℕ, ◌-◌, ◌/◌, ◌%◌, ◌≤◌}
use mathlib.Core.Path.{◌≡◌, refl}
use mathlib.Core.Bool.{Bool, true, false}
use mathlib.Core.List.{List}
use lib.Dec.{ltb}
use Rattle.bus.specs.Stores.{Store}
use Rattle.bus.proofs.Sizes.{and_true}
use Rattle.dtd.specs.Dtd.{Endpoint}
use Rattle.config.specs.Config.{parsed}
use Rattle.gptimers.specs.declared.Timers.{Timers}
use Rattle.record.specs.declared.Phase.{Phase}
use Rattle.record.specs.declared.Phase.TheVariants.{Idle, Vbus, Reset, Enumerate, Stream}
use Rattle.record.specs.declared.Control.{Control}
use Rattle.record.specs.declared.Settings.{Settings}
use Rattle.record.specs.Record.{Counter, microframes, midi_dtds, midi_asleep, restarts, enumerations}
use Rattle.record.specs.World.{World}
use Rattle.record.specs.Change.{bus, ran, lost, count, uf, timers, phase, started, gone, suspended, was_running, credit, budget, counter, block, control, queued, popped, pushed, cleared, reply, device, config, forgot, midi, serial, cabled, received, frame, taken, apply, left, ◌then◌, nothing, if, when, here}
use Rattle.model.specs.Phases.{now, counts, ticks, sleeps, suspends, cable, leaves, starts_frame, enters}
use Rattle.model.specs.Control.{posts, configured, stalled, unstalls, stages, controls}
use Rattle.model.specs.Audio.{over_budget, adds_budget, clears_budget}
use Rattle.model.specs.Microframe.{rs_set, gone_at, asleep_at, transfers, enumerates, talks, at_phase, by_phase, opens, frame_of, microframe}
use Rattle.model.specs.Reach.{to_phase, phase_by, stream_by, at_output}
use Rattle.model.proofs.Holding.{Holds, holds_then, holds_seq, holds_nothing}
use Rattle.model.proofs.Walk.{is_other, is_streamed, at_if, then_holds, on_if, Ran, Forgotten, Requested, Carried, Sounded, walk_counts, walk_ticks, walk_frame, walk_suspends, walk_idles, walk_powers, walk_resets, walk_cable, walk_sleeps, walk_enters, walk_returns, walk_leaves, walk_configured, walk_unstalls, walk_stages, walk_posted, walk_hears, walk_transfers}

-- each change as a microframe makes it on its way to control, behind its counts and timers: a phase starts now
pub record Early (P : World → Type 0) : Type 0 where
  pub stores : (s : Store) (w : World) → P w → P (apply (bus s) w)
  pub counts : (c : Counter) (n : ℕ) → is_other c ≡ true → (w : World) → P w → P (apply (count c n) w)
  pub enters : (p : Phase) (w : World) → P w → P (apply (phase p) w)
  pub starts : (w : World) → P w → P (apply (started (now w)) w)
  pub goes : (b : Bool) (w : World) → P w → P (apply (gone b) w)
  pub suspends : (b : Bool) (w : World) → P w → P (apply (suspended b) w)
  pub runs : (b : Bool) (w : World) → P w → P (apply (was_running b) w)
  pub credits : (n : ℕ) (w : World) → P w → P (apply (credit n) w)
  pub resets : (w : World) → P w → P (apply (budget 0) w)
  pub controls : (c : Control) (w : World) → P w → P (apply (control c) w)
  pub clears : (w : World) → P w → P (apply cleared w)
  pub forgets : (w : World) → P w → P (apply forgot w)

-- and from control on: a queue is drained of no more than it holds, the block is one that a configuration gives,
-- and the budget is seen past its test
pub record Each (P : World → Type 0) : Type 0 where
  pub early : Early P
  pub marks : (e : Endpoint) (k n : ℕ) (w : World) → P w → P (apply (ran e k n) w)
  pub loses : (n : ℕ) (w : World) → P w → P (apply (lost n) w)
  pub waits : (w : World) → P w → over_budget (left adds_budget w) ≡ true → P (left adds_budget w)
  pub passes : (w : World) → P w → over_budget (left adds_budget w) ≡ false → P (left clears_budget (left adds_budget w))
  pub numbers : (n : ℕ) (w : World) → P w → P (apply (counter n) w)
  pub chooses : (bs : List ℕ) (w : World) → ltb 32 (parsed bs).output ≡ true → P w → P (apply (block (parsed bs).output (((parsed bs).output - 32) / 28)) w)
  pub queues : (bs : List ℕ) (w : World) → P w → P (apply (queued bs) w)
  pub pushes : (bs : List ℕ) (w : World) → P w → P (apply (pushed bs) w)
  pub replies : (n : ℕ) (bs : List ℕ) (w : World) → P w → P (apply (reply n bs) w)
  pub devices : (bs : List ℕ) (w : World) → P w → P (apply (device bs) w)
  pub configs : (bs : List ℕ) (w : World) → P w → P (apply (config bs) w)
  pub midis : (n : ℕ) (w : World) → n ≤ w.state.lengths.midi → n % 4 ≡ 0 → P w → P (apply (midi n) w)
  pub serials : (n : ℕ) (w : World) → n ≤ w.state.lengths.serial → P w → P (apply (serial n) w)
  pub receives : (bs : List ℕ) (w : World) → P w → P (apply (received bs) w)
  pub cables : (cs : List ℕ) (w : World) → P w → P (apply (cabled cs) w)
  pub frames : (f : List ℕ) (w : World) → P w → P (apply (frame f) w)
  pub takes : (n : ℕ) (w : World) → P w → P (apply (taken n) w)

-- ---- the kinds of change that the steps ask for

module _ (P : World → Type 0) (E : Early P) where
  forgotten : Forgotten P
  forgotten =
      record { clears = E.clears; drops = λ w h. E.controls _ w h; credits = E.credits 0; budgets = E.resets; forgets = E.forgets }

  each_sleeps : Holds P sleeps
  each_sleeps = walk_sleeps P (E.counts midi_asleep 1 refl)

  each_enters : (p : Phase) → Holds P (enters p)
  each_enters p = walk_enters P p (E.enters p) E.starts

  each_cable : (g : Bool) → Holds P (cable g)
  each_cable = walk_cable P E.stores E.goes (walk_returns P forgotten (E.enters Idle) (E.counts restarts 1 refl))

  each_suspends : (s : Bool) → Holds P (suspends s)
  each_suspends = walk_suspends P E.stores E.suspends

  each_leaves : (stack rs : Bool) → Holds P (leaves stack rs)
  each_leaves = walk_leaves P forgotten (each_enters Vbus) E.runs

module _ (P : World → Type 0) (L : Each P) where
  ran_by : Ran P
  ran_by = record { stores = L.early.stores; marks = L.marks; loses = L.loses }

  requested : Requested P
  requested =
      record {
        controls = L.early.controls;
        replies = L.replies;
        pushes = L.pushes;
        queues = L.queues;
        devices = L.devices;
        configs = L.configs;
      }

  streamed_other : (c : Counter) → is_streamed c ≡ true → is_other c ≡ true
  streamed_other c e = (and_true (is_other c) _ e).0

  carried : Carried P
  carried =
      record {
        sleeps = L.early.counts midi_asleep 1 refl;
        reads = L.early.counts midi_dtds 1 refl;
        counts = λ c n e. L.early.counts c n (streamed_other c e);
        midis = L.midis;
        serials = L.serials;
        receives = L.receives;
        cables = L.cables;
      }

  sounded : Sounded P
  sounded =
      record {
        counts = λ c n e. L.early.counts c n (streamed_other c e);
        credits = L.early.credits;
        frames = L.frames;
        waits = L.waits;
        passes = L.passes;
        numbers = L.numbers;
        takes = L.takes;
      }

  each_configured : Holds P configured
  each_configured = walk_configured P (L.early.enters Stream) (L.early.counts enumerations 1 refl)

-- ---- all of it: Q up to control, P from there on

module _ (Q P : World → Type 0) (E : Early Q) (L : Each P) (weakens : (w : World) → Q w → P w) (pops : (w : World) → Q w → P (apply popped w)) where
  from_posts : (w : World) → Q w → P (left posts w)
  unfolding posts here
  from_posts w h = walk_posted P (ran_by P L) (requested P L) _ _ _ w (pops w h)

  pub from_controls : (stack : Bool) (w : World) → Q w → P (left (controls stack) w)
  unfolding controls
  from_controls stack w h =
      at_if P _ (if stalled unstalls (stages stack)) _ w
      (λ e. on_if P stalled unstalls (stages stack) (walk_unstalls P (ran_by P L) (requested P L)) (walk_stages P (ran_by P L) (requested P L) stack (λ s. L.chooses)) w (weakens w h))
      (λ e. at_if P _ configured posts w (λ z. each_configured P L w (weakens w h)) (λ z. from_posts w h))

  from_enumerates : (c : Settings) (w : World) → Q w → P (left (enumerates c) w)
  unfolding enumerates
  from_enumerates c w h = holds_seq P starts_frame _ w (from_controls c.device_stack _ (walk_frame Q E.stores w h))

  from_talks : (c : Settings) (t : ℕ) (rs : Bool) (w : World) → Q w → P (left (talks c t rs) w)
  unfolding talks
  from_talks c t rs w h =
      at_if P _ (enumerates c then transfers c t) nothing w
      (λ e. then_holds P (enumerates c) (transfers c t) w (from_enumerates c w h) (walk_transfers P (ran_by P L) (carried P L) (sounded P L) c t))
      (λ e. holds_nothing P w (weakens w h))

  from_phase : (c : Settings) (t : ℕ) (rs : Bool) (p : Phase) (w : World) → Q w → P (left (at_phase c t rs p) w)
  from_phase c t rs Idle w h = walk_idles P L.early.stores (each_enters P L.early) w (weakens w h)
  from_phase c t rs Vbus w h = walk_powers P L.early.stores (each_enters P L.early) rs w (weakens w h)
  from_phase c t rs Reset w h = walk_resets P L.early.stores (each_enters P L.early) L.queues w (weakens w h)
  from_phase c t rs Enumerate w h = from_talks c t rs w h
  from_phase c t rs Stream w h = from_talks c t rs w h

  from_by : (c : Settings) (t : ℕ) (rs : Bool) (w : World) → Q w → P (left (by_phase c t rs) w)
  unfolding by_phase here
  from_by c t rs w h = from_phase c t rs w.state.phase w h

-- the counts and the timers, which may make another property of the one before
pub record Opening (B M Q : World → Type 0) : Type 0 where
  pub counts : (w : World) → B w → M (left counts w)
  pub ticks : (w : World) → M w → Q (left ticks w)
  pub rests : (w : World) → M w → Q w

-- a property that these changes keep too
module _ (P : World → Type 0) (E : Early P)
    (counted : (n : ℕ) (w : World) → P w → P (apply (count microframes n) w))
    (numbered : (n : ℕ) (w : World) → P w → P (apply (uf n) w))
    (ticked : (ts : Timers) (w : World) → P w → P (apply (timers ts) w)) where
  pub opening : Opening P P P
  opening = record { counts = walk_counts P (counted 1) numbered; ticks = walk_ticks P E.stores ticked; rests = λ w h. h }

module _ (B M Q P : World → Type 0) (O : Opening B M Q) (E : Early Q) (L : Each P) (weakens : (w : World) → Q w → P w) (pops : (w : World) → Q w → P (apply popped w)) where
  after_opens : (c : Settings) (g : Bool) (w : World) → B w → Q (left (opens c g) w)
  unfolding opens
  after_opens c g w h =
      holds_seq Q counts _ w
      (holds_seq Q (when (λ v. c.midi_in) ticks) (cable g) (left counts w)
      (each_cable Q E g _
      (at_if Q (λ v. c.midi_in) ticks nothing (left counts w)
      (λ e. O.ticks _ (O.counts w h))
      (λ e. holds_nothing Q _ (O.rests _ (O.counts w h))))))

  after_frame : (c : Settings) (t : ℕ) (rs g s : Bool) (w : World) → B w → P (left (frame_of c t rs g s) w)
  unfolding frame_of
  after_frame c t rs true s w h = weakens _ (then_holds Q (opens c true) sleeps w (after_opens c true w h) (each_sleeps Q E))
  after_frame c t rs false true w h =
      weakens _ (then_holds Q (opens c false) _ w (after_opens c false w h) (holds_then Q _ _ (each_suspends Q E true) (each_sleeps Q E)))
  after_frame c t rs false false w h =
      holds_seq P (opens c false) _ w
      (holds_seq P (suspends false) _ _
      (holds_seq P (leaves c.device_stack rs) (by_phase c t rs) _
      (from_by Q P E L weakens pops c t rs _
      (each_leaves Q E c.device_stack rs _ (each_suspends Q E false _ (after_opens c false w h))))))

  pub every_microframe : (t : ℕ) (w : World) → B w → P (left (microframe t) w)
  unfolding microframe here
  every_microframe t w h = after_frame w.settings t (rs_set w) (gone_at t w) (asleep_at t w) w h

  -- on the way to the output step, whether it is reached or not
  pub every_output : (w : World) → B w → P (at_output w)
  unfolding stream_by phase_by to_phase
  every_output w h =
      let c = w.settings in
      walk_hears P (ran_by P L) (sounded P L) _
      (from_enumerates Q P E L weakens pops c _
      (holds_seq Q (opens c false) _ w
      (holds_seq Q (suspends false) (leaves c.device_stack (rs_set w)) _
      (each_leaves Q E c.device_stack (rs_set w) _ (each_suspends Q E false _ (after_opens c false w h))))))

-- a property that the counts, the timers and a setup's leaving keep too
pub record Whole (P : World → Type 0) : Type 0 where
  pub each : Each P
  pub pops : (w : World) → P w → P (apply popped w)
  pub counted : (n : ℕ) (w : World) → P w → P (apply (count microframes n) w)
  pub numbered : (n : ℕ) (w : World) → P w → P (apply (uf n) w)
  pub ticked : (ts : Timers) (w : World) → P w → P (apply (timers ts) w)

pub whole_microframe : (P : World → Type 0) → Whole P → (t : ℕ) → Holds P (microframe t)
whole_microframe P W t w h =
    every_microframe P P P P (opening P W.each.early W.counted W.numbered W.ticked) W.each.early W.each (λ v p. p) W.pops t w h

pub whole_output : (P : World → Type 0) → Whole P → (w : World) → P w → P (at_output w)
whole_output P W w h =
    every_output P P P P (opening P W.each.early W.counted W.numbered W.ticked) W.each.early W.each (λ v p. p) W.pops w h
