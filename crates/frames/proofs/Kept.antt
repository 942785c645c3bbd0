-- What the steps on the way to control keep of what the later steps ask.
use Prim.Native.Nat.{ℕ, ◌≤◌}
use mathlib.Core.Path.{◌≡◌, refl, sym, subst}
use mathlib.Core.Bool.{Bool, true, false}
use mathlib.Core.List.{List}
use native.Mathlib.Omega.{arith}
use lib.ListN.{length}
use Rattle.bus.specs.Stores.{Store}
use Rattle.gptimers.specs.declared.Timers.{Timers}
use Rattle.record.specs.declared.Phase.{Phase}
use Rattle.record.specs.declared.Phase.TheVariants.{Idle, Vbus, Reset}
use Rattle.record.specs.declared.Audio.{Audio}
use Rattle.record.specs.declared.Control.{Control}
use Rattle.record.specs.declared.Settings.{Settings}
use Rattle.record.specs.declared.State.{State}
use Rattle.record.specs.Record.{with_on, with_credit, with_budget, Counter, microframes, restarts}
use Rattle.record.specs.World.{World, with_state, at_page}
use Rattle.record.specs.Change.{bus, count, uf, phase, started, gone, suspended, was_running, credit, budget, timers, control, cleared, forgot, apply, Step}
use Rattle.record.specs.Did.{Alone, Paged}
use Rattle.model.specs.Phases.{counts, ticks, cable, suspends, leaves, starts_frame}
use Rattle.model.specs.Microframe.{opens}
use Rattle.model.proofs.Holding.{Holds}
use Rattle.model.proofs.Walk.{Forgotten, walk_counts, walk_ticks, walk_cable, walk_returns, walk_opens, walk_suspends, walk_leaves, walk_enters, walk_frame}
use Rattle.framing.proofs.Steps.{some}
use Rattle.framing.specs.Promises.{Rings}
use Rattle.frames.specs.Promises.{Asks, Going}

-- by fields, so that a change of another field is seen to leave it
abbrev On : World → Type 0
On w =
    Asks w.state.phase w.state.control w.state.lengths.setups
    × ((w.state.lengths.midi ≤ 4096)
    × ((w.state.lengths.serial ≤ 4096) × (Rings w.state.audio (length w.lent.sending) × (w.state.answer.received ≡ 0))))

to_on : (w : World) → Going w.state (length w.lent.sending) → On w
to_on w g = (g.asks, (g.flows.midi, (g.flows.serial, (g.flows.rings, g.flows.none))))

from_on : (w : World) → On w → Going w.state (length w.lent.sending)
from_on w h = record { asks = h.0; flows = record { midi = h.1.0; serial = h.1.1.0; rings = h.1.1.1.0; none = h.1.1.1.1 } }

-- ---- single changes

no_request : {A : Type 0} → false ≡ true → A
no_request e = let z : ◌≡◌ {A = ℕ} 0 1 = cc in absurd (omega arith)

idle_other : {A : Type 0} → Idle ≡ Reset → A
idle_other e = let z : ◌≡◌ {A = ℕ} 0 1 = cc in absurd (omega arith)

vbus_other : {A : Type 0} → Vbus ≡ Reset → A
vbus_other e = let z : ◌≡◌ {A = ℕ} 0 1 = cc in absurd (omega arith)

asks_idle : (p : Phase) (c : Control) (n : ℕ) → Asks p c n → Asks Idle c n
asks_idle p c n h = record { few = h.few; room = idle_other; alone = h.alone; short = h.short; inside = h.inside }

asks_vbus : (p : Phase) (c : Control) (n : ℕ) → Asks p c n → Asks Vbus c n
asks_vbus p c n h = record { few = h.few; room = vbus_other; alone = h.alone; short = h.short; inside = h.inside }

asks_off : (p : Phase) (c : Control) (n : ℕ) → Asks p c n → Asks p (with_on c false) n
asks_off p c n h = record { few = h.few; room = h.room; alone = λ e. no_request e; short = λ e. no_request e; inside = λ e. no_request e }

asks_none : (p : Phase) (c : Control) (n : ℕ) → Asks p c n → Asks p c 0
asks_none p c n h = record { few = omega arith; room = λ e. refl; alone = λ e f. refl; short = h.short; inside = h.inside }

rings_credit : (a : Audio) (n x : ℕ) → Rings a n → Rings (with_credit a x) n
rings_credit a n x h = record { received = h.received; sending = h.sending; block = h.block; channels = h.channels }

rings_budget : (a : Audio) (n x : ℕ) → Rings a n → Rings (with_budget a x) n
rings_budget a n x h = record { received = h.received; sending = h.sending; block = h.block; channels = h.channels }

module _ (w : World) (h : On w) where
  on_store : (s : Store) → On (apply (bus s) w)
  unfolding apply
  on_store s = h

  on_count : (c : Counter) (n : ℕ) → On (apply (count c n) w)
  unfolding apply
  on_count c n = h

  on_uf : (n : ℕ) → On (apply (uf n) w)
  unfolding apply
  on_uf n = h

  on_timers : (ts : Timers) → On (apply (timers ts) w)
  unfolding apply
  on_timers ts = h

  on_idle : On (apply (phase Idle) w)
  unfolding apply
  on_idle = (asks_idle _ _ _ h.0, h.1)

  on_vbus : On (apply (phase Vbus) w)
  unfolding apply
  on_vbus = (asks_vbus _ _ _ h.0, h.1)

  on_start : (n : ℕ) → On (apply (started n) w)
  unfolding apply
  on_start n = h

  on_gone : (b : Bool) → On (apply (gone b) w)
  unfolding apply
  on_gone b = h

  on_suspended : (b : Bool) → On (apply (suspended b) w)
  unfolding apply
  on_suspended b = h

  on_running : (b : Bool) → On (apply (was_running b) w)
  unfolding apply
  on_running b = h

  on_credit : (n : ℕ) → On (apply (credit n) w)
  unfolding apply
  on_credit n = (h.0, (h.1.0, (h.1.1.0, (rings_credit _ _ n h.1.1.1.0, h.1.1.1.1))))

  on_budget : (n : ℕ) → On (apply (budget n) w)
  unfolding apply
  on_budget n = (h.0, (h.1.0, (h.1.1.0, (rings_budget _ _ n h.1.1.1.0, h.1.1.1.1))))

  on_off : On (apply (control (with_on w.state.control false)) w)
  unfolding apply
  on_off = (asks_off _ _ _ h.0, h.1)

  on_cleared : On (apply cleared w)
  unfolding apply
  on_cleared = (asks_none _ _ _ h.0, h.1)

  on_forgot : On (apply forgot w)
  unfolding apply
  on_forgot = h

-- ---- steps

stored : (s : Store) (w : World) → On w → On (apply (bus s) w)
stored s w h = on_store w h s

forgotten : Forgotten On
forgotten =
    record {
      clears = λ w h. on_cleared w h;
      drops = λ w h. on_off w h;
      credits = λ w h. on_credit w h 0;
      budgets = λ w h. on_budget w h 0;
      forgets = λ w h. on_forgot w h;
    }

on_counts_lem : Holds On counts
on_counts_lem = walk_counts On (λ w h. on_count w h microframes 1) (λ n w h. on_uf w h n)

on_ticks : Holds On ticks
on_ticks = walk_ticks On stored (λ ts w h. on_timers w h ts)

on_cable : (g : Bool) → Holds On (cable g)
on_cable = walk_cable On stored (λ b w h. on_gone w h b) (walk_returns On forgotten (λ w h. on_idle w h) (λ w h. on_count w h restarts 1))

on_opens : (c : Settings) (g : Bool) → Holds On (opens c g)
on_opens = walk_opens On on_counts_lem on_ticks on_cable

on_suspends : (s : Bool) → Holds On (suspends s)
on_suspends = walk_suspends On stored (λ b w h. on_suspended w h b)

on_leaves : (stack rs : Bool) → Holds On (leaves stack rs)
on_leaves = walk_leaves On forgotten (walk_enters On Vbus (λ w h. on_vbus w h) (λ w h. on_start w h _)) (λ b w h. on_running w h b)

on_frame : Holds On starts_frame
on_frame = walk_frame On stored

-- ---- from what a function promises to what the next one asks

module _ (c : Settings) (k : List ℕ) (s s' : State) where
  going_alone : (f : Step) → Holds On f → Alone f s s' → Going s (length k) → Going s' (length k)
  going_alone f h d g =
      let w = some c s k in
      from_on (with_state w s') (subst On (sym (d.leads w).is) (h (with_state w s) (to_on (with_state w s) g)))

  module _ (p p' : List ℕ) where
    going_paged : (f : Step) → Holds On f → Paged f s p s' p' → Going s (length k) → Going s' (length k)
    going_paged f h d g =
        let w = some c s k in
        from_on (at_page w s' p') (subst On (sym (d.leads w).is) (h (at_page w s p) (to_on (at_page w s p) g)))

    pub going_opens : (g : Bool) → Paged (opens c g) s p s' p' → Going s (length k) → Going s' (length k)
    going_opens g d = going_paged (opens c g) (on_opens c g) d

    pub going_suspends : (b : Bool) → Paged (suspends b) s p s' p' → Going s (length k) → Going s' (length k)
    going_suspends b d = going_paged (suspends b) (on_suspends b) d

    pub going_frame : Paged starts_frame s p s' p' → Going s (length k) → Going s' (length k)
    going_frame d = going_paged starts_frame on_frame d

  pub going_leaves : (stack rs : Bool) → Alone (leaves stack rs) s s' → Going s (length k) → Going s' (length k)
  going_leaves stack rs d = going_alone (leaves stack rs) (on_leaves stack rs) d
