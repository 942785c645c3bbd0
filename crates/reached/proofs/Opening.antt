-- A microframe up to the choice by phase, of a host that neither goes nor sleeps.
use Prim.Native.Nat.{ℕ, ◌+◌, ◌<◌}
use mathlib.Core.Path.{◌≡◌, refl, ap, ap₂, sym, subst, ◌∙◌}
use mathlib.Core.Bool.{Bool, true, false}
use mathlib.Core.List.{List, map}
use native.Mathlib.Omega.{arith}
use Rattle.bits.specs.Pick.{pick}
use Rattle.bus.specs.Memory.{Memory}
use Rattle.bus.specs.Steps.{replay, and_then, exec_then}
use Rattle.usbdev.specs.Registers.{PageStore, on_bus}
use Rattle.gptimers.specs.Timer.{STEP, ticking_both, ticked_both}
use Rattle.record.specs.declared.Settings.{Settings}
use Rattle.record.specs.Record.{raised, wrapped}
use Rattle.record.specs.World.{World}
use Rattle.record.specs.Change.{apply, left, nothing, when, one, here, on_page}
use Rattle.record.specs.Change as Ch
use Rattle.model.specs.Phases.{registers_of, counts, ticks, cable, resuming, suspends, leaves}
use Rattle.record.specs.declared.Phase.{Phase}
use Rattle.bounds.specs.Bounds.{MOST}
use Rattle.model.specs.Microframe.{rs_set, gone_at, asleep_at, opens, by_phase, at_phase, microframe}
use Rattle.model.proofs.Fields.{fields_then, keeps_nothing, keeps_if, keeps_page}
use Rattle.model.proofs.Reading.{silent_keeps, silent_ticks, silent_suspends}
use Rattle.model.proofs.Progress.{when_true, when_false, frame_plain}
use Rattle.model.proofs.Budget.{budgets, budget_reading}
use Rattle.model.specs.Reach.{to_phase, phase_by}
use Rattle.reached.proofs.Standing.{Stand, Held, held_of, held}
use Rattle.reached.proofs.Keeping.{keeps_ticks}
use Rattle.reached.proofs.Page.{resumed_memory, resumed_memory_lem, Stopped, ticking_nothing}

-- ---- the microframe up to the choice by phase

-- with MIDI input the timers tick
abbrev pub ticked : Settings → World → World
ticked c w = left (when (λ v. c.midi_in) ticks) (left counts w)

pub ticked_held : (c : Settings) (w : World) → held_of (ticked c w) ≡ held_of (left counts w)
ticked_held c w = keeps_if held (λ v. c.midi_in) ticks nothing keeps_ticks (keeps_nothing held) (left counts w)

same_gone : (w : World) → (left counts w).state.port.gone ≡ w.state.port.gone
unfolding counts and_then one apply raised
same_gone w = refl

pub opens_ticked : (c : Settings) (w : World) → w.state.port.gone ≡ false → left (opens c false) w ≡ ticked c w
unfolding opens cable
opens_ticked c w f =
    exec_then apply counts _ w
    ∙ exec_then apply (when (λ v. c.midi_in) ticks) _ (left counts w)
    ∙ when_false (λ v. v.state.port.gone) _ (ticked c w) (ap (λ (k : Held). k.stand.gone) (ticked_held c w) ∙ same_gone w ∙ f)

pub phase_ticked : (rs : Bool) (w : World) → w.state.port.gone ≡ false
    → phase_by rs w ≡ left (leaves w.settings.device_stack rs) (left (suspends false) (ticked w.settings w))
unfolding phase_by to_phase
phase_ticked rs w f =
    let c = w.settings in
    exec_then apply (opens c false) _ w
    ∙ exec_then apply (suspends false) (leaves c.device_stack rs) (left (opens c false) w)
    ∙ ap (λ (v : World). left (leaves c.device_stack rs) (left (suspends false) v)) (opens_ticked c w f)

same_suspended : (c : Settings) (w : World) → (ticked c w).state.port.suspended ≡ w.state.port.suspended
unfolding counts and_then one apply raised
same_suspended c w = ap (λ (k : Held). k.stand.suspended) (ticked_held c w)

-- without MIDI input, and not suspended before
pub phase_plain : (rs : Bool) (w : World) → w.settings.midi_in ≡ false → w.state.port.gone ≡ false → w.state.port.suspended ≡ false
    → phase_by rs w ≡ left (leaves w.settings.device_stack rs) (left counts w)
unfolding suspends
phase_plain rs w e f g =
    let c = w.settings in
    phase_ticked rs w f
    ∙ ap (left (leaves c.device_stack rs)) (when_false (λ v. v.state.port.suspended) _ (ticked c w) (same_suspended c w ∙ g))
    ∙ ap (left (leaves c.device_stack rs)) (when_false (λ v. c.midi_in) ticks (left counts w) e)

-- a host that was suspended is so no longer
abbrev pub waking : Held → Held
waking k =
    record {
      stand = record { phase = k.stand.phase; on = k.stand.on; waiting = k.stand.waiting; uf = k.stand.uf; t = k.stand.t; gone = k.stand.gone; suspended = false; was_running = k.stand.was_running };
      queue = k.queue;
    }

held_resumes : (v : World) → held_of (left (one (λ w. Ch.suspended false)) v) ≡ waking (held_of v)
unfolding one apply
held_resumes v = refl

held_wakes : (v : World) → held_of (left (suspends false) v) ≡ waking (held_of v)
unfolding suspends
held_wakes v = by_mark v.state.port.suspended refl
  where
    marked : Bool → Held
    marked b =
        record {
          stand = record { phase = v.state.phase; on = v.state.control.on; waiting = v.state.lengths.setups; uf = v.state.port.uf; t = v.state.port.t; gone = v.state.port.gone; suspended = b; was_running = v.state.port.was_running };
          queue = v.own.setups;
        }

    by_mark : (b : Bool) → v.state.port.suspended ≡ b → held_of (left (suspends false) v) ≡ waking (held_of v)
    by_mark true e =
        ap held_of (when_true (λ w. w.state.port.suspended) resuming v e)
        ∙ fields_then held (one (λ w. Ch.suspended false)) _ v ∙ keeps_page held _ _ ∙ held_resumes v
    by_mark false e = ap held_of (when_false (λ w. w.state.port.suspended) resuming v e) ∙ ap marked e

-- the memory at the choice by phase: a resume changes the page
abbrev pub opened_memory : World → Memory
opened_memory w = pick w.state.port.suspended (resumed_memory w.lent.memory) w.lent.memory

wakes_memory : (v : World) → (left (suspends false) v).lent.memory ≡ opened_memory v
unfolding suspends
wakes_memory v = by_mark v.state.port.suspended refl
  where
    by_mark : (b : Bool) → v.state.port.suspended ≡ b → (left (suspends false) v).lent.memory ≡ opened_memory v
    by_mark true e =
        ap (λ (x : World). x.lent.memory) (when_true (λ w. w.state.port.suspended) resuming v e)
        ∙ resumed_memory_lem v ∙ ap (λ (b : Bool). pick b (resumed_memory v.lent.memory) v.lent.memory) (sym e)
    by_mark false e =
        ap (λ (x : World). x.lent.memory) (when_false (λ w. w.state.port.suspended) resuming v e)
        ∙ ap (λ (b : Bool). pick b (resumed_memory v.lent.memory) v.lent.memory) (sym e)

-- one microframe more, not suspended, and RS seen by a device stack
abbrev pub opened : Bool → Stand → Stand
opened stack k =
    record { phase = k.phase; on = k.on; waiting = k.waiting; uf = k.uf + 1; t = k.t; gone = k.gone; suspended = false; was_running = pick stack true k.was_running }

abbrev pub opened_held : Bool → Held → Held
opened_held stack k = record { stand = opened stack k.stand; queue = k.queue }

-- a microframe at the time t in which the host neither goes, nor is back, nor is suspended, RS is set and no timer runs; no serial device
pub record Plain (t : ℕ) (w : World) : Type 0 where
  pub timers : Stopped w.lent.memory.page
  pub audio : w.settings.cdc ≡ false
  pub there : gone_at t w ≡ false
  pub awake : asleep_at t w ≡ false
  pub rs : rs_set w ≡ true
  pub still : w.state.port.gone ≡ false
  pub few : w.state.port.uf < MOST

abbrev pub counting : ℕ → Held → Held
counting n k =
    record {
      stand = record { phase = k.stand.phase; on = k.stand.on; waiting = k.stand.waiting; uf = n; t = k.stand.t; gone = k.stand.gone; suspended = k.stand.suspended; was_running = k.stand.was_running };
      queue = k.queue;
    }

pub held_counts : (w : World) → held_of (left counts w) ≡ counting (wrapped (w.state.port.uf + 1)) (held_of w)
unfolding counts and_then one apply raised
held_counts w = refl

abbrev pub seeing : Bool → Held → Held
seeing b k =
    record {
      stand = record { phase = k.stand.phase; on = k.stand.on; waiting = k.stand.waiting; uf = k.stand.uf; t = k.stand.t; gone = k.stand.gone; suspended = k.stand.suspended; was_running = b };
      queue = k.queue;
    }

pub held_leaves : (stack : Bool) (v : World) → held_of (left (leaves stack true) v) ≡ seeing (pick stack true v.state.port.was_running) (held_of v)
unfolding leaves one apply
held_leaves true v = refl
held_leaves false v = keeps_nothing held v

module _ (t : ℕ) (w : World) (p : Plain t w) where
  pub opened_held_lem : held_of (phase_by true w) ≡ opened_held w.settings.device_stack (held_of w)
  opened_held_lem =
      let few = p.few in
      let more : wrapped (w.state.port.uf + 1) ≡ w.state.port.uf + 1 = omega arith in
      ap held_of (phase_ticked true w p.still)
      ∙ held_leaves w.settings.device_stack (left (suspends false) (ticked w.settings w))
      ∙ ap (λ (k : Held). seeing (pick w.settings.device_stack true k.stand.was_running) k) (held_wakes (ticked w.settings w) ∙ ap waking (ticked_held w.settings w ∙ held_counts w))
      ∙ ap (λ (n : ℕ). opened_at n) more
    where
      opened_at : ℕ → Held
      opened_at n = seeing (pick w.settings.device_stack true w.state.port.was_running) (waking (counting n (held_of w)))

  pub frame_in_lem : (q : Phase) → w.state.phase ≡ q → left (microframe t) w ≡ left (at_phase w.settings t true q) (phase_by true w)
  unfolding by_phase here
  frame_in_lem q e =
      frame_plain t w p.there p.awake
      ∙ ap (λ (b : Bool). left (by_phase w.settings t b) (phase_by b w)) p.rs
      ∙ ap (λ (x : Phase). left (at_phase w.settings t true x) (phase_by true w)) (ap (λ (k : Held). k.stand.phase) opened_held_lem ∙ e)

-- memory and budget are as they were
same_leaves : (stack : Bool) (v : World) → (left (leaves stack true) v).lent.memory ≡ v.lent.memory
unfolding leaves one apply nothing
same_leaves true v = refl
same_leaves false v = refl

same_counts : (w : World) → (left counts w).lent.memory ≡ w.lent.memory
unfolding counts and_then one apply raised
same_counts w = refl

-- timers that stand still store nothing
ticks_memory : (v : World) → Stopped v.lent.memory.page → (left ticks v).lent.memory ≡ v.lent.memory
unfolding ticks here one apply on_page
ticks_memory v s =
    let ts = v.state.timers in
    let first = one (λ w. Ch.timers (ticked_both STEP ts (registers_of v))) in
    ap (λ (u : World). u.lent.memory) (exec_then apply first (on_page (ticking_both STEP ts)) v)
    ∙ ap (λ (ss : List PageStore). (replay apply (map Ch.bus (map on_bus ss)) (left first v)).lent.memory) (ticking_nothing STEP ts (registers_of v) s)

ticked_memory : (c : Settings) (w : World) → Stopped w.lent.memory.page → (ticked c w).lent.memory ≡ w.lent.memory
ticked_memory c w s = by_input c.midi_in refl
  where
    by_input : (b : Bool) → c.midi_in ≡ b → (ticked c w).lent.memory ≡ w.lent.memory
    by_input true e =
        ap (λ (v : World). v.lent.memory) (when_true (λ v. c.midi_in) ticks (left counts w) e)
        ∙ ticks_memory (left counts w) (subst (λ (m : Memory). Stopped m.page) (sym (same_counts w)) s) ∙ same_counts w
    by_input false e = ap (λ (v : World). v.lent.memory) (when_false (λ v. c.midi_in) ticks (left counts w) e) ∙ same_counts w

pub opened_memory_lem : (t : ℕ) (w : World) → Plain t w → (phase_by true w).lent.memory ≡ opened_memory w
opened_memory_lem t w p =
    ap (λ (v : World). v.lent.memory) (phase_ticked true w p.still)
    ∙ same_leaves w.settings.device_stack (left (suspends false) (ticked w.settings w))
    ∙ wakes_memory (ticked w.settings w)
    ∙ ap₂ (λ (b : Bool) (m : Memory). pick b (resumed_memory m) m) (same_suspended w.settings w) (ticked_memory w.settings w p.timers)

-- where it was not suspended before
pub awake_memory : (t : ℕ) (w : World) → Plain t w → w.state.port.suspended ≡ false → (phase_by true w).lent.memory ≡ w.lent.memory
awake_memory t w p e = opened_memory_lem t w p ∙ ap (λ (b : Bool). pick b (resumed_memory w.lent.memory) w.lent.memory) e

budget_leaves : (stack : Bool) (v : World) → (left (leaves stack true) v).state.audio.budget ≡ v.state.audio.budget
unfolding leaves one apply nothing
budget_leaves true v = refl
budget_leaves false v = refl

budget_counts : (w : World) → (left counts w).state.audio.budget ≡ w.state.audio.budget
unfolding counts and_then one apply raised
budget_counts w = refl

pub opened_budget : (t : ℕ) (w : World) → Plain t w → (phase_by true w).state.audio.budget ≡ w.state.audio.budget
opened_budget t w p =
    ap (λ (v : World). v.state.audio.budget) (phase_ticked true w p.still)
    ∙ budget_leaves w.settings.device_stack (left (suspends false) (ticked w.settings w))
    ∙ silent_keeps budgets (suspends false) (silent_suspends budget_reading false) (ticked w.settings w)
    ∙ keeps_if budgets (λ v. w.settings.midi_in) ticks nothing (silent_keeps budgets ticks (silent_ticks budget_reading)) (keeps_nothing budgets) (left counts w)
    ∙ budget_counts w
