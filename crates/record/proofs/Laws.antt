-- How the promises of steps compose.
use Rattle.std.proofs.Common.{◌≡◌, ℕ, Bool, true, false, List, [], ◌∷◌, map, sym, refl, ap, ◌∙◌}
use Rattle.bits.specs.Pick.{pick}
use Rattle.bus.specs.Memory.{Memory}
use Rattle.bus.specs.Steps.{replay, replay_append, exec, exec_then, exec_choose}
use Rattle.bus.specs.Stores as S
use Rattle.bus.specs.Stores.{Bus, Store, store, stored, dropped_by, BusStep}
use Rattle.usbdev.specs.Registers.{Registers, registers, PageStep, done, on_bus as page-onBus}
use Rattle.usbdev.proofs.Laws.{Inside, on_bus_lem}
use Rattle.dtd.specs.Dtd.{Endpoint, Run, run_dtds}
use Rattle.dtd.specs.Promises.{Runs, running}
use Rattle.dtd.specs.declared.Ran.{Ran}
use Rattle.record.specs.declared.State.{State}
use Rattle.record.specs.World.{World, bus_of, with_bus, at_page, at_bus, lined}
use Rattle.record.specs.Change.{Change, bus, ran, lost, apply, Step, left, ◌then◌, nothing, if, one, here, on_bus, on_page, runs, ran_stores}
use Rattle.record.specs.Did.{Leads, counting, dropping, after_run}

-- ---- steps one after the other, by a test, by a single change

pub in_turn : {f g : Step} {a b c : World} → Leads f a b → Leads g b c → Leads (f then g) a c
in_turn {f} {g} {a} p q = record { is = q.is ∙ ap (left g) p.is ∙ sym (exec_then apply f g a) }

pub by_true : (t : World → Bool) (f g : Step) {a b : World} → t a ≡ true → Leads f a b → Leads (if t f g) a b
by_true t f g {a} e p = record { is = p.is ∙ sym (exec_choose apply t f g a ∙ ap (λ (x : Bool). pick x (left f a) (left g a)) e) }

pub by_false : (t : World → Bool) (f g : Step) {a b : World} → t a ≡ false → Leads g a b → Leads (if t f g) a b
by_false t f g {a} e p = record { is = p.is ∙ sym (exec_choose apply t f g a ∙ ap (λ (x : Bool). pick x (left f a) (left g a)) e) }

pub unchanged : (a : World) → Leads nothing a a
unfolding nothing
unchanged a = record { is = refl }

pub once : (c : World → Change) (a b : World) → b ≡ apply (c a) a → Leads (one c) a b
unfolding one
once c a b e = record { is = e }

pub from_here : (f : World → Step) (a : World) {b : World} → Leads (f a) a b → Leads (here f) a b
unfolding here
from_here f a p = record { is = p.is }

-- the same World by another name
pub leads_as : {f : Step} {a b c : World} → Leads f a b → c ≡ b → Leads f a c
leads_as p e = record { is = e ∙ p.is }

pub leads_from : {f : Step} {a b c : World} → c ≡ a → Leads f a b → Leads f c b
leads_from {f} e p = record { is = p.is ∙ ap (left f) (sym e) }

-- the same step by another name
pub leads_by : {f g : Step} {a b : World} → f a ≡ g a → Leads f a b → Leads g a b
leads_by {f} {g} {a} e p = record { is = p.is ∙ ap (λ (cs : List Change). replay apply cs a) e }

-- ---- the bus in the World

pub replay_bus : (ss : List Store) (w : World) → replay apply (map bus ss) w ≡ with_bus w (stored ss (bus_of w))
unfolding apply
replay_bus [] w = refl
replay_bus (s ∷ ss) w = replay_bus ss (with_bus w (store s (bus_of w)))

-- a function that stores on the bus
pub on_memory : (f : BusStep) (w : World) (s : State) (m m' : Memory) (l' : Bool)
    → S.bus m' l' ≡ exec store f (S.bus m s.port.line)
    → Leads (on_bus f) (at_bus w s m) (at_bus w (lined s l') m')
unfolding on_bus
on_memory f w s m m' l' e =
    record {
      is = ap (λ (b : Bus). with_bus (at_bus w s m) b) e ∙ sym (replay_bus (f (S.bus m s.port.line)) (at_bus w s m));
    }

-- a function on the registers
pub on_page_lem : (f : PageStep) (w : World) (s : State) (p p' : List ℕ) (l' : Bool) → Inside (f (registers p s.port.line))
    → registers p' l' ≡ done f (registers p s.port.line)
    → Leads (on_page f) (at_page w s p) (at_page w (lined s l') p')
unfolding on_page
on_page_lem f w s p p' l' h e =
    record {
      is =
          ap (λ (r : Registers). at_page w (lined s r.line) r.page) e
          ∙ ap (λ (b : Bus). with_bus (at_page w s p) b) (sym (on_bus_lem (f (registers p s.port.line)) w.lent.memory.dynamic w.lent.memory.sram p s.port.line h))
          ∙ sym (replay_bus (map page-onBus (f (registers p s.port.line))) (at_page w s p));
    }

-- ---- runs

stored_run : (e : Endpoint) (bs : List ℕ) (w : World) (s : State) (m m' : Memory) (r : Ran)
    → Runs e bs (S.bus m s.port.line) (S.bus m' r.line) r
    → at_bus w (after_run s r) m' ≡ replay apply (ran_stores e (run_dtds e bs (S.bus m s.port.line))) (at_bus w s m)
unfolding ran_stores running apply
stored_run e bs w s m m' r p =
    let run = run_dtds e bs (S.bus m s.port.line) in
    ap (λ (n : ℕ). at_bus w (dropping (counting (lined s r.line) r.retired) n) m') p.does.counted
    ∙ ap (λ (k : ℕ). at_bus w (dropping (counting (lined s r.line) k) (dropped_by run.stores)) m') p.retired
    ∙ ap (λ (b : Bus). with_bus (at_bus w (dropping (counting s run.retired) (dropped_by run.stores)) m) b) p.does.is
    ∙ ap (λ (v : World). apply (lost (dropped_by run.stores)) (apply (ran e run.retired run.moved) v)) (sym (replay_bus run.stores (at_bus w s m)))
    ∙ sym (replay_append apply (map bus run.stores) (ran e run.retired run.moved ∷ lost (dropped_by run.stores) ∷ []) (at_bus w s m))

-- a run, and a step that goes on from what it left
pub run_then : (e : Endpoint) (bs : List ℕ) (k : Run → Step) (w : World) (s : State) (m m' : Memory) (r : Ran) {c : World}
    → Runs e bs (S.bus m s.port.line) (S.bus m' r.line) r
    → Leads (k (run_dtds e bs (S.bus m s.port.line))) (at_bus w (after_run s r) m') c
    → Leads (runs e bs k) (at_bus w s m) c
unfolding runs
run_then e bs k w s m m' r p q =
    let run = run_dtds e bs (S.bus m s.port.line) in
    record {
      is =
          q.is
          ∙ ap (left (k run)) (stored_run e bs w s m m' r p)
          ∙ sym (exec_then apply (λ v. ran_stores e run) (k run) (at_bus w s m));
    }
