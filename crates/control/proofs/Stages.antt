-- How the promises of a request's stages compose.
use Rattle.std.proofs.Common.{◌≡◌, ℕ, ◌+◌, ◌-◌, ◌≤◌, Bool, true, false, not, ◌&&◌, ◌||◌, eqb, leb, List, [], length, take, sym, refl, ap, ◌∙◌, subst, arith, length-take}
use Rattle.bits.specs.Pick.{pick}
use Rattle.bus.specs.Memory.{Memory}
use Rattle.bus.specs.Steps.{choose}
use Rattle.bus.specs.Stores as S
use Rattle.dtd.specs.Dtd.{Endpoint, endpoint, run_dtds}
use Rattle.dtd.specs.Promises.{Runs}
use Rattle.dtd.specs.declared.Ran.{Ran}
use Rattle.runs.specs.Turns.{RunsIn, kept, kept_end}
use Rattle.runs.specs.declared.Filled.{Filled}
use Rattle.record.specs.declared.Stage.TheVariants.{Status}
use Rattle.record.specs.declared.State.{State}
use Rattle.record.specs.Record.{with_stage, with_got, with_control}
use Rattle.record.specs.World.{World, at_bus}
use Rattle.record.specs.Change.{apply, control, reply, nothing, when, runs}
use Rattle.record.specs.Did.{Leads, after_run}
use Rattle.record.proofs.Laws.{in_turn, by_true, by_false, unchanged, once, from_here, run_then}
use Rattle.model.specs.Control.{w_length, to_host, to_status, keeps_reply, data_in, data_out, status_out, status_ends, status_stage}
use Rattle.finished.specs.Promises.{Ready}
use Rattle.control.specs.Promises.{at_reply, Stages, Acknowledges}

-- ---- the data stage

abbrev pub statused : State → State
statused s = with_control s (with_stage s.control Status)

-- a request is at its status stage next, where a test says so
to_status_if : (t : World → Bool) (b : Bool) (w : World) (s : State) (m : Memory) (p : List ℕ) → t (at_reply w s m p) ≡ b
    → Leads (when t to_status) (at_reply w s m p) (at_reply w (pick b (statused s) s) m p)
unfolding to_status apply
to_status_if t true w s m p h =
    by_true t to_status nothing h (once (λ v. control (with_stage v.state.control Status)) (at_reply w s m p) (at_reply w (statused s) m p) refl)
to_status_if t false w s m p h = by_false t to_status nothing h (unchanged (at_reply w s m p))

-- a request in another stage, or with more of its reply, is as ready
ready_if : (b : Bool) {s : State} → Ready s → Ready (pick b (statused s) s)
ready_if true r = record { alone = r.alone; short = r.short; inside = r.inside }
ready_if false r = r

ready_ran : {s : State} → Ready s → (n : Ran) → Ready (after_run s n)
ready_ran r n = record { alone = r.alone; short = r.short; inside = r.inside }

-- from the device
module _ (s : State) (m m' : Memory) (p p' : List ℕ) (filled : Filled) (limit : ℕ) (asked : limit ≡ w_length s.control) (ready : Ready s)
    (ran : RunsIn (endpoint 0 true) limit (S.bus m s.port.line) (S.bus m' filled.ran.line) p p' s.control.got filled) where
  abbrev gotten : State → State
  gotten x = with_control x (with_got x.control filled.at)

  abbrev part : List ℕ
  part = take (w_length s.control - s.control.got) (run_dtds (endpoint 0 true) [] (S.bus m s.port.line)).bytes

  got_is : filled.at ≡ s.control.got + length part
  unfolding kept_end
  got_is = cc (ran.end, asked)

  got_inside : filled.at ≤ w_length s.control
  got_inside =
      omega (arith, got_is, ready.inside, length-take (w_length s.control - s.control.got) (run_dtds (endpoint 0 true) [] (S.bus m s.port.line)).bytes)

  module _ (x : State) (is : x ≡ after_run s filled.ran) (b : Bool) (tested : filled.ran.done || leb limit filled.at ≡ b) where
    pub data_in_lem : {r : State} → r ≡ pick b (statused (gotten x)) (gotten x) → Stages data_in s m p r m' p'
    unfolding keeps_reply apply kept
    data_in_lem {r} e =
        let all : r ≡ pick b (statused (gotten (after_run s filled.ran))) (gotten (after_run s filled.ran)) = e ∙ ap (λ (y : State). pick b (statused (gotten y)) (gotten y)) is in
        let test : (run_dtds (endpoint 0 true) [] (S.bus m s.port.line)).done || leb (w_length s.control) filled.at ≡ b = cc (ran.runs.done, asked, tested) in
        subst (λ (y : State). Stages data_in s m p y m' p') (sym all)
        (record {
          leads = λ w.
              run_then (endpoint 0 true) [] keeps_reply (at_reply w s m p) s m m' filled.ran ran.runs
              (from_here _ (at_reply w (after_run s filled.ran) m' p)
              (in_turn (once (λ v. reply s.control.got part) (at_reply w (after_run s filled.ran) m' p) (at_reply w (after_run s filled.ran) m' p') (cc (ran.area, asked)))
              (in_turn (once (λ v. control (with_got s.control (s.control.got + length part))) (at_reply w (after_run s filled.ran) m' p') (at_reply w (gotten (after_run s filled.ran)) m' p') (cc got_is))
              (to_status_if _ b w (gotten (after_run s filled.ran)) m' p' test))));
          sized = ran.runs.does.sized;
          ready = ready_if b (record { alone = ready.alone; short = ready.short; inside = got_inside });
        })

-- towards the device
module _ (s : State) (m m' : Memory) (n : Ran) (ready : Ready s)
    (ran : Runs (endpoint 0 false) [] (S.bus m s.port.line) (S.bus m' n.line) n) (x : State) (is : x ≡ after_run s n) (b : Bool) (tested : n.done ≡ b) where
  pub data_out_lem : {r : State} → r ≡ pick b (statused x) x → (p : List ℕ) → Stages data_out s m p r m' p
  data_out_lem {r} e p =
      subst (λ (y : State). Stages data_out s m p y m' p) (sym (e ∙ ap (λ (y : State). pick b (statused y) y) is))
      (record {
        leads = λ w.
            run_then (endpoint 0 false) [] (λ r. when (λ v. r.done) to_status) (at_reply w s m p) s m m' n ran
            (to_status_if _ b w (after_run s n) m' p (sym ran.done ∙ tested));
        sized = ran.does.sized;
        ready = ready_if b (ready_ran ready n);
      })

-- ---- the status stage

module _ (s : State) (m m' : Memory) (ready : Ready s) {t : Bool} {k : ℕ} (host : t ≡ to_host s.control) (asked : k ≡ w_length s.control) (few : k ≤ 65535) (n : Ran) where
  -- the run of the direction
  by_direction : (u : Bool) → status_out s.control ≡ u → (stack : Bool) (w : World) {b : World} → Leads (runs (endpoint 0 (not u)) [] (status_ends stack)) (at_bus w s m) b
      → Leads (status_stage stack) (at_bus w s m) b
  unfolding status_stage choose
  by_direction true e stack w l = record { is = simp e l.is }
  by_direction false e stack w l = record { is = simp e l.is }

  pub status_lem : {u : Bool} → t && not (eqb k 0) ≡ u → Runs (endpoint 0 (not u)) [] (S.bus m s.port.line) (S.bus m' n.line) n → Acknowledges s m n m'
  unfolding status_ends
  status_lem {u} h ran =
      record {
        leads = λ stack w l.
            by_direction u (cc (host, asked, h)) stack w
            (run_then (endpoint 0 (not u)) [] (status_ends stack) w s m m' n ran (rw ran.done at l));
        sized = ran.does.sized;
        ready = ready_ran ready n;
        few = omega (arith, ready.inside, few, asked);
      }

-- nothing is kept of a status stage
pub none_kept : {e : Endpoint} {b b' : S.Bus} {p p' : List ℕ} {r : Filled} → RunsIn e 0 b b' p p' 0 r → p' ≡ p
unfolding kept
none_kept ran = ran.area
