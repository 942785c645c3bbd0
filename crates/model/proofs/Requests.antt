-- A host that enumerates, under every setting: a setup that waits is posted, a request runs until its status run flags a completion, and with
-- neither the stream begins (document 01, "Control record"; usbhost.rs 489-511, 623-701).
use Prim.Native.Nat.{ℕ, zero, suc, ◌+◌, ◌-◌, ◌*◌, ◌/◌, ◌%◌, ◌^◌, ◌≤◌, ◌<◌}
use mathlib.Core.Path.{◌≡◌, refl, sym, ap, ap₂, subst, ◌∙◌}
use mathlib.Core.Bool.{Bool, true, false, not, ◌&&◌}
use mathlib.Core.List.{List, []}
use mathlib.Core.Logic.{◌⊎◌, inl, inr}
use native.Mathlib.Omega.{arith}
use lib.Dec.{eqb, ltb}
use lib.ListN.{length, get_or, take, drop, length-drop, get_or-append}
use lib.Seq.{get_or-take, get_or-drop, length-take-le}
use borrow.Author.Tests.{lt-ltb, le-ltb, ne_eqb}
use Rattle.bits.specs.Pick.{pick}
use Rattle.bits.specs.Word as W
use Rattle.bits.specs.Word.{any}
use Rattle.bits.proofs.Bit.{bit, any_bit, any_set}
use Rattle.bits.proofs.Tests.{false_true}
use Rattle.bus.specs.Memory.{after, dropped32}
use Rattle.bus.specs.Words.{word_at, word_put}
use Rattle.bus.specs.Steps.{replay, and_then, choose, exec_then, exec_choose}
use Rattle.bus.specs.Stores as S
use Rattle.bus.specs.Stores.{putting}
use Rattle.bus.proofs.Storing.{kept_stored}
use Rattle.bus.proofs.Registers.{word_apart}
use Rattle.usbdev.specs.Offsets.{USBSTS, EPSETUPSR, EPCR0}
use Rattle.usbdev.specs.Registers as R
use Rattle.usbdev.specs.Registers.{PageStep, registers, store, setting, following, raising, lifted}
use Rattle.usbdev.proofs.Laws.{on_bus_lem}
use Rattle.dtd.specs.Dtd.{Endpoint, endpoint, Run, run_dtds, queue_head}
use Rattle.config.specs.Config.{Choice}
use Rattle.record.specs.declared.Phase.{Phase}
use Rattle.record.specs.declared.Phase.TheVariants.{Enumerate, Stream}
use Rattle.record.specs.declared.Stage.{Stage}
use Rattle.record.specs.declared.Stage.TheVariants.{Data, Status}
use Rattle.record.specs.declared.Control.{Control}
use Rattle.record.specs.declared.Settings.{Settings}
use Rattle.record.specs.Record.{wrapped, enumerations}
use Rattle.record.specs.Setups.{little}
use Rattle.record.specs.World.{World, bus_of}
use Rattle.record.specs.Change.{Change, lost, phase, count, control, popped, drained, apply, Step, left, ◌then◌, nothing, if, when, one, here, on_bus, on_page, runs, ran_stores}
use Rattle.record.proofs.Laws.{replay_bus}
use Rattle.model.specs.Phases.{now, changing, starts_frame, drops_request}
use Rattle.model.specs.Control.{begun, posted, posts, enumerating, configured, w_length, in_status, timed_out, to_status, keeps_reply, data_in, data_out, data_stage, keeps_device, asks_whole, chooses, configures, takes_configuration, finishes, status_out, ends_by, status_ends, status_stage, stalled, unstalls, data_then_status, stages, requests, controls}
use Rattle.model.specs.Microframe.{rs_set, gone_at, asleep_at, streaming, enumerates, transfers, talks, at_phase, by_phase, frame_of, microframe}
use Rattle.model.specs.Reach.{phase_by}
use Rattle.model.specs.Progress.{Present, GoesOn, Posts, RunsOn, takes_data, status_of, at_control, Answers}
use Rattle.model.proofs.Fields.{fields_then, keeps_bus, keeps_page, keeps_one, left_runs, ran_world}
use Rattle.model.proofs.Placed.{Placed, placed_first, placed_second, placed_true, placed_false, placed_here}
use Rattle.model.proofs.OneBlock.{placed_phase}
use Rattle.model.proofs.Progress.{Stand, stand_by, stand_of, stands, if_true, if_false, when_true, when_false, there, opened, stand_there, frame_in_lem, stays_running}
use Rattle.model.proofs.Same.{Same, same_then, same_if, same_nothing, same_pick, same_here, same_one, same_bus, same_page, same_ran, same_runs}
use Rattle.model.proofs.Words.{Alike, alike_then, alike_phase, alike_frame, word_back}
use Rattle.model.proofs.Flagged.{Interrupted, run_flags, run_answers}
use Rattle.model.proofs.Leaving.{keeps_frame, Untouched, keeps_transfers}

-- ---- a setup is posted (625-645)

abbrev posted_stand : ℕ → ℕ → Stand → Stand
posted_stand a b k =
    stand_by k.phase (begun a b k.uf) (k.waiting - 1) (drained k.queue (8 * k.waiting) 8) k.uf k.t k.gone k.was_running

abbrev popped_stand : Stand → Stand
popped_stand k = stand_by k.phase k.control (k.waiting - 1) (drained k.queue (8 * k.waiting) 8) k.uf k.t k.gone k.was_running

abbrev with_request : ℕ → ℕ → Stand → Stand
with_request a b k = stand_by k.phase (begun a b k.uf) k.waiting k.queue k.uf k.t k.gone k.was_running

stand_begun : (a b : ℕ) (v : World) → stand_of (left (one (λ w. control (begun a b (now w)))) v) ≡ with_request a b (stand_of v)
unfolding one apply
stand_begun a b v = refl

stand_popped : (v : World) → stand_of (left (one (λ w. popped)) v) ≡ popped_stand (stand_of v)
unfolding one apply
stand_popped v = refl

stand_posted : (qh a b : ℕ) (v : World) → stand_of (left (posted qh a b) v) ≡ posted_stand a b (stand_of v)
unfolding posted
stand_posted qh a b v =
    fields_then stands _ _ v ∙ fields_then stands _ _ _ ∙ fields_then stands _ _ _ ∙ fields_then stands _ _ _
    ∙ stand_begun a b _
    ∙ ap (with_request a b) (keeps_page stands _ _ ∙ keeps_one stands _ (λ w. refl) _ ∙ keeps_bus stands _ _ ∙ stand_popped v)

stand_posts : (v : World) → stand_of (left posts v) ≡ posted_stand (little v.own.setups 0) (little v.own.setups 4) (stand_of v)
unfolding posts here
stand_posts v = stand_posted _ _ _ v

-- the setups behind the first move up by its eight bytes
moved_up : (q : List ℕ) (n i : ℕ) → 8 * n ≤ length q → i < 8 * (n - 1) → get_or (drained q (8 * n) 8) i 0 ≡ get_or q (8 + i) 0
unfolding drained
moved_up q n i h l =
    let long : length (take (8 * n - 8) (drop 8 q)) ≡ 8 * n - 8 = length-take-le (8 * n - 8) (drop 8 q) (omega (arith, h, length-drop 8 q)) in
    get_or-append (take (8 * n - 8) (drop 8 q)) (drop (8 * n - 8) q) 0 i (omega (arith, l, long))
    ∙ get_or-take (8 * n - 8) (drop 8 q) i 0 (omega (arith, l))
    ∙ get_or-drop 8 q i 0

-- 640-641: EPSETUPSR's bit 0, and UI
abbrev flags : PageStep
flags = R.◌then◌ (changing EPSETUPSR (λ v. W.set v 1)) (raising 1)

flags_page : (v : World) → (left (on_page flags) v).lent.memory.page ≡ (R.done flags (registers v.lent.memory.page v.state.port.line)).page
unfolding on_page changing and_then setting following
flags_page v =
    let l = v.state.port.line in
    ap (λ (w : World). w.lent.memory.page) (replay_bus (lifted flags (bus_of v)) v)
    ∙ ap (λ (b : S.Bus). b.memory.page)
    (on_bus_lem (flags (registers v.lent.memory.page l)) v.lent.memory.dynamic v.lent.memory.sram v.lent.memory.page l (omega arith, (omega arith, tt)))

flags_set : (p : List ℕ) (l : Bool) → length p ≡ 4096 → any (word_at (R.done flags (registers p l)).page EPSETUPSR) 1 ≡ true
unfolding changing and_then setting following store
flags_set p l h =
    ap (λ (x : ℕ). any x 1)
    (word_apart (word_put p EPSETUPSR (W.set (word_at p EPSETUPSR) 1)) USBSTS _ EPSETUPSR (inr (omega arith))
    ∙ word_back p EPSETUPSR (W.set (word_at p EPSETUPSR) 1) (omega (arith, h)))
    ∙ any_set 0 (word_at p EPSETUPSR)

page_one : (c : World → Change) → ((w : World) → (apply (c w) w).lent.memory.page ≡ w.lent.memory.page) → (v : World) → (left (one c) v).lent.memory.page ≡ v.lent.memory.page
unfolding one
page_one c e v = e v

length_bus : (f : S.BusStep) (v : World) → length (left (on_bus f) v).lent.memory.page ≡ length v.lent.memory.page
unfolding on_bus
length_bus f v = ap (λ (w : World). length w.lent.memory.page) (replay_bus (f (bus_of v)) v) ∙ (kept_stored (f (bus_of v)) (bus_of v)).page

posted_flag : (qh a b : ℕ) (v : World) → length v.lent.memory.page ≡ 4096 → any (word_at (left (posted qh a b) v).lent.memory.page EPSETUPSR) 1 ≡ true
unfolding posted apply
posted_flag qh a b v h =
    let v₁ = left (one (λ w. popped)) v in
    let v₂ = left (on_bus (S.◌then◌ (putting (after qh 0x28) a) (putting (after qh 0x2C) b))) v₁ in
    let v₃ = left (one (λ w. lost (dropped32 (after qh 0x28) + dropped32 (after qh 0x2C)))) v₂ in
    let v₄ = left (on_page flags) v₃ in
    let long : length v₃.lent.memory.page ≡ 4096 =
    ap length (page_one (λ w. lost (dropped32 (after qh 0x28) + dropped32 (after qh 0x2C))) (λ w. refl) v₂) ∙ length_bus _ v₁ ∙ ap length (page_one (λ w. popped) (λ w. refl) v) ∙ h in
    ap (λ (w : World). any (word_at w.lent.memory.page EPSETUPSR) 1)
    (exec_then apply _ _ v ∙ exec_then apply _ _ v₁ ∙ exec_then apply _ _ v₂ ∙ exec_then apply _ _ v₃)
    ∙ ap (λ (q : List ℕ). any (word_at q EPSETUPSR) 1) (page_one (λ w. control (begun a b (now w))) (λ w. refl) v₄ ∙ flags_page v₃)
    ∙ flags_set v₃.lent.memory.page v₃.state.port.line long

posts_flag : (v : World) → length v.lent.memory.page ≡ 4096 → any (word_at (left posts v).lent.memory.page EPSETUPSR) 1 ≡ true
unfolding posts here
posts_flag v h = posted_flag _ _ _ v h

-- ---- enumeration ends (626-629)

abbrev streaming_stand : Stand → Stand
streaming_stand k = stand_by Stream k.control k.waiting k.queue k.uf k.t k.gone k.was_running

stand_ended : (v : World) → stand_of (left (one (λ w. phase Stream) then one (λ w. count enumerations 1)) v) ≡ streaming_stand (stand_of v)
unfolding and_then one apply
stand_ended v = refl

stand_configured : (v : World) → v.state.phase ≡ Enumerate → stand_of (left configured v) ≡ streaming_stand (stand_of v)
unfolding configured
stand_configured v e = ap stand_of (when_true _ _ v (ap enumerating e)) ∙ stand_ended v

-- ---- a request that runs (649-700): what its stages leave of it

record Request : Type 0 where
  phase : Phase
  on : Bool
  first : ℕ
  second : ℕ
  t0 : ℕ
  waiting : ℕ
  queue : List ℕ
  uf : ℕ
  t : ℕ

abbrev request : Stand → Request
request k =
    record { phase = k.phase; on = k.control.on; first = k.control.first; second = k.control.second; t0 = k.control.t0; waiting = k.waiting; queue = k.queue; uf = k.uf; t = k.t }

abbrev request_of : World → Request
request_of w = request (stand_of w)

-- the request began more than 16,000 microframes ago, by its count
abbrev late : Request → Bool
late k = ltb (wrapped (k.t0 + 16000)) k.uf

same_status : Same request to_status
unfolding to_status
same_status = same_one request _ (λ w. refl)

same_reply : (r : Run) → Same request (keeps_reply r)
unfolding keeps_reply here one apply
same_reply r v =
    ap request (fields_then stands _ _ v ∙ fields_then stands _ _ _)
    ∙ same_if request _ to_status nothing same_status (same_nothing request) _

same_in : Same request data_in
same_in = same_runs request (endpoint 0 true) [] keeps_reply same_reply

same_out : Same request data_out
same_out = same_runs request (endpoint 0 false) [] _ (λ r. same_if request _ to_status nothing same_status (same_nothing request))

same_data : Same request data_stage
unfolding data_stage
same_data = same_if request _ _ _ same_status (same_if request _ _ _ same_in same_out)

-- ---- its end

-- phase, request or none, count and start
record Brief : Type 0 where
  phase : Phase
  on : Bool
  uf : ℕ
  t : ℕ

abbrev brief : Stand → Brief
brief k = record { phase = k.phase; on = k.control.on; uf = k.uf; t = k.t }

abbrev off : Request → Brief
off k = record { phase = k.phase; on = false; uf = k.uf; t = k.t }

abbrev brief_of : World → Brief
brief_of w = brief (stand_of w)

drops : (v : World) → brief_of (left drops_request v) ≡ off (request_of v)
unfolding drops_request one apply
drops v = refl

ruleset same-rules = (same_then, same_if, same_nothing, same_pick, same_here, same_one, same_bus, same_page, same_runs)

same_whole : Same brief asks_whole
unfolding asks_whole
same_whole = search same-rules

same_chooses : (c : Choice) → Same brief (chooses c)
unfolding chooses
same_chooses c = search same-rules depth 8

same_configures : (stack : Bool) → Same brief (configures stack)
unfolding configures
same_configures stack = search (same-rules, same_chooses) depth 8

finishes_off : (stack : Bool) (v : World) → brief_of (left (finishes stack) v) ≡ off (request_of v)
unfolding finishes
finishes_off stack v =
    ap brief (fields_then stands _ _ v)
    ∙ same_then brief _ _
    (same_if brief _ keeps_device nothing (same_one brief _ (λ w. refl)) (same_nothing brief))
    (same_if brief _ (takes_configuration stack) nothing (same_if brief _ _ _ same_whole (same_configures stack)) (same_nothing brief)) _
    ∙ drops v

unstalls_off : (v : World) → brief_of (left unstalls v) ≡ off (request_of v)
unfolding unstalls
unstalls_off v = ap brief (fields_then stands _ _ v) ∙ same_page brief _ _ ∙ drops v

-- ---- the status stage (687-700)

-- its endpoint: towards the host, unless data came from the device
abbrev pub status_endpoint : Control → Endpoint
status_endpoint c = endpoint 0 (not (status_out c))

abbrev pub status_run : World → Run
status_run u = run_dtds (status_endpoint u.state.control) [] (bus_of u)

status_is : (stack : Bool) (u : World) → status_stage stack u ≡ runs (status_endpoint u.state.control) [] (status_ends stack) u
unfolding status_stage choose
status_is stack u = by (status_out u.state.control)
  where
    by : (b : Bool) → pick b (runs (endpoint 0 false) [] (status_ends stack) u) (runs (endpoint 0 true) [] (status_ends stack) u) ≡ runs (endpoint 0 (not b)) [] (status_ends stack) u
    by true = refl
    by false = refl

-- the World after its run
abbrev status_left : World → World
status_left u = ran_world stands (status_endpoint u.state.control) [] u

left_status : (stack : Bool) (u : World) → left (status_stage stack) u ≡ left (ends_by stack (status_run u).done) (status_left u)
unfolding status_ends
left_status stack u =
    ap (λ (cs : List Change). replay apply cs u) (status_is stack u) ∙ left_runs stands (status_endpoint u.state.control) [] (status_ends stack) u

request_ran : (u : World) → request_of (status_left u) ≡ request_of u
request_ran u = same_ran request (status_endpoint u.state.control) [] u

-- no completion, in time: the request stays
status_runs : (stack : Bool) (u : World) → late (request_of u) ≡ false → (status_run u).done ≡ false → request_of (left (status_stage stack) u) ≡ request_of u
status_runs stack u l d =
    ap request_of
    (left_status stack u
    ∙ if_false _ _ _ (status_left u) d
    ∙ when_false timed_out drops_request (status_left u) (ap late (request_ran u) ∙ l))
    ∙ request_ran u

-- a completion: it is finished
status_ends_lem : (stack : Bool) (u : World) → (status_run u).done ≡ true → brief_of (left (status_stage stack) u) ≡ off (request_of u)
status_ends_lem stack u d =
    ap brief_of (left_status stack u ∙ if_true _ _ _ (status_left u) d)
    ∙ finishes_off stack (status_left u)
    ∙ ap off (request_ran u)

-- none, and too late: it is dropped
status_late : (stack : Bool) (u : World) → late (request_of u) ≡ true → brief_of (left (status_stage stack) u) ≡ off (request_of u)
status_late stack u l = by (status_run u).done refl
  where
    by : (b : Bool) → (status_run u).done ≡ b → brief_of (left (status_stage stack) u) ≡ off (request_of u)
    by true d = status_ends_lem stack u d
    by false d =
        ap brief_of
        (left_status stack u
        ∙ if_false _ _ _ (status_left u) d
        ∙ when_true timed_out drops_request (status_left u) (ap late (request_ran u) ∙ l))
        ∙ drops (status_left u)
        ∙ ap off (request_ran u)

-- ---- all stages: the World at the status stage, where it is reached

abbrev in_status_at : World → Bool
in_status_at v = in_status v.state.control.stage

-- past the data stage
abbrev pub at_status : World → World
at_status v = pick (in_status_at v) v (left data_stage v)

request_status : (v : World) → request_of (at_status v) ≡ request_of v
request_status v = by (in_status_at v)
  where
    by : (b : Bool) → request_of (pick b v (left data_stage v)) ≡ request_of v
    by true = refl
    by false = same_data v

left_stages : (stack : Bool) (v : World) → left (stages stack) v ≡ pick (in_status_at (at_status v)) (left (status_stage stack) (at_status v)) (left (when timed_out drops_request) (at_status v))
unfolding stages
left_stages stack v = by (in_status_at v) refl
  where
    by : (b : Bool) → in_status_at v ≡ b
        → left (if in_status_at (status_stage stack) (data_then_status stack)) v
        ≡ pick (in_status_at (pick b v (left data_stage v))) (left (status_stage stack) (pick b v (left data_stage v))) (left (when timed_out drops_request) (pick b v (left data_stage v)))
    by true e =
        if_true in_status_at _ _ v e
        ∙ sym (ap (λ (x : Bool). pick x (left (status_stage stack) v) (left (when timed_out drops_request) v)) e)
    by false e = if_false in_status_at _ _ v e ∙ exec_then apply data_stage _ v ∙ exec_choose apply in_status_at _ _ (left data_stage v)

-- by a test that is known
pick_off : {A : Type 0} (b : Bool) (x y : A) → b ≡ false → pick b x y ≡ y
pick_off b x y e = ap (λ (c : Bool). pick c x y) e

pick_on : {A : Type 0} (b : Bool) (x y : A) → b ≡ true → pick b x y ≡ x
pick_on b x y e = ap (λ (c : Bool). pick c x y) e

-- a completion of the status run ends it
stages_end : (stack : Bool) (v : World) → in_status_at (at_status v) ≡ true → (status_run (at_status v)).done ≡ true → brief_of (left (stages stack) v) ≡ off (request_of v)
stages_end stack v s d =
    ap brief_of (left_stages stack v ∙ pick_on (in_status_at (at_status v)) _ _ s) ∙ status_ends_lem stack (at_status v) d ∙ ap off (request_status v)

-- a request in time stays, or its status run flags a completion and it is over
stages_run : (stack : Bool) (v : World) → late (request_of v) ≡ false
    → (request_of (left (stages stack) v) ≡ request_of v) ⊎ ((in_status_at (at_status v) ≡ true) × (((status_run (at_status v)).done ≡ true) × (brief_of (left (stages stack) v) ≡ off (request_of v))))
stages_run stack v l = by (in_status_at (at_status v)) (status_run (at_status v)).done refl refl
  where
    in_time : late (request_of (at_status v)) ≡ false
    in_time = ap late (request_status v) ∙ l

    by : (s d : Bool) → in_status_at (at_status v) ≡ s → (status_run (at_status v)).done ≡ d
        → (request_of (left (stages stack) v) ≡ request_of v) ⊎ ((in_status_at (at_status v) ≡ true) × (((status_run (at_status v)).done ≡ true) × (brief_of (left (stages stack) v) ≡ off (request_of v))))
    by true true s d = inr (s, (d, stages_end stack v s d))
    by true false s d =
        inl (ap request_of (left_stages stack v ∙ pick_on (in_status_at (at_status v)) _ _ s) ∙ status_runs stack (at_status v) in_time d ∙ request_status v)
    by false d s e =
        inl (ap request_of (left_stages stack v ∙ pick_off (in_status_at (at_status v)) _ _ s ∙ when_false timed_out drops_request (at_status v) in_time) ∙ request_status v)

stages_late : (stack : Bool) (v : World) → late (request_of v) ≡ true → brief_of (left (stages stack) v) ≡ off (request_of v)
stages_late stack v l = by (in_status_at (at_status v)) refl
  where
    too_late : late (request_of (at_status v)) ≡ true
    too_late = ap late (request_status v) ∙ l

    by : (s : Bool) → in_status_at (at_status v) ≡ s → brief_of (left (stages stack) v) ≡ off (request_of v)
    by true s =
        ap brief_of (left_stages stack v ∙ pick_on (in_status_at (at_status v)) _ _ s) ∙ status_late stack (at_status v) too_late ∙ ap off (request_status v)
    by false s =
        ap brief_of (left_stages stack v ∙ pick_off (in_status_at (at_status v)) _ _ s ∙ when_true timed_out drops_request (at_status v) too_late)
        ∙ drops (at_status v)
        ∙ ap off (request_status v)

-- a request in its status stage, or without data, is at its status stage with the memory as it stands at control
record AtOnce (v : World) : Type 0 where
  status : in_status_at (at_status v) ≡ true
  bus : bus_of (at_status v) ≡ bus_of v

at_once : (v : World) → (v.state.control.stage ≡ Status) ⊎ (v.state.control.second / 65536 ≡ 0) → AtOnce v
unfolding data_stage to_status one apply
at_once v (inl s) =
    let is : in_status_at v ≡ true = ap in_status s in
    record { status = ap (λ (b : Bool). in_status_at (pick b v (left data_stage v))) is ∙ is; bus = ap (λ (b : Bool). bus_of (pick b v (left data_stage v))) is }
at_once v (inr z) = by (in_status_at v) refl
  where
    straight : left data_stage v ≡ left to_status v
    straight = if_true (λ w. eqb (w_length w.state.control) 0) to_status _ v (ap (λ (n : ℕ). eqb n 0) z)

    by : (b : Bool) → in_status_at v ≡ b → AtOnce v
    by true e =
        record { status = ap (λ (b : Bool). in_status_at (pick b v (left data_stage v))) e ∙ e; bus = ap (λ (b : Bool). bus_of (pick b v (left data_stage v))) e }
    by false e =
        record {
          status = ap (λ (b : Bool). in_status_at (pick b v (left data_stage v))) e ∙ ap in_status_at straight;
          bus = ap (λ (b : Bool). bus_of (pick b v (left data_stage v))) e ∙ ap bus_of straight;
        }

-- ---- where the status run stands in the list

-- the stores and the mark of a run of endpoint e that sends nothing
abbrev pub run_of : Endpoint → Step
run_of e v = ran_stores e (run_dtds e [] (bus_of v))

placed_run : (stack : Bool) (u : World) → Placed (status_stage stack) u (run_of (status_endpoint u.state.control)) u
unfolding runs and_then
placed_run stack u =
    record {
      before = [];
      rest = status_ends stack (status_run u) (replay apply (run_of (status_endpoint u.state.control) u) u);
      whole = status_is stack u;
      there = refl;
    }

placed_stages : (stack : Bool) (v : World) (h : Step) (x : World) → in_status_at (at_status v) ≡ true → Placed (status_stage stack) (at_status v) h x → Placed (stages stack) v h x
unfolding stages
placed_stages stack v h x = by (in_status_at v) refl
  where
    by : (b : Bool) → in_status_at v ≡ b → in_status_at (pick b v (left data_stage v)) ≡ true → Placed (status_stage stack) (pick b v (left data_stage v)) h x
        → Placed (if in_status_at (status_stage stack) (data_then_status stack)) v h x
    by true e s p = placed_true in_status_at _ _ h v x e p
    by false e s p =
        placed_false in_status_at _ _ h v x e
        (placed_second data_stage _ h v x (placed_true in_status_at _ _ h (left data_stage v) x s p))

placed_running : (stack : Bool) (v : World) (h : Step) (x : World) → v.state.control.on ≡ true → stalled v ≡ false → Placed (stages stack) v h x → Placed (controls stack) v h x
unfolding controls
placed_running stack v h x o s p =
    placed_true (λ w. w.state.control.on) _ _ h v x o (placed_false stalled unstalls (stages stack) h v x s p)

-- in the microframe's list stand the stores and the mark of a run of the status stage's endpoint that sends nothing, at a World where the
-- request is in its status stage, and among these stores those of a descriptor whose interrupt bit was set
pub record Completed (t : ℕ) (w : World) : Type 0 where
  pub at : World
  pub stage : at.state.control.stage ≡ Status
  pub placed : Placed (microframe t) w (run_of (status_of w.state.control)) at
  pub interrupted : Interrupted (status_of w.state.control) (queue_head (status_of w.state.control) at.lent.memory.page) (bus_of at) (run_dtds (status_of w.state.control) [] (bus_of at)).stores

is_status : (s : Stage) → in_status s ≡ true → s ≡ Status
is_status Data e = absurd (false_true e)
is_status Status e = refl

some_bytes : (n : ℕ) → not (eqb n 0) ≡ ltb 0 n
some_bytes zero = refl
some_bytes (suc n) = ap not (ne_eqb (suc n) 0 (λ e. omega (arith, e))) ∙ sym (lt-ltb 0 (suc n) (omega arith))

seventh : (v : ℕ) → any v 0x80 ≡ eqb (v / 128 % 2) 1
unfolding bit
seventh v =
    let same : bit 7 v ≡ v / 128 % 2 = omega arith in
    any_bit 7 v ∙ ap (λ (x : ℕ). eqb x 1) same

-- the status stage's way, in the words of USB 2.0
takes_data_lem : (c : Control) → status_out c ≡ takes_data c
takes_data_lem c = ap₂ ◌&&◌ (seventh c.first) (some_bytes (c.second / 2 ^ 16))

untouched : Untouched stands
untouched =
    record {
      counts = λ c n k. refl;
      credits = λ n k. refl;
      budgets = λ n k. refl;
      counters = λ n k. refl;
      midis = λ n k. refl;
      serials = λ n k. refl;
      receives = λ bs k. refl;
      cables = λ cs k. refl;
      frames = λ f k. refl;
      takes = λ n k. refl;
    }

-- ---- the microframe in Enumerate, RS set

still : (c : Settings) (t : ℕ) (u : World) → u.state.phase ≡ Enumerate → left (transfers c t) u ≡ u
unfolding transfers
still c t u e = when_false (λ w. streaming w.state.phase) _ u (ap streaming e)

placed_by : (t : ℕ) (rs g s : Bool) (w : World) (h : Step) (x : World) → g ≡ false → s ≡ false → Placed (by_phase w.settings t rs) (phase_by rs w) h x → Placed (frame_of w.settings t rs g s) w h x
placed_by t rs true s w h x e f p = absurd (false_true (sym e))
placed_by t rs false true w h x e f p = absurd (false_true (sym f))
placed_by t rs false false w h x e f p = placed_phase t rs h w x p

placed_talks : (c : Settings) (t : ℕ) (rs : Bool) (v : World) (h : Step) (x : World) → v.state.phase ≡ Enumerate → rs ≡ true
    → Placed (controls c.device_stack) (left starts_frame v) h x → Placed (by_phase c t rs) v h x
unfolding by_phase talks enumerates
placed_talks c t rs v h x e r p =
    placed_here _ h v x
    (subst (λ (q : Phase). Placed (at_phase c t rs q) v h x) (sym e)
    (placed_true (λ w. rs) _ nothing h v x r
    (placed_first (starts_frame then controls c.device_stack) (transfers c t) h v x (placed_second starts_frame (controls c.device_stack) h v x p))))

module _ (t : ℕ) (w : World) (p : Present t w) (e : w.state.phase ≡ Enumerate) (rs : rs_set w ≡ true) where
  abbrev stack : Bool
  stack = w.settings.device_stack

  -- the World at control
  abbrev asked : World
  asked = left starts_frame (there t w p)

  asked_stand : stand_of asked ≡ opened t w p
  asked_stand = keeps_frame stands (there t w p) ∙ stand_there t w p (stays_running t w rs)

  asked_page : length w.lent.memory.page ≡ 4096 → Alike w.lent.memory.page asked.lent.memory.page
  asked_page h =
      let x = alike_phase (rs_set w) w h in
      alike_then x (alike_frame (there t w p) x.long)

  whole : left (microframe t) w ≡ left (transfers w.settings t) (left (controls stack) asked)
  unfolding talks enumerates
  whole =
      frame_in_lem t w p (stays_running t w rs) Enumerate e
      ∙ when_true (λ v. rs_set w) _ (there t w p) rs
      ∙ exec_then apply _ _ (there t w p)
      ∙ ap (left (transfers w.settings t)) (exec_then apply starts_frame (controls stack) (there t w p))

  -- without transfers, where enumeration goes on
  alone : (x : World) → left (controls stack) asked ≡ x → x.state.phase ≡ Enumerate → left (microframe t) w ≡ x
  alone x c q = whole ∙ ap (left (transfers w.settings t)) c ∙ still w.settings t x q

  placed_asked : (h : Step) (x : World) → Placed (controls stack) asked h x → Placed (microframe t) w h x
  unfolding microframe
  placed_asked h x q =
      placed_here _ h w x
      (placed_by t (rs_set w) (gone_at t w) (asleep_at t w) w h x p.there p.awake
      (placed_talks w.settings t (rs_set w) (there t w p) h x (ap (λ (k : Stand). k.phase) (stand_there t w p (stays_running t w rs)) ∙ e) rs q))

  counts_asked : wrapped (w.state.port.uf + 1) ≡ w.state.port.uf + 1
  counts_asked = let few = p.few in omega arith

  goes_on : (q : Phase) (w' : World) (k : Stand) → stand_of w' ≡ k → k.phase ≡ q → k.uf ≡ (opened t w p).uf → k.t ≡ w.state.port.t → GoesOn q w w'
  goes_on q w' k s x y z =
      record {
        phase = ap (λ (n : Stand). n.phase) s ∙ x;
        counts = ap (λ (n : Stand). n.uf) s ∙ y ∙ counts_asked;
        starts = ap (λ (n : Stand). n.t) s ∙ z;
      }

  asked_on_lem : (b : Bool) → w.state.control.on ≡ b → asked.state.control.on ≡ b
  asked_on_lem b o = ap (λ (k : Stand). k.control.on) asked_stand ∙ o

  waiting_asked : asked.state.lengths.setups ≡ w.state.lengths.setups
  waiting_asked = ap (λ (k : Stand). k.waiting) asked_stand

  -- ---- none runs, one waits

  module _ (idle : w.state.control.on ≡ false) (some : 0 < w.state.lengths.setups) where
    controls_posts : left (controls stack) asked ≡ left posts asked
    unfolding controls
    controls_posts =
        if_false (λ v. v.state.control.on) _ _ asked (asked_on_lem false idle)
        ∙ if_false _ configured posts asked (ne_eqb asked.state.lengths.setups 0 (λ z. omega (arith, z, waiting_asked, some)))

    posts_stand : stand_of (left posts asked) ≡ posted_stand (little w.own.setups 0) (little w.own.setups 4) (opened t w p)
    posts_stand = stand_posts asked ∙ ap (λ (k : Stand). posted_stand (little k.queue 0) (little k.queue 4) k) asked_stand

    microframe_posts : left (microframe t) w ≡ left posts asked
    microframe_posts = alone (left posts asked) controls_posts (ap (λ (k : Stand). k.phase) posts_stand ∙ e)

    posted_all : Posts w (left posts asked)
    posted_all =
        record {
          runs = ap (λ (k : Stand). k.control.on) posts_stand;
          first = ap (λ (k : Stand). k.control.first) posts_stand;
          second = ap (λ (k : Stand). k.control.second) posts_stand;
          stage = ap (λ (k : Stand). k.control.stage) posts_stand;
          none = ap (λ (k : Stand). k.control.got) posts_stand;
          begins = ap (λ (k : Stand). k.control.t0) posts_stand ∙ counts_asked;
          waits = omega (arith, some, ap (λ (k : Stand). k.waiting) posts_stand);
          moves =
              λ h i l. ap (λ (k : Stand). get_or k.queue i 0) posts_stand
              ∙ moved_up w.own.setups w.state.lengths.setups i h (subst (λ (n : ℕ). i < 8 * n) (ap (λ (k : Stand). k.waiting) posts_stand) l);
          goes_on = goes_on Enumerate (left posts asked) _ posts_stand e refl refl;
          flagged = λ h. posts_flag asked (asked_page h).long;
        }

  -- ---- a request runs

  module _ (on : w.state.control.on ≡ true) where
    request_asked : request_of asked ≡ request (opened t w p)
    request_asked = ap request asked_stand

    -- what is left of one that is over
    ended : (x : World) → left (controls stack) asked ≡ x → brief_of x ≡ off (request_of asked) → GoesOn Enumerate w (left (microframe t) w) × ((left (microframe t) w).state.control.on ≡ false)
    ended x c b =
        let all = b ∙ ap off request_asked in
        let same = alone x c (ap (λ (k : Brief). k.phase) all ∙ e) in
        let now-all = ap brief_of same ∙ all in (
          record {
            phase = ap (λ (k : Brief). k.phase) now-all ∙ e;
            counts = ap (λ (k : Brief). k.uf) now-all ∙ counts_asked;
            starts = ap (λ (k : Brief). k.t) now-all;
          },
          ap (λ (k : Brief). k.on) now-all,
        )

    controls_requests : left (controls stack) asked ≡ left (requests stack) asked
    unfolding controls
    controls_requests = if_true (λ v. v.state.control.on) _ _ asked (asked_on_lem true on)

    module _ (h : length w.lent.memory.page ≡ 4096) where
      -- endpoint 0 is stalled at control where it is at entry
      stalled_asked : stalled asked ≡ any (word_at w.lent.memory.page EPCR0) 0x10001
      stalled_asked = ap (λ (x : ℕ). any x 0x10001) (asked_page h).stall

      stalls : any (word_at w.lent.memory.page EPCR0) 0x10001 ≡ true → GoesOn Enumerate w (left (microframe t) w) × ((left (microframe t) w).state.control.on ≡ false)
      stalls s = ended (left unstalls asked) (controls_requests ∙ if_true stalled unstalls (stages stack) asked (stalled_asked ∙ s)) (unstalls_off asked)

      module _ (free : any (word_at w.lent.memory.page EPCR0) 0x10001 ≡ false) where
        controls_stages : left (controls stack) asked ≡ left (stages stack) asked
        controls_stages = controls_requests ∙ if_false stalled unstalls (stages stack) asked (stalled_asked ∙ free)

        -- one that is as it was
        unchanged : request_of (left (stages stack) asked) ≡ request_of asked → GoesOn Enumerate w (left (microframe t) w) × RunsOn w (left (microframe t) w)
        unchanged r =
            let all = r ∙ request_asked in
            let same = alone (left (stages stack) asked) controls_stages (ap (λ (k : Request). k.phase) all ∙ e) in
            let now-all = ap request_of same ∙ all in (
              record {
                phase = ap (λ (k : Request). k.phase) now-all ∙ e;
                counts = ap (λ (k : Request). k.uf) now-all ∙ counts_asked;
                starts = ap (λ (k : Request). k.t) now-all;
              },
              record {
                on = ap (λ (k : Request). k.on) now-all ∙ on;
                first = ap (λ (k : Request). k.first) now-all;
                second = ap (λ (k : Request). k.second) now-all;
                begun = ap (λ (k : Request). k.t0) now-all;
                waits = ap (λ (k : Request). k.waiting) now-all;
                queue = ap (λ (k : Request). k.queue) now-all;
              },
            )

        -- the status endpoint is the one that the setup says
        way : status_endpoint (at_status asked).state.control ≡ status_of w.state.control
        way =
            ap (λ (k : Request). endpoint 0 (not (any k.first 0x80 && not (eqb (k.second / 2 ^ 16) 0)))) (request_status asked ∙ request_asked)
            ∙ ap (λ (b : Bool). endpoint 0 (not b)) (takes_data_lem w.state.control)

        -- the status run flagged a completion
        flagged : in_status_at (at_status asked) ≡ true → (status_run (at_status asked)).done ≡ true → Completed t w
        flagged s d =
            let at = at_status asked in
            record {
              at = at;
              stage = is_status at.state.control.stage s;
              placed =
                  subst (λ (x : Endpoint). Placed (microframe t) w (run_of x) at) way
                  (placed_asked _ at (placed_running stack asked _ at (asked_on_lem true on) (stalled_asked ∙ free) (placed_stages stack asked _ at s (placed_run stack at))));
              interrupted =
                  subst (λ (x : Endpoint). Interrupted x (queue_head x at.lent.memory.page) (bus_of at) (run_dtds x [] (bus_of at)).stores) way
                  (run_flags (status_endpoint at.state.control) [] (bus_of at) d);
            }

        ends_at_once : (w.state.control.stage ≡ Status) ⊎ (w.state.control.second / 65536 ≡ 0) → Answers (status_of w.state.control) asked.lent.memory
            → GoesOn Enumerate w (left (microframe t) w) × ((left (microframe t) w).state.control.on ≡ false)
        ends_at_once c a =
            let now-at = at_once asked (at_asked c) in
            let done : (status_run (at_status asked)).done ≡ true =
            ap (λ (x : Endpoint). (run_dtds x [] (bus_of (at_status asked))).done) way
            ∙ ap (λ (b : S.Bus). (run_dtds (status_of w.state.control) [] b).done) now-at.bus
            ∙ run_answers (not (takes_data w.state.control)) [] (bus_of asked) a.prime a.active a.interrupt in
            ended (left (stages stack) asked) controls_stages (stages_end stack asked now-at.status done)
          where
            at_asked : (w.state.control.stage ≡ Status) ⊎ (w.state.control.second / 65536 ≡ 0) → (asked.state.control.stage ≡ Status) ⊎ (asked.state.control.second / 65536 ≡ 0)
            at_asked (inl x) = inl (ap (λ (k : Stand). k.control.stage) asked_stand ∙ x)
            at_asked (inr x) = inr (ap (λ (k : Stand). k.control.second / 65536) asked_stand ∙ x)

        in_time : w.state.control.t0 ≤ w.state.port.uf → w.state.port.uf + 1 ≤ w.state.control.t0 + 16000
            → GoesOn Enumerate w (left (microframe t) w) × (RunsOn w (left (microframe t) w) ⊎ (Completed t w × ((left (microframe t) w).state.control.on ≡ false)))
        in_time begun due = by (stages_run stack asked (ap late request_asked ∙ le-ltb (wrapped (w.state.control.t0 + 16000)) (wrapped (w.state.port.uf + 1)) early))
          where
            early : wrapped (w.state.port.uf + 1) ≤ wrapped (w.state.control.t0 + 16000)
            early = let few = p.few in omega arith

            by : (request_of (left (stages stack) asked) ≡ request_of asked) ⊎ ((in_status_at (at_status asked) ≡ true) × (((status_run (at_status asked)).done ≡ true) × (brief_of (left (stages stack) asked) ≡ off (request_of asked))))
                → GoesOn Enumerate w (left (microframe t) w) × (RunsOn w (left (microframe t) w) ⊎ (Completed t w × ((left (microframe t) w).state.control.on ≡ false)))
            by (inl r) = let x = unchanged r in (x.0, inl x.1)
            by (inr r) = let x = ended (left (stages stack) asked) controls_stages r.1.1 in (x.0, inr (flagged r.0 r.1.0, x.1))

    -- stalled or not, one that began more than 16,000 microframes ago is over
    too_late : w.state.control.t0 + 16000 < w.state.port.uf + 1 → GoesOn Enumerate w (left (microframe t) w) × ((left (microframe t) w).state.control.on ≡ false)
    too_late due = by (stalled asked) refl
      where
        passed : late (request_of asked) ≡ true
        passed =
            let few = p.few in
            ap late request_asked ∙ lt-ltb (wrapped (w.state.control.t0 + 16000)) (wrapped (w.state.port.uf + 1)) (omega arith)

        by : (b : Bool) → stalled asked ≡ b → GoesOn Enumerate w (left (microframe t) w) × ((left (microframe t) w).state.control.on ≡ false)
        by true s = ended (left unstalls asked) (controls_requests ∙ if_true stalled unstalls (stages stack) asked s) (unstalls_off asked)
        by false s =
            ended (left (stages stack) asked) (controls_requests ∙ if_false stalled unstalls (stages stack) asked s) (stages_late stack asked passed)

  -- ---- none runs, none waits

  module _ (idle : w.state.control.on ≡ false) (none : w.state.lengths.setups ≡ 0) where
    controls_ends : left (controls stack) asked ≡ left configured asked
    unfolding controls
    controls_ends =
        if_false (λ v. v.state.control.on) _ _ asked (asked_on_lem false idle)
        ∙ if_true _ configured posts asked (ap (λ (n : ℕ). eqb n 0) (waiting_asked ∙ none))

    ends_stand : stand_of (left (microframe t) w) ≡ streaming_stand (opened t w p)
    ends_stand =
        ap stand_of (whole ∙ ap (left (transfers w.settings t)) controls_ends)
        ∙ keeps_transfers stands untouched w.settings t (left configured asked)
        ∙ stand_configured asked (ap (λ (k : Stand). k.phase) asked_stand ∙ e)
        ∙ ap streaming_stand asked_stand

-- ---- the laws: a host that enumerates, is there, and has RS set

-- none runs, one waits: the first is posted
pub setup_posted : (t : ℕ) (w : World) → Present t w → w.state.phase ≡ Enumerate → rs_set w ≡ true → w.state.control.on ≡ false → 0 < w.state.lengths.setups
    → Posts w (left (microframe t) w)
setup_posted t w p e rs idle some = subst (Posts w) (sym (microframe_posts t w p e rs idle some)) (posted_all t w p e rs idle some)

-- one runs, on an endpoint that is not stalled, and began at most 16,000 microframes ago: it runs on, or its status run retired a descriptor
-- that asked for an interrupt, and it is over
pub request_runs : (t : ℕ) (w : World) → Present t w → w.state.phase ≡ Enumerate → rs_set w ≡ true → w.state.control.on ≡ true
    → length w.lent.memory.page ≡ 4096 → any (word_at w.lent.memory.page EPCR0) 0x10001 ≡ false
    → w.state.control.t0 ≤ w.state.port.uf → w.state.port.uf + 1 ≤ w.state.control.t0 + 16000
    → GoesOn Enumerate w (left (microframe t) w) × (RunsOn w (left (microframe t) w) ⊎ (Completed t w × ((left (microframe t) w).state.control.on ≡ false)))
request_runs t w p e rs on h free begun due = in_time t w p e rs on h free begun due

-- one in its status stage, or without data, whose status endpoint answers at control with a completion, is over
pub request_ends : (t : ℕ) (w : World) → Present t w → w.state.phase ≡ Enumerate → rs_set w ≡ true → w.state.control.on ≡ true
    → length w.lent.memory.page ≡ 4096 → any (word_at w.lent.memory.page EPCR0) 0x10001 ≡ false
    → (w.state.control.stage ≡ Status) ⊎ (w.state.control.second / 65536 ≡ 0) → Answers (status_of w.state.control) (at_control w).lent.memory
    → GoesOn Enumerate w (left (microframe t) w) × ((left (microframe t) w).state.control.on ≡ false)
request_ends t w p e rs on h free c a = ends_at_once t w p e rs on h free c a

-- one whose endpoint is stalled is over
pub request_stalls : (t : ℕ) (w : World) → Present t w → w.state.phase ≡ Enumerate → rs_set w ≡ true → w.state.control.on ≡ true
    → length w.lent.memory.page ≡ 4096 → any (word_at w.lent.memory.page EPCR0) 0x10001 ≡ true
    → GoesOn Enumerate w (left (microframe t) w) × ((left (microframe t) w).state.control.on ≡ false)
request_stalls t w p e rs on h s = stalls t w p e rs on h s

-- and so is one that began more than 16,000 microframes ago, whatever the firmware did
pub request_drops : (t : ℕ) (w : World) → Present t w → w.state.phase ≡ Enumerate → rs_set w ≡ true → w.state.control.on ≡ true
    → w.state.control.t0 + 16000 < w.state.port.uf + 1
    → GoesOn Enumerate w (left (microframe t) w) × ((left (microframe t) w).state.control.on ≡ false)
request_drops t w p e rs on due = too_late t w p e rs on due

-- none runs, none waits: the stream begins in this same microframe
pub enumeration_ends : (t : ℕ) (w : World) → Present t w → w.state.phase ≡ Enumerate → rs_set w ≡ true → w.state.control.on ≡ false → w.state.lengths.setups ≡ 0
    → GoesOn Stream w (left (microframe t) w)
enumeration_ends t w p e rs idle none =
    goes_on t w p e rs Stream (left (microframe t) w) _ (ends_stand t w p e rs idle none) refl refl refl
