-- A request that is answered in one microframe: its data stage, its status stage, and what its end makes of the setups that wait.
use Prim.Native.Nat.{ℕ, ◌+◌, ◌-◌, ◌*◌, ◌/◌, ◌%◌, ◌^◌}
use mathlib.Core.Path.{◌≡◌, refl, ap, ap₂, sym, subst, ◌∙◌}
use mathlib.Core.Bool.{Bool, true, false, not, ◌&&◌, ◌||◌}
use mathlib.Core.List.{List, [], ◌∷◌, ◌++◌, map}
use native.Mathlib.Omega.{arith}
use lib.Dec.{eqb, leb}
use lib.ListN.{length, get_or, take}
use lib.Seq.{sets}
use Rattle.bits.proofs.Tests.{and_false}
use Rattle.bus.specs.Steps.{replay_append, and_then, exec_then}
use Rattle.bus.specs.Stores.{Bus, stored}
use Rattle.dtd.specs.Dtd.{Endpoint, endpoint, Run, run_dtds}
use Rattle.record.specs.declared.Stage.TheVariants.{Data, Status}
use Rattle.record.specs.declared.Control.{Control}
use Rattle.record.specs.Record.{with_stage, with_got}
use Rattle.record.specs.World.{World, bus_of}
use Rattle.record.specs.Change.{apply, Step, left, ◌then◌, if, when, one, here, ran_stores}
use Rattle.record.specs.Change as Ch
use Rattle.record.proofs.Laws.{replay_bus}
use Rattle.model.specs.Phases.{drops_request}
use Rattle.model.specs.Control.{w_length, to_host, posted, to_status, in_status, timed_out, keeps_reply, data_in, data_out, data_stage, asks_for, asks_whole, fixed_setups, configures, keeps_device, takes_configuration, finishes, status_out, status_ends, status_stage, stalled, unstalls, data_then_status, stages, requests, controls}
use Rattle.model.proofs.Fields.{fields_then, left_runs, fields_ran, ran_world}
use Rattle.model.proofs.Progress.{if_true, if_false, when_true, when_false}
use Rattle.kept.proofs.Asked.{Asked, asked}
use Rattle.reached.proofs.Standing.{Held, held_of, held}
use Rattle.reached.proofs.Early.{on_held}

-- ---- a run leaves the bus as its stores do

pub ran_bus : (e : Endpoint) (bs : List ℕ) (x : World) → bus_of (ran_world held e bs x) ≡ stored (run_dtds e bs (bus_of x)).stores (bus_of x)
unfolding ran_stores apply
ran_bus e bs x =
    let ss = (run_dtds e bs (bus_of x)).stores in
    ap bus_of (replay_append apply (map Ch.bus ss) _ x)
    ∙ ap bus_of (replay_bus ss x)

-- ---- the end of a request

-- a setup before those that wait, and some behind them
abbrev pub pushed_held : List ℕ → Held → Held
pushed_held bs k =
    record {
      stand = record { phase = k.stand.phase; on = k.stand.on; waiting = k.stand.waiting + 1; uf = k.stand.uf; t = k.stand.t; gone = k.stand.gone; suspended = k.stand.suspended; was_running = k.stand.was_running };
      queue = sets k.queue 0 (bs ++ take (8 * k.stand.waiting) k.queue);
    }

abbrev pub fixed_held : Held → Held
fixed_held k =
    record {
      stand = record { phase = k.stand.phase; on = k.stand.on; waiting = k.stand.waiting + 3; uf = k.stand.uf; t = k.stand.t; gone = k.stand.gone; suspended = k.stand.suspended; was_running = k.stand.was_running };
      queue = sets k.queue (8 * k.stand.waiting) fixed_setups;
    }

-- what the device descriptor leaves alone
record Keeps (x v : World) : Type 0 where
  held_same : held_of v ≡ held_of x
  control : v.state.control ≡ x.state.control
  reply : v.lent.reply ≡ x.lent.reply

stores_device : (v : World) → Keeps v (left keeps_device v)
unfolding one apply
stores_device v = record { held_same = refl; control = refl; reply = refl }

device_keeps : (v : World) → Keeps v (left (when (λ w. asks_for 1 w.state.control) keeps_device) v)
device_keeps v = by_test (asks_for 1 v.state.control) refl
  where
    by_test : (b : Bool) → asks_for 1 v.state.control ≡ b → Keeps v (left (when (λ w. asks_for 1 w.state.control) keeps_device) v)
    by_test true e = subst (Keeps v) (sym (when_true (λ w. asks_for 1 w.state.control) keeps_device v e)) (stores_device v)
    by_test false e = subst (Keeps v) (sym (when_false (λ w. asks_for 1 w.state.control) keeps_device v e)) (record { held_same = refl; control = refl; reply = refl })

drops_held : (x : World) → held_of (left drops_request x) ≡ on_held false (held_of x)
unfolding drops_request one apply
drops_held x = refl

-- whether a first word asks for a descriptor of a type
abbrev pub asks : ℕ → ℕ → Bool
asks type first = eqb (first % 256) 0x80 && (eqb (first / 2 ^ 8 % 256) 6 && eqb (first / 2 ^ 24) type)

whole_held : (v : World) → held_of (left asks_whole v) ≡ pushed_held (0x80 ∷ 6 ∷ 0 ∷ 2 ∷ 0 ∷ 0 ∷ get_or v.lent.reply 2 0 ∷ get_or v.lent.reply 3 0 ∷ []) (held_of v)
unfolding asks_whole one apply
whole_held v = refl

fixed_held_lem : (v : World) → held_of (left (configures false) v) ≡ fixed_held (held_of v)
unfolding configures and_then one apply
fixed_held_lem v = refl

module _ (x : World) where
  abbrev d : World
  d = left drops_request x

  abbrev e : World
  e = left (when (λ w. asks_for 1 w.state.control) keeps_device) d

  first_kept : e.state.control.first ≡ x.state.control.first
  unfolding drops_request one apply
  first_kept = ap (λ (c : Control). c.first) (device_keeps d).control

  got_kept : e.state.control.got ≡ x.state.control.got
  unfolding drops_request one apply
  got_kept = ap (λ (c : Control). c.got) (device_keeps d).control

  reply_kept : e.lent.reply ≡ x.lent.reply
  unfolding drops_request one apply
  reply_kept = (device_keeps d).reply

  held_kept : held_of e ≡ on_held false (held_of x)
  held_kept = (device_keeps d).held_same ∙ drops_held x

  asks_kept : (b : Bool) → asks 2 x.state.control.first ≡ b → asks_for 2 e.state.control ≡ b
  asks_kept b h = ap (asks 2) first_kept ∙ h

  pub finishes_other : (stack : Bool) → asks 2 x.state.control.first ≡ false → held_of (left (finishes stack) x) ≡ on_held false (held_of x)
  unfolding finishes
  finishes_other stack h =
      fields_then held drops_request _ x
      ∙ fields_then held (when (λ w. asks_for 1 w.state.control) keeps_device) _ d
      ∙ ap held_of (when_false (λ w. asks_for 2 w.state.control) (takes_configuration stack) e (asks_kept false h))
      ∙ held_kept

  -- 710-713: a configuration's header
  pub finishes_header : (stack : Bool) → asks 2 x.state.control.first ≡ true → x.state.control.got ≡ 9
      → held_of (left (finishes stack) x) ≡ pushed_held (0x80 ∷ 6 ∷ 0 ∷ 2 ∷ 0 ∷ 0 ∷ get_or x.lent.reply 2 0 ∷ get_or x.lent.reply 3 0 ∷ []) (on_held false (held_of x))
  unfolding finishes
  finishes_header stack h nine =
      fields_then held drops_request _ x
      ∙ fields_then held (when (λ w. asks_for 1 w.state.control) keeps_device) _ d
      ∙ ap held_of (when_true (λ w. asks_for 2 w.state.control) (takes_configuration stack) e (asks_kept true h))
      ∙ ap held_of (if_true (λ w. eqb w.state.control.got 9) asks_whole (configures stack) e (ap (λ (n : ℕ). eqb n 9) (got_kept ∙ nine)))
      ∙ whole_held e
      ∙ ap₂ (λ (r : List ℕ) (k : Held). pushed_held (0x80 ∷ 6 ∷ 0 ∷ 2 ∷ 0 ∷ 0 ∷ get_or r 2 0 ∷ get_or r 3 0 ∷ []) k) reply_kept held_kept

  -- 714-735: the whole of it, without the device stack
  pub finishes_whole : asks 2 x.state.control.first ≡ true → eqb x.state.control.got 9 ≡ false → held_of (left (finishes false) x) ≡ fixed_held (on_held false (held_of x))
  unfolding finishes
  finishes_whole h more =
      fields_then held drops_request _ x
      ∙ fields_then held (when (λ w. asks_for 1 w.state.control) keeps_device) _ d
      ∙ ap held_of (when_true (λ w. asks_for 2 w.state.control) (takes_configuration false) e (asks_kept true h))
      ∙ ap held_of (if_false (λ w. eqb w.state.control.got 9) asks_whole (configures false) e (ap (λ (n : ℕ). eqb n 9) got_kept ∙ more))
      ∙ fixed_held_lem e
      ∙ ap fixed_held held_kept

-- ---- the stages

-- 663-667: the reply is kept, and the status stage is next
abbrev stores_reply : Run → World → Step
stores_reply r v = one (λ w. Ch.reply v.state.control.got (take (w_length v.state.control - v.state.control.got) r.bytes))

abbrev counts_reply : Run → World → Step
counts_reply r v =
    one (λ w. Ch.control (with_got v.state.control (v.state.control.got + length (take (w_length v.state.control - v.state.control.got) r.bytes))))

abbrev ends_reply : Run → Step
ends_reply r = when (λ w. r.done || leb (w_length w.state.control) w.state.control.got) to_status

abbrev replied : Run → World → World
replied r x = left to_status (left (counts_reply r x) (left (stores_reply r x) x))

reply_is : (r : Run) (x : World) → r.done ≡ true → left (keeps_reply r) x ≡ replied r x
unfolding keeps_reply here
reply_is r x e =
    let y = left (counts_reply r x) (left (stores_reply r x) x) in
    exec_then apply (stores_reply r x) (counts_reply r x then ends_reply r) x
    ∙ exec_then apply (counts_reply r x) (ends_reply r) (left (stores_reply r x) x)
    ∙ when_true (λ w. r.done || leb (w_length w.state.control) w.state.control.got) to_status y (ap (λ (b : Bool). b || leb (w_length y.state.control) y.state.control.got) e)

-- a request in its data stage, with nothing yet
pub record Runs (first second : ℕ) (c : Control) : Type 0 where
  pub stage : c.stage ≡ Data
  pub first_word : c.first ≡ first
  pub second_word : c.second ≡ second
  pub none_yet : c.got ≡ 0

-- 644
pub runs_posted : (qh first second : ℕ) (v : World) → Runs first second (left (posted qh first second) v).state.control
unfolding posted one apply
runs_posted qh first second v =
    subst (λ (x : World). Runs first second x.state.control)
    (sym (exec_then apply _ _ v ∙ exec_then apply _ _ _ ∙ exec_then apply _ _ _ ∙ exec_then apply _ _ _))
    (record { stage = refl; first_word = refl; second_word = refl; none_yet = refl })

-- the World at the end of a request that u runs
pub record Ending (stack : Bool) (u x : World) : Type 0 where
  pub is : left (controls stack) u ≡ left (finishes stack) x
  pub same : held_of x ≡ held_of u
  pub first : x.state.control.first ≡ u.state.control.first

module _ (stack : Bool) (u : World) (on : u.state.control.on ≡ true) (free : stalled u ≡ false) (early : u.state.control.stage ≡ Data) where
  after_data : (v : World) → left data_stage u ≡ v → v.state.control.stage ≡ Status → left (controls stack) u ≡ left (status_stage stack) v
  unfolding controls stages
  after_data v e s =
      if_true (λ w. w.state.control.on) (requests stack) _ u on
      ∙ if_false stalled unstalls (stages stack) u free
      ∙ if_false (λ w. in_status w.state.control.stage) (status_stage stack) (data_then_status stack) u (ap in_status early)
      ∙ exec_then apply data_stage _ u
      ∙ ap (left (if (λ w. in_status w.state.control.stage) (status_stage stack) (when timed_out drops_request))) e
      ∙ if_true (λ w. in_status w.state.control.stage) (status_stage stack) (when timed_out drops_request) v (ap in_status s)

  -- ---- no data: the status stage comes from the device

  module _ (none : eqb (w_length u.state.control) 0 ≡ true) (done : (run_dtds (endpoint 0 true) [] (bus_of u)).done ≡ true) where
    abbrev s₁ : World
    s₁ = apply (Ch.control (with_stage u.state.control Status)) u

    status_is : left data_stage u ≡ s₁
    unfolding data_stage to_status one
    status_is = if_true (λ w. eqb (w_length w.state.control) 0) to_status _ u none

    pub plain_end : World
    plain_end = ran_world held (endpoint 0 true) [] s₁

    pub ends_plain : Ending stack u plain_end
    unfolding status_stage status_ends apply plain_end
    ends_plain =
        record {
          is =
              after_data s₁ status_is refl
              ∙ if_false (λ w. status_out w.state.control) _ _ s₁ (ap (λ (b : Bool). to_host u.state.control && not b) none ∙ and_false (to_host u.state.control))
              ∙ left_runs held (endpoint 0 true) [] (status_ends stack) s₁
              ∙ if_true (λ w. (run_dtds (endpoint 0 true) [] (bus_of s₁)).done) (finishes stack) _ (ran_world held (endpoint 0 true) [] s₁) done;
          same = fields_ran held (endpoint 0 true) [] s₁;
          first = ap (λ (k : Asked). k.control.first) (fields_ran asked (endpoint 0 true) [] s₁);
        }

  -- ---- data from the device, and the status stage towards it

  abbrev r₁ : Run
  r₁ = run_dtds (endpoint 0 true) [] (bus_of u)

  module _ (some : eqb (w_length u.state.control) 0 ≡ false) (input : to_host u.state.control ≡ true) (done : r₁.done ≡ true)
      (status : (run_dtds (endpoint 0 false) [] (stored r₁.stores (bus_of u))).done ≡ true)
      (none_yet : u.state.control.got ≡ 0) (bs : List ℕ) (bytes : take (w_length u.state.control - 0) r₁.bytes ≡ bs) where
    abbrev x₁ : World
    x₁ = ran_world held (endpoint 0 true) [] u

    abbrev v₁ : World
    v₁ = replied r₁ x₁

    data_is : left data_stage u ≡ v₁
    unfolding data_stage
    data_is =
        if_false (λ w. eqb (w_length w.state.control) 0) to_status _ u some
        ∙ if_true (λ w. to_host w.state.control) data_in data_out u input
        ∙ left_runs held (endpoint 0 true) [] keeps_reply u
        ∙ reply_is r₁ x₁ done

    control_ran : x₁.state.control ≡ u.state.control
    control_ran = ap (λ (k : Asked). k.control) (fields_ran asked (endpoint 0 true) [] u)

    reply_ran : x₁.lent.reply ≡ u.lent.reply
    reply_ran = ap (λ (k : Asked). k.reply) (fields_ran asked (endpoint 0 true) [] u)

    replied_stage : v₁.state.control.stage ≡ Status
    unfolding to_status one apply
    replied_stage = refl

    replied_bus : bus_of v₁ ≡ bus_of x₁
    unfolding to_status one apply
    replied_bus = refl

    replied_held : held_of v₁ ≡ held_of x₁
    unfolding to_status one apply
    replied_held = refl

    replied_out : status_out v₁.state.control ≡ true
    unfolding to_status one apply
    replied_out = ap status_out control_ran ∙ ap₂ (λ (a b : Bool). a && not b) input some

    replied_first : v₁.state.control.first ≡ u.state.control.first
    unfolding to_status one apply
    replied_first = ap (λ (c : Control). c.first) control_ran

    kept_bytes : take (w_length x₁.state.control - x₁.state.control.got) r₁.bytes ≡ bs
    kept_bytes =
        ap (λ (c : Control). take (w_length c - c.got) r₁.bytes) control_ran
        ∙ ap (λ (n : ℕ). take (w_length u.state.control - n) r₁.bytes) none_yet
        ∙ bytes

    replied_got : v₁.state.control.got ≡ length bs
    unfolding to_status one apply
    replied_got =
        let none : 0 + length bs ≡ length bs = omega arith in
        ap₂ (λ (c : Control) (l : List ℕ). c.got + length l) control_ran kept_bytes ∙ ap (λ (n : ℕ). n + length bs) none_yet ∙ none

    replied_reply : v₁.lent.reply ≡ sets u.lent.reply 0 bs
    unfolding to_status one apply
    replied_reply =
        ap₂ (λ (n : ℕ) (l : List ℕ). sets x₁.lent.reply n l) (ap (λ (c : Control). c.got) control_ran ∙ none_yet) kept_bytes
        ∙ ap (λ (l : List ℕ). sets l 0 bs) reply_ran

    pub data_end : World
    data_end = ran_world held (endpoint 0 false) [] v₁

    pub ends_data : Ending stack u data_end
    unfolding status_stage status_ends data_end
    ends_data =
        record {
          is =
              after_data v₁ data_is replied_stage
              ∙ if_true (λ w. status_out w.state.control) _ _ v₁ replied_out
              ∙ left_runs held (endpoint 0 false) [] (status_ends stack) v₁
              ∙ if_true (λ w. (run_dtds (endpoint 0 false) [] (bus_of v₁)).done) (finishes stack) _ (ran_world held (endpoint 0 false) [] v₁)
              (ap (λ (b : Bus). (run_dtds (endpoint 0 false) [] b).done) (replied_bus ∙ ran_bus (endpoint 0 true) [] u) ∙ status);
          same = fields_ran held (endpoint 0 false) [] v₁ ∙ replied_held ∙ fields_ran held (endpoint 0 true) [] u;
          first = ap (λ (k : Asked). k.control.first) (fields_ran asked (endpoint 0 false) [] v₁) ∙ replied_first;
        }

    pub data_got : data_end.state.control.got ≡ length bs
    unfolding data_end
    data_got = ap (λ (k : Asked). k.control.got) (fields_ran asked (endpoint 0 false) [] v₁) ∙ replied_got

    pub data_reply : data_end.lent.reply ≡ sets u.lent.reply 0 bs
    unfolding data_end
    data_reply = ap (λ (k : Asked). k.reply) (fields_ran asked (endpoint 0 false) [] v₁) ∙ replied_reply
