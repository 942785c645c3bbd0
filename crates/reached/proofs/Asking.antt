-- Setups that are posted and answered, as calls: which setups wait, which request runs, and how often enumeration ended.
use Prim.Native.Nat.{ℕ, zero, suc, ◌+◌, ◌-◌, ◌*◌, ◌/◌, ◌^◌, ◌≤◌, ◌<◌}
use mathlib.Core.Path.{◌≡◌, refl, ap, ap₂, sym, subst, ◌∙◌}
use mathlib.Core.Bool.{Bool, true, false}
use mathlib.Core.List.{List, [], ◌∷◌, ◌++◌}
use native.Mathlib.Omega.{arith}
use lib.Dec.{eqb, leb, ltb}
use lib.ListN.{length, get_or, take, drop, replicate}
use lib.Seq.{sets, sets-eq, take_at, get_or-take, take-nil}
use borrow.Author.Tests.{leb-true, ne_eqb}
use Rattle.bits.specs.Pick.{pick}
use Rattle.bits.specs.Word.{any}
use Rattle.bits.proofs.Tests.{and_first}
use Rattle.bus.specs.Memory.{Memory}
use Rattle.bus.specs.Words.{word_at}
use Rattle.bus.specs.Steps.{and_then, exec_then}
use Rattle.bus.specs.Stores.{Bus, bus, stored}
use Rattle.usbdev.specs.Offsets.{USBCMD, USBSTS, EPCR0}
use Rattle.dtd.specs.Dtd.{endpoint, queue_head, run_dtds}
use Rattle.record.specs.declared.Phase.TheVariants.{Idle, Vbus, Reset, Enumerate}
use Rattle.record.specs.declared.Stage.TheVariants.{Data}
use Rattle.record.specs.declared.Control.{Control}
use Rattle.record.specs.declared.Settings.{Settings}
use Rattle.record.specs.Record.{wrapped, raised, counter_of, enumerations}
use Rattle.record.specs.Setups.{little}
use Rattle.record.specs.World.{World, bus_of}
use Rattle.record.specs.Change.{apply, left, nothing, one, here, drained}
use Rattle.model.specs.Phases.{counts, ticks, suspends, leaves, starts_frame, first_setups}
use Rattle.model.specs.Control.{w_length, to_host, stalled, posts, configured, finishes, fixed_setups, requests, controls}
use Rattle.model.specs.Microframe as M
use Rattle.model.specs.Microframe.{enumerates, talks}
use Rattle.model.specs.Reach.{phase_by, to_phase}
use Rattle.model.proofs.Fields.{fields_then, keeps_if, keeps_nothing}
use Rattle.model.proofs.Progress.{if_false, when_true}
use Rattle.bounds.specs.Bounds.{MOST}
use Rattle.kept.proofs.Asked.{Asked, asked_of}
use Rattle.kept.proofs.Asked as K
use Rattle.kept.proofs.Unasked as U
use Rattle.kept.proofs.Shape.{Shape, step_kept}
use Rattle.usbhost.specs.declared.Host.{Host}
use Rattle.usbhost.specs.Frame.{world_of, host_in, lengths_ok}
use Rattle.history.specs.Calls.{Call, microframe, step, after}
use Rattle.history.specs.Sums.{Tally, none, tally}
use Rattle.history.specs.Accepts.{number_of, AtEach}
use Rattle.reached.specs.Lists.{Areas, lend, with_input}
use Rattle.reached.specs.Claims.{NoneRefused}
use Rattle.reached.proofs.Standing.{Stand, Held, held_of}
use Rattle.reached.proofs.Opening.{opened_held, Plain, awake_memory, ticked, phase_ticked, frame_in_lem}
use Rattle.reached.proofs.Page.{framed_memory, framed_memory_lem}
use Rattle.reached.proofs.Early.{asking, entered_held, posted_held, on_held, asked, asked_held, asked_on_lem, asked_waiting, frame_talks, frame_posts, frame_resets}
use Rattle.reached.proofs.Controls.{pushed_held, fixed_held, asks, finishes_other, finishes_header, finishes_whole, Runs, runs_posted, Ending, plain_end, ends_plain, data_end, ends_data, data_got, data_reply}
use Rattle.reached.proofs.Enumerated.{ends_by, enumerated_frame}
use Rattle.reached.proofs.Summed.{tested_tally, tested_early}
use Rattle.reached.proofs.Leading.{Fit, Long, Queue, On, Enters, Leads, enters, accepted, step_is, next, tallied_is, after_append, tally_append, accepted_append}
use Rattle.reached.proofs.Queued.{all_below, queue_sets, queue_posted}
use Rattle.reached.proofs.Waits.{Calm, standing, streams_at, plain_of, leads_idle, wait_vbus, leads_powers, wait_reset}
use Rattle.reached.proofs.Lendings.{Flags, Replies}

-- ---- the array of setups, by the bytes that wait

take_drop : (m n : ℕ) (l : List ℕ) → take m (drop n l) ≡ drop n (take (n + m) l)
take_drop m zero l = let e : m ≡ 0 + m = omega arith in ap (λ (k : ℕ). take k l) e
take_drop m (suc n) [] = take-nil m ∙ sym (ap (drop (suc n)) (take-nil (suc n + m)))
take_drop m (suc n) (x ∷ xs) = let e : suc (n + m) ≡ suc n + m = omega arith in take_drop m n xs ∙ ap (λ (k : ℕ). drop (suc n) (take k (x ∷ xs))) e

-- put at the start
take_sets : (q bs : List ℕ) → length bs ≤ length q → take (length bs) (sets q 0 bs) ≡ bs
take_sets q bs h = ap (take (length bs)) (sets-eq bs q 0 (omega (arith, h))) ∙ take_at bs _ (length bs) refl

-- put behind those that wait
take_behind : (q ws bs : List ℕ) (n : ℕ) → take (length ws) q ≡ ws → n ≡ length ws → length ws + length bs ≤ length q → take (length (ws ++ bs)) (sets q n bs) ≡ ws ++ bs
take_behind q ws bs n waits e h =
    ap (λ (i : ℕ). take (length (ws ++ bs)) (sets q i bs)) e
    ∙ ap (take (length (ws ++ bs))) (sets-eq bs q (length ws) h)
    ∙ ap (λ (l : List ℕ). take (length (ws ++ bs)) (l ++ bs ++ drop (length ws + length bs) q)) waits
    ∙ take_at (ws ++ bs) _ (length (ws ++ bs)) refl

-- the first leaves
take_posted : (q ws : List ℕ) (n : ℕ) → take (length ws) q ≡ ws → n ≡ length ws → 8 ≤ length ws → take (length (drop 8 ws)) (drained q n 8) ≡ drop 8 ws
unfolding drained
take_posted q ws n waits e h =
    let all : 8 + (n - 8) ≡ length ws = omega (arith, e, h) in
    let front : take (n - 8) (drop 8 q) ≡ drop 8 ws = take_drop (n - 8) 8 q ∙ ap (λ (k : ℕ). drop 8 (take k q)) all ∙ ap (drop 8) waits in
    ap (λ (l : List ℕ). take (length (drop 8 ws)) (l ++ drop (n - 8) q)) front
    ∙ take_at (drop 8 ws) _ (length (drop 8 ws)) refl

-- its words
little_is : (q ws : List ℕ) → take (length ws) q ≡ ws → (i : ℕ) → i + 3 < length ws → little q i ≡ little ws i
little_is q ws waits i h = omega (arith, byte i (omega arith), byte (i + 1) (omega arith), byte (i + 2) (omega arith), byte (i + 3) h)
  where
    byte : (j : ℕ) → j < length ws → get_or q j 0 ≡ get_or ws j 0
    byte j l = sym (get_or-take (length ws) q j 0 l) ∙ ap (λ (x : List ℕ). get_or x j 0) waits

-- a byte of a reply that was kept
reply_byte : (l bs : List ℕ) (i : ℕ) → length bs ≤ length l → i < length bs → get_or (sets l 0 bs) i 0 ≡ get_or bs i 0
reply_byte l bs i h k = sym (get_or-take (length bs) (sets l 0 bs) i 0 k) ∙ ap (λ (x : List ℕ). get_or x i 0) (take_sets l bs h)

-- ---- the request at control is that at entry

control_counts : (w : World) → (left counts w).state.control ≡ w.state.control
unfolding counts and_then one apply raised
control_counts w = refl

control_leaves : (stack : Bool) (v : World) → (left (leaves stack true) v).state.control ≡ v.state.control
unfolding leaves one apply nothing
control_leaves true v = refl
control_leaves false v = refl

control_asked : (t : ℕ) (w : World) (p : Plain t w) → (asked t w p).state.control ≡ w.state.control
control_asked t w p =
    let c = w.settings in
    ap (λ (k : Asked). k.control) (U.keeps_frame (phase_by true w))
    ∙ ap (λ (v : World). v.state.control) (phase_ticked true w p.still)
    ∙ control_leaves c.device_stack (left (suspends false) (ticked c w))
    ∙ ap (λ (k : Asked). k.control) (U.keeps_suspends false (ticked c w))
    ∙ ap (λ (k : Asked). k.control) (keeps_if K.asked (λ v. c.midi_in) ticks nothing U.keeps_ticks (keeps_nothing K.asked) (left counts w))
    ∙ control_counts w

reply_asked : (t : ℕ) (w : World) (p : Plain t w) → length (asked t w p).lent.reply ≡ length w.lent.reply
unfolding phase_by
reply_asked t w p =
    ap (λ (z : Shape). z.reply) (step_kept starts_frame (phase_by true w)) ∙ ap (λ (z : Shape). z.reply) (step_kept (to_phase w.settings true) w)

-- what is asked after the microframe is what is asked after control
frame_asked : (t : ℕ) (w : World) (p : Plain t w) → w.state.phase ≡ Enumerate → asked_of (left (M.microframe t) w) ≡ asked_of (left (controls w.settings.device_stack) (asked t w p))
unfolding talks enumerates
frame_asked t w p e =
    ap asked_of (frame_in_lem t w p Enumerate e ∙ when_true (λ v. true) _ (phase_by true w) refl ∙ exec_then apply _ _ (phase_by true w))
    ∙ U.keeps_transfers w.settings t _
    ∙ fields_then K.asked _ _ (phase_by true w)

-- ---- lists of calls from hosts of one kind to hosts of another, which leave the sums

pub record Does (cs : List Call) (P Q : Host → Type 0) : Type 0 where
  pub host : (h : Host) → P h → Q (after h cs)
  pub sums : (h : Host) → P h → (y : Tally) → tally h y cs ≡ y
  pub numbers : (h : Host) → P h → NoneRefused h cs

pub does_then : {cs ds : List Call} {P Q R : Host → Type 0} → Does cs P Q → Does ds Q R → Does (cs ++ ds) P R
does_then {cs} {ds} {P} {Q} {R} p q =
    record {
      host = λ h o. subst R (sym (after_append h cs ds)) (q.host (after h cs) (p.host h o));
      sums = λ h o y. tally_append h y cs ds ∙ ap (λ (z : Tally). tally (after h cs) z ds) (p.sums h o y) ∙ q.sums (after h cs) (p.host h o) y;
      numbers = λ h o. accepted_append h cs ds (p.numbers h o) (q.numbers (after h cs) (p.host h o));
    }

does_many : (call : Call) (n : ℕ) (P : ℕ → Host → Type 0) → ((i : ℕ) → i < n → Does (call ∷ []) (P i) (P (suc i))) → Does (replicate n call) (P 0) (P n)
unfolding after tally AtEach
does_many call zero P f = record { host = λ h o. o; sums = λ h o y. refl; numbers = λ h o. tt }
does_many call (suc n) P f = does_then (f 0 (omega arith)) (does_many call n (λ i. P (suc i)) (λ i h. f (suc i) (omega arith)))

-- ---- hosts with MIDI input and without the device stack

-- of a standing, with these bytes of setups, and so many enumerations
pub record Waiting (a : Areas) (k : Stand) (ws : List ℕ) (n : ℕ) (h : Host) : Type 0 where
  pub on : On with_input a k h
  pub waits : take (length ws) h.setups ≡ ws
  pub ended : counter_of enumerations h.stats ≡ n

-- one whose request runs
pub record Running (a : Areas) (k : Stand) (ws : List ℕ) (n first second : ℕ) (h : Host) : Type 0 where
  pub waiting : Waiting a k ws n h
  pub request : Runs first second h.control

module _ (a : Areas) (long : Long a) (calm : Calm with_input 0) (m : Memory) (fit : Fit m) (rs : any (word_at m.page USBCMD) 1 ≡ true) where
  abbrev call : Call
  call = microframe 0 (lend a m)

  -- a microframe from a host of a standing
  module _ (k : Stand) (few : k.uf < MOST) (there : k.gone ≡ false) (h : Host) (o : On with_input a k h) where
    abbrev w : World
    w = world_of h (lend a m)

    entered : Enters with_input k m w
    entered = enters with_input a long refl 0 m fit k few h o

    plain : Plain 0 w
    plain = plain_of with_input a long 0 calm m fit rs k w there few entered

    step_by : step h call ≡ host_in (left (M.microframe 0) w)
    step_by = step_is with_input a long refl 0 m fit k few h o

    -- enumerations so far
    pub ended_by : counter_of enumerations (step h call).stats ≡ pick (ends_by k.phase k.on k.waiting) (wrapped (counter_of enumerations h.stats + 1)) (counter_of enumerations h.stats)
    ended_by =
        ap (λ (g : Host). counter_of enumerations g.stats) step_by
        ∙ enumerated_frame 0 w plain (ap (λ (c : Settings). c.device_stack) o.settings)
        ∙ ap (λ (x : Stand). pick (ends_by x.phase x.on x.waiting) (wrapped (counter_of enumerations h.stats + 1)) (counter_of enumerations h.stats)) o.stands

    -- before the stream, by what it holds then
    module _ (quiet : streams_at k ≡ false) (k' : Stand) (q : List ℕ) (is : held_of (left (M.microframe 0) w) ≡ record { stand = k'; queue = q }) where
      on_by : Queue q → On with_input a k' (step h call)
      on_by ok =
          let y : Tally = record { since = none; ever = none } in
          next with_input a long refl 0 m fit k few h o k' y y
          (record {
            stands = ap (λ (x : Held). x.stand) is;
            queue = λ z. subst Queue (sym (ap (λ (x : Held). x.queue) is)) ok;
            sums = tested_tally 0 w false false 0 false (tested_early 0 w plain (ap streams_at o.stands ∙ quiet)) y;
          })

      setups_by : (step h call).setups ≡ q
      setups_by = ap (λ (g : Host). g.setups) step_by ∙ ap (λ (x : Held). x.queue) is

    sums_by : streams_at k ≡ false → (y : Tally) → tally h y (call ∷ []) ≡ y
    unfolding tally
    sums_by quiet y =
        tallied_is with_input a long refl 0 m fit k few h o y
        ∙ tested_tally 0 w false false 0 false (tested_early 0 w plain (ap streams_at o.stands ∙ quiet)) y

    numbers_by_lem : NoneRefused h (call ∷ [])
    unfolding AtEach number_of
    numbers_by_lem = (accepted with_input a long refl 0 m fit k few h o, tt)

  -- ---- a microframe before the first setup

  does_early : (k k' : Stand) → k.uf < MOST → k.gone ≡ false → streams_at k ≡ false → ends_by k.phase k.on k.waiting ≡ false
      → ((y : Tally) → Leads with_input a (call ∷ []) k k' y y) → (n : ℕ) → Does (call ∷ []) (Waiting a k [] n) (Waiting a k' [] n)
  unfolding after
  does_early k k' few there quiet before leads n =
      let y : Tally = record { since = none; ever = none } in
      record {
        host = λ h p.
            record {
              on = (leads y).host h p.on;
              waits = refl;
              ended = ended_by k few there h p.on ∙ ap (λ (b : Bool). pick b (wrapped (counter_of enumerations h.stats + 1)) (counter_of enumerations h.stats)) before ∙ p.ended;
            };
        sums = λ h p. sums_by k few there h p.on quiet;
        numbers = λ h p. numbers_by_lem k few there h p.on;
      }

  -- 1 in Idle, 400 and 1 in Vbus, 80 in Reset
  pub does_powered : (n : ℕ) → Does (replicate 482 call) (Waiting a (standing Idle false 0 0 0 false) [] n) (Waiting a (standing Reset false 0 482 402 false) [] n)
  does_powered n =
      does_then {cs = call ∷ []} {ds = replicate 481 call}
      (does_early (standing Idle false 0 0 0 false) (standing Vbus false 0 1 1 false) (omega arith) refl refl refl (leads_idle with_input a long 0 calm m fit rs) n)
      (does_then {cs = replicate 400 call} {ds = replicate 81 call}
      (does_many call 400 (λ i. Waiting a (standing Vbus false 0 (1 + i) 1 false) [] n) (λ i h.
      let same : 1 + i + 1 ≡ 1 + suc i = omega arith in
      subst (λ (x : ℕ). Does (call ∷ []) (Waiting a (standing Vbus false 0 (1 + i) 1 false) [] n) (Waiting a (standing Vbus false 0 x 1 false) [] n)) same
      (does_early (standing Vbus false 0 (1 + i) 1 false) (standing Vbus false 0 (1 + i + 1) 1 false) (omega arith) refl refl refl
      (wait_vbus with_input a long 0 calm m fit rs (1 + i) 1 (omega arith) (omega arith) (omega arith)) n)))
      (does_then {cs = call ∷ []} {ds = replicate 80 call}
      (does_early (standing Vbus false 0 401 1 false) (standing Reset false 0 402 402 false) (omega arith) refl refl refl
      (leads_powers with_input a long 0 calm m fit rs 401 1 (omega arith) (omega arith) (omega arith)) n)
      (does_many call 80 (λ i. Waiting a (standing Reset false 0 (402 + i) 402 false) [] n) (λ i h.
      let same : 402 + i + 1 ≡ 402 + suc i = omega arith in
      subst (λ (x : ℕ). Does (call ∷ []) (Waiting a (standing Reset false 0 (402 + i) 402 false) [] n) (Waiting a (standing Reset false 0 x 402 false) [] n)) same
      (does_early (standing Reset false 0 (402 + i) 402 false) (standing Reset false 0 (402 + i + 1) 402 false) (omega arith) refl refl refl
      (wait_reset with_input a long 0 calm m fit rs (402 + i) 402 (omega arith) (omega arith) (omega arith)) n)))))

  -- ---- the first four setups

  module _ (clear : any (word_at m.page USBSTS) 0x40 ≡ false) (n : ℕ) where
    abbrev before : Stand
    before = standing Reset false 0 482 402 false

    reset_is : (h : Host) (p : Waiting a before [] n h) → held_of (left (M.microframe 0) (world_of h (lend a m))) ≡ record { stand = standing Enumerate false 4 483 483 false; queue = sets h.setups 0 first_setups }
    reset_is h p =
        let o = p.on in
        let e = entered before (omega arith) refl h o in
        let v = world_of h (lend a m) in
        frame_resets 0 v (plain before (omega arith) refl h o) (ap (λ (x : Stand). x.suspended) o.stands) (ap (λ (x : Stand). x.phase) o.stands)
        (ap (λ (x : Stand). ltb (wrapped (x.t + 80)) (x.uf + 1)) o.stands) clear
        ∙ ap₂ (λ (b : Bool) (x : Stand). asking (entered_held Enumerate (opened_held b (record { stand = x; queue = h.setups })))) (ap (λ (c : Settings). c.device_stack) o.settings) o.stands

    pub does_resets : Does (call ∷ []) (Waiting a before [] n) (Waiting a (standing Enumerate false 4 483 483 false) first_setups n)
    unfolding after
    does_resets =
        record {
          host = λ h p.
              let o = p.on in
              let q = sets h.setups 0 first_setups in
              let room = o.queue.long in
              record {
                on = on_by before (omega arith) refl h o refl _ q (reset_is h p) (queue_sets h.setups 0 first_setups refl o.queue);
                waits = ap (take 32) (setups_by before (omega arith) refl h o refl _ q (reset_is h p)) ∙ take_sets h.setups first_setups (omega arith);
                ended = ended_by before (omega arith) refl h o ∙ p.ended;
              };
          sums = λ h p. sums_by before (omega arith) refl h p.on refl;
          numbers = λ h p. numbers_by_lem before (omega arith) refl h p.on;
        }

  -- ---- a setup is posted

  module _ (i u s n : ℕ) (ws : List ℕ) (size : length ws ≡ 8 * suc i) (small : i < 256) (few : u < MOST) where
    abbrev posting : Stand
    posting = standing Enumerate false (suc i) u s false

    abbrev running : Stand
    running = standing Enumerate true i (u + 1) s false

    posted_is : (h : Host) (p : Waiting a posting ws n h) → held_of (left (M.microframe 0) (world_of h (lend a m))) ≡ record { stand = running; queue = drained h.setups (8 * suc i) 8 }
    posted_is h p =
        let o = p.on in
        let less : suc i - 1 ≡ i = omega arith in
        frame_posts 0 (world_of h (lend a m)) (plain posting few refl h o) (ap (λ (x : Stand). x.phase) o.stands) (ap (λ (x : Stand). x.on) o.stands) (omega (arith, ap (λ (x : Stand). x.waiting) o.stands))
        ∙ ap₂ (λ (b : Bool) (x : Stand). posted_held (opened_held b (record { stand = x; queue = h.setups }))) (ap (λ (c : Settings). c.device_stack) o.settings) o.stands
        ∙ ap (λ (j : ℕ). record { stand = standing Enumerate true j (u + 1) s false; queue = drained h.setups (8 * suc i) 8 }) less

    runs_by : (h : Host) (p : Waiting a posting ws n h) → Runs (little ws 0) (little ws 4) (step h call).control
    unfolding controls posts here
    runs_by h p =
        let o = p.on in
        let v = world_of h (lend a m) in
        let pl = plain posting few refl h o in
        let x = asked 0 v pl in
        let same : x.own.setups ≡ h.setups = ap (λ (k : Held). k.queue) (asked_held 0 v pl) in
        let off : x.state.control.on ≡ false = asked_on_lem 0 v pl false (ap (λ (k : Stand). k.on) o.stands) in
        let some : x.state.lengths.setups ≡ suc i = asked_waiting 0 v pl (suc i) (ap (λ (k : Stand). k.waiting) o.stands) in
        let there : (left (M.microframe 0) v).state.control ≡ (left posts x).state.control =
        ap (λ (k : Asked). k.control) (frame_asked 0 v pl (ap (λ (k : Stand). k.phase) o.stands))
        ∙ ap (λ (z : World). z.state.control)
        (if_false (λ z. z.state.control.on) (requests v.settings.device_stack) _ x off
        ∙ if_false (λ z. eqb z.state.lengths.setups 0) configured posts x (ne_eqb x.state.lengths.setups 0 (λ z. omega (arith, z, some)))) in
        let words : Runs (little x.own.setups 0) (little x.own.setups 4) (left posts x).state.control = runs_posted (queue_head (endpoint 0 false) x.lent.memory.page) (little x.own.setups 0) (little x.own.setups 4) x in
        let first : little x.own.setups 0 ≡ little ws 0 = ap (λ (q : List ℕ). little q 0) same ∙ little_is h.setups ws p.waits 0 (omega (arith, size)) in
        let second : little x.own.setups 4 ≡ little ws 4 = ap (λ (q : List ℕ). little q 4) same ∙ little_is h.setups ws p.waits 4 (omega (arith, size)) in
        let control = ap (λ (g : Host). g.control) (step_by posting few refl h o) ∙ there in
        record {
          stage = ap (λ (c : Control). c.stage) control ∙ words.stage;
          first_word = ap (λ (c : Control). c.first) control ∙ words.first_word ∙ first;
          second_word = ap (λ (c : Control). c.second) control ∙ words.second_word ∙ second;
          none_yet = ap (λ (c : Control). c.got) control ∙ words.none_yet;
        }

    quiet_posting : streams_at posting ≡ false
    quiet_posting = ne_eqb (suc i) 0 (λ z. omega (arith, z))

    pub does_posts : Does (call ∷ []) (Waiting a posting ws n) (Running a running (drop 8 ws) n (little ws 0) (little ws 4))
    unfolding after
    does_posts =
        record {
          host = λ h p.
              let o = p.on in
              let q = drained h.setups (8 * suc i) 8 in
              record {
                waiting = record {
                  on = on_by posting few refl h o quiet_posting running q (posted_is h p) (queue_posted h.setups (8 * suc i) (omega arith) o.queue);
                  waits = ap (take (length (drop 8 ws))) (setups_by posting few refl h o quiet_posting running q (posted_is h p)) ∙ take_posted h.setups ws (8 * suc i) p.waits (omega (arith, size)) (omega (arith, size));
                  ended = ended_by posting few refl h o ∙ ap (λ (b : Bool). pick b (wrapped (counter_of enumerations h.stats + 1)) (counter_of enumerations h.stats)) quiet_posting ∙ p.ended;
                };
                request = runs_by h p;
              };
          sums = λ h p. sums_by posting few refl h p.on quiet_posting;
          numbers = λ h p. numbers_by_lem posting few refl h p.on;
        }

  -- ---- and answered

  module _ (flags : Flags m) (i u s n : ℕ) (few : u < MOST) (first second : ℕ) (ws : List ℕ) (size : length ws ≡ 8 * i) where
    abbrev asks_now : Stand
    asks_now = standing Enumerate true i u s false

    module _ (h : Host) (p : Running a asks_now ws n first second h) where
      abbrev o : On with_input a asks_now h
      o = p.waiting.on

      abbrev v : World
      v = world_of h (lend a m)

      pl : Plain 0 v
      pl = plain asks_now few refl h o

      abbrev x : World
      x = asked 0 v pl

      control_is : x.state.control ≡ h.control
      control_is = control_asked 0 v pl

      on_is : x.state.control.on ≡ true
      on_is = asked_on_lem 0 v pl true (ap (λ (k : Stand). k.on) o.stands)

      memory_is : x.lent.memory ≡ framed_memory m
      memory_is = framed_memory_lem (phase_by true v) ∙ ap framed_memory (awake_memory 0 v pl (ap (λ (k : Stand). k.suspended) o.stands))

      bus_is : bus_of x ≡ bus (framed_memory m) x.state.port.line
      bus_is = ap (λ (z : Memory). bus z x.state.port.line) memory_is

      free : stalled x ≡ false
      free = ap (λ (z : Memory). any (word_at z.page EPCR0) 0x10001) memory_is ∙ flags.free

      stage_is : x.state.control.stage ≡ Data
      stage_is = ap (λ (c : Control). c.stage) control_is ∙ p.request.stage

      done_is : (run_dtds (endpoint 0 true) [] (bus_of x)).done ≡ true
      done_is = ap (λ (b : Bus). (run_dtds (endpoint 0 true) [] b).done) bus_is ∙ flags.done x.state.port.line

      first_is : x.state.control.first ≡ first
      first_is = ap (λ (c : Control). c.first) control_is ∙ p.request.first_word

      second_is : x.state.control.second ≡ second
      second_is = ap (λ (c : Control). c.second) control_is ∙ p.request.second_word

      got_is : x.state.control.got ≡ 0
      got_is = ap (λ (c : Control). c.got) control_is ∙ p.request.none_yet

      -- what is held at the end of the microframe, by what the request's end makes of it
      held_by : (z : World) → Ending false x z → (f : Held → Held) → held_of (left (finishes false) z) ≡ f (on_held false (held_of z))
          → held_of (left (M.microframe 0) v) ≡ f (record { stand = standing Enumerate false i (u + 1) s false; queue = h.setups })
      held_by z e f law =
          let settings : v.settings.device_stack ≡ false = ap (λ (c : Settings). c.device_stack) o.settings in
          frame_talks 0 v pl Enumerate (ap (λ (k : Stand). k.phase) o.stands) refl
          ∙ ap (λ (b : Bool). held_of (left (controls b) x)) settings
          ∙ ap held_of e.is ∙ law
          ∙ ap (λ (k : Held). f (on_held false k)) (e.same ∙ asked_held 0 v pl)
          ∙ ap₂ (λ (b : Bool) (k : Stand). f (on_held false (opened_held b (record { stand = k; queue = h.setups })))) settings o.stands

      -- ---- with data from the device

      module _ (bs : List ℕ) (replies : Replies m bs) (some : eqb (second / 2 ^ 16) 0 ≡ false) (input : any first 0x80 ≡ true) (whole : take (second / 2 ^ 16 - 0) bs ≡ bs) where
        status_is : (run_dtds (endpoint 0 false) [] (stored (run_dtds (endpoint 0 true) [] (bus_of x)).stores (bus_of x))).done ≡ true
        status_is =
            ap (λ (b : Bus). (run_dtds (endpoint 0 false) [] (stored (run_dtds (endpoint 0 true) [] b).stores b)).done) bus_is ∙ replies.status x.state.port.line

        bytes_is : take (w_length x.state.control - 0) (run_dtds (endpoint 0 true) [] (bus_of x)).bytes ≡ take (second / 2 ^ 16 - 0) bs
        bytes_is =
            ap₂ (λ (z : ℕ) (l : List ℕ). take (z / 2 ^ 16 - 0) l) second_is
            (ap (λ (b : Bus). (run_dtds (endpoint 0 true) [] b).bytes) bus_is ∙ replies.bytes x.state.port.line)

        some_is : eqb (w_length x.state.control) 0 ≡ false
        some_is = ap (λ (z : ℕ). eqb (z / 2 ^ 16) 0) second_is ∙ some

        input_is : to_host x.state.control ≡ true
        input_is = ap (λ (z : ℕ). any z 0x80) first_is ∙ input

        abbrev end : World
        end = data_end false x on_is free stage_is some_is input_is done_is status_is got_is bs (bytes_is ∙ whole)

        ending : Ending false x end
        ending = ends_data false x on_is free stage_is some_is input_is done_is status_is got_is bs (bytes_is ∙ whole)

        end_first : end.state.control.first ≡ first
        end_first = ending.first ∙ first_is

        end_got : end.state.control.got ≡ length bs
        end_got = data_got false x on_is free stage_is some_is input_is done_is status_is got_is bs (bytes_is ∙ whole)

        end_reply : end.lent.reply ≡ sets x.lent.reply 0 bs
        end_reply = data_reply false x on_is free stage_is some_is input_is done_is status_is got_is bs (bytes_is ∙ whole)

        device_held : asks 2 first ≡ false → held_of (left (M.microframe 0) v) ≡ record { stand = standing Enumerate false i (u + 1) s false; queue = h.setups }
        device_held other = held_by end ending (λ k. k) (finishes_other end false (ap (asks 2) end_first ∙ other))

        long_reply : length bs ≤ 65535 → length bs ≤ length x.lent.reply
        unfolding lengths_ok
        long_reply e = omega (arith, e, reply_asked 0 v pl, leb-true 65535 (length a.reply) (and_first (leb 65535 (length a.reply)) _ long.lengths))

        header_held : asks 2 first ≡ true → length bs ≡ 9
            → held_of (left (M.microframe 0) v) ≡ pushed_held (0x80 ∷ 6 ∷ 0 ∷ 2 ∷ 0 ∷ 0 ∷ get_or bs 2 0 ∷ get_or bs 3 0 ∷ []) (record { stand = standing Enumerate false i (u + 1) s false; queue = h.setups })
        header_held other nine =
            let byte : (j : ℕ) → j < 9 → get_or end.lent.reply j 0 ≡ get_or bs j 0 = λ j l. ap (λ (z : List ℕ). get_or z j 0) end_reply ∙ reply_byte x.lent.reply bs j (long_reply (omega (arith, nine))) (omega (arith, nine, l)) in
            held_by end ending (pushed_held (0x80 ∷ 6 ∷ 0 ∷ 2 ∷ 0 ∷ 0 ∷ get_or bs 2 0 ∷ get_or bs 3 0 ∷ []))
            (finishes_header end false (ap (asks 2) end_first ∙ other) (end_got ∙ nine)
            ∙ ap₂ (λ (b₂ b₃ : ℕ). pushed_held (0x80 ∷ 6 ∷ 0 ∷ 2 ∷ 0 ∷ 0 ∷ b₂ ∷ b₃ ∷ []) (on_held false (held_of end))) (byte 2 (omega arith)) (byte 3 (omega arith)))

        whole_held : asks 2 first ≡ true → eqb (length bs) 9 ≡ false → held_of (left (M.microframe 0) v) ≡ fixed_held (record { stand = standing Enumerate false i (u + 1) s false; queue = h.setups })
        whole_held other more = held_by end ending fixed_held (finishes_whole end (ap (asks 2) end_first ∙ other) (ap (λ (z : ℕ). eqb z 9) end_got ∙ more))

      -- ---- without

      plain_held : eqb (second / 2 ^ 16) 0 ≡ true → asks 2 first ≡ false → held_of (left (M.microframe 0) v) ≡ record { stand = standing Enumerate false i (u + 1) s false; queue = h.setups }
      plain_held none other =
          let empty : eqb (w_length x.state.control) 0 ≡ true = ap (λ (z : ℕ). eqb (z / 2 ^ 16) 0) second_is ∙ none in
          let e = ends_plain false x on_is free stage_is empty done_is in
          held_by (plain_end false x on_is free stage_is empty done_is) e (λ k. k)
          (finishes_other (plain_end false x on_is free stage_is empty done_is) false (ap (asks 2) (e.first ∙ first_is) ∙ other))

    -- the setups that wait then, by their bytes
    ends_by_lem : (j : ℕ) (vs : List ℕ) (q : Host → List ℕ)
        → ((h : Host) → Running a asks_now ws n first second h → held_of (left (M.microframe 0) (world_of h (lend a m))) ≡ record { stand = standing Enumerate false j (u + 1) s false; queue = q h })
        → ((h : Host) → Running a asks_now ws n first second h → Queue (q h)) → ((h : Host) → Running a asks_now ws n first second h → take (length vs) (q h) ≡ vs)
        → Does (call ∷ []) (Running a asks_now ws n first second) (Waiting a (standing Enumerate false j (u + 1) s false) vs n)
    unfolding after
    ends_by_lem j vs q law queue waits =
        record {
          host = λ h p.
              let k = standing Enumerate false j (u + 1) s false in
              record {
                on = on_by asks_now few refl h p.waiting.on refl k (q h) (law h p) (queue h p);
                waits = ap (take (length vs)) (setups_by asks_now few refl h p.waiting.on refl k (q h) (law h p)) ∙ waits h p;
                ended = ended_by asks_now few refl h p.waiting.on ∙ p.waiting.ended;
              };
          sums = λ h p. sums_by asks_now few refl h p.waiting.on refl;
          numbers = λ h p. numbers_by_lem asks_now few refl h p.waiting.on;
        }

    pub answers_plain : eqb (second / 2 ^ 16) 0 ≡ true → asks 2 first ≡ false → Does (call ∷ []) (Running a asks_now ws n first second) (Waiting a (standing Enumerate false i (u + 1) s false) ws n)
    answers_plain none other = ends_by_lem i ws (λ h. h.setups) (λ h p. plain_held h p none other) (λ h p. p.waiting.on.queue) (λ h p. p.waiting.waits)

    module _ (bs : List ℕ) (replies : Replies m bs) (some : eqb (second / 2 ^ 16) 0 ≡ false) (input : any first 0x80 ≡ true) (whole : take (second / 2 ^ 16 - 0) bs ≡ bs) where
      pub answers_device : asks 2 first ≡ false → Does (call ∷ []) (Running a asks_now ws n first second) (Waiting a (standing Enumerate false i (u + 1) s false) ws n)
      answers_device other = ends_by_lem i ws (λ h. h.setups) (λ h p. device_held h p bs replies some input whole other) (λ h p. p.waiting.on.queue) (λ h p. p.waiting.waits)

      -- where none waits: the whole configuration is asked for
      pub answers_header_lem : asks 2 first ≡ true → length bs ≡ 9 → i ≡ 0 → (b₂ b₃ : ℕ) → get_or bs 2 0 ≡ b₂ → get_or bs 3 0 ≡ b₃ → all_below (0x80 ∷ 6 ∷ 0 ∷ 2 ∷ 0 ∷ 0 ∷ b₂ ∷ b₃ ∷ []) ≡ true
          → Does (call ∷ []) (Running a asks_now ws n first second) (Waiting a (standing Enumerate false 1 (u + 1) s false) (0x80 ∷ 6 ∷ 0 ∷ 2 ∷ 0 ∷ 0 ∷ b₂ ∷ b₃ ∷ []) n)
      answers_header_lem other nine zero-wait b₂ b₃ e₂ e₃ below =
          let vs : List ℕ = 0x80 ∷ 6 ∷ 0 ∷ 2 ∷ 0 ∷ 0 ∷ b₂ ∷ b₃ ∷ [] in
          ends_by_lem 1 vs (λ h. sets h.setups 0 vs)
          (λ h p.
          header_held h p bs replies some input whole other nine
          ∙ ap₂ (λ (y₂ y₃ : ℕ). pushed_held (0x80 ∷ 6 ∷ 0 ∷ 2 ∷ 0 ∷ 0 ∷ y₂ ∷ y₃ ∷ []) (record { stand = standing Enumerate false i (u + 1) s false; queue = h.setups })) e₂ e₃
          ∙ ap (λ (j : ℕ). pushed_held vs (record { stand = standing Enumerate false j (u + 1) s false; queue = h.setups })) zero-wait)
          (λ h p. queue_sets h.setups 0 vs below p.waiting.on.queue)
          (λ h p. take_sets h.setups vs (omega (arith, p.waiting.on.queue.long)))

      -- three setups behind those that wait
      pub answers_whole_lem : asks 2 first ≡ true → eqb (length bs) 9 ≡ false → i < 200
          → Does (call ∷ []) (Running a asks_now ws n first second) (Waiting a (standing Enumerate false (i + 3) (u + 1) s false) (ws ++ fixed_setups) n)
      answers_whole_lem other more room =
          ends_by_lem (i + 3) (ws ++ fixed_setups) (λ h. sets h.setups (8 * i) fixed_setups)
          (λ h p. whole_held h p bs replies some input whole other more)
          (λ h p. queue_sets h.setups (8 * i) fixed_setups refl p.waiting.on.queue)
          (λ h p. take_behind h.setups ws fixed_setups (8 * i) p.waiting.waits (sym size) (omega (arith, size, room, p.waiting.on.queue.long)))
