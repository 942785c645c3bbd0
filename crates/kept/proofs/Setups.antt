-- A microframe keeps the bounds on setups and requests: those that wait, the one that runs, and what they bring (document 01, number 5).
use Prim.Native.Nat.{ℕ, suc, ◌+◌, ◌-◌, ◌*◌, ◌/◌, ◌^◌, ◌≤◌, ◌<◌, min}
use mathlib.Core.Path.{◌≡◌, refl, sym, ap, subst, ◌∙◌}
use mathlib.Core.Bool.{Bool, true, false, not, ◌||◌}
use mathlib.Core.List.{List, [], ◌∷◌, ◌++◌}
use native.Mathlib.Omega.{arith}
use borrow.Author.Tests.{eqb-true, eqb-false, leb-true, ltb-true, ltb-false, eq-eqb, le-leb, not-true}
use lib.Dec.{eqb, leb, ltb}
use lib.ListN.{length, get_or, take, length-take}
use lib.Seq.{sets, length-sets}
use Rattle.bits.specs.Pick.{pick}
use Rattle.bus.specs.Steps.{exec_then, exec_choose}
use Rattle.bus.proofs.WordLaws.{Bytes}
use Rattle.usbdev.specs.Registers.{PageStep}
use Rattle.dtd.specs.Dtd.{Endpoint, endpoint, Run, run_dtds, queue_head}
use Rattle.config.specs.Config.{Choice, parsed}
use Rattle.config.specs.Config.{Bytes as AllBytes}
use Rattle.config.proofs.Few.{pairs_few, bytes_take}
use Rattle.config.proofs.Cases.{by_test}
use Rattle.record.specs.declared.Phase.{Phase}
use Rattle.record.specs.declared.Phase.TheVariants.{Idle, Vbus, Reset, Enumerate, Stream}
use Rattle.record.specs.declared.Settings.{Settings}
use Rattle.record.specs.declared.Stage.TheVariants.{Status}
use Rattle.record.specs.declared.Control.{Control}
use Rattle.record.specs.Record.{wrapped, with_on, with_stage, with_got}
use Rattle.record.specs.Setups.{little}
use Rattle.record.specs.World.{World, bus_of}
use Rattle.record.specs.Change.{Change, uf, phase, block, control, queued, popped, pushed, cleared, reply, device, config, forgot, drained, apply, Step, left, ◌then◌, nothing, if, when, one, here, on_page, runs}
use Rattle.model.specs.Phases.{now, counts, ticks, drops_request, forgets, returns, cable, sleeps, suspends, enters, departs, leaves, idles, powers, resets, starts_frame, first_setups}
use Rattle.model.specs.Control.{w_length, begun, posted, posts, enumerating, configured, to_status, keeps_reply, data_stage, asks_for, replied, asks_whole, sets_configuration, interface_setups, fixed_setups, chooses, configures, finishes, status_ends, status_stage, unstalls, stages, controls}
use Rattle.model.specs.Microframe.{rs_set, gone_at, asleep_at, transfers, enumerates, talks, at_phase, by_phase, opens, frame_of, microframe}
use Rattle.model.proofs.Fields.{Keeps, fields_then, left_runs, fields_ran, ran_world, keeps_then, keeps_if, keeps_nothing, keeps_one, keeps_bus, keeps_page}
use Rattle.bounds.proofs.Shapes.{made_device, made_configuration}
use Rattle.bounds.specs.Bounds.{asks_configuration, made, made_at, all_made, other, setups_ok, enumerating_ok, request_ok}
use Rattle.model.proofs.Holding.{Holds, holds_then, holds_seq, holds_if, holds_nothing}
use Rattle.bits.proofs.Tests.{false_true, and_first, and_second, and_both, or_other, or_by, imp_other, imp_by}
use Rattle.kept.proofs.Asked.{Asked, asked_of, asked_on, asked, asked_apply}
use Rattle.kept.proofs.Unasked.{keeps_ticks, keeps_unplugs, keeps_sleeps, keeps_suspends, keeps_frame, keeps_transfers}
use Rattle.kept.proofs.Fits.{InBytes, bytes_ticks, bytes_wakes, bytes_frame, bytes_read_lem, sets_bytes}
use Rattle.kept.proofs.Pairs.{pairs_bytes}
use Rattle.kept.proofs.Shape.{Shape, shape_kept}
use Rattle.kept.proofs.Queue.{made_every, made_all, other_every, other_all, made_same, other_same, drained_alike, drained_bytes, sets_alike, Good, good_first, good_whole, good_chosen, good_fixed}

-- ---- the bounds that a microframe keeps

pub record Requests (w : World) : Type 0 where
  pub setups : setups_ok w.state.lengths.setups w.own.setups ≡ true
  pub enumeration : enumerating_ok w.state ≡ true
  pub request : request_ok w.state.control w.state.lengths.setups w.state.port.uf ≡ true
  pub device : leb w.state.lengths.device 64 ≡ true
  pub config : leb w.state.lengths.config (length w.lent.config) ≡ true
  pub second : w.state.control.second < 2 ^ 32

-- what else an entry has: a count that goes up, areas of their lengths, and bytes in them
pub record Entry (w : World) : Type 0 where
  pub uf : w.state.port.uf < 2 ^ 40
  pub setups_length : length w.own.setups ≡ 2056
  pub reply_length : 65535 ≤ length w.lent.reply
  pub config_length : 65535 ≤ length w.lent.config
  pub memory_bytes : Bytes w.lent.memory
  pub setups_bytes : AllBytes w.own.setups
  pub reply_bytes : AllBytes w.lent.reply

-- ---- the same bounds as facts

-- of a request that runs, or has run, with so many waiting
record Runs (c : Control) (waiting uf : ℕ) : Type 0 where
  is_made : made c.first c.second ≡ true
  alone : asks_configuration c.first ≡ true → waiting ≡ 0
  begun : c.t0 ≤ uf
  fits : c.got ≤ w_length c

-- the areas of an entry
record Sizes (queue reply : List ℕ) : Type 0 where
  queue_length : length queue ≡ 2056
  reply_length : 65535 ≤ length reply
  reply_bytes : AllBytes reply

abbrev Areas : Asked → Type 0
Areas k = Sizes k.queue k.reply

-- most: what a configuration's length is held to, which may be any number from 65,535 on
module _ (most : ℕ) (long : 65535 ≤ most) where
  record Asks (k : Asked) : Type 0 where
    few : k.waiting ≤ 257
    each_made : (i : ℕ) → i < k.waiting → made_at k.queue i ≡ true
    last_asks : (i : ℕ) → suc i < k.waiting → other k.queue i ≡ true
    idle : enumerating k.phase ≡ false → (k.waiting ≡ 0) × (k.control.on ≡ false)
    runs : k.control.on ≡ true → Runs k.control k.waiting k.uf
    device : k.device ≤ 64
    config : k.config ≤ most
    second : k.control.second < 2 ^ 32
    bytes : AllBytes k.queue

  asks_from : (w : World) → Requests w → w.state.lengths.config ≤ most → AllBytes w.own.setups → Asks (asked_of w)
  unfolding setups_ok enumerating_ok request_ok
  asks_from w h few bytes =
      let n = w.state.lengths.setups in
      let c = w.state.control in
      let lists = and_second (leb n 257) _ h.setups in
      record {
        few = leb-true n 257 (and_first (leb n 257) _ h.setups);
        each_made = λ i l. made_every w.own.setups n i (and_first (all_made w.own.setups n) _ lists) l;
        last_asks = λ i l. other_every w.own.setups (n - 1) i (and_second (all_made w.own.setups n) _ lists) (omega arith);
        idle = λ e.
            let none = or_other (enumerating w.state.phase) _ h.enumeration e in
            (eqb-true n 0 (and_first (eqb n 0) _ none), not-true c.on (and_second (eqb n 0) _ none));
        runs = λ e.
            let all = imp_other c.on _ h.request e in
            let rest = and_second (made c.first c.second) _ all in
            let last = and_second (not (asks_configuration c.first) || eqb n 0) _ rest in
            record {
              is_made = and_first (made c.first c.second) _ all;
              alone = λ a. eqb-true n 0 (imp_other (asks_configuration c.first) (eqb n 0) (and_first (not (asks_configuration c.first) || eqb n 0) _ rest) a);
              begun = leb-true c.t0 w.state.port.uf (and_first (leb c.t0 w.state.port.uf) _ last);
              fits = leb-true c.got (w_length c) (and_second (leb c.t0 w.state.port.uf) _ last);
            };
        device = leb-true w.state.lengths.device 64 h.device;
        config = few;
        second = h.second;
        bytes = bytes;
      }

  asks_to : (w : World) → leb w.state.lengths.config (length w.lent.config) ≡ true → Asks (asked_of w) → Requests w
  unfolding setups_ok enumerating_ok request_ok
  asks_to w inside a =
      let n = w.state.lengths.setups in
      let c = w.state.control in
      record {
        setups =
            and_both (leb n 257) _ (le-leb n 257 a.few)
            (and_both (all_made w.own.setups n) _ (made_all w.own.setups n a.each_made) (other_all w.own.setups (n - 1) (λ i l. a.last_asks i (omega arith))));
        enumeration =
            or_by (enumerating w.state.phase) _
            (λ e. and_both (eqb n 0) _ (eq-eqb n 0 (a.idle e).0) (ap not (a.idle e).1));
        request =
            imp_by c.on _
            (λ e.
            let r = a.runs e in
            and_both (made c.first c.second) _ r.is_made
            (and_both (not (asks_configuration c.first) || eqb n 0) _ (imp_by (asks_configuration c.first) (eqb n 0) (λ x. eq-eqb n 0 (r.alone x)))
            (and_both (leb c.t0 w.state.port.uf) _ (le-leb c.t0 w.state.port.uf r.begun) (le-leb c.got (w_length c) r.fits))));
        device = le-leb w.state.lengths.device 64 a.device;
        config = inside;
        second = a.second;
      }

  -- ---- single changes

  no_run : {P : Type 0} {b : Bool} → b ≡ false → b ≡ true → P
  no_run e f = absurd (false_true (sym e ∙ f))

  asks_later : (k : Asked) (n : ℕ) → k.uf ≤ n → Asks k → Asks (asked_on (uf n) k)
  asks_later k n h a =
      record {
        few = a.few;
        each_made = a.each_made;
        last_asks = a.last_asks;
        idle = a.idle;
        runs = λ e.
            let r = a.runs e in
            let later : k.control.t0 ≤ n = omega (arith, r.begun) in
            record { is_made = r.is_made; alone = r.alone; begun = later; fits = r.fits };
        device = a.device;
        config = a.config;
        second = a.second;
        bytes = a.bytes;
      }

  asks_off : (k : Asked) → Asks k → Asks (asked_on (control (with_on k.control false)) k)
  asks_off k a =
      record {
        few = a.few;
        each_made = a.each_made;
        last_asks = a.last_asks;
        idle = λ e. ((a.idle e).0, refl);
        runs = λ e. absurd (false_true e);
        device = a.device;
        config = a.config;
        second = a.second;
        bytes = a.bytes;
      }

  -- another phase, where none waits and none runs
  asks_phase : (k : Asked) (p : Phase) → k.waiting ≡ 0 → k.control.on ≡ false → Asks k → Asks (asked_on (phase p) k)
  asks_phase k p z off a =
      record {
        few = a.few;
        each_made = a.each_made;
        last_asks = a.last_asks;
        idle = λ e. (z, off);
        runs = a.runs;
        device = a.device;
        config = a.config;
        second = a.second;
        bytes = a.bytes;
      }

  -- what a fresh host has
  abbrev fresh : Asked → Asked
  fresh k = asked_on forgot (asked_on (control (with_on k.control false)) (asked_on cleared k))

  asks_fresh : (k : Asked) → k.control.second < 2 ^ 32 → AllBytes k.queue → Asks (fresh k)
  asks_fresh k h bytes =
      record {
        few = omega arith;
        each_made = λ i l. absurd (omega arith);
        last_asks = λ i l. absurd (omega arith);
        idle = λ e. (refl, refl);
        runs = λ e. absurd (false_true e);
        device = omega arith;
        config = omega arith;
        second = h;
        bytes = bytes;
      }

  -- setups where none waits, while the host enumerates and no request runs
  asks_queued : (k : Asked) (bs : List ℕ) (n : ℕ) → Good bs n → n ≤ 257 → length k.queue ≡ 2056
      → enumerating k.phase ≡ true → k.waiting ≡ 0 → k.control.on ≡ false → Asks k → Asks (asked_on (queued bs) k)
  asks_queued k bs n g few size p z off a =
      let count : k.waiting + length bs / 8 ≡ n = omega (arith, g.size) in
      let room : length bs ≤ length k.queue = omega (arith, g.size) in
      record {
        few = omega arith;
        each_made = λ i l. rw z (made_same (sets k.queue 0 bs) bs i i (sets_alike k.queue bs i room (omega (arith, g.size))) ∙ g.each_made i (omega arith));
        last_asks = λ i l. rw z (other_same (sets k.queue 0 bs) bs i i (sets_alike k.queue bs i room (omega (arith, g.size))) ∙ g.last_asks i (omega arith));
        idle = λ e. absurd (false_true (sym e ∙ p));
        runs = λ e. no_run off e;
        device = a.device;
        config = a.config;
        second = a.second;
        bytes = sets_bytes k.queue (8 * k.waiting) bs a.bytes g.bytes;
      }

  -- one before none is one behind none
  pushed_queued : (k : Asked) (b₂ b₃ : ℕ) → k.waiting ≡ 0
      → asked_on (pushed (0x80 ∷ 6 ∷ 0 ∷ 2 ∷ 0 ∷ 0 ∷ b₂ ∷ b₃ ∷ [])) k ≡ asked_on (queued (0x80 ∷ 6 ∷ 0 ∷ 2 ∷ 0 ∷ 0 ∷ b₂ ∷ b₃ ∷ [])) k
  pushed_queued k b₂ b₃ z = rw z refl

  -- the first setup's words become the request
  asks_posted : (k : Asked) → Areas k → (k.waiting ≡ 0 → ⊥) → Asks k
      → Asks (asked_on (control (begun (little k.queue 0) (little k.queue 4) k.uf)) (asked_on popped k))
  unfolding made_at other
  asks_posted k s some a =
      let q = k.queue in
      let n = k.waiting in
      let room : 8 * n ≤ length q = omega (arith, s.queue_length, a.few) in
      record {
        few = omega (arith, a.few);
        each_made = λ i l.
            let m : suc i < n = omega arith in
            made_same (drained q (8 * n) 8) q i (suc i) (drained_alike q n i room m) ∙ a.each_made (suc i) m;
        last_asks = λ i l.
            let m : suc (suc i) < n = omega arith in
            other_same (drained q (8 * n) 8) q i (suc i) (drained_alike q n i room (omega arith)) ∙ a.last_asks (suc i) m;
        idle = λ e. absurd (some (a.idle e).0);
        runs = λ e.
            record {
              is_made = a.each_made 0 (omega arith);
              alone = λ x.
                  by_test (ltb 1 n)
                  (λ l. no_run (not-true _ (a.last_asks 0 (ltb-true 1 n l))) x)
                  (λ l. let m = ltb-false 1 n l in omega arith);
              begun = omega arith;
              fits = omega arith;
            };
        device = a.device;
        config = a.config;
        second = omega (arith, a.bytes 4, a.bytes 5, a.bytes 6, a.bytes 7);
        bytes = drained_bytes q (8 * n) 8 a.bytes;
      }

  -- ---- a request that runs, up to its status stage

  record Asking (k : Asked) : Type 0 where
    asks : Asks k
    areas : Areas k
    on : k.control.on ≡ true

  asking_status : (k : Asked) → Asking k → Asking (asked_on (control (with_stage k.control Status)) k)
  asking_status k h =
      let a = h.asks in
      let r = a.runs h.on in
      record {
        asks =
            record {
              few = a.few;
              each_made = a.each_made;
              last_asks = a.last_asks;
              idle = a.idle;
              runs = λ e. record { is_made = r.is_made; alone = r.alone; begun = r.begun; fits = r.fits };
              device = a.device;
              config = a.config;
              second = a.second;
              bytes = a.bytes;
            };
        areas = h.areas;
        on = h.on;
      }

  -- the bytes that a reply still takes
  abbrev part : Control → List ℕ → List ℕ
  part c bs = take (w_length c - c.got) bs

  asking_reply : (k : Asked) (bs : List ℕ) → AllBytes bs → Asking k
      → Asking (asked_on (control (with_got k.control (k.control.got + length (part k.control bs)))) (asked_on (reply k.control.got (part k.control bs)) k))
  asking_reply k bs b h =
      let a = h.asks in
      let c = k.control in
      let r = a.runs h.on in
      let size : length (part c bs) ≡ min (w_length c - c.got) (length bs) = length-take (w_length c - c.got) bs in
      let more : c.got + length (part c bs) ≤ w_length c = omega (arith, r.fits) in
      record {
        asks =
            record {
              few = a.few;
              each_made = a.each_made;
              last_asks = a.last_asks;
              idle = a.idle;
              runs = λ e. record { is_made = r.is_made; alone = r.alone; begun = r.begun; fits = more };
              device = a.device;
              config = a.config;
              second = a.second;
              bytes = a.bytes;
            };
        areas =
            record {
              queue_length = h.areas.queue_length;
              reply_length = rw (length-sets k.reply c.got (part c bs)) h.areas.reply_length;
              reply_bytes = sets_bytes k.reply c.got (part c bs) h.areas.reply_bytes (bytes_take (w_length c - c.got) bs b);
            };
        on = h.on;
      }

  -- ---- what it brings at its end

  record Finishing (k : Asked) : Type 0 where
    asks : Asks k
    areas : Areas k
    off : k.control.on ≡ false
    ran : Runs k.control k.waiting k.uf
    phase : enumerating k.phase ≡ true

  finishing_off : (k : Asked) → Asking k → Finishing (asked_on (control (with_on k.control false)) k)
  finishing_off k h =
      let r = h.asks.runs h.on in
      record {
        asks = asks_off k h.asks;
        areas = h.areas;
        off = refl;
        ran = record { is_made = r.is_made; alone = r.alone; begun = r.begun; fits = r.fits };
        phase = by_test (enumerating k.phase) (λ e. e) (λ e. no_run (h.asks.idle e).1 h.on);
      }

  abbrev answer : Asked → List ℕ
  answer k = take k.control.got k.reply

  answer_fits : (k : Asked) → Finishing k → length (answer k) ≤ w_length k.control
  answer_fits k h =
      let size : length (answer k) ≡ min k.control.got (length k.reply) = length-take k.control.got k.reply in
      omega (arith, h.ran.fits)

  finishing_device : (k : Asked) → asks_for 1 k.control ≡ true → Finishing k → Finishing (asked_on (device (answer k)) k)
  finishing_device k e h =
      let a = h.asks in
      let small : length (answer k) ≤ 64 = omega (arith, answer_fits k h, made_device k.control h.ran.is_made e) in
      record {
        asks =
            record {
              few = a.few;
              each_made = a.each_made;
              last_asks = a.last_asks;
              idle = a.idle;
              runs = a.runs;
              device = small;
              config = a.config;
              second = a.second;
              bytes = a.bytes;
            };
        areas = h.areas;
        off = h.off;
        ran = h.ran;
        phase = h.phase;
      }

  finishing_config : (k : Asked) → Finishing k → Finishing (asked_on (config (answer k)) k)
  finishing_config k h =
      let a = h.asks in
      let fits : length (answer k) ≤ most = omega (arith, answer_fits k h, a.second, long) in
      record {
        asks =
            record {
              few = a.few;
              each_made = a.each_made;
              last_asks = a.last_asks;
              idle = a.idle;
              runs = a.runs;
              device = a.device;
              config = fits;
              second = a.second;
              bytes = a.bytes;
            };
        areas = h.areas;
        off = h.off;
        ran = h.ran;
        phase = h.phase;
      }

  finishing_queued : (k : Asked) (bs : List ℕ) (n : ℕ) → Good bs n → n ≤ 257 → asks_for 2 k.control ≡ true → Finishing k → Asks (asked_on (queued bs) k)
  finishing_queued k bs n g few e h =
      asks_queued k bs n g few h.areas.queue_length h.phase (h.ran.alone (made_configuration k.control h.ran.is_made e)) h.off h.asks

  finishing_whole : (k : Asked) → asks_for 2 k.control ≡ true → Finishing k
      → Asks (asked_on (pushed (0x80 ∷ 6 ∷ 0 ∷ 2 ∷ 0 ∷ 0 ∷ get_or k.reply 2 0 ∷ get_or k.reply 3 0 ∷ [])) k)
  finishing_whole k e h =
      subst Asks (sym (pushed_queued k (get_or k.reply 2 0) (get_or k.reply 3 0) (h.ran.alone (made_configuration k.control h.ran.is_made e))))
      (finishing_queued k _ 1 (good_whole _ _ (h.areas.reply_bytes 2) (h.areas.reply_bytes 3)) (omega arith) e h)

  -- ---- steps of control, from the World at their start to what is asked then

  abbrev AsksAt : World → Type 0
  AsksAt w = Asks (asked_of w)

  abbrev AskingAt : World → Type 0
  AskingAt w = Asking (asked_of w)

  abbrev FinishingAt : World → Type 0
  FinishingAt w = Finishing (asked_of w)

  cases : (Q : World → Type 0) (t : World → Bool) (f g : Step) (w : World) → (t w ≡ true → Q (left f w)) → (t w ≡ false → Q (left g w)) → Q (left (if t f g) w)
  cases Q t f g w p q = subst Q (sym (exec_choose apply t f g w)) (by_value (t w) refl)
    where
      by_value : (b : Bool) → t w ≡ b → Q (pick b (left f w) (left g w))
      by_value true e = p e
      by_value false e = q e

  unchanged : (Q : World → Type 0) (w : World) → Q w → Q (left nothing w)
  unchanged Q w h = holds_nothing Q w h

  -- a run leaves what is asked, and hands its answer on
  after_run_lem : (Q : World → Type 0) (e : Endpoint) (bs : List ℕ) (k : Run → Step) (w : World)
      → ((v : World) → asked_of v ≡ asked_of w → Q (left (k (run_dtds e bs (bus_of w))) v)) → Q (left (runs e bs k) w)
  after_run_lem Q e bs k w h = subst Q (sym (left_runs asked e bs k w)) (h (ran_world asked e bs w) (fields_ran asked e bs w))

  drops_asks : (w : World) → AsksAt w → AsksAt (left drops_request w)
  unfolding drops_request one apply
  drops_asks w h = asks_off (asked_of w) h

  status_asking : (w : World) → AskingAt w → AskingAt (left to_status w)
  unfolding to_status one apply
  status_asking w h = asking_status (asked_of w) h

  reply_asking : (r : Run) (w : World) → AllBytes r.bytes → AskingAt w → AskingAt (left (keeps_reply r) w)
  unfolding keeps_reply here one apply
  reply_asking r w b h =
      holds_seq AskingAt _ _ w
      (holds_seq AskingAt _ _ (left (one (λ x. reply w.state.control.got (part w.state.control r.bytes))) w)
      (let h' = asking_reply (asked_of w) r.bytes b h in
      cases AskingAt _ to_status nothing _ (λ e. status_asking _ h') (λ e. unchanged AskingAt _ h')))

  data_asking : (w : World) → Bytes w.lent.memory → AskingAt w → AskingAt (left data_stage w)
  unfolding data_stage
  data_asking w b h =
      cases AskingAt _ _ _ w (λ e. status_asking w h)
      (λ e. cases AskingAt _ _ _ w
      (λ f. after_run_lem AskingAt (endpoint 0 true) [] keeps_reply w (λ v s. reply_asking (run_dtds (endpoint 0 true) [] (bus_of w)) v (bytes_read_lem (bus_of w) b) (subst Asking (sym s) h)))
      (λ f. after_run_lem AskingAt (endpoint 0 false) [] _ w
      (λ v s. cases AskingAt _ to_status nothing v (λ e. status_asking v (subst Asking (sym s) h)) (λ e. unchanged AskingAt v (subst Asking (sym s) h)))))

  -- ---- the end of a request

  whole_asks : (w : World) → asks_for 2 w.state.control ≡ true → FinishingAt w → AsksAt (left asks_whole w)
  unfolding asks_whole one apply
  whole_asks w e h = finishing_whole (asked_of w) e h

  keeps_block_lem : (c : Choice) → Keeps asked (when (λ w. ltb 32 c.output) (one (λ w. block c.output ((c.output - 32) / 28))))
  keeps_block_lem c = keeps_if asked _ _ nothing (keeps_one asked _ (λ w. refl)) (keeps_nothing asked)

  queued_asks : (w : World) (bs : List ℕ) (n : ℕ) → Good bs n → n ≤ 257 → asks_for 2 w.state.control ≡ true → FinishingAt w → AsksAt (left (one (λ v. queued bs)) w)
  unfolding one apply
  queued_asks w bs n g few e h = finishing_queued (asked_of w) bs n g few e h

  chooses_asks : (w : World) (c : Choice) (n : ℕ) → Good (sets_configuration ++ interface_setups c.pairs) n → n ≤ 257 → asks_for 2 w.state.control ≡ true → FinishingAt w → AsksAt (left (chooses c) w)
  unfolding chooses
  chooses_asks w c n g few e h =
      let v = left (when (λ x. ltb 32 c.output) (one (λ x. block c.output ((c.output - 32) / 28)))) w in
      let s : asked_of v ≡ asked_of w = keeps_block_lem c w in
      holds_seq AsksAt _ _ w
      (queued_asks v (sets_configuration ++ interface_setups c.pairs) n g few (ap (λ (k : Asked). asks_for 2 k.control) s ∙ e) (subst Finishing (sym s) h))

  configures_asks : (stack : Bool) (w : World) → asks_for 2 w.state.control ≡ true → FinishingAt w → AsksAt (left (configures stack) w)
  unfolding configures here one apply
  configures_asks true w e h =
      let h' = finishing_config (asked_of w) h in
      let bytes = bytes_take w.state.control.got w.lent.reply h.areas.reply_bytes in
      let c = parsed (replied w) in
      holds_seq AsksAt _ _ w
      (chooses_asks (left (one (λ x. config (replied x))) w) c (suc (length c.pairs)) (good_chosen c.pairs (pairs_bytes (replied w) bytes)) (omega (arith, pairs_few (replied w) bytes)) e h')
  configures_asks false w e h =
      holds_seq AsksAt _ _ w (queued_asks (left (one (λ x. config (replied x))) w) fixed_setups 3 good_fixed (omega arith) e (finishing_config (asked_of w) h))

  -- 706-735: what a configuration brings
  second_asks : (stack : Bool) (w : World) → FinishingAt w
      → AsksAt (left (when (λ x. asks_for 2 x.state.control) (if (λ x. eqb x.state.control.got 9) asks_whole (configures stack))) w)
  second_asks stack w h =
      cases AsksAt _ _ nothing w
      (λ e. cases AsksAt _ asks_whole (configures stack) w (λ f. whole_asks w e h) (λ f. configures_asks stack w e h))
      (λ e. unchanged AsksAt w h.asks)

  device_finishing : (w : World) → FinishingAt w → FinishingAt (left (when (λ x. asks_for 1 x.state.control) (one (λ x. device (replied x)))) w)
  unfolding one apply
  device_finishing w h =
      cases FinishingAt _ _ nothing w (λ e. finishing_device (asked_of w) e h) (λ e. unchanged FinishingAt w h)

  drops_finishing : (w : World) → AskingAt w → FinishingAt (left drops_request w)
  unfolding drops_request one apply
  drops_finishing w h = finishing_off (asked_of w) h

  finishes_asks : (stack : Bool) (w : World) → AskingAt w → AsksAt (left (finishes stack) w)
  unfolding finishes
  finishes_asks stack w h =
      let v = left drops_request w in
      holds_seq AsksAt drops_request _ w
      (holds_seq AsksAt _ _ v (second_asks stack _ (device_finishing v (drops_finishing w h))))

  ends_asks : (stack : Bool) (r : Run) (w : World) → AskingAt w → AsksAt (left (status_ends stack r) w)
  unfolding status_ends
  ends_asks stack r w h =
      cases AsksAt _ (finishes stack) _ w (λ e. finishes_asks stack w h)
      (λ e. cases AsksAt _ drops_request nothing w (λ f. drops_asks w h.asks) (λ f. unchanged AsksAt w h.asks))

  status_asks : (stack : Bool) (w : World) → AskingAt w → AsksAt (left (status_stage stack) w)
  unfolding status_stage
  status_asks stack w h =
      cases AsksAt _ _ _ w
      (λ e. after_run_lem AsksAt (endpoint 0 false) [] (status_ends stack) w (λ v s. ends_asks stack _ v (subst Asking (sym s) h)))
      (λ e. after_run_lem AsksAt (endpoint 0 true) [] (status_ends stack) w (λ v s. ends_asks stack _ v (subst Asking (sym s) h)))

  stages_asks : (stack : Bool) (w : World) → Bytes w.lent.memory → AskingAt w → AsksAt (left (stages stack) w)
  unfolding stages
  stages_asks stack w b h =
      let v = left data_stage w in
      let h' = data_asking w b h in
      cases AsksAt _ (status_stage stack) _ w (λ e. status_asks stack w h)
      (λ e. holds_seq AsksAt data_stage _ w
      (cases AsksAt _ (status_stage stack) _ v (λ f. status_asks stack v h')
      (λ f. cases AsksAt _ drops_request nothing v (λ g. drops_asks v h'.asks) (λ g. unchanged AsksAt v h'.asks))))

  -- ---- posting, and the end of enumeration

  asked_one : (c : World → Change) (w : World) → asked_of (left (one c) w) ≡ asked_on (c w) (asked_of w)
  unfolding one
  asked_one c w = asked_apply (c w) w

  posted_asked : (qh first second : ℕ) (w : World)
      → asked_of (left (posted qh first second) w) ≡ asked_on (control (begun first second w.state.port.uf)) (asked_on popped (asked_of w))
  unfolding posted
  posted_asked qh first second w =
      fields_then asked (one (λ x. popped)) _ w
      ∙ fields_then asked _ _ _
      ∙ fields_then asked _ _ _
      ∙ fields_then asked _ _ _
      ∙ last _
      ∙ ap (λ (k : Asked). asked_on (control (begun first second k.uf)) k)
      (keeps_page asked _ _ ∙ keeps_one asked _ (λ x. refl) _ ∙ keeps_bus asked _ _ ∙ first_popped w)
    where
      last : (x : World) → asked_of (left (one (λ y. control (begun first second (now y)))) x) ≡ asked_on (control (begun first second x.state.port.uf)) (asked_of x)
      last x = asked_one (λ y. control (begun first second (now y))) x

      first_popped : (x : World) → asked_of (left (one (λ y. popped)) x) ≡ asked_on popped (asked_of x)
      first_popped x = asked_one (λ y. popped) x

  posts_asks : (w : World) → Areas (asked_of w) → (w.state.lengths.setups ≡ 0 → ⊥) → AsksAt w → AsksAt (left posts w)
  unfolding posts here
  posts_asks w s some a =
      subst Asks (sym (posted_asked (queue_head (endpoint 0 false) w.lent.memory.page) (little w.own.setups 0) (little w.own.setups 4) w))
      (asks_posted (asked_of w) s some a)

  configured_asks : (w : World) → w.state.lengths.setups ≡ 0 → w.state.control.on ≡ false → AsksAt w → AsksAt (left configured w)
  unfolding configured one apply
  configured_asks w z off a =
      cases AsksAt _ _ nothing w (λ e. holds_seq AsksAt _ _ w (asks_phase (asked_of w) Stream z off a)) (λ e. unchanged AsksAt w a)

  -- ---- control

  -- all that an entry has, up to control
  record Ready (w : World) : Type 0 where
    asks : Asks (asked_of w)
    areas : Areas (asked_of w)
    bytes : Bytes w.lent.memory

  unstalls_asks : (w : World) → AsksAt w → AsksAt (left unstalls w)
  unfolding unstalls
  unstalls_asks w a =
      holds_seq AsksAt drops_request _ w (subst Asks (sym (keeps_page asked _ (left drops_request w))) (drops_asks w a))

  controls_asks : (stack : Bool) (w : World) → Ready w → AsksAt (left (controls stack) w)
  unfolding controls
  controls_asks stack w h =
      cases AsksAt _ _ _ w
      (λ on. cases AsksAt _ unstalls (stages stack) w (λ e. unstalls_asks w h.asks) (λ e. stages_asks stack w h.bytes (record { asks = h.asks; areas = h.areas; on = on })))
      (λ off. cases AsksAt _ configured posts w
      (λ e. configured_asks w (eqb-true w.state.lengths.setups 0 e) off h.asks)
      (λ e. posts_asks w h.areas (eqb-false w.state.lengths.setups 0 e) h.asks))

  -- ---- the steps before control

  ready_keeps : (f : Step) → Keeps asked f → Holds InBytes f → Holds Ready f
  ready_keeps f k b w h =
      record {
        asks = subst Asks (sym (k w)) h.asks;
        areas = subst Areas (sym (k w)) h.areas;
        bytes = b w h.bytes;
      }

  -- the count goes up, below 2^40 and so without wrapping
  ready_counts : (w : World) → w.state.port.uf < 2 ^ 40 → Ready w → Ready (left counts w)
  unfolding counts one apply
  ready_counts w l h =
      let later : w.state.port.uf ≤ wrapped (now w + 1) = omega arith in
      holds_seq Ready _ _ w
      (record { asks = asks_later (asked_of w) (wrapped (now w + 1)) later h.asks; areas = h.areas; bytes = h.bytes })

  -- a host that forgets
  ready_forgets : (w : World) → w.state.control.second < 2 ^ 32 → AllBytes w.own.setups → Areas (asked_of w) → Bytes w.lent.memory → Ready (left forgets w)
  unfolding forgets drops_request one apply
  ready_forgets w l q s b =
      holds_seq Ready _ _ w (holds_seq Ready _ _ _ (holds_seq Ready _ _ _ (holds_seq Ready _ _ _
      (record { asks = asks_fresh (asked_of w) l q; areas = s; bytes = b }))))

  ready_returns : (w : World) → Ready w → Ready (left returns w)
  unfolding returns one apply
  ready_returns w h =
      holds_seq Ready _ _ w (holds_seq Ready _ _ _
      (let f = ready_forgets (left (one (λ x. phase Idle)) w) h.asks.second h.asks.bytes h.areas h.bytes in
      record { asks = f.asks; areas = f.areas; bytes = f.bytes }))

  ready_cable : Holds Ready (cable false)
  unfolding cable one apply
  ready_cable w h =
      cases Ready _ _ nothing w (λ e. holds_seq Ready _ _ w (ready_returns _ (record { asks = h.asks; areas = h.areas; bytes = h.bytes }))) (λ e. unchanged Ready w h)

  vbus_forgets : (w : World) → w.state.control.second < 2 ^ 32 → AllBytes w.own.setups → Areas (asked_of w) → Bytes w.lent.memory → Ready (left forgets (left (enters Vbus) w))
  unfolding enters one apply
  vbus_forgets w l q s b = subst (λ (v : World). Ready (left forgets v)) (sym (exec_then apply _ _ w)) (ready_forgets _ l q s b)

  ready_leaves : (stack rs : Bool) → Holds Ready (leaves stack rs)
  unfolding leaves departs enters one apply
  ready_leaves false rs w h = unchanged Ready w h
  ready_leaves true true w h = record { asks = h.asks; areas = h.areas; bytes = h.bytes }
  ready_leaves true false w h =
      cases Ready _ _ nothing w
      (λ e. holds_seq Ready _ _ w (holds_seq Ready _ _ _ (vbus_forgets _ h.asks.second h.asks.bytes h.areas h.bytes)))
      (λ e. unchanged Ready w h)

  -- ---- the phases

  enters_asked : (p : Phase) (w : World) → asked_of (left (enters p) w) ≡ asked_on (phase p) (asked_of w)
  unfolding enters
  enters_asked p w = fields_then asked (one (λ x. phase p)) _ w ∙ keeps_one asked _ (λ x. refl) _ ∙ asked_one (λ x. phase p) w

  -- none waits and none runs outside enumeration
  module _ (w : World) (none : enumerating w.state.phase ≡ false) (a : AsksAt w) where
    -- stores on the register page, and then a phase
    phase_asks : (f : PageStep) (p : Phase) → AsksAt (left (on_page f then enters p) w)
    phase_asks f p =
        subst Asks (sym (fields_then asked (on_page f) (enters p) w ∙ enters_asked p _ ∙ ap (asked_on (phase p)) (keeps_page asked f w)))
        (asks_phase (asked_of w) p (a.idle none).0 (a.idle none).1 a)

    idles_asks : AsksAt (left idles w)
    unfolding idles
    idles_asks = phase_asks _ Vbus

    powers_asks : (rs : Bool) → AsksAt (left (powers rs) w)
    unfolding powers
    powers_asks rs = cases AsksAt _ _ nothing w (λ e. phase_asks _ Reset) (λ e. unchanged AsksAt w a)

    -- and then the first setups
    first_asks : (f : PageStep) → length w.own.setups ≡ 2056 → AsksAt (left (on_page f then enters Enumerate then one (λ x. queued first_setups)) w)
    first_asks f size =
        subst Asks
        (sym
        (fields_then asked (on_page f) _ w
        ∙ fields_then asked (enters Enumerate) _ _
        ∙ asked_one (λ x. queued first_setups) _
        ∙ ap (asked_on (queued first_setups)) (enters_asked Enumerate _ ∙ ap (asked_on (phase Enumerate)) (keeps_page asked f w))))
        (asks_queued (asked_on (phase Enumerate) (asked_of w)) first_setups 4 good_first (omega arith) size refl (a.idle none).0 (a.idle none).1
        (asks_phase (asked_of w) Enumerate (a.idle none).0 (a.idle none).1 a))

    resets_asks : length w.own.setups ≡ 2056 → AsksAt (left resets w)
    unfolding resets
    resets_asks size = cases AsksAt _ _ nothing w (λ e. first_asks _ size) (λ e. unchanged AsksAt w a)

  talks_asks : (c : Settings) (t : ℕ) (rs : Bool) (w : World) → Ready w → AsksAt (left (talks c t rs) w)
  unfolding talks enumerates
  talks_asks c t rs w h =
      cases AsksAt _ _ nothing w
      (λ e. holds_seq AsksAt _ (transfers c t) w
      (subst Asks (sym (keeps_transfers c t _))
      (holds_seq AsksAt starts_frame _ w (controls_asks c.device_stack (left starts_frame w) (ready_keeps starts_frame keeps_frame bytes_frame w h)))))
      (λ e. unchanged AsksAt w h.asks)

  phase_by_lem : (c : Settings) (t : ℕ) (rs : Bool) (p : Phase) (w : World) → w.state.phase ≡ p → Ready w → AsksAt (left (at_phase c t rs p) w)
  phase_by_lem c t rs Idle w e h = idles_asks w (ap enumerating e) h.asks
  phase_by_lem c t rs Vbus w e h = powers_asks w (ap enumerating e) h.asks rs
  phase_by_lem c t rs Reset w e h = resets_asks w (ap enumerating e) h.asks h.areas.queue_length
  phase_by_lem c t rs Enumerate w e h = talks_asks c t rs w h
  phase_by_lem c t rs Stream w e h = talks_asks c t rs w h

  by_phase_lem : (c : Settings) (t : ℕ) (rs : Bool) (w : World) → Ready w → AsksAt (left (by_phase c t rs) w)
  unfolding by_phase here
  by_phase_lem c t rs w h = phase_by_lem c t rs w.state.phase w refl h

  -- ---- the whole

  ready_opens : (c : Settings) (w : World) → w.state.port.uf < 2 ^ 40 → Ready w → Ready (left (opens c false) w)
  unfolding opens
  ready_opens c w l h =
      holds_seq Ready counts _ w
      (holds_then Ready _ (cable false)
      (holds_if Ready _ ticks nothing (λ v e. ready_keeps ticks keeps_ticks bytes_ticks v) (λ v e. holds_nothing Ready v))
      ready_cable (left counts w) (ready_counts w l h))

  asks_gone : (c : Settings) (w : World) → w.state.port.uf < 2 ^ 40 → Ready w → AsksAt (left (opens c true then sleeps) w)
  unfolding opens
  asks_gone c w l h =
      let k : Keeps asked (when (λ x. c.midi_in) ticks then cable true) = keeps_then asked _ _ (keeps_if asked _ ticks nothing keeps_ticks (keeps_nothing asked)) keeps_unplugs in
      holds_seq AsksAt _ sleeps w
      (subst Asks (sym (keeps_sleeps _))
      (holds_seq AsksAt counts _ w (subst Asks (sym (k (left counts w))) (ready_counts w l h).asks)))

  frame_asks : (c : Settings) (t : ℕ) (rs g s : Bool) (w : World) → w.state.port.uf < 2 ^ 40 → Ready w → AsksAt (left (frame_of c t rs g s) w)
  unfolding frame_of
  frame_asks c t rs true s w l h = asks_gone c w l h
  frame_asks c t rs false true w l h =
      holds_seq AsksAt (opens c false) _ w
      (subst Asks (sym (keeps_then asked _ _ (keeps_suspends true) keeps_sleeps (left (opens c false) w))) (ready_opens c w l h).asks)
  frame_asks c t rs false false w l h =
      holds_seq AsksAt (opens c false) _ w
      (holds_seq AsksAt (suspends false) _ _
      (holds_seq AsksAt (leaves c.device_stack rs) _ _
      (by_phase_lem c t rs _
      (ready_leaves c.device_stack rs _ (ready_keeps (suspends false) (keeps_suspends false) bytes_wakes _ (ready_opens c w l h))))))

  asks_microframe : (t : ℕ) (w : World) → Requests w → Entry w → w.state.lengths.config ≤ most → AsksAt (left (microframe t) w)
  unfolding microframe here
  asks_microframe t w r e few =
      frame_asks w.settings t (rs_set w) (gone_at t w) (asleep_at t w) w e.uf
      (record {
        asks = asks_from w r few e.setups_bytes;
        areas = record { queue_length = e.setups_length; reply_length = e.reply_length; reply_bytes = e.reply_bytes };
        bytes = e.memory_bytes;
      })

-- a microframe keeps the bounds on setups and requests
pub requests_kept : (t : ℕ) (w : World) → Requests w → Entry w → Requests (left (microframe t) w)
requests_kept t w r e =
    let v = left (microframe t) w in
    let most = length w.lent.config in
    let same : length v.lent.config ≡ most = ap (λ (x : Shape). x.config) (shape_kept t w) in
    let a = asks_microframe most e.config_length t w r e (leb-true w.state.lengths.config most r.config) in
    asks_to most e.config_length v (le-leb v.state.lengths.config (length v.lent.config) (omega (arith, a.config, same))) a

-- the array of setups holds bytes again
pub setups_kept : (t : ℕ) (w : World) → Requests w → Entry w → AllBytes (left (microframe t) w).own.setups
setups_kept t w r e =
    (asks_microframe (length w.lent.config) e.config_length t w r e (leb-true w.state.lengths.config (length w.lent.config) r.config)).bytes

-- a configuration has at most 65,535 bytes, however long its area is
pub config_kept : (t : ℕ) (w : World) → Requests w → Entry w → w.state.lengths.config ≤ 65535 → (left (microframe t) w).state.lengths.config ≤ 65535
config_kept t w r e few = (asks_microframe 65535 (omega arith) t w r e few).config
