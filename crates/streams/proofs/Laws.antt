-- The steps of serial, MIDI and vendor transfers, from what the code does.
use Prim.Native.Nat.{ℕ, ◌+◌, ◌-◌, ◌*◌, ◌/◌, ◌≤◌, min}
use mathlib.Core.Bool.{true, false, not, ◌&&◌}
use mathlib.Core.List.{List, []}
use mathlib.Core.Path.{◌≡◌, refl, ap, ◌∙◌}
use Rattle.std.proofs.Common.{Option, None, Some}
use native.Mathlib.Omega.{arith}
use native.Mathlib.Nat.{min-le_right, le_refl, le_trans, div-mul-le_self}
use lib.Dec.{eqb}
use borrow.Author.Tests.{eq-eqb, ne_eqb}
use lib.ListN.{length, take}
use lib.Seq.{sets, take_all}
use Rattle.bits.proofs.Tests.{and_false}
use Rattle.bus.specs.Memory.{Memory}
use Rattle.bus.specs.Stores as S
use Rattle.usbdev.specs.Transfer.{total_of}
use Rattle.dtd.specs.declared.Ran.{Ran}
use Rattle.dtd.specs.Dtd.{Endpoint, endpoint, primed, next_active, next_dtd, token_of, run_dtds, found, active}
use Rattle.dtd.specs.Promises.{Runs}
use Rattle.runs.specs.declared.Filled.{Filled}
use Rattle.runs.specs.Turns.{kept, kept_end, RunsIn}
use Rattle.record.specs.declared.Lengths.{Lengths}
use Rattle.record.specs.declared.State.{State}
use Rattle.record.specs.Record.{with_stats, with_answer, with_count, with_lengths, with_serial, with_midi, counted, midi_packets_out, vendor_in_bytes}
use Rattle.record.specs.World.{World, at_bus, with_serial_queue, with_midi_queue, with_receive_area}
use Rattle.record.specs.Change.{count, received, serial, midi, drained, apply, Step, nothing, when, one, here}
use Rattle.record.specs.Did.{Leads, Did, after_run}
use Rattle.record.proofs.Laws.{in_turn, by_true, by_false, unchanged, once, from_here, run_then}
use Rattle.model.specs.Streams.{ready, fitting, takes_serial, gives_serial, drains_serial, serial_step, drains_midi, reads_vendor}
use Rattle.model.proofs.Bytes.{run_bytes}
use Rattle.streams.specs.declared.Taken.{Taken}
use Rattle.streams.specs.Promises.{at_receive, packet_of, served, Fewer, GivesNothing, GivesBytes, Gives, Receives, Serves, ServesBoth}
use Rattle.streams.proofs.Found.{active_ready, active_token, moved_bytes}

-- ---- what is in use

pub fewer_same : {a b : Lengths} → b ≡ a → Fewer a b
fewer_same {a} e = rw e (record { setups = refl; midi = le_refl a.midi; serial = le_refl a.serial; device = refl; config = refl })

pub fewer_then : {a b c : Lengths} → Fewer a b → Fewer b c → Fewer a c
fewer_then p q =
    record {
      setups = q.setups ∙ p.setups;
      midi = le_trans q.midi p.midi;
      serial = le_trans q.serial p.serial;
      device = q.device ∙ p.device;
      config = q.config ∙ p.config;
    }

-- ---- vendor

module _ (s : State) (m m' : Memory) (r : Ran) (run : Runs (endpoint 2 true) [] (S.bus m s.port.line) (S.bus m' r.line) r)
    (next : State) (is : next ≡ after_run s r) where
  abbrev bytes : List ℕ
  bytes = (run_dtds (endpoint 2 true) [] (S.bus m s.port.line)).bytes

  abbrev counting : State → ℕ → State
  counting t k = with_stats t (counted vendor_in_bytes k t.stats)

  same_count : r.moved ≡ length bytes
  same_count = run.moved ∙ moved_bytes 2 (omega arith) m s.port.line

  pub vendor_steps : {t : State} → t ≡ counting next r.moved → Did reads_vendor s m t m'
  unfolding reads_vendor apply
  vendor_steps {t} e =
      record {
        leads = λ w. run_then (endpoint 2 true) [] _ w s m m' r run
            (once (λ v. count vendor_in_bytes (length bytes)) (at_bus w (after_run s r) m') _ (rw (e, is, same_count)));
        sized = run.does.sized;
      }

-- ---- what waits is sent to an endpoint that is ready

module _ (e : Endpoint) (held : World → ℕ) (f : ℕ → Step) where
  abbrev sends : Step
  sends = when (λ w. not (eqb (held w) 0) && ready e w) (here (λ v. f (fitting e (held v) v)))

  none_sent : (a : World) → served e (held a) a.lent.memory ≡ false → Leads sends a a
  none_sent a h = by_false _ _ _ h (unchanged a)

  some_sent : (a : World) → served e (held a) a.lent.memory ≡ true → {b : World} → Leads (f (fitting e (held a) a)) a b → Leads sends a b
  some_sent a h p = by_true _ _ _ h (from_here (λ v. f (fitting e (held v) v)) a p)

-- whether it is served, by what `find` says
module _ (e : Endpoint) (held : ℕ) (m : Memory) where
  pub served_none : held ≡ 0 → served e held m ≡ false
  served_none h = rw (eq-eqb held 0 h)

  pub served_not : primed e m.page && next_active e m ≡ false → served e held m ≡ false
  served_not h = rw h (and_false (not (eqb held 0)))

  pub served_active : (held ≡ 0 → ⊥) → (qh n tok : ℕ) → found e m ≡ active e qh n tok → served e held m ≡ true
  served_active some qh n tok f = rw (ne_eqb held 0 some) (active_ready e m qh n tok f)

-- what fits, by the token that `find` says
pub fits_active : (e : Endpoint) (m : Memory) (qh n tok : ℕ) → found e m ≡ active e qh n tok → (held unit k : ℕ) → k ≡ packet_of tok held
    → k / unit * unit ≡ packet_of (token_of (next_dtd e m) m) held / unit * unit
fits_active e m qh n tok f held unit k is = rw (is, active_token e m qh n tok f)

-- ---- serial

module _ (s : State) (m m' : Memory) (out out' : List ℕ) (filled : Filled)
    (run : RunsIn (endpoint 2 true) (length out) (S.bus m s.port.line) (S.bus m' filled.ran.line) out out' s.answer.received filled)
    (room : s.answer.received + 32767 ≤ length out) (next : State) (is : next ≡ after_run s filled.ran) where
  abbrev brought : List ℕ
  brought = (run_dtds (endpoint 2 true) [] (S.bus m s.port.line)).bytes

  abbrev arrived : State → ℕ → State
  arrived t k = with_answer t (with_count t.answer k)

  whole : take (length out - s.answer.received) brought ≡ brought
  whole = take_all (length out - s.answer.received) brought (omega (arith, run_bytes (endpoint 2 true) refl [] (S.bus m s.port.line)))

  area : out' ≡ sets out s.answer.received brought
  unfolding kept
  area = rw whole at run.area

  end : filled.at ≡ s.answer.received + length brought
  unfolding kept_end
  end = rw whole at run.end

  pub serial_in_steps : {t : State} → t ≡ arrived next filled.at → Receives takes_serial s m out t m' out'
  unfolding apply
  serial_in_steps {t} e =
      record {
        leads = λ w. run_then (endpoint 2 true) [] _ (with_receive_area w out) s m m' filled.ran run.runs
            (once (λ v. received brought) (at_receive w (after_run s filled.ran) m' out) _ (rw (e, is, end, area)));
        sized = run.runs.does.sized;
        few = rw (e, is) (fewer_same refl);
      }

-- n bytes of the queue go, which loses them
module _ (s : State) (m m' : Memory) (q q' : List ℕ) (r : Ran) (n : ℕ) (run : Runs (endpoint 2 false) (take n q) (S.bus m s.port.line) (S.bus m' r.line) r)
    (drains : q' ≡ drained q s.lengths.serial n) where
  abbrev lefts : State → State
  lefts t = with_lengths t (with_serial t.lengths (s.lengths.serial - n))

  pub serial_sent_lem : {t next : State} → next ≡ after_run s r → t ≡ lefts next → Serves with_serial_queue (drains_serial n) s m q t m' q'
  unfolding drains_serial apply
  serial_sent_lem {t} {next} is e =
      record {
        leads = λ w. rw (e, is, drains)
            (from_here _ (at_bus (with_serial_queue w q) s m)
            (in_turn (once (λ v. serial n) (at_bus (with_serial_queue w q) s m) (at_bus (with_serial_queue w (drained q s.lengths.serial n)) (lefts s) m) refl)
            (run_then (endpoint 2 false) (take n q) (λ x. nothing) (with_serial_queue w (drained q s.lengths.serial n)) (lefts s) m m' r run
            (unchanged _))));
        sized = run.does.sized;
        few = rw (e, is) (record { setups = refl; midi = le_refl s.lengths.midi; serial = omega arith; device = refl; config = refl });
      }

-- both directions
module _ (s s₁ s₂ : State) (m m₁ m₂ : Memory) (q q' out out' : List ℕ) (taken : Receives takes_serial s m out s₁ m₁ out') (given : Serves with_serial_queue gives_serial s₁ m₁ q s₂ m₂ q') where
  pub serial_steps : ServesBoth serial_step s m q out s₂ m₂ q' out'
  unfolding serial_step
  serial_steps =
      record {
        leads = λ w. in_turn (taken.leads (with_serial_queue w q)) (given.leads (with_receive_area w out'));
        sized = given.sized;
        few = fewer_then taken.few given.few;
      }

-- ---- MIDI to the device

module _ (s : State) (m m' : Memory) (q q' : List ℕ) (r : Ran) (n : ℕ) (run : Runs (endpoint 1 false) (take n q) (S.bus m s.port.line) (S.bus m' r.line) r)
    (drains : q' ≡ drained q s.lengths.midi n) where
  abbrev behind : List ℕ
  behind = drained q s.lengths.midi n

  abbrev fewer : State → State
  fewer t = with_lengths t (with_midi t.lengths (s.lengths.midi - n))

  abbrev more : State → State
  more t = with_stats t (counted midi_packets_out (n / 4) t.stats)

  pub midi_sent_lem : {t next counting : State} → next ≡ after_run s r → counting ≡ more next → t ≡ fewer counting → Serves with_midi_queue (drains_midi n) s m q t m' q'
  unfolding drains_midi apply
  midi_sent_lem {t} is counts e =
      record {
        leads = λ w. rw (e, counts, is, drains)
            (from_here _ (at_bus (with_midi_queue w q) s m)
            (in_turn (once (λ v. midi n) (at_bus (with_midi_queue w q) s m) (at_bus (with_midi_queue w behind) (fewer s) m) refl)
            (run_then (endpoint 1 false) (take n q) (λ x. one (λ v. count midi_packets_out (n / 4))) (with_midi_queue w behind) (fewer s) m m' r run
            (once (λ v. count midi_packets_out (n / 4)) (at_bus (with_midi_queue w behind) (fewer (after_run s r)) m') _ refl))));
        sized = run.does.sized;
        few = rw (e, counts, is) (record { setups = refl; midi = omega arith; serial = le_refl s.lengths.serial; device = refl; config = refl });
      }

-- whole units of what a packet carries wait
pub units_held : (tok held k unit : ℕ) → k ≡ packet_of tok held → k / unit * unit ≤ held
units_held tok held k unit e = le_trans (div-mul-le_self k unit) (omega (arith, e, min-le_right (min (total_of tok) 512) held))

-- ---- an output by what `give` answers

-- an output endpoint and its queue: step takes what fits, which drains does in whole units
pub record Output : Type 0 where
  pub to : Endpoint
  pub unit : ℕ
  pub held : Lengths → ℕ
  pub put : World → List ℕ → World
  pub step : ℕ → Step
  pub drains : ℕ → Step
  pub same : (x : ℕ) → drains (x / unit * unit) ≡ step x

module _ (o : Output) (s : State) (m m' : Memory) (q q' : List ℕ) (k : Option Taken) (g : Gives o.to o.unit s.port.line m q (o.held s.lengths) k m' q') where
  abbrev given : Step
  given = sends o.to (λ v. o.held v.state.lengths) o.step

  pub nothing_given : k ≡ None → Serves o.put given s m q s m' q'
  unfolding Gives
  nothing_given is =
      let none : GivesNothing o.to m q (o.held s.lengths) m' q' = rw is at g in
      record {
        leads = λ w. rw (none.memory, none.queue) (none_sent o.to (λ v. o.held v.state.lengths) o.step (at_bus (o.put w q) s m) none.none);
        sized = none.sized;
        few = fewer_same refl;
      }

  module _ {t : Taken} (is : k ≡ Some t) where
    some : GivesBytes o.to o.unit s.port.line m q (o.held s.lengths) t m' q'
    unfolding Gives
    some = rw is at g

    pub bytes_held : t.bytes ≤ o.held s.lengths
    bytes_held = some.few

    pub bytes_given : {next : State}
        → (Runs o.to (take t.bytes q) (S.bus m s.port.line) (S.bus m' t.ran.line) t.ran → q' ≡ drained q (o.held s.lengths) t.bytes → Serves o.put (o.drains t.bytes) s m q next m' q')
        → Serves o.put given s m q next m' q'
    bytes_given sent =
        let p = sent some.run some.queue in
        record {
          leads = λ w. some_sent o.to (λ v. o.held v.state.lengths) o.step (at_bus (o.put w q) s m) some.some (rw (← o.same _, ← some.fits) (p.leads w));
          sized = p.sized;
          few = p.few;
        }

-- ---- the two outputs: units of one byte leave none out

abbrev pub serial_output : Output
serial_output =
    record {
      to = endpoint 2 false;
      unit = 1;
      held = λ l. l.serial;
      put = with_serial_queue;
      step = drains_serial;
      drains = drains_serial;
      same = λ x. let one : x / 1 * 1 ≡ x = omega arith in ap drains_serial one;
    }

abbrev pub midi_output : Output
midi_output =
    record {
      to = endpoint 1 false;
      unit = 4;
      held = λ l. l.midi;
      put = with_midi_queue;
      step = λ n. drains_midi (n / 4 * 4);
      drains = drains_midi;
      same = λ x. refl;
    }
