-- A microframe before the stream: Idle, the waits of Vbus and Reset, and the setups of Enumerate, each posted and then stalled.
use Prim.Native.Nat.{ℕ, ◌+◌, ◌-◌, ◌*◌, ◌<◌}
use mathlib.Core.Path.{◌≡◌, refl, ap, ◌∙◌}
use mathlib.Core.Bool.{Bool, true, false, not, ◌&&◌}
use mathlib.Core.Logic.{inr}
use native.Mathlib.Omega.{arith}
use lib.Dec.{eqb, ltb}
use lib.Seq.{sets}
use borrow.Author.Tests.{ne_eqb}
use Rattle.bits.specs.Word.{any}
use Rattle.bus.specs.Memory.{Memory}
use Rattle.bus.specs.Words.{word_at}
use Rattle.bus.specs.Steps.{and_then, exec_then}
use Rattle.usbdev.specs.Offsets.{USBSTS, EPCR0}
use Rattle.record.specs.declared.Phase.{Phase}
use Rattle.record.specs.declared.Phase.TheVariants.{Idle, Vbus, Reset, Enumerate, Stream}
use Rattle.record.specs.Record.{wrapped, enumerations}
use Rattle.record.specs.World.{World}
use Rattle.record.specs.Change.{apply, drained, left, ◌then◌, one, here}
use Rattle.record.specs.Change as Ch
use Rattle.model.specs.Phases.{now, longer, enters, idles, powers, first_setups, resets, starts_frame, drops_request}
use Rattle.model.specs.Control.{begun, posted, posts, enumerating, configured, stalled, unstalls, stages, controls}
use Rattle.model.specs.Microframe.{enumerates, talks, at_phase, microframe}
use Rattle.model.specs.Reach.{phase_by}
use Rattle.model.proofs.Fields.{fields_then, keeps_page, keeps_bus, keeps_one}
use Rattle.model.proofs.Progress.{if_true, if_false, when_true, when_false}
use Rattle.reached.proofs.Standing.{Stand, Held, stand_of, held_of, held}
use Rattle.reached.proofs.Keeping.{keeps_frame, keeps_transfers}
use Rattle.reached.proofs.Page.{framed_memory, framed_memory_lem, framed_word}
use Rattle.reached.proofs.Opening.{opened, opened_held, Plain, opened_held_lem, awake_memory, frame_in_lem}

-- a phase begins
abbrev pub entered : Phase → Stand → Stand
entered q k = record { phase = q; on = k.on; waiting = k.waiting; uf = k.uf; t = k.uf; gone = k.gone; suspended = k.suspended; was_running = k.was_running }

abbrev pub entered_held : Phase → Held → Held
entered_held q k = record { stand = entered q k.stand; queue = k.queue }

pub held_enters : (q : Phase) (v : World) → held_of (left (enters q) v) ≡ entered_held q (held_of v)
unfolding enters and_then one apply
held_enters q v = refl

pub held_idles : (v : World) → held_of (left idles v) ≡ entered_held Vbus (held_of v)
unfolding idles
held_idles v = fields_then held _ _ v ∙ held_enters Vbus _ ∙ ap (entered_held Vbus) (keeps_page held _ v)

held_powers : (v : World) → longer 400 v ≡ true → held_of (left (powers true) v) ≡ entered_held Reset (held_of v)
unfolding powers
held_powers v e =
    ap held_of (when_true (λ w. true && longer 400 w) _ v e)
    ∙ fields_then held _ _ v ∙ held_enters Reset _ ∙ ap (entered_held Reset) (keeps_page held _ v)

waits_powers : (v : World) → longer 400 v ≡ false → left (powers true) v ≡ v
unfolding powers
waits_powers v e = when_false (λ w. true && longer 400 w) _ v e

-- 474-479: four setups behind those that wait
abbrev pub asking : Held → Held
asking k =
    record {
      stand = record { phase = k.stand.phase; on = k.stand.on; waiting = k.stand.waiting + 4; uf = k.stand.uf; t = k.stand.t; gone = k.stand.gone; suspended = k.stand.suspended; was_running = k.stand.was_running };
      queue = sets k.queue (8 * k.stand.waiting) first_setups;
    }

held_queued : (v : World) → held_of (left (one (λ w. Ch.queued first_setups)) v) ≡ asking (held_of v)
unfolding one apply
held_queued v = refl

held_resets : (v : World) → (longer 80 v && not (any (word_at v.lent.memory.page USBSTS) 0x40)) ≡ true → held_of (left resets v) ≡ asking (entered_held Enumerate (held_of v))
unfolding resets
held_resets v e =
    ap held_of (when_true (λ w. longer 80 w && not (any (word_at w.lent.memory.page USBSTS) 0x40)) _ v e)
    ∙ fields_then held _ _ v ∙ fields_then held _ _ _ ∙ held_queued _
    ∙ ap asking (held_enters Enumerate _ ∙ ap (entered_held Enumerate) (keeps_page held _ v))

waits_resets : (v : World) → longer 80 v ≡ false → left resets v ≡ v
unfolding resets
waits_resets v e =
    when_false (λ w. longer 80 w && not (any (word_at w.lent.memory.page USBSTS) 0x40)) _ v
    (ap (λ (b : Bool). b && not (any (word_at v.lent.memory.page USBSTS) 0x40)) e)

-- ---- enumeration

-- a setup that is posted leaves the queue, and its request runs
abbrev pub posted_held : Held → Held
posted_held k =
    record {
      stand = record { phase = k.stand.phase; on = true; waiting = k.stand.waiting - 1; uf = k.stand.uf; t = k.stand.t; gone = k.stand.gone; suspended = k.stand.suspended; was_running = k.stand.was_running };
      queue = drained k.queue (8 * k.stand.waiting) 8;
    }

abbrev pub on_held : Bool → Held → Held
on_held b k =
    record {
      stand = record { phase = k.stand.phase; on = b; waiting = k.stand.waiting; uf = k.stand.uf; t = k.stand.t; gone = k.stand.gone; suspended = k.stand.suspended; was_running = k.stand.was_running };
      queue = k.queue;
    }

abbrev popped_held : Held → Held
popped_held k =
    record {
      stand = record { phase = k.stand.phase; on = k.stand.on; waiting = k.stand.waiting - 1; uf = k.stand.uf; t = k.stand.t; gone = k.stand.gone; suspended = k.stand.suspended; was_running = k.stand.was_running };
      queue = drained k.queue (8 * k.stand.waiting) 8;
    }

held_begun : (first second : ℕ) (v : World) → held_of (left (one (λ w. Ch.control (begun first second (now w)))) v) ≡ on_held true (held_of v)
unfolding one apply
held_begun first second v = refl

held_popped : (v : World) → held_of (left (one (λ w. Ch.popped)) v) ≡ popped_held (held_of v)
unfolding one apply
held_popped v = refl

held_posted : (qh first second : ℕ) (v : World) → held_of (left (posted qh first second) v) ≡ posted_held (held_of v)
unfolding posted
held_posted qh first second v =
    fields_then held _ _ v ∙ fields_then held _ _ _ ∙ fields_then held _ _ _ ∙ fields_then held _ _ _
    ∙ held_begun first second _
    ∙ ap (on_held true) (keeps_page held _ _ ∙ keeps_one held _ (λ w. refl) _ ∙ keeps_bus held _ _ ∙ held_popped v)

held_posts : (v : World) → held_of (left posts v) ≡ posted_held (held_of v)
unfolding posts here
held_posts v = held_posted _ _ _ v

held_drops : (v : World) → held_of (left drops_request v) ≡ on_held false (held_of v)
unfolding drops_request one apply
held_drops v = refl

held_unstalls : (v : World) → held_of (left unstalls v) ≡ on_held false (held_of v)
unfolding unstalls
held_unstalls v = fields_then held _ _ v ∙ keeps_page held _ _ ∙ held_drops v

abbrev pub streaming_held : Held → Held
streaming_held k =
    record {
      stand = record { phase = Stream; on = k.stand.on; waiting = k.stand.waiting; uf = k.stand.uf; t = k.stand.t; gone = k.stand.gone; suspended = k.stand.suspended; was_running = k.stand.was_running };
      queue = k.queue;
    }

held_ended : (v : World) → held_of (left (one (λ w. Ch.phase Stream) then one (λ w. Ch.count enumerations 1)) v) ≡ streaming_held (held_of v)
unfolding and_then one apply
held_ended v = refl

held_configured : (v : World) → v.state.phase ≡ Enumerate → held_of (left configured v) ≡ streaming_held (held_of v)
unfolding configured
held_configured v e = ap held_of (when_true (λ w. enumerating w.state.phase) _ v (ap enumerating e)) ∙ held_ended v

-- ---- the whole microframe

-- more than n microframes since the phase began
abbrev late : ℕ → Stand → Bool
late n k = ltb (wrapped (k.t + n)) k.uf

module _ (t : ℕ) (w : World) (p : Plain t w) where
  abbrev pub stack : Bool
  stack = w.settings.device_stack

  abbrev pub there : World
  there = phase_by true w

  late_is : (n : ℕ) → longer n there ≡ late n (opened stack (stand_of w))
  late_is n = ap (λ (k : Held). late n k.stand) (opened_held_lem t w p)

  pub frame_idle : w.state.phase ≡ Idle → held_of (left (microframe t) w) ≡ entered_held Vbus (opened_held stack (held_of w))
  frame_idle e = ap held_of (frame_in_lem t w p Idle e) ∙ held_idles there ∙ ap (entered_held Vbus) (opened_held_lem t w p)

  pub frame_powers : w.state.phase ≡ Vbus → late 400 (opened stack (stand_of w)) ≡ true → held_of (left (microframe t) w) ≡ entered_held Reset (opened_held stack (held_of w))
  frame_powers e l =
      ap held_of (frame_in_lem t w p Vbus e) ∙ held_powers there (late_is 400 ∙ l) ∙ ap (entered_held Reset) (opened_held_lem t w p)

  pub frame_vbus : w.state.phase ≡ Vbus → late 400 (opened stack (stand_of w)) ≡ false → held_of (left (microframe t) w) ≡ opened_held stack (held_of w)
  frame_vbus e l =
      ap held_of (frame_in_lem t w p Vbus e ∙ waits_powers there (late_is 400 ∙ l)) ∙ opened_held_lem t w p

  pub frame_reset : w.state.phase ≡ Reset → late 80 (opened stack (stand_of w)) ≡ false → held_of (left (microframe t) w) ≡ opened_held stack (held_of w)
  frame_reset e l =
      ap held_of (frame_in_lem t w p Reset e ∙ waits_resets there (late_is 80 ∙ l)) ∙ opened_held_lem t w p

  -- URI is clear on the page that the microframe is lent
  pub frame_resets : w.state.port.suspended ≡ false → w.state.phase ≡ Reset → late 80 (opened stack (stand_of w)) ≡ true → any (word_at w.lent.memory.page USBSTS) 0x40 ≡ false
      → held_of (left (microframe t) w) ≡ asking (entered_held Enumerate (opened_held stack (held_of w)))
  frame_resets awake e l u =
      ap held_of (frame_in_lem t w p Reset e)
      ∙ held_resets there (both (late_is 80 ∙ l) (ap (λ (m : Memory). any (word_at m.page USBSTS) 0x40) (awake_memory t w p awake) ∙ u))
      ∙ ap (λ (k : Held). asking (entered_held Enumerate k)) (opened_held_lem t w p)
    where
      both : {a b : Bool} → a ≡ true → b ≡ false → (a && not b) ≡ true
      both {a} {b} x y = ap (λ (z : Bool). z && not b) x ∙ ap not y

  -- the World at control
  abbrev pub asked : World
  asked = left starts_frame there

  pub asked_held : held_of asked ≡ opened_held stack (held_of w)
  asked_held = keeps_frame there ∙ opened_held_lem t w p

  -- in Enumerate and in Stream: the start of frame, control, the transfers
  pub frame_talks : (q : Phase) → w.state.phase ≡ q → left (at_phase w.settings t true q) there ≡ left (talks w.settings t true) there
      → held_of (left (microframe t) w) ≡ held_of (left (controls stack) asked)
  unfolding talks enumerates
  frame_talks q e f =
      ap held_of (frame_in_lem t w p q e ∙ f ∙ when_true (λ v. true) _ there refl ∙ exec_then apply _ _ there)
      ∙ keeps_transfers w.settings t _
      ∙ fields_then held _ _ there

  pub asked_on_lem : (b : Bool) → w.state.control.on ≡ b → asked.state.control.on ≡ b
  asked_on_lem b e = ap (λ (k : Held). k.stand.on) asked_held ∙ e

  pub asked_waiting : (n : ℕ) → w.state.lengths.setups ≡ n → asked.state.lengths.setups ≡ n
  asked_waiting n e = ap (λ (k : Held). k.stand.waiting) asked_held ∙ e

  -- the next setup is posted
  pub frame_posts : w.state.phase ≡ Enumerate → w.state.control.on ≡ false → 0 < w.state.lengths.setups
      → held_of (left (microframe t) w) ≡ posted_held (opened_held stack (held_of w))
  unfolding controls
  frame_posts e o n =
      let same = asked_waiting w.state.lengths.setups refl in
      frame_talks Enumerate e refl
      ∙ ap held_of (if_false (λ v. v.state.control.on) _ _ asked (asked_on_lem false o))
      ∙ ap held_of (if_false (λ v. eqb v.state.lengths.setups 0) configured posts asked (ne_eqb asked.state.lengths.setups 0 (λ z. omega (arith, z, same, n))))
      ∙ held_posts asked
      ∙ ap posted_held asked_held

  -- a request whose endpoint is stalled is dropped
  pub frame_stalls : w.state.port.suspended ≡ false → w.state.phase ≡ Enumerate → w.state.control.on ≡ true → any (word_at w.lent.memory.page EPCR0) 0x10001 ≡ true
      → held_of (left (microframe t) w) ≡ on_held false (opened_held stack (held_of w))
  unfolding controls
  frame_stalls awake e o s =
      let there-page = framed_memory_lem there ∙ ap framed_memory (awake_memory t w p awake) in
      let stall : stalled asked ≡ true =
      ap (λ (m : Memory). any (word_at m.page EPCR0) 0x10001) there-page
      ∙ ap (λ (v : ℕ). any v 0x10001) (framed_word w.lent.memory.page EPCR0 (inr (omega arith)))
      ∙ s in
      frame_talks Enumerate e refl
      ∙ ap held_of (if_true (λ v. v.state.control.on) _ _ asked (asked_on_lem true o))
      ∙ ap held_of (if_true stalled unstalls (stages stack) asked stall)
      ∙ held_unstalls asked
      ∙ ap (on_held false) asked_held

  -- no setup waits: the stream begins
  pub frame_ends : w.state.phase ≡ Enumerate → w.state.control.on ≡ false → w.state.lengths.setups ≡ 0
      → held_of (left (microframe t) w) ≡ streaming_held (opened_held stack (held_of w))
  unfolding controls
  frame_ends e o n =
      frame_talks Enumerate e refl
      ∙ ap held_of (if_false (λ v. v.state.control.on) _ _ asked (asked_on_lem false o))
      ∙ ap held_of (if_true (λ v. eqb v.state.lengths.setups 0) configured posts asked (ap (λ (x : ℕ). eqb x 0) (asked_waiting 0 n)))
      ∙ held_configured asked (ap (λ (k : Held). k.stand.phase) asked_held ∙ e)
      ∙ ap streaming_held asked_held

  -- and goes on
  pub frame_streams : w.state.phase ≡ Stream → w.state.control.on ≡ false → w.state.lengths.setups ≡ 0
      → held_of (left (microframe t) w) ≡ opened_held stack (held_of w)
  unfolding controls configured
  frame_streams e o n =
      frame_talks Stream e refl
      ∙ ap held_of (if_false (λ v. v.state.control.on) _ _ asked (asked_on_lem false o))
      ∙ ap held_of (if_true (λ v. eqb v.state.lengths.setups 0) configured posts asked (ap (λ (x : ℕ). eqb x 0) (asked_waiting 0 n)))
      ∙ ap held_of (when_false (λ v. enumerating v.state.phase) _ asked (ap (λ (k : Held). enumerating k.stand.phase) asked_held ∙ ap enumerating e))
      ∙ asked_held
