-- The port's marks after a call: an accepted microframe's by its time and the run bit, any other call's as before; over every list of calls from a
-- new host what they look back at; and by that the two resets.
use Prim.Native.Nat.{ℕ, zero, suc, ◌+◌, ◌-◌, ◌*◌, ◌≤◌, ◌<◌}
use mathlib.Core.Path.{◌≡◌, refl, sym, ap, subst, ◌∙◌}
use mathlib.Core.Bool.{Bool, true, false, not, ◌&&◌}
use mathlib.Core.List.{List, [], ◌∷◌, ◌++◌}
use mathlib.Core.Option.{Option, none, some}
use mathlib.Core.Logic.{◌↔◌}
use native.Mathlib.Omega.{arith}
use lib.Dec.{eqb}
use lib.ListN.{length, get_or, take, replicate}
use borrow.Author.Tests.{eqb-true, eq-eqb, ne_eqb, leb-true}
use Rattle.bits.specs.Pick.{pick}
use Rattle.bits.proofs.Tests.{false_true, not-true, and_first, and_second, and_both}
use Rattle.record.specs.declared.Span.{Span}
use Rattle.record.specs.declared.Settings.{Settings}
use Rattle.record.specs.Change.{left}
use Rattle.record.specs.Record.{no_span, counter_of, microframes, midi_asleep, midi_dtds}
use Rattle.model.specs.Microframe as M
use Rattle.model.specs.Microframe.{rs_set, gone_at, asleep_at}
use Rattle.model.specs.Reach.{back_by, left_by, comes_back, device_left}
use Rattle.model.specs.PortMarks.{InGone, InSuspend, RunBit, RunTested, NoMidi, midi_come}
use Rattle.model.proofs.Spans.{gone_spans, suspend_span, run_bit}
use Rattle.model.proofs.PortMarks.{is_test, gone_mark, suspend_mark, suspend_kept, run_mark, run_kept, run_left, asleep_counted, asleep_kept}
use Rattle.bounds.proofs.Laws.{counter_below}
use Rattle.bounds.specs.Bounds.{MOST, asked_ok, held_ok, counts_ok, counters_ok, counted_ok, in_bounds}
use Rattle.model.proofs.Unread.{midi_unread}
use Rattle.kept.proofs.Shape.{Shape, shape_kept}
use Rattle.usbhost.specs.declared.Host.{Host}
use Rattle.usbhost.specs.Host.{state_of, settled, new_host}
use Rattle.usbhost.specs.Calls as C
use Rattle.usbhost.specs.Calls.{bounded, midi_number, midi_queued, midi_sent, serial_number, serial_queued, serial_sent, give_number, frame_given, given, holds_frame, frame_taken, taken_frame, access_number, with_flag, device_written}
use Rattle.usbhost.specs.Frame.{world_of, host_in, bounds_ok, frame_number, framed}
use Rattle.record.specs.World.{Lent}
use Rattle.usbhost.proofs.Frame.{accepted_tests}
use Rattle.history.specs.Calls.{Call, microframe, midi_send, serial_send, frame_give, frame_take, device_read, device_write, step, after}
use Rattle.history.specs.PortMarks.{later, last_brought, time_of, page_of, Some, HostBack, DeviceLeft}
use Rattle.history.proofs.Accepted.{bound_le}

-- ---- an accepted microframe

module _ (h : Host) (t : ℕ) (l : Lent) (e : frame_number h l ≡ 0) where
  abbrev next : Host
  next = step h (microframe t l)

  next_is : next ≡ host_in (left (M.microframe t) (world_of h l))
  unfolding step framed
  next_is = ap (λ (n : ℕ). host_in (pick (eqb n 0) (left (M.microframe t) (world_of h l)) (world_of h l))) e

  -- the settings are those of the record before
  pub call_settings : next.settings ≡ h.settings
  call_settings = ap (λ (x : Host). x.settings) next_is ∙ ap (λ (x : Shape). x.settings) (shape_kept t (world_of h l))

  -- document 01, "Host record": gone
  pub call_gone : (next.port.gone ≡ true) ↔ InGone h.settings t
  call_gone = is_test (ap (λ (x : Host). x.port.gone) next_is) (gone_mark t (world_of h l))

  -- suspend
  pub call_suspend : ¬ InGone h.settings t → (next.port.suspended ≡ true) ↔ InSuspend h.settings t
  call_suspend present = is_test (ap (λ (x : Host). x.port.suspended) next_is) (suspend_mark t (world_of h l) present)

  pub call_suspend_kept : InGone h.settings t → next.port.suspended ≡ h.port.suspended
  call_suspend_kept out = ap (λ (x : Host). x.port.suspended) next_is ∙ suspend_kept t (world_of h l) out

  -- RS seen set
  running_is : next.port.was_running ≡ (left (M.microframe t) (world_of h l)).state.port.was_running
  running_is = ap (λ (x : Host). x.port.was_running) next_is

  pub call_run : RunTested h.settings t → (next.port.was_running ≡ true) ↔ RunBit l.memory.page
  call_run r = is_test running_is (run_mark t (world_of h l) r)

  pub call_run_kept : ¬ RunTested h.settings t → next.port.was_running ≡ h.port.was_running
  call_run_kept n = running_is ∙ run_kept t (world_of h l) n

  pub call_left : device_left t (world_of h l) ≡ true → next.port.was_running ≡ false
  call_left d = running_is ∙ run_left t (world_of h l) d

  -- 409, 427, 776: the microframes in which the host reads no MIDI are counted
  asleep_is_lem : counter_of midi_asleep next.stats ≡ counter_of midi_asleep (left (M.microframe t) (world_of h l)).state.stats
  asleep_is_lem = ap (λ (x : Host). counter_of midi_asleep x.stats) next_is

  few_asleep : counter_of midi_asleep h.stats ≤ 32767 * MOST
  unfolding bounds_ok in_bounds
  few_asleep =
      let e₁ = and_second (asked_ok (state_of h) h.setups) _ (and_first (bounded h) _ (accepted_tests h l e).bounds) in
      let e₂ = and_first (counted_ok (state_of h)) _ (and_second (held_ok (state_of h) h.packers) _ e₁) in
      let e₃ = and_first (counters_ok h.stats) _ (and_second (counts_ok (state_of h)) _ e₂) in
      omega (arith, leb-true (counter_of midi_asleep h.stats) _ (counter_below h.stats e₃ 6 (omega arith)), bound_le 32767 (counter_of microframes h.stats))

  pub call_asleep : NoMidi t (world_of h l) → counter_of midi_asleep next.stats ≡ counter_of midi_asleep h.stats + 1
  call_asleep n = omega (arith, few_asleep, asleep_is_lem, asleep_counted t (world_of h l) n)

  pub call_awake : ¬ NoMidi t (world_of h l) → counter_of midi_asleep next.stats ≡ counter_of midi_asleep h.stats
  call_awake n = asleep_is_lem ∙ asleep_kept t (world_of h l) n

  -- and in those no read of MIDI is counted, no byte is answered and the receive area is as it was lent
  pub call_unread : NoMidi t (world_of h l) → midi_come (framed t h l) ≡ record { counted = counter_of midi_dtds h.stats; bytes = 0; area = l.receive; cables = l.cables }
  unfolding framed
  call_unread n =
      ap (λ (k : ℕ). midi_come (pick (eqb k 0) (left (M.microframe t) (world_of h l)) (world_of h l))) e ∙ midi_unread t (world_of h l) n

-- ---- any other call, and a refused microframe: settings and marks are as before

pub record SameMarks (h g : Host) : Type 0 where
  pub settings : g.settings ≡ h.settings
  pub gone : g.port.gone ≡ h.port.gone
  pub suspended : g.port.suspended ≡ h.port.suspended
  pub running : g.port.was_running ≡ h.port.was_running

same : (h : Host) → SameMarks h h
same h = record { settings = refl; gone = refl; suspended = refl; running = refl }

either : (b : Bool) {h g : Host} → SameMarks h g → SameMarks h (pick b g h)
either true s = s
either false s = same _

refused : (h : Host) (t : ℕ) (l : Lent) → ¬ (frame_number h l ≡ 0) → SameMarks h (step h (microframe t l))
unfolding step framed
refused h t l n =
    rw (ne_eqb (frame_number h l) 0 n) (same h)

-- a call that is no accepted microframe
abbrev pub NoFrame : Host → Call → Type 0
NoFrame h (microframe t l) = ¬ (frame_number h l ≡ 0)
NoFrame h (midi_send cable bs) = Unit
NoFrame h (serial_send bs) = Unit
NoFrame h (frame_give f sending) = Unit
NoFrame h (frame_take received) = Unit
NoFrame h (device_read page off size) = Unit
NoFrame h (device_write page off size v) = Unit

pub marks_stay : (h : Host) (c : Call) → NoFrame h c → SameMarks h (step h c)
unfolding step midi_sent serial_sent given taken_frame device_written midi_queued serial_queued frame_given frame_taken with_flag C.device_read
marks_stay h (microframe t l) n = refused h t l n
marks_stay h (midi_send cable bs) n = either (eqb (midi_number h cable bs) 0) (record { settings = refl; gone = refl; suspended = refl; running = refl })
marks_stay h (serial_send bs) n = either (eqb (serial_number h bs) 0) (record { settings = refl; gone = refl; suspended = refl; running = refl })
marks_stay h (frame_give f sending) n = either (eqb (give_number h f sending) 0) (record { settings = refl; gone = refl; suspended = refl; running = refl })
marks_stay h (frame_take received) n = either (holds_frame h received) (record { settings = refl; gone = refl; suspended = refl; running = refl })
marks_stay h (device_read page off size) n = same h
marks_stay h (device_write page off size v) n = either (eqb (access_number h (length page) off size) 0) (record { settings = refl; gone = refl; suspended = refl; running = refl })

-- ---- over every list of calls from a new host

by_number : {P : Type 0} (h : Host) (l : Lent) → (frame_number h l ≡ 0 → P) → (¬ (frame_number h l ≡ 0) → P) → P
by_number {P = P} h l p q = by (eqb (frame_number h l) 0) refl
  where
    by : (b : Bool) → eqb (frame_number h l) 0 ≡ b → P
    by true e = p (eqb-true (frame_number h l) 0 e)
    by false e = q (λ z. false_true (sym e ∙ eq-eqb (frame_number h l) 0 z))

-- settings are those of `new`
settings_step : (h : Host) (c : Call) → (step h c).settings ≡ h.settings
settings_step h (microframe t l) = by_number h l (call_settings h t l) (λ n. (refused h t l n).settings)
settings_step h (midi_send cable bs) = (marks_stay h (midi_send cable bs) tt).settings
settings_step h (serial_send bs) = (marks_stay h (serial_send bs) tt).settings
settings_step h (frame_give f sending) = (marks_stay h (frame_give f sending) tt).settings
settings_step h (frame_take received) = (marks_stay h (frame_take received) tt).settings
settings_step h (device_read page off size) = (marks_stay h (device_read page off size) tt).settings
settings_step h (device_write page off size v) = (marks_stay h (device_write page off size v) tt).settings

pub settings_after : (h : Host) (cs : List Call) → (after h cs).settings ≡ h.settings
unfolding after
settings_after h [] = refl
settings_after h (c ∷ cs) = settings_after (step h c) cs ∙ settings_step h c

-- a mark that each call makes to be what the last of those that brought something says
module _ {A : Type 0} (s : Settings) (brings : Host → Call → Option A) (P : A → Type 0) (mark : Host → Bool)
    (steps : (h : Host) (c : Call) (o : Option A) → h.settings ≡ s → (mark h ≡ true) ↔ Some P o → (mark (step h c) ≡ true) ↔ Some P (later o (brings h c))) where
  marked : (h : Host) (cs : List Call) (o : Option A) → h.settings ≡ s → (mark h ≡ true) ↔ Some P o → (mark (after h cs) ≡ true) ↔ Some P (last_brought brings h o cs)
  unfolding after last_brought
  marked h [] o e m = m
  marked h (c ∷ cs) o e m = marked (step h c) cs (later o (brings h c)) (settings_step h c ∙ e) (steps h c o e m)

gone_frame : (s : Settings) (h : Host) (t : ℕ) (l : Lent) (o : Option ℕ) → h.settings ≡ s → (h.port.gone ≡ true) ↔ Some (InGone s) o
    → (b : Bool) → eqb (frame_number h l) 0 ≡ b → ((step h (microframe t l)).port.gone ≡ true) ↔ Some (InGone s) (later o (pick b (some t) none))
gone_frame s h t l o e m true x =
    subst (λ (c : Settings). ((step h (microframe t l)).port.gone ≡ true) ↔ InGone c t) e (call_gone h t l (eqb-true (frame_number h l) 0 x))
gone_frame s h t l o e m false x = is_test (refused h t l (λ z. false_true (sym x ∙ eq-eqb (frame_number h l) 0 z))).gone m

gone_step : (s : Settings) (h : Host) (c : Call) (o : Option ℕ) → h.settings ≡ s → (h.port.gone ≡ true) ↔ Some (InGone s) o
    → ((step h c).port.gone ≡ true) ↔ Some (InGone s) (later o (time_of h c))
unfolding time_of
gone_step s h (microframe t l) o e m = gone_frame s h t l o e m (eqb (frame_number h l) 0) refl
gone_step s h (midi_send cable bs) o e m = is_test (marks_stay h (midi_send cable bs) tt).gone m
gone_step s h (serial_send bs) o e m = is_test (marks_stay h (serial_send bs) tt).gone m
gone_step s h (frame_give f sending) o e m = is_test (marks_stay h (frame_give f sending) tt).gone m
gone_step s h (frame_take received) o e m = is_test (marks_stay h (frame_take received) tt).gone m
gone_step s h (device_read page off size) o e m = is_test (marks_stay h (device_read page off size) tt).gone m
gone_step s h (device_write page off size v) o e m = is_test (marks_stay h (device_write page off size v) tt).gone m

-- the gone mark is whether the time of the last accepted microframe lies in a gone span
pub gone_history : (s : Settings) (cs : List Call) → ((after (new_host s) cs).port.gone ≡ true) ↔ Some (InGone s) (last_brought time_of (new_host s) none cs)
unfolding new_host
gone_history s cs = marked s time_of (InGone s) (λ h. h.port.gone) (gone_step s) (new_host s) cs none refl (false_true, λ x. absurd x)

run_frame : (s : Settings) → s.device_stack ≡ true → (h : Host) (t : ℕ) (l : Lent) (o : Option (List ℕ)) → h.settings ≡ s → (h.port.was_running ≡ true) ↔ Some RunBit o
    → (b g a : Bool) → eqb (frame_number h l) 0 ≡ b → gone_at t (world_of h l) ≡ g → asleep_at t (world_of h l) ≡ a
    → ((step h (microframe t l)).port.was_running ≡ true) ↔ Some RunBit (later o (pick (b && (not g && not a)) (some l.memory.page) none))
run_frame s stack h t l o e m false g a x y z = is_test (refused h t l (λ n. false_true (sym x ∙ eq-eqb (frame_number h l) 0 n))).running m
run_frame s stack h t l o e m true true a x y z =
    is_test (call_run_kept h t l (eqb-true (frame_number h l) 0 x) (λ r. r.present ((gone_spans t (world_of h l)).0 y))) m
run_frame s stack h t l o e m true false true x y z =
    is_test (call_run_kept h t l (eqb-true (frame_number h l) 0 x) (λ r. r.awake ((suspend_span t (world_of h l)).0 z))) m
run_frame s stack h t l o e m true false false x y z =
    call_run h t l (eqb-true (frame_number h l) 0 x)
    (record {
      stack = ap (λ (c : Settings). c.device_stack) e ∙ stack;
      present = λ i. false_true (sym y ∙ (gone_spans t (world_of h l)).1 i);
      awake = λ i. false_true (sym z ∙ (suspend_span t (world_of h l)).1 i);
    })

run_step : (s : Settings) → s.device_stack ≡ true → (h : Host) (c : Call) (o : Option (List ℕ)) → h.settings ≡ s → (h.port.was_running ≡ true) ↔ Some RunBit o
    → ((step h c).port.was_running ≡ true) ↔ Some RunBit (later o (page_of h c))
unfolding page_of
run_step s stack h (microframe t l) o e m = run_frame s stack h t l o e m (eqb (frame_number h l) 0) (gone_at t (world_of h l)) (asleep_at t (world_of h l)) refl refl refl
run_step s stack h (midi_send cable bs) o e m = is_test (marks_stay h (midi_send cable bs) tt).running m
run_step s stack h (serial_send bs) o e m = is_test (marks_stay h (serial_send bs) tt).running m
run_step s stack h (frame_give f sending) o e m = is_test (marks_stay h (frame_give f sending) tt).running m
run_step s stack h (frame_take received) o e m = is_test (marks_stay h (frame_take received) tt).running m
run_step s stack h (device_read page off size) o e m = is_test (marks_stay h (device_read page off size) tt).running m
run_step s stack h (device_write page off size v) o e m = is_test (marks_stay h (device_write page off size v) tt).running m

-- with the device stack the run mark is RS of the last accepted microframe that was neither gone nor suspended
pub run_history : (s : Settings) → s.device_stack ≡ true → (cs : List Call) → ((after (new_host s) cs).port.was_running ≡ true) ↔ Some RunBit (last_brought page_of (new_host s) none cs)
unfolding new_host
run_history s stack cs = marked s page_of RunBit (λ h. h.port.was_running) (run_step s stack) (new_host s) cs none refl (false_true, λ x. absurd x)

-- ---- the resets

unset : (b : Bool) → ¬ (b ≡ true) → not b ≡ true
unset true n = absurd (n refl)
unset false n = refl

module _ (s : Settings) (cs : List Call) (t : ℕ) (l : Lent) where
  abbrev before : Host
  before = after (new_host s) cs

  -- the settings of that host are those of `new`
  settings_new : before.settings ≡ s
  unfolding new_host
  settings_new = settings_after (new_host s) cs

  gone_then : (gone_at t (world_of before l) ≡ true) ↔ InGone s t
  gone_then = subst (λ (c : Settings). (gone_at t (world_of before l) ≡ true) ↔ InGone c t) settings_new (gone_spans t (world_of before l))

  suspend_then : (asleep_at t (world_of before l) ≡ true) ↔ InSuspend s t
  suspend_then = subst (λ (c : Settings). (asleep_at t (world_of before l) ≡ true) ↔ InSuspend c t) settings_new (suspend_span t (world_of before l))

  not_gone : not (gone_at t (world_of before l)) ≡ true → ¬ InGone s t
  not_gone e i = false_true (sym (not-true _ e) ∙ gone_then.1 i)

  -- document 01, "Host record": the credit is reset when a gone span ends
  pub back_history : (comes_back t (world_of before l) ≡ true) ↔ HostBack s t (last_brought time_of (new_host s) none cs)
  unfolding back_by
  back_history =
      let g = gone_at t (world_of before l) in (
        λ e. record { out = (gone_history s cs).0 (and_second (not g) before.port.gone e); present = not_gone (and_first (not g) before.port.gone e) },
        λ p. and_both (not g) before.port.gone (unset g (λ e. p.present (gone_then.0 e))) ((gone_history s cs).1 p.out),
      )

  -- and, with the device stack, when the firmware clears the run bit of USBCMD after having set it
  pub left_history : (device_left t (world_of before l) ≡ true) ↔ DeviceLeft s t l.memory.page (last_brought page_of (new_host s) none cs)
  unfolding left_by
  left_history = (to, from)
    where
      stack_then : before.settings.device_stack ≡ s.device_stack
      stack_then = ap (λ (c : Settings). c.device_stack) settings_new

      to : device_left t (world_of before l) ≡ true → DeviceLeft s t l.memory.page (last_brought page_of (new_host s) none cs)
      to e₀ =
          let e₁ = and_second (not (gone_at t (world_of before l))) _ e₀ in
          let e₂ = and_second (not (asleep_at t (world_of before l))) _ e₁ in
          let e₃ = and_second (not (rs_set (world_of before l))) _ e₂ in
          let on : s.device_stack ≡ true = sym stack_then ∙ and_first before.settings.device_stack _ e₃ in
          record {
            tested = record {
              stack = on;
              present = not_gone (and_first (not (gone_at t (world_of before l))) _ e₀);
              awake = λ i. false_true (sym (not-true _ (and_first (not (asleep_at t (world_of before l))) _ e₁)) ∙ suspend_then.1 i);
            };
            running = (run_history s on cs).0 (and_second before.settings.device_stack _ e₃);
            stopped = λ r. false_true (sym (not-true _ (and_first (not (rs_set (world_of before l))) _ e₂)) ∙ (run_bit (world_of before l)).1 r);
          }

      from : DeviceLeft s t l.memory.page (last_brought page_of (new_host s) none cs) → device_left t (world_of before l) ≡ true
      from d =
          and_both _ _ (unset (gone_at t (world_of before l)) (λ e. d.tested.present (gone_then.0 e)))
          (and_both _ _ (unset (asleep_at t (world_of before l)) (λ e. d.tested.awake (suspend_then.0 e)))
          (and_both _ _ (unset (rs_set (world_of before l)) (λ e. d.stopped ((run_bit (world_of before l)).0 e)))
          (and_both _ _ (stack_then ∙ d.tested.stack) ((run_history s d.tested.stack cs).1 d.running))))

-- ---- `new` keeps the gone spans that it is given

padded : (n m : ℕ) (l : List Span) (k : ℕ) → k < n → get_or (take n l ++ replicate m no_span) k no_span ≡ get_or l k no_span
padded zero m l k h = absurd (omega arith)
padded (suc n) zero [] k h = refl
padded (suc n) (suc m) [] zero h = refl
padded (suc n) (suc m) [] (suc k) h = nowhere m k
  where
    nowhere : (m k : ℕ) → get_or (replicate m no_span) k no_span ≡ no_span
    nowhere zero k = refl
    nowhere (suc m) zero = refl
    nowhere (suc m) (suc k) = nowhere m k
padded (suc n) m (x ∷ l) zero h = refl
padded (suc n) m (x ∷ l) (suc k) h = padded n m l k (omega arith)

pub gone_new : (c : Settings) (t : ℕ) → InGone (settled c) t ↔ InGone c t
unfolding settled
gone_new c t = (
  λ g. record { i = g.i; listed = g.listed; start = omega (arith, g.start, from g.i g.listed); end = omega (arith, g.end, to g.i g.listed) },
  λ g. record { i = g.i; listed = g.listed; start = omega (arith, g.start, from g.i g.listed); end = omega (arith, g.end, to g.i g.listed) },
)
  where
    kept : List Span
    kept = take c.spans c.gone ++ replicate (16 - c.spans) no_span

    from : (i : ℕ) → i < c.spans → (get_or kept i no_span).from ≡ (get_or c.gone i no_span).from
    from i h = ap (λ (s : Span). s.from) (padded c.spans (16 - c.spans) c.gone i h)

    to : (i : ℕ) → i < c.spans → (get_or kept i no_span).to ≡ (get_or c.gone i no_span).to
    to i h = ap (λ (s : Span). s.to) (padded c.spans (16 - c.spans) c.gone i h)
