-- A microframe keeps every bound of number 5, for the record and for the areas that it was lent.
use Prim.Native.Nat.{ℕ, ◌+◌, ◌*◌, ◌/◌, ◌%◌, ◌^◌, ◌≤◌, ◌<◌, min}
use mathlib.Core.Path.{◌≡◌, refl, ap, sym, ◌∙◌}
use mathlib.Core.Bool.{Bool, true, false, not, ◌&&◌, ◌||◌}
use mathlib.Core.List.{List}
use native.Mathlib.Omega.{arith}
use borrow.Author.Tests.{leb-true, le-leb, eqb-true, eq-eqb}
use lib.Dec.{eqb, leb}
use lib.ListN.{length}
use Rattle.midi.specs.declared.Packer.{Packer}
use Rattle.config.specs.Config.{Bytes as AllBytes}
use Rattle.record.specs.declared.State.{State}
use Rattle.record.specs.World.{World}
use Rattle.record.specs.Sizes.{FRAMES, WORDS}
use Rattle.record.specs.Change.{left}
use Rattle.record.specs.Record.{counter_of, microframes, in_frames}
use Rattle.model.specs.Control.{w_length}
use Rattle.model.specs.Microframe.{rs_set, gone_at, asleep_at, microframe}
use Rattle.model.specs.Earned.{Counts, counts_of, sent_counts}
use Rattle.bits.proofs.Tests.{and_first, and_second, and_both}
use Rattle.model.proofs.History.{counts_microframe}
use Rattle.bounds.specs.Bounds.{MOST, times, setups_ok, enumerating_ok, request_ok, made, asks_configuration, queues_ok, packers_ok, counts_ok, counters_ok, credit_ok, timers_ok, audio_ok, asked_ok, held_ok, counted_ok, in_bounds, ring_ok, areas_ok}
use Rattle.bounds.proofs.Laws.{counter_below}
use Rattle.kept.proofs.Credit.{SMALL, sent_le, sent_seven}
use Rattle.kept.proofs.Timers.{timers_kept}
use Rattle.kept.proofs.Queues.{Queues, queues_kept}
use Rattle.kept.proofs.Shape.{Shape, shape_kept, SameArrays, arrays_kept}
use Rattle.kept.proofs.Rings.{received_kept, sending_kept}
use Rattle.kept.proofs.Audio.{audio_kept}
use Rattle.kept.proofs.Counted.{counted_of, counted_kept, counts_kept}
use Rattle.kept.proofs.Counters.{counters_kept}
use Rattle.kept.proofs.Setups.{Requests, Entry, requests_kept, setups_kept, config_kept}

-- every bound, of a record in its World
pub record Bounded (w : World) : Type 0 where
  pub record_bounds : in_bounds w.state w.packers w.own.setups ≡ true
  pub areas : areas_ok w.state (length w.lent.reply) (length w.lent.config) ≡ true
  pub received : ring_ok w.state.audio.received FRAMES ≡ true
  pub sending : ring_ok w.state.audio.sending (length w.lent.sending / WORDS) ≡ true
  pub second : w.state.control.second < 2 ^ 32

-- the named parts
record Parts (w : World) : Type 0 where
  requests : Requests w
  queues : Queues w.state.lengths
  packers : packers_ok w.packers ≡ true
  counts : counts_ok w.state ≡ true
  counters : counters_ok w.state.stats ≡ true
  credit : credit_ok w.state.audio.credit (counter_of microframes w.state.stats) ≡ true
  timers : timers_ok w.state.timers (counter_of microframes w.state.stats) ≡ true
  audio : audio_ok w.state.audio ≡ true
  received : ring_ok w.state.audio.received FRAMES ≡ true
  sending : ring_ok w.state.audio.sending (length w.lent.sending / WORDS) ≡ true

apart : (w : World) → Bounded w → Parts w
unfolding in_bounds queues_ok areas_ok
apart w b =
    let s = w.state in
    let asked = and_first (asked_ok s w.own.setups) _ b.record_bounds in
    let r₁ = and_second (asked_ok s w.own.setups) _ b.record_bounds in
    let held = and_first (held_ok s w.packers) _ r₁ in
    let r₂ = and_second (held_ok s w.packers) _ r₁ in
    let counted = and_first (counted_ok s) _ r₂ in
    let a₁ = and_second (setups_ok s.lengths.setups w.own.setups) _ asked in
    let queues = and_first (queues_ok s.lengths) _ held in
    let q₁ = and_second (leb s.lengths.midi 4096) _ queues in
    let q₂ = and_second (eqb (s.lengths.midi % 4) 0) _ q₁ in
    let c₁ = and_second (counts_ok s) _ counted in
    let c₂ = and_second (counters_ok s.stats) _ c₁ in
    record {
      requests = record {
        setups = and_first (setups_ok s.lengths.setups w.own.setups) _ asked;
        enumeration = and_first (enumerating_ok s) _ a₁;
        request = and_second (enumerating_ok s) _ a₁;
        device = and_second (leb s.lengths.serial 4096) _ q₂;
        config = and_first (leb s.lengths.config (length w.lent.config)) _ b.areas;
        second = b.second;
      };
      queues = record {
        midi = and_first (leb s.lengths.midi 4096) _ queues;
        packets = and_first (eqb (s.lengths.midi % 4) 0) _ q₁;
        serial = and_first (leb s.lengths.serial 4096) _ q₂;
      };
      packers = and_second (queues_ok s.lengths) _ held;
      counts = and_first (counts_ok s) _ counted;
      counters = and_first (counters_ok s.stats) _ c₁;
      credit = and_first (credit_ok s.audio.credit (counter_of microframes s.stats)) _ c₂;
      timers = and_second (credit_ok s.audio.credit (counter_of microframes s.stats)) _ c₂;
      audio = and_second (counted_ok s) _ r₂;
      received = b.received;
      sending = b.sending;
    }

-- what number 5 says of a running request
abbrev running : State → Bool
running s =
    made s.control.first s.control.second
    && ((not (asks_configuration s.control.first) || eqb s.lengths.setups 0)
    && (leb s.control.t0 s.port.uf && leb s.control.got (w_length s.control)))

-- a running request's reply lies in its area, which has at least 65,535 bytes
reply_inside : (s : State) (reply : ℕ) → request_ok s.control s.lengths.setups s.port.uf ≡ true → s.control.second < 2 ^ 32 → 65535 ≤ reply
    → not s.control.on || leb s.control.got reply ≡ true
unfolding request_ok
reply_inside s reply r short h = by_on s.control.on refl r
  where
    by_on : (b : Bool) → s.control.on ≡ b → (not b || running s) ≡ true → not b || leb s.control.got reply ≡ true
    by_on false e q = refl
    by_on true e q =
        let q₁ = and_second (made s.control.first s.control.second) _ q in
        let q₂ = and_second (not (asks_configuration s.control.first) || eqb s.lengths.setups 0) _ q₁ in
        let q₃ = and_second (leb s.control.t0 s.port.uf) _ q₂ in
        let le = leb-true s.control.got (w_length s.control) q₃ in
        le-leb s.control.got reply (omega (arith, le, h, short))

together : (w : World) → 65535 ≤ length w.lent.reply → Parts w → Bounded w
unfolding in_bounds queues_ok areas_ok
together w h p =
    let r = p.requests in
    record {
      record_bounds =
          and_both _ _ (and_both _ _ r.setups (and_both _ _ r.enumeration r.request))
          (and_both _ _ (and_both _ _ (and_both _ _ p.queues.midi (and_both _ _ p.queues.packets (and_both _ _ p.queues.serial r.device))) p.packers)
          (and_both _ _ (and_both _ _ p.counts (and_both _ _ p.counters (and_both _ _ p.credit p.timers))) p.audio));
      areas = and_both _ _ r.config (reply_inside w.state (length w.lent.reply) r.request r.second h);
      received = p.received;
      sending = p.sending;
      second = r.second;
    }

-- ---- the credit

times_less : (k n : ℕ) → n ≤ MOST → k * min n MOST ≡ k * n
times_less k n h = ap (λ (x : ℕ). k * x) (omega (arith, h))

module _ (t : ℕ) (w : World) (credit : credit_ok w.state.audio.credit (counter_of microframes w.state.stats) ≡ true)
    (few : (counts_of w).received ≤ SMALL) (n : ℕ) (is : counter_of microframes w.state.stats ≡ n) (before : n < MOST)
    (next : counter_of microframes (left (microframe t) w).state.stats ≡ n + 1) where
  abbrev sevens : Bool
  sevens = eqb (w.state.audio.credit % 7) 0

  old_le : w.state.audio.credit ≤ 623 * n
  unfolding credit_ok
  old_le =
      let e = leb-true w.state.audio.credit (times 623 (counter_of microframes w.state.stats)) (and_second sevens _ credit) in
      let m : counter_of microframes w.state.stats ≤ MOST = omega (arith, is, before) in
      omega (arith, e, times_less 623 (counter_of microframes w.state.stats) m, is)

  old_seven : w.state.audio.credit % 7 ≡ 0
  unfolding credit_ok
  old_seven = eqb-true (w.state.audio.credit % 7) 0 (and_first sevens _ credit)

  small : (counts_of w).credit ≤ SMALL
  small = omega (arith, old_le, before)

  same : (left (microframe t) w).state.audio.credit ≡ (sent_counts (rs_set w) (gone_at t w) (asleep_at t w) w).credit
  same = ap (λ (m : Counts). m.credit) (counts_microframe t w)

  credit_kept : credit_ok (left (microframe t) w).state.audio.credit (counter_of microframes (left (microframe t) w).state.stats) ≡ true
  unfolding credit_ok
  credit_kept =
      let le = sent_le (rs_set w) (gone_at t w) (asleep_at t w) w small few in
      let seven = sent_seven (rs_set w) (gone_at t w) (asleep_at t w) w small few old_seven in
      let m : counter_of microframes (left (microframe t) w).state.stats ≤ MOST = omega (arith, next, before) in
      and_both _ _ (eq-eqb ((left (microframe t) w).state.audio.credit % 7) 0 (ap (λ (x : ℕ). x % 7) same ∙ seven))
      (le-leb (left (microframe t) w).state.audio.credit (times 623 (counter_of microframes (left (microframe t) w).state.stats))
      (omega (arith, same, le, old_le, times_less 623 (counter_of microframes (left (microframe t) w).state.stats) m, next)))

-- ---- all of it

small_counter : (w : World) (n : ℕ) → counter_of microframes w.state.stats ≡ n → n < MOST → counters_ok w.state.stats ≡ true → (counts_of w).received ≤ SMALL
small_counter w n is before e =
    let r = w.state.stats in
    let le : counter_of in_frames r ≤ times 32767 (counter_of microframes r) = leb-true _ _ (counter_below r e 2 (omega arith)) in
    omega (arith, le, times_less 32767 (counter_of microframes r) (omega (arith, is, before)), is, before)

of_parts : (t : ℕ) (w : World) → Entry w → Parts w → Parts (left (microframe t) w)
of_parts t w e p =
    let v = left (microframe t) w in
    let n = w.state.port.uf in
    let old = counted_of w.state p.counts in
    let new = counted_kept n e.uf t w old in
    let lens = shape_kept t w in
    let few : (counts_of w).received ≤ SMALL = small_counter w n old.microframes e.uf p.counters in
    let more : counter_of microframes (left (microframe t) w).state.stats ≡ n + 1 = new.microframes in
    let before : counter_of microframes w.state.stats < MOST = omega (arith, old.microframes, e.uf) in
    record {
      requests = requests_kept t w p.requests e;
      queues = queues_kept t w p.queues;
      packers = ap (λ (x : Shape). packers_ok x.packers) lens ∙ p.packers;
      counts = counts_kept t w p.counts e.uf;
      counters = counters_kept t w p.counters before;
      credit = credit_kept t w p.credit few n old.microframes e.uf more;
      timers =
          ap (timers_ok v.state.timers) more
          ∙ timers_kept n e.uf t w (ap (timers_ok w.state.timers) (sym old.microframes) ∙ p.timers);
      audio = audio_kept t w p.audio;
      received = received_kept t w p.received;
      sending = ap (λ (x : Shape). ring_ok v.state.audio.sending (x.sending / WORDS)) lens ∙ sending_kept t w p.sending;
    }

-- document 01, number 5: the outcome of an accepted microframe meets every bound again
pub bounds_kept : (t : ℕ) (w : World) → Entry w → Bounded w → Bounded (left (microframe t) w)
bounds_kept t w e b =
    let long = ap (λ (x : Shape). x.reply) (shape_kept t w) in
    together (left (microframe t) w) (omega (arith, long, e.reply_length)) (of_parts t w e (apart w b))

-- ---- what else lasts from one microframe to the next

-- one microframe more, bytes in the array of setups, a configuration of at most 65,535 bytes, and arrays of the same lengths
pub record Lasts (w v : World) : Type 0 where
  pub number : v.state.port.uf ≡ w.state.port.uf + 1
  pub setups_bytes : AllBytes v.own.setups
  pub config : w.state.lengths.config ≤ 65535 → v.state.lengths.config ≤ 65535
  pub arrays : SameArrays w v

pub lasts : (t : ℕ) (w : World) → Entry w → Bounded w → 4096 ≤ length w.own.midi → 4096 ≤ length w.own.serial → Lasts w (left (microframe t) w)
unfolding setups_ok
lasts t w e b midi serial =
    let p = apart w b in
    let n = w.state.lengths in
    let setups = leb-true n.setups 257 (and_first (leb n.setups 257) _ p.requests.setups) in
    record {
      number = (counted_kept w.state.port.uf e.uf t w (counted_of w.state p.counts)).numbered;
      setups_bytes = setups_kept t w p.requests e;
      config = config_kept t w p.requests e;
      arrays =
          arrays_kept t w (omega (arith, setups, e.setups_length)) (omega (arith, leb-true n.midi 4096 p.queues.midi, midi))
          (omega (arith, leb-true n.serial 4096 p.queues.serial, serial));
    }

-- a record in bounds whose configuration has at most 65,535 bytes fits any areas of the right lengths
pub areas_fit : (s : State) (ps : List Packer) (setups : List ℕ) (reply config : ℕ) → in_bounds s ps setups ≡ true → s.control.second < 2 ^ 32 → s.lengths.config ≤ 65535
    → 65535 ≤ reply → 65535 ≤ config → areas_ok s reply config ≡ true
unfolding in_bounds areas_ok
areas_fit s ps setups reply config e short few long wide =
    let asked = and_first (asked_ok s setups) _ e in
    let request = and_second (enumerating_ok s) _ (and_second (setups_ok s.lengths.setups setups) _ asked) in
    and_both _ _ (le-leb s.lengths.config config (omega (arith, few, wide))) (reply_inside s reply request short long)
