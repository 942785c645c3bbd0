-- A record in bounds (document 01, refusal 5) has all that a microframe asks.
use Prim.Native.Nat.{ℕ, ◌-◌, ◌/◌, ◌%◌, ◌≤◌}
use mathlib.Core.Path.{◌≡◌, refl, sym, ap, ◌∙◌}
use mathlib.Core.Bool.{Bool, true, false, not, ◌&&◌, ◌||◌}
use mathlib.Core.List.{List}
use native.Mathlib.Omega.{arith}
use lib.Dec.{eqb, leb, ltb}
use borrow.Author.Tests.{eqb-true, leb-true, ltb-true}
use Rattle.bits.proofs.Tests.{false_true, not-true, or_case}
use Rattle.bus.proofs.Sizes.{and_true}
use Rattle.midi.specs.declared.Packer.{Packer}
use Rattle.record.specs.declared.Audio.{Audio}
use Rattle.record.specs.declared.State.{State}
use Rattle.record.specs.Record.{counter_of, microframes}
use Rattle.model.specs.Control.{w_length, enumerating}
use Rattle.bounds.proofs.Shapes.{made_device, made_configuration}
use Rattle.bounds.specs.Bounds.{MOST, made, asks_configuration, setups_ok, enumerating_ok, request_ok, queues_ok, packers_ok, counts_ok, counters_ok, credit_ok, timers_ok, audio_ok, asked_ok, held_ok, counted_ok, in_bounds, ring_ok, received_ok, sending_ok}
use Rattle.kept.proofs.Timers.{timers_range}
use Rattle.framing.specs.Promises.{Rings}
use Rattle.frames.specs.Promises.{Asks, Fit}

off : {A : Type 0} (b : Bool) → not b ≡ true → b ≡ true → A
off b e f = absurd (false_true (sym (not-true b e) ∙ f))

-- ---- setups, rings, and all of it

asks_of : (s : State) (setups : List ℕ) → asked_ok s setups ≡ true → Asks s.phase s.control s.lengths.setups
unfolding setups_ok enumerating_ok request_ok
asks_of s setups e =
    let n = s.lengths.setups in
    let c = s.control in
    let a = and_true (setups_ok n setups) (enumerating_ok s && request_ok c n s.port.uf) e in
    let b = and_true (enumerating_ok s) (request_ok c n s.port.uf) a.1 in
    let running : c.on ≡ true → (made c.first c.second && ((not (asks_configuration c.first) || eqb n 0) && (leb c.t0 s.port.uf && leb c.got (w_length c)))) ≡ true =
    λ on. or_case (not c.on) _ b.1 (λ x. off c.on x on) (λ x. x) in
    record {
      few = leb-true n 257 (and_true (leb n 257) _ a.0).0;
      room = λ p. or_case (enumerating s.phase) _ b.0 (λ x. off false refl (sym (ap enumerating p) ∙ x)) (λ x. eqb-true n 0 (and_true (eqb n 0) (not c.on) x).0);
      alone = λ on f.
          let r = and_true (made c.first c.second) _ (running on) in
          or_case (not (asks_configuration c.first)) (eqb n 0) (and_true (not (asks_configuration c.first) || eqb n 0) _ r.1).0 (λ x. off _ x (made_configuration c r.0 f)) (λ x. eqb-true n 0 x);
      short = λ on f. made_device c (and_true (made c.first c.second) _ (running on)).0 f;
      inside = λ on.
          let r = and_true (made c.first c.second) _ (running on) in
          leb-true c.got (w_length c) (and_true (leb c.t0 s.port.uf) _ (and_true (not (asks_configuration c.first) || eqb n 0) _ r.1).1).1;
    }

rings_of : (a : Audio) (words : ℕ) → audio_ok a ≡ true → ring_ok a.received 48000 ≡ true → ring_ok a.sending (words / 12) ≡ true → words ≤ 576000 → Rings a words
unfolding audio_ok ring_ok
rings_of a words e f g few =
    let low = and_true (leb 33 a.block) _ e in
    let high = and_true (leb a.budget 32766) _ low.1 in
    let both = and_true (leb a.block 2047) _ high.1 in
    let block = leb-true a.block 2047 both.0 in
    let least = leb-true 33 a.block low.0 in
    let channels = eqb-true a.channels ((a.block - 32) / 28) both.1 in
    let x = and_true (ltb a.received.start 48000) (leb a.received.len 48000) f in
    let y = and_true (ltb a.sending.start (words / 12)) (leb a.sending.len (words / 12)) g in
    record {
      received = record { start = ltb-true a.received.start 48000 x.0; len = leb-true a.received.len 48000 x.1 };
      sending = record { start = ltb-true a.sending.start (words / 12) y.0; len = leb-true a.sending.len (words / 12) y.1; few = omega (arith, few) };
      block = omega (arith, block);
      channels = omega (arith, block, channels, least);
    }

pub fit_of : (s : State) (ps : List Packer) (setups : List ℕ) (words : ℕ) → in_bounds s ps setups ≡ true → received_ok s ≡ true → sending_ok s words ≡ true → words ≤ 576000 → s.answer.received ≡ 0 → Fit s words
unfolding in_bounds queues_ok counts_ok
fit_of s ps setups words e f g few none =
    let a = and_true (asked_ok s setups) _ e in
    let b = and_true (held_ok s ps) _ a.1 in
    let d = and_true (counted_ok s) (audio_ok s.audio) b.1 in
    let queues = and_true (leb s.lengths.midi 4096) _ (and_true (queues_ok s.lengths) (packers_ok ps) b.0).0 in
    let rest = and_true (eqb (s.lengths.midi % 4) 0) _ queues.1 in
    let counts = and_true (counts_ok s) _ d.0 in
    let equal = and_true (eqb (counter_of microframes s.stats) s.port.uf) _ counts.0 in
    let most = leb-true s.port.uf MOST (and_true (leb s.port.uf MOST) _ equal.1).0 in
    let times = (and_true (credit_ok s.audio.credit (counter_of microframes s.stats)) (timers_ok s.timers (counter_of microframes s.stats)) (and_true (counters_ok s.stats) _ counts.1).1).1 in
    let range = timers_range s.timers (counter_of microframes s.stats) (omega (arith, most, eqb-true (counter_of microframes s.stats) s.port.uf equal.0)) times in
    record {
      zero = range.0;
      one = range.1;
      going = record {
        asks = asks_of s setups a.0;
        flows = record {
          midi = leb-true s.lengths.midi 4096 queues.0;
          serial = leb-true s.lengths.serial 4096 (and_true (leb s.lengths.serial 4096) _ rest.1).0;
          rings = rings_of s.audio words d.1 f g few;
          none = none;
        };
      };
    }
