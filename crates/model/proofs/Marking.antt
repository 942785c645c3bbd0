-- What each change does to the port's marks and to MIDI that comes, side by side: the fields that claims of either are about.
use Prim.Native.Nat.{ℕ, ◌+◌}
use mathlib.Core.Path.{◌≡◌, refl, sym, ap, ◌∙◌}
use mathlib.Core.Bool.{Bool, true, false, not, ◌||◌}
use lib.Dec.{eqb}
use Rattle.bus.proofs.Sizes.{and_true}
use lib.ListN.{length}
use lib.Seq.{sets}
use Rattle.bits.proofs.Tests.{false_true, or_false}
use Rattle.record.specs.Record.{Counter, place, counter_of, midi_dtds, midi_asleep}
use Rattle.record.proofs.Counters.{rose, raised_by, rose_other}
use Rattle.record.specs.World.{World}
use Rattle.record.specs.Parts as Part
use Rattle.record.specs.Change.{Change, bus, ran, lost, count, timers, apply, port, audio, request, stream}
use Rattle.record.proofs.Beside.{request_beside}
use Rattle.model.specs.PortMarks.{MidiCome, midi_come}
use Rattle.model.proofs.Fields.{Fields}
use Rattle.model.proofs.Plain.{Effect, none, tallied, cable_is, suspend_is, run_is, block_is, came, cables_came, effect_of, plain_counter_by, plain_effect, block_and_enumerations, plain}

-- gone, suspended and RS seen set, and beside them the count of microframes without MIDI
pub record PortMarks : Type 0 where
  pub gone : Bool
  pub suspended : Bool
  pub running : Bool
  pub asleep : ℕ

abbrev pub marks_by : Bool → Bool → Bool → ℕ → PortMarks
marks_by g s r n = record { gone = g; suspended = s; running = r; asleep = n }

abbrev pub marks_of : World → PortMarks
marks_of w = marks_by w.state.port.gone w.state.port.suspended w.state.port.was_running (counter_of midi_asleep w.state.stats)

abbrev pub marks_do : Effect → PortMarks → PortMarks
marks_do none k = k
marks_do (tallied c n) k = marks_by k.gone k.suspended k.running (rose (place midi_asleep) (place c) n k.asleep)
marks_do (cable_is b) k = marks_by b k.suspended k.running k.asleep
marks_do (suspend_is b) k = marks_by k.gone b k.running k.asleep
marks_do (run_is b) k = marks_by k.gone k.suspended b k.asleep
marks_do (block_is n m) k = k
marks_do (came bs) k = k
marks_do (cables_came cs) k = k

-- with another count of reads
abbrev read_is : MidiCome → ℕ → MidiCome
read_is k n = record { counted = n; bytes = k.bytes; area = k.area; cables = k.cables }

abbrev pub come_do : Effect → MidiCome → MidiCome
come_do none k = k
come_do (tallied c n) k = read_is k (rose (place midi_dtds) (place c) n k.counted)
come_do (cable_is b) k = k
come_do (suspend_is b) k = k
come_do (run_is b) k = k
come_do (block_is n m) k = k
come_do (came bs) k = record { counted = k.counted; bytes = k.bytes + length bs; area = sets k.area k.bytes bs; cables = k.cables }
come_do (cables_came cs) k = record { counted = k.counted; bytes = k.bytes; area = k.area; cables = sets k.cables k.bytes cs }

-- both, in a World that a change made
abbrev pub Done : Change → World → Type 0
Done c w = (marks_of (apply c w) ≡ marks_do (effect_of c) (marks_of w)) × (midi_come (apply c w) ≡ come_do (effect_of c) (midi_come w))

count_done : (c : Counter) (n : ℕ) (w : World) → Done (count c n) w
unfolding apply
count_done c n w = (
  ap (marks_by w.state.port.gone w.state.port.suspended w.state.port.was_running) (raised_by (place midi_asleep) (place c) n w.state.stats),
  ap (read_is (midi_come w)) (raised_by (place midi_dtds) (place c) n w.state.stats),
)

pub done : (c : Change) (w : World) → Done c w
unfolding apply
done (bus s) w = (refl, refl)
done (ran e r n) w = (refl, refl)
done (lost n) w = (refl, refl)
done (count c n) w = count_done c n w
done (timers ts) w = (refl, refl)
done (port (Part.uf n)) w = (refl, refl)
done (port (Part.phase p)) w = (refl, refl)
done (port (Part.started n)) w = (refl, refl)
done (port (Part.gone b)) w = (refl, refl)
done (port (Part.suspended b)) w = (refl, refl)
done (port (Part.was_running b)) w = (refl, refl)
done (audio (Part.credit n)) w = (refl, refl)
done (audio (Part.budget n)) w = (refl, refl)
done (audio (Part.counter n)) w = (refl, refl)
done (audio (Part.block n m)) w = (refl, refl)
done (audio (Part.frame f)) w = (refl, refl)
done (audio (Part.taken n)) w = (refl, refl)
done (request c) w = (ap marks_of (request_beside c w), ap midi_come (request_beside c w))
done (stream (Part.midi n)) w = (refl, refl)
done (stream (Part.serial n)) w = (refl, refl)
done (stream (Part.cabled cs)) w = (refl, refl)
done (stream (Part.received bs)) w = (refl, refl)

-- fields that change by the marks' effects and by those of MIDI that comes
module _ {K : Type 0} (does : Effect → K → K) (rests : (k : K) → does none k ≡ k) (others : (c : Counter) → plain_counter_by block_and_enumerations c ≡ true → (n : ℕ) (k : K) → does (tallied c n) k ≡ k) (blocks : (n m : ℕ) (k : K) → does (block_is n m) k ≡ k) where
  abbrev pub fields_by : (of : World → K) → ((c : Change) (w : World) → of (apply c w) ≡ does (effect_of c) (of w)) → Fields K
  fields_by of applies =
      record {
        of = of;
        on = λ c. does (effect_of c);
        applies = applies;
        stores = λ s. rests;
        marks = λ e n m. rests;
        drops = λ n. rests;
      }

  leaves : (e : Effect) → plain_effect block_and_enumerations e ≡ true → (k : K) → does e k ≡ k
  leaves none h k = rests k
  leaves (tallied c n) h k = others c h n k
  leaves (cable_is b) h k = absurd (false_true h)
  leaves (suspend_is b) h k = absurd (false_true h)
  leaves (run_is b) h k = absurd (false_true h)
  leaves (block_is n m) h k = blocks n m k
  leaves (came bs) h k = absurd (false_true h)
  leaves (cables_came cs) h k = absurd (false_true h)

  plain_by_lem : (c : Change) → plain c ≡ true → (k : K) → does (effect_of c) k ≡ k
  plain_by_lem c = leaves (effect_of c)

-- a counter that is neither that of microframes without MIDI nor that of reads
pub marks_other : (c : Counter) → plain_counter_by block_and_enumerations c ≡ true → (n : ℕ) (k : PortMarks) → marks_do (tallied c n) k ≡ k
marks_other c h n k =
    ap (marks_by k.gone k.suspended k.running) (rose_other (place midi_asleep) (place c) n k.asleep (and_true (not (eqb (place midi_asleep) (place c))) _ h).0)

pub come_other : (c : Counter) → plain_counter_by block_and_enumerations c ≡ true → (n : ℕ) (k : MidiCome) → come_do (tallied c n) k ≡ k
come_other c h n k =
    let rest = (and_true (not (eqb (place midi_asleep) (place c))) _ h).1 in
    let read = (and_true (not (eqb (place midi_dtds) (place c)) || false) _ rest).0 in
    ap (read_is k) (rose_other (place midi_dtds) (place c) n k.counted (sym (or_false (not (eqb (place midi_dtds) (place c)))) ∙ read))

abbrev pub marks : Fields PortMarks
marks = fields_by marks_do (λ k. refl) marks_other (λ n m k. refl) marks_of (λ c w. (done c w).0)

pub marks_plain : (c : Change) → plain c ≡ true → (k : PortMarks) → marks.on c k ≡ k
marks_plain = plain_by_lem marks_do (λ k. refl) marks_other (λ n m k. refl)

abbrev pub come : Fields MidiCome
come = fields_by come_do (λ k. refl) come_other (λ n m k. refl) midi_come (λ c w. (done c w).1)

pub come_plain : (c : Change) → plain c ≡ true → (k : MidiCome) → come.on c k ≡ k
come_plain = plain_by_lem come_do (λ k. refl) come_other (λ n m k. refl)
