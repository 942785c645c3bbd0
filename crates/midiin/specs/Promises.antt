-- What the reads of MIDI input promise.
use Rattle.std.specs.Prelude.{◌≡◌, ℕ, suc, ◌+◌, ◌≤◌, true, false, not, ◌||◌, List, length, ◌==◌}
use Rattle.std.proofs.lemmas.List.Edits.{sets}
use Rattle.bits.specs.Pick.{pick}
use Rattle.bus.specs.Memory.{Memory}
use Rattle.bus.specs.Sized.{Sized}
use Rattle.dtd.specs.declared.Ran.{Ran}
use Rattle.record.specs.declared.State.{State}
use Rattle.record.specs.Record.{with_stats, with_answer, with_count, counted, midi_dtds}
use Rattle.record.specs.World.{World, with_cables_area, at_page}
use Rattle.record.specs.Change.{Step, nothing}
use Rattle.record.specs.Did.{Leads, after_run}
use Rattle.model.specs.Streams.{decoded, cables_of, reads}
use Rattle.streams.specs.Promises.{at_receive, Fewer}
use Rattle.midiin.specs.declared.Read.{Read}

-- a World with state, memory, receive area and the area of cables in their place
abbrev pub at_cabled : World → State → Memory → List ℕ → List ℕ → World
at_cabled w s m out cs = with_cables_area (at_receive w s m out) cs

-- a step on the register page alone
pub record OnPage (f : Step) (p p' : List ℕ) : Type 0 where
  pub leads : (w : World) (s : State) → Leads f (at_page w s p) (at_page w s p')

-- so many bytes fit behind an index of the receive area, and their cables behind the same of theirs
abbrev pub Room : ℕ → ℕ → List ℕ → List ℕ → Type 0
Room at n receive cables = (at + n ≤ length receive) × (at + n ≤ length cables)

-- usbhost.rs 797-806, S-2: n packets of bs go into an area from index at on, and their cables into another at the same indices; the index behind them
pub record Decodes (n : ℕ) (bs out out' cs cs' : List ℕ) (at end : ℕ) : Type 0 where
  pub area : out' ≡ sets out at (decoded n bs)
  pub cables : cs' ≡ sets cs at (cables_of n bs)
  pub behind : end ≡ at + length (decoded n bs)

-- the state with a read counted, whose bytes end at an index of the receive area
abbrev pub count_read : State → ℕ → State
count_read s at = with_answer (with_stats s (counted midi_dtds 1 s.stats)) (with_count s.answer at)

-- 792-796: one read of so many bytes: it is counted, or the reads end
abbrev pub after_read : State → Ran → ℕ → ℕ → Read
after_read s r total at =
    pick (r.done || not (total == 0)) (record { state = count_read (after_run s r) at; stop = false }) (record { state = after_run s r; stop = true })

-- one read: what follows it leads to where n more would
pub record ReadsOne (s : State) (m : Memory) (out cs : List ℕ) (r : Read) (m' : Memory) (out' cs' : List ℕ) : Type 0 where
  pub goes : (n : ℕ) (w : World) {c : World} → Leads (pick r.stop nothing (reads n)) (at_cabled w r.state m' out' cs') c
      → Leads (reads (suc n)) (at_cabled w s m out cs) c
  pub sized : Sized m'
  pub few : Fewer s.lengths r.state.lengths
  pub most : r.state.answer.received ≤ s.answer.received + 24573

-- on state, memory, receive area and the area of cables
pub record Hears (f : Step) (s : State) (m : Memory) (out cs : List ℕ) (s' : State) (m' : Memory) (out' cs' : List ℕ) : Type 0 where
  pub leads : (w : World) → Leads f (at_cabled w s m out cs) (at_cabled w s' m' out' cs')
  pub sized : Sized m'
  pub few : Fewer s.lengths s'.lengths
