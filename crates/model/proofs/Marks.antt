-- What marks of runs read: whatever is asked of them, added up, and how many descriptors of the audio input, or of the audio output endpoint, were retired.
use Prim.Native.Nat.{ℕ, ◌+◌}
use mathlib.Core.Path.{◌≡◌, refl}
use mathlib.Core.Bool.{Bool, true, false, not, ◌&&◌}
use mathlib.Core.List.{List, [], ◌∷◌}
use native.Mathlib.Omega.{arith}
use lib.Dec.{eqb}
use Rattle.bits.specs.Pick.{pick}
use Rattle.bits.proofs.Tests.{false_true}
use Rattle.bus.specs.Steps.{replay}
use Rattle.dtd.specs.Dtd.{Endpoint}
use Rattle.record.specs.World.{World}
use Rattle.record.specs.Change.{Change, bus, ran, lost, count, timers, Step, port, audio, request, stream}
use Rattle.model.specs.Marks.{noted, total, audio_mark}
use Rattle.model.proofs.Reading.{Reading, Lasting, Unheard, Unmarked, AudioAlone, Silent, quiet}

-- ---- whatever is asked of runs, added up

module _ (f : Endpoint → ℕ → ℕ → ℕ) (g : ℕ → ℕ) where
  abbrev pub noting : Change → ℕ → ℕ
  noting c n = n + noted f g c

  pub quiet_noted : (c : Change) → quiet c ≡ true → noted f g c ≡ 0
  unfolding noted
  quiet_noted (bus s) e = refl
  quiet_noted (ran e' k n) e = absurd (false_true e)
  quiet_noted (lost n) e = absurd (false_true e)
  quiet_noted (count c n) e = refl
  quiet_noted (timers ts) e = refl
  quiet_noted (port c) e = refl
  quiet_noted (audio c) e = refl
  quiet_noted (request c) e = refl
  quiet_noted (stream c) e = refl

  pub same : (n m : ℕ) → m ≡ 0 → n + m ≡ n
  same n m e = omega (arith, e)

  abbrev pub noted_reading : Reading ℕ
  noted_reading = record { on = noting; leaves = λ c e n. same n _ (quiet_noted c e) }

  abbrev pub noted_lasting : Lasting noted_reading
  unfolding noted
  noted_lasting =
      record { phases = λ p n. same n 0 refl; goes = λ b n. same n 0 refl; runs = λ b n. same n 0 refl; credits = λ m n. same n 0 refl; budgets = λ m n. same n 0 refl }

  abbrev pub noted_unheard : Unheard noted_reading
  unfolding noted
  noted_unheard = record { frames = λ x n. same n 0 refl; counted = λ m n. same n 0 refl }

  -- read from 0 on, it is the sum over the list
  noted_from : (cs : List Change) (n : ℕ) → replay noting cs n ≡ n + total (noted f g) cs
  unfolding total
  noted_from [] n = omega arith
  noted_from (c ∷ cs) n = omega (arith, noted_from cs (n + noted f g c))

  pub noted_sum : (cs : List Change) → replay noting cs 0 ≡ total (noted f g) cs
  noted_sum cs = omega (arith, noted_from cs 0)

  -- a step that such a reading does not hear has nothing of it
  pub silent_none : (s : Step) → Silent noted_reading s → (w : World) → total (noted f g) (s w) ≡ 0
  silent_none s p w = omega (arith, noted_sum (s w), p w 0)

-- ---- the descriptors of an audio endpoint

not_audio : (b d : Bool) (r : ℕ) → not b ≡ true → pick (b && d) r 0 ≡ 0
not_audio true d r e = absurd (false_true e)
not_audio false d r e = refl

abbrev pub retired_reading : Bool → Reading ℕ
retired_reading input = noted_reading (audio_mark input) (λ n. 0)

abbrev pub retired_lasting : (input : Bool) → Lasting (retired_reading input)
retired_lasting input = noted_lasting (audio_mark input) (λ n. 0)

abbrev pub retired_unheard : (input : Bool) → Unheard (retired_reading input)
retired_unheard input = noted_unheard (audio_mark input) (λ n. 0)

pub retired_alone : (input : Bool) → AudioAlone (retired_reading input)
unfolding noted
retired_alone input = record { others = λ e h r n k. omega (arith, not_audio (eqb e.number 3) (pick input e.input (not e.input)) r h); drops = λ n k. omega arith }

-- the count of the output endpoint's does not look at runs on the other
pub retired_unmarked : Unmarked (retired_reading false)
unfolding noted
retired_unmarked r m n = omega arith
