-- What a list of changes says of its runs: how many descriptors they retired, on all endpoints (S-1) or on an audio endpoint (demand 3: one block, or none;
-- one run, or none), and how many bytes no window took.
use Rattle.std.specs.Prelude.{ℕ, ◌+◌, Bool, true, false, not, ◌&&◌, List, [], ◌∷◌, eqb}
use Rattle.bits.specs.Pick.{pick}
use Rattle.dtd.specs.Dtd.{Endpoint}
use Rattle.record.specs.Change.{Change, bus, ran, lost, count, timers, port, audio, request, stream}

-- 870, 949: endpoint 3, the input one or the output one
abbrev pub is_audio : Bool → Endpoint → Bool
is_audio input e = eqb e.number 3 && pick input e.input (not e.input)

-- what is asked of one change: f of a run's mark, by endpoint, descriptors retired and bytes moved, and g of the bytes that it lost; any other change has 0
unfoldable pub noted : (Endpoint → ℕ → ℕ → ℕ) → (ℕ → ℕ) → Change → ℕ
noted f g (bus s) = 0
noted f g (ran e k n) = f e k n
noted f g (lost n) = g n
noted f g (count c n) = 0
noted f g (timers ts) = 0
noted f g (port c) = 0
noted f g (audio c) = 0
noted f g (request c) = 0
noted f g (stream c) = 0

-- of marks alone
abbrev pub marked : (Endpoint → ℕ → ℕ → ℕ) → Change → ℕ
marked f c = noted f (λ n. 0) c

-- the sum over a list of changes
unfoldable pub total : (Change → ℕ) → List Change → ℕ
total f [] = 0
total f (c ∷ cs) = f c + total f cs

-- S-1: descriptors retired, on whatever endpoint
abbrev pub retired_mark : Endpoint → ℕ → ℕ → ℕ
retired_mark e k n = k

abbrev pub all_retired : List Change → ℕ
all_retired cs = total (marked retired_mark) cs

-- bytes that no window took
abbrev pub dropped_mark : Endpoint → ℕ → ℕ → ℕ
dropped_mark e k n = 0

abbrev pub all_dropped : List Change → ℕ
all_dropped cs = total (noted dropped_mark (λ n. n)) cs

-- descriptors retired on an audio endpoint
abbrev pub audio_mark : Bool → Endpoint → ℕ → ℕ → ℕ
audio_mark input e k n = pick (is_audio input e) k 0

abbrev pub audio_in_retired : List Change → ℕ
audio_in_retired cs = total (marked (audio_mark true)) cs

abbrev pub audio_out_retired : List Change → ℕ
audio_out_retired cs = total (marked (audio_mark false)) cs
