-- Runs over whole lists (usbhost.rs 541-609; endpoint 0 loops, 547): what is kept of their bytes, and what one turn of their loops promises.
use Rattle.std.specs.Prelude.{ℕ, suc, ◌+◌, ◌-◌, ◌≤◌, Bool, true, false, ◌||◌, List, [], ◌≡◌, length, take}
use Rattle.std.proofs.lemmas.List.Edits.{sets}
use Rattle.bits.specs.Pick.{pick}
use Rattle.bus.specs.Memory.{Memory}
use Rattle.bus.specs.Stores.{Bus, bus, stored, dropped_by}
use Rattle.dtd.specs.Dtd.{Endpoint, Run, ended, turns, run_dtds}
use Rattle.dtd.specs.Promises.{Runs, Held}
use Rattle.dtd.specs.declared.Ran.{Ran}
use Rattle.runs.specs.declared.Turn.{Turn}
use Rattle.runs.specs.declared.Filled.{Filled}

-- document 01, "Control record"; usbhost.rs 663-665: bytes go into an area from index at on, and what lies past the limit is discarded
unfoldable pub kept : List ℕ → ℕ → ℕ → List ℕ → List ℕ
kept out at limit bs = sets out at (take (limit - at) bs)

-- the index behind the last byte kept
unfoldable pub kept_end : ℕ → ℕ → List ℕ → ℕ
kept_end at limit bs = at + length (take (limit - at) bs)

-- 542-546: a loop's state before its first turn, and one at which it ends at the pointer n
abbrev pub first_turn : ℕ → Turn
first_turn n = record { next = n; done = false; moved = 0; retired = 0; dropped = 0; stop = false }

abbrev pub stopped_at : Turn → ℕ → Turn
stopped_at t n = record { next = n; done = t.done; moved = t.moved; retired = t.retired; dropped = t.dropped; stop = true }

-- what is left of a run: what a loop has counted, and the run from where it stands, make the same whole
pub record Same (r : Run) (b : Bus) (t : Turn) (r' : Run) (b' : Bus) (t' : Turn) : Type 0 where
  pub stores : stored r.stores b ≡ stored r'.stores b'
  pub counted : t.dropped + dropped_by r.stores ≡ t'.dropped + dropped_by r'.stores
  pub done : t.done || r.done ≡ t'.done || r'.done
  pub last : r.last ≡ r'.last
  pub moved : t.moved + r.moved ≡ t'.moved + r'.moved
  pub retired : t.retired + r.retired ≡ t'.retired + r'.retired

-- the run from where a loop stands, with k turns left and bs to send
abbrev pub rest : ℕ → Endpoint → ℕ → List ℕ → Turn → Bus → Run
rest k e qh bs t b = pick t.stop (ended t.next) (turns k e qh t.next bs b)

-- what an area that is filled from index at on holds at last, by the bytes that come
abbrev pub filled : List ℕ → ℕ → ℕ → List ℕ → Held
filled out at limit bs = (kept out at limit bs, kept_end at limit bs)

-- how much one turn may count
pub record Grown (t t' : Turn) : Type 0 where
  pub moved : t'.moved ≤ t.moved + 32767
  pub retired : t'.retired ≤ t.retired + 1
  pub dropped : t'.dropped ≤ t.dropped + 32787

-- counts that one more turn cannot overflow
pub record Small (t : Turn) : Type 0 where
  pub moved : t.moved ≤ 0x4000_0000
  pub retired : t.retired ≤ 0x4000_0000
  pub dropped : t.dropped ≤ 0x4000_0000

-- a turn of a run that has bs to send
pub record Turned (e : Endpoint) (qh : ℕ) (bs bs' : List ℕ) (f f' : List ℕ → Held) (m m' : Memory) (t t' : Turn) : Type 0 where
  pub same : (l : Bool) (k : ℕ) → Same (turns (suc k) e qh t.next bs (bus m l)) (bus m l) t (rest k e qh bs' t' (bus m' l)) (bus m' l) t'
  pub holds : (l : Bool) (k : ℕ) → f (turns (suc k) e qh t.next bs (bus m l)).bytes ≡ f' (rest k e qh bs' t' (bus m' l)).bytes
  pub grown : Grown t t'

-- a whole loop, from the pointer n on
pub record Looped (e : Endpoint) (qh n : ℕ) (bs : List ℕ) (f f' : List ℕ → Held) (m m' : Memory) (t : Turn) : Type 0 where
  pub same : (l : Bool) → Same (turns 64 e qh n bs (bus m l)) (bus m l) (first_turn n) (ended t.next) (bus m' l) t
  pub holds : (l : Bool) → f (turns 64 e qh n bs (bus m l)).bytes ≡ f' []

-- a run on an endpoint into an area
pub record RunsIn (e : Endpoint) (limit : ℕ) (b b' : Bus) (out out' : List ℕ) (at : ℕ) (r : Filled) : Type 0 where
  pub runs : Runs e [] b b' r.ran
  pub area : out' ≡ kept out at limit (run_dtds e [] b).bytes
  pub end : r.at ≡ kept_end at limit (run_dtds e [] b).bytes

-- the answer of a loop that ended
abbrev pub answer_of : Turn → Bool → Ran
answer_of t line = record { done = t.done; moved = t.moved; retired = t.retired; dropped = t.dropped; line = line }
