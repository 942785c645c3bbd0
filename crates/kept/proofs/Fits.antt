-- Bytes of memory stay below 256: in the steps before control, and in a run of endpoint 0 to the host, whose bytes are below 256 then.
use Prim.Native.Nat.{ℕ, zero, suc, ◌+◌, ◌-◌, ◌*◌, ◌/◌, ◌%◌, ◌^◌, ◌<◌}
use mathlib.Core.Path.{sym, subst}
use mathlib.Core.Bool.{Bool, true, false, ◌&&◌}
use mathlib.Core.List.{List, [], ◌∷◌, ◌++◌, map}
use native.Mathlib.Nat.{mod-lt}
use native.Mathlib.Omega.{arith}
use lib.Bits.{bit_and, and_le_r, or_lt}
use lib.Dec.{ltb, lit<}
use lib.ListN.{drop, set}
use lib.Seq.{sets}
use Rattle.bits.specs.Pick.{pick, pick_both}
use Rattle.bits.specs.Word as W
use Rattle.bits.specs.Word.{inv32, clear, any}
use Rattle.bus.specs.Memory.{Memory, after, word}
use Rattle.bus.specs.Words.{word_at, word_put}
use Rattle.bus.specs.Steps.{replay, exec, and_then, exec_then}
use Rattle.bus.specs.Stores.{Bus, store, stored, BusStep, ◌then◌, putting, when}
use Rattle.bus.proofs.WordLaws.{Bytes, peek8_lt, peek32_lt, set_lt, bytes_poke32}
use Rattle.usbdev.specs.Offsets.{EPCOMPLETE}
use Rattle.usbdev.specs.Registers as R
use Rattle.usbdev.specs.Registers.{Registers, PageStore, put, irq, PageStep, on_bus, lifted, raising, setting}
use Rattle.usbdev.specs.Transfer.{total_of, token_after, next_frindex}
use Rattle.transfer.specs.Transfer.{tabulate, bytes_in}
use Rattle.dtd.specs.Dtd.{Run, endpoint, bit_of, descriptor, token_of, moves, bytes_of, data_out, framed, closing, completing, advancing, retiring, turning, following, joined, turns, settled, run_dtds, terminates, is_active, interrupts, primed, most, queue_head, next_dtd}
use Rattle.gptimers.specs.declared.Timers.{Timers}
use Rattle.gptimers.specs.Timer.{Timer, ZERO, STEP, RUN, RESET, REPEAT, control_register, start_of, resetting, stopping, expiring, counted, control_of, after_reset, ticking, ticking_both}
use Rattle.config.specs.Config.{Bytes as AllBytes}
use Rattle.record.specs.World.{World, bus_of}
use Rattle.record.specs.Change.{apply, on_page}
use Rattle.record.proofs.Laws.{replay_bus}
use Rattle.model.specs.Phases.{changing, ticks, suspends, starts_frame}
use Rattle.model.proofs.Holding.{Holds, holds_then, holds_if, holds_nothing, holds_one, holds_here}

-- ---- words below 2^32

clear_lt : (v m : ℕ) → clear v m < 2 ^ 32
clear_lt v m = omega (arith, and_le_r v (inv32 m))

set_word : (v m : ℕ) → v < 2 ^ 32 → m < 2 ^ 32 → W.set v m < 2 ^ 32
set_word v m = or_lt 32 v m

token_lt : (tok n : ℕ) → token_after tok n < 2 ^ 32
unfolding token_after
token_lt tok n =
    or_lt 32 (clear (clear tok 0x7FFF0000) 0xFF) ((total_of tok - n) * 2 ^ 16 % 2 ^ 32) (clear_lt (clear tok 0x7FFF0000) 0xFF) (mod-lt ((total_of tok - n) * 2 ^ 16) (lit< tt))

framed_lt : (p frindex : ℕ) → framed p frindex < 2 ^ 32
unfolding framed
framed_lt p frindex =
    or_lt 32 (clear p 0x7FF) (bit_and (frindex / 2 ^ 3) 0x7FF) (clear_lt p 0x7FF) (omega (arith, and_le_r (frindex / 2 ^ 3) 0x7FF))

-- ---- stores on the register page

-- the words of a list of stores are below 2^32
abbrev pub Words : List PageStore → Type 0
Words [] = Unit {0}
Words (put o v ∷ ss) = (v < 2 ^ 32) × Words ss
Words (irq l ∷ ss) = Words ss

abbrev pub FitsPage : PageStep → Type 0
FitsPage f = (r : Registers) → AllBytes r.page → Words (f r)

word_lt : (p : List ℕ) (o : ℕ) → AllBytes p → word_at p o < 2 ^ 32
unfolding word_at word
word_lt p o h = omega (arith, h o, h (o + 1), h (o + 2), h (o + 3))

put_bytes : (p : List ℕ) (o v : ℕ) → AllBytes p → v < 2 ^ 32 → AllBytes (word_put p o v)
unfolding word_put
put_bytes p o v h k =
    let l₁ = set p o (v / 2 ^ 24) in
    let l₂ = set l₁ (o + 1) (v / 2 ^ 16 % 256) in
    let l₃ = set l₂ (o + 2) (v / 2 ^ 8 % 256) in
    set_lt l₃ (o + 3) (v % 256)
    (set_lt l₂ (o + 2) (v / 2 ^ 8 % 256) (set_lt l₁ (o + 1) (v / 2 ^ 16 % 256) (set_lt p o (v / 2 ^ 24) h (omega arith)) (omega arith)) (omega arith))
    (omega arith)

page_bytes : (ss : List PageStore) (r : Registers) → AllBytes r.page → Words ss → AllBytes (replay R.store ss r).page
unfolding R.store
page_bytes [] r h k = h
page_bytes (put o v ∷ ss) r h k = page_bytes ss (R.store (put o v) r) (put_bytes r.page o v h k.0) k.1
page_bytes (irq l ∷ ss) r h k = page_bytes ss (R.store (irq l) r) h k

words_append : (ss us : List PageStore) → Words ss → Words us → Words (ss ++ us)
words_append [] us h k = k
words_append (put o v ∷ ss) us h k = (h.0, words_append ss us h.1 k)
words_append (irq l ∷ ss) us h k = words_append ss us h k

page_then : (f g : PageStep) → FitsPage f → FitsPage g → FitsPage (R.◌then◌ f g)
unfolding and_then
page_then f g p q r h =
    words_append (f r) (g (exec R.store f r)) (p r h) (q (exec R.store f r) (page_bytes (f r) r h (p r h)))

page_changing : (o : ℕ) (f : ℕ → ℕ) → ((v : ℕ) → v < 2 ^ 32 → f v < 2 ^ 32) → FitsPage (changing o f)
unfolding changing
page_changing o f p r h = (p (word_at r.page o) (word_lt r.page o h), tt)

page_setting : (sts : ℕ) → sts < 2 ^ 32 → FitsPage (setting sts)
unfolding setting
page_setting sts k r h = (set_word _ sts (word_lt r.page _ h) k, tt)

page_following : FitsPage R.following
unfolding R.following
page_following r h = tt

page_raising : (sts : ℕ) → sts < 2 ^ 32 → FitsPage (raising sts)
page_raising sts k = page_then (setting sts) R.following (page_setting sts k) page_following

-- the same stores on the bus
stored_bytes : (ss : List PageStore) (b : Bus) → Bytes b.memory → Words ss → Bytes (stored (map on_bus ss) b).memory
unfolding on_bus store
stored_bytes [] b h k = h
stored_bytes (put o v ∷ ss) b h k = stored_bytes ss (store (on_bus (put o v)) b) (bytes_poke32 h _ v k.0) k.1
stored_bytes (irq l ∷ ss) b h k = stored_bytes ss (store (on_bus (irq l)) b) h k

-- ---- the steps before control

abbrev pub InBytes : World → Type 0
InBytes w = Bytes w.lent.memory

holds_page : (f : PageStep) → FitsPage f → Holds InBytes (on_page f)
unfolding on_page
holds_page f p w h =
    subst (λ (x : World). Bytes x.lent.memory) (sym (replay_bus (lifted f (bus_of w)) w))
    (stored_bytes (f _) (bus_of w) h (p _ h.page))

page_resetting : (k c : ℕ) → FitsPage (resetting k c)
unfolding resetting
page_resetting k c r h = pick_both Words (any c RESET) {a = put (control_register k) (clear c RESET) ∷ []} {b = []} (clear_lt c RESET, tt) tt

page_stopping : (k c : ℕ) → FitsPage (stopping k c)
unfolding stopping
page_stopping k c r h = pick_both Words (any c REPEAT) {a = []} {b = put (control_register k) (clear c RUN) ∷ []} tt (clear_lt c RUN, tt)

page_expiring : (k c : ℕ) → 2 ^ (24 + k) < 2 ^ 32 → FitsPage (expiring k c)
unfolding expiring
page_expiring k c l = page_then (raising (2 ^ (24 + k))) (stopping k c) (page_raising (2 ^ (24 + k)) l) (page_stopping k c)

page_counted : (step k c : ℕ) (t : Timer) → 2 ^ (24 + k) < 2 ^ 32 → FitsPage (counted step k c t)
unfolding counted
page_counted step k c t l r h = pick_both Words (any c RUN && ltb (start_of k t r.page - step) ZERO) {a = expiring k c r} {b = []} (page_expiring k c l r h) tt

page_ticking : (step k : ℕ) (t : Timer) → 2 ^ (24 + k) < 2 ^ 32 → FitsPage (ticking step k t)
unfolding ticking
page_ticking step k t l r h =
    page_then (resetting k (control_of k r)) (counted step k (control_of k r) (after_reset (control_of k r) t)) (page_resetting k (control_of k r)) (page_counted step k (control_of k r) (after_reset (control_of k r) t) l) r h

page_both : (ts : Timers) → FitsPage (ticking_both STEP ts)
unfolding ticking_both
page_both ts = page_then (ticking STEP 0 ts.zero) (ticking STEP 1 ts.one) (page_ticking STEP 0 ts.zero (lit< tt)) (page_ticking STEP 1 ts.one (lit< tt))

pub bytes_ticks : Holds InBytes ticks
unfolding ticks apply
bytes_ticks =
    holds_here InBytes _ (λ v. holds_then InBytes _ _ (holds_one InBytes _ (λ w h. h)) (holds_page _ (page_both v.state.timers)) v)

pub bytes_wakes : Holds InBytes (suspends false)
unfolding suspends apply
bytes_wakes =
    holds_if InBytes _ _ _
    (λ w e. holds_then InBytes _ _ (holds_one InBytes _ (λ w h. h)) (holds_page _ (page_then _ _ (page_changing _ _ (λ v k. clear_lt v 0x80)) (page_raising 4 (lit< tt)))) w)
    (λ w e. holds_nothing InBytes w)

pub bytes_frame : Holds InBytes starts_frame
unfolding starts_frame next_frindex
bytes_frame = holds_page _ (page_then _ _ (page_changing _ _ (λ v k. omega arith)) (page_raising 0x80 (lit< tt)))

-- ---- a run of endpoint 0 to the host

abbrev Fits : BusStep → Type 0
Fits f = (b : Bus) → Bytes b.memory → Bytes (exec store f b).memory

fits_then : (f g : BusStep) → Fits f → Fits g → Fits (f then g)
fits_then f g p q b h =
    subst (λ (x : Bus). Bytes x.memory) (sym (exec_then store f g b)) (q (exec store f b) (p b h))

fits_putting : (a v : ℕ) → v < 2 ^ 32 → Fits (putting a v)
unfolding putting store
fits_putting a v k b h = bytes_poke32 h a v k

fits_page : (f : PageStep) → FitsPage f → Fits (lifted f)
fits_page f p b h = stored_bytes (f _) b h (p _ h.page)

fits_closing : (qh n tok moved : ℕ) → Fits (closing qh n tok moved)
unfolding closing
fits_closing qh n tok moved =
    fits_then _ _ (fits_putting (after (descriptor n) 4) (token_after tok moved) (token_lt tok moved))
    (fits_then _ _ (λ b h. fits_putting (after (descriptor n) 12) _ (framed_lt _ _) b h) (fits_putting (after qh 4) (descriptor n) (clear_lt n 0x1F)))

page_completing : (tok bit : ℕ) → bit < 2 ^ 32 → FitsPage (completing tok bit)
unfolding completing
page_completing tok bit k r h =
    pick_both Words (interrupts tok) {a = put EPCOMPLETE (W.set (word_at r.page EPCOMPLETE) bit) ∷ []} {b = []} (set_word _ bit (word_lt r.page EPCOMPLETE h) k, tt) tt

fits_advancing : (qh n tok bit : ℕ) → bit < 2 ^ 32 → Fits (advancing qh n tok bit)
unfolding advancing
fits_advancing qh n tok bit k =
    fits_then _ _ (λ b h. fits_putting (after qh 8) _ (peek32_lt h (descriptor n)) b h)
    (fits_then _ _ (λ b h. fits_putting (after qh 12) _ (peek32_lt h (after (descriptor n) 4)) b h) (fits_page (completing tok bit) (page_completing tok bit k)))

fits_turning : (qh n : ℕ) (bs : List ℕ) → Fits (turning (endpoint 0 true) qh n bs)
unfolding turning data_out when retiring
fits_turning qh n bs b h =
    fits_then _ _ (λ x k. k)
    (fits_then _ _ (fits_closing qh n (token_of n b.memory) (moves (endpoint 0 true) (token_of n b.memory) bs)) (fits_advancing qh n (token_of n b.memory) (bit_of (endpoint 0 true)) (lit< tt)))
    b h

-- ---- the bytes that it reads

pub bytes_none : AllBytes []
bytes_none i = lit< tt

pub bytes_append : (xs ys : List ℕ) → AllBytes xs → AllBytes ys → AllBytes (xs ++ ys)
bytes_append [] ys h k i = k i
bytes_append (x ∷ xs) ys h k zero = h zero
bytes_append (x ∷ xs) ys h k (suc i) = bytes_append xs ys (λ j. h (suc j)) k i

pub sets_bytes : (l : List ℕ) (i : ℕ) (vs : List ℕ) → AllBytes l → AllBytes vs → AllBytes (sets l i vs)
sets_bytes l i [] h k = h
sets_bytes l i (v ∷ vs) h k = sets_bytes _ (suc i) vs (set_lt l i v h (k 0)) (λ j. k (suc j))

bytes_tabulate : (n : ℕ) (f : ℕ → ℕ) → ((k : ℕ) → f k < 256) → AllBytes (tabulate n f)
unfolding tabulate
bytes_tabulate zero f h i = lit< tt
bytes_tabulate (suc n) f h zero = h zero
bytes_tabulate (suc n) f h (suc i) = bytes_tabulate n (λ k. f (suc k)) (λ k. h (suc k)) i

bytes_of_lem : (n : ℕ) (m : Memory) → Bytes m → AllBytes (bytes_of (endpoint 0 true) n m)
unfolding bytes_of bytes_in
bytes_of_lem n m h = bytes_tabulate _ _ (λ k. peek8_lt h _)

picked : (t : Bool) (r s : Run) → AllBytes r.bytes → AllBytes s.bytes → AllBytes (pick t r s).bytes
picked true r s p q = p
picked false r s p q = q

bytes_joined : (qh n : ℕ) (bs : List ℕ) (b : Bus) (r : Run) → Bytes b.memory → AllBytes r.bytes → AllBytes (joined (endpoint 0 true) qh n bs b r).bytes
unfolding joined
bytes_joined qh n bs b r h k = bytes_append (bytes_of (endpoint 0 true) n b.memory) r.bytes (bytes_of_lem n b.memory h) k

bytes_turns : (k qh n : ℕ) (bs : List ℕ) (b : Bus) → Bytes b.memory → AllBytes (turns k (endpoint 0 true) qh n bs b).bytes
unfolding turns
bytes_turns zero qh n bs b h = bytes_none
bytes_turns (suc k) qh n bs b h =
    picked (terminates n) _ _ bytes_none
    (picked (is_active (token_of n b.memory)) _ _
    (bytes_joined qh n bs b _ h
    (bytes_turns k qh (following (endpoint 0 true) qh n bs b) (drop (moves (endpoint 0 true) (token_of n b.memory) bs) bs) (exec store (turning (endpoint 0 true) qh n bs) b) (fits_turning qh n bs b h)))
    bytes_none)

-- what endpoint 0 reads from memory that holds bytes
pub bytes_read_lem : (b : Bus) → Bytes b.memory → AllBytes (run_dtds (endpoint 0 true) [] b).bytes
unfolding run_dtds settled
bytes_read_lem b h =
    picked (primed (endpoint 0 true) b.memory.page) _ _ (bytes_turns (most (endpoint 0 true)) (queue_head (endpoint 0 true) b.memory.page) (next_dtd (endpoint 0 true) b.memory) [] b h) bytes_none
