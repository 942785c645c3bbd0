-- From VBUS to the bus reset, and from there to enumeration, under every setting: a host that waited long enough does not wait on
-- (document 01, "Host record"; usbhost.rs 459-487).
use Prim.Native.Nat.{ℕ, ◌+◌, ◌*◌, ◌^◌, ◌≤◌, ◌<◌}
use mathlib.Core.Path.{◌≡◌, refl, ap, ◌∙◌}
use mathlib.Core.Bool.{Bool, true, false, not, ◌&&◌}
use mathlib.Core.List.{List, ◌++◌}
use mathlib.Core.Logic.{◌⊎◌, inl, inr}
use native.Mathlib.Omega.{arith}
use lib.Dec.{ltb}
use lib.ListN.{length, take, drop, length-append}
use lib.Seq.{sets, sets-eq, take_at, length-take-le}
use borrow.Author.Tests.{lt-ltb, le-ltb}
use Rattle.bits.specs.Word.{any}
use Rattle.bits.proofs.Tests.{and_both, and_false}
use Rattle.bus.specs.Words.{word_at}
use Rattle.bus.specs.Steps.{and_then}
use Rattle.usbdev.specs.Offsets.{USBSTS}
use Rattle.record.specs.declared.Phase.{Phase}
use Rattle.record.specs.declared.Phase.TheVariants.{Vbus, Reset, Enumerate}
use Rattle.record.specs.Record.{wrapped}
use Rattle.record.specs.World.{World}
use Rattle.record.specs.Change.{queued, apply, left, one}
use Rattle.model.specs.Phases.{enters, powers, first_setups, resets}
use Rattle.model.specs.Microframe.{rs_set, microframe}
use Rattle.model.specs.Reach.{device_left}
use Rattle.model.specs.Progress.{Present, Begins, GoesOn, Asks}
use Rattle.model.proofs.Fields.{fields_then, keeps_page}
use Rattle.model.proofs.Progress.{Stand, stand_by, stand_of, stands, when_true, when_false, there, opened, stand_there, frame_in_lem, stays_running}
use Rattle.model.proofs.Words.{alike_phase}

-- ---- how long a phase has lasted, in plain numbers

-- by the stand at the choice by phase
abbrev late : ℕ → Stand → Bool
late n k = ltb (wrapped (k.t + n)) k.uf

is_late : (n from uf : ℕ) → uf < 2 ^ 40 → from + n < uf + 1 → ltb (wrapped (from + n)) (wrapped (uf + 1)) ≡ true
is_late n from uf few h = lt-ltb (wrapped (from + n)) (wrapped (uf + 1)) (omega arith)

is_early : (n from uf : ℕ) → n ≤ 400 → uf < 2 ^ 40 → from ≤ uf → uf + 1 ≤ from + n → ltb (wrapped (from + n)) (wrapped (uf + 1)) ≡ false
is_early n from uf small few h k = le-ltb (wrapped (from + n)) (wrapped (uf + 1)) (omega arith)

-- a phase begins (437-438, 455-456, 464-465, 475-476)
abbrev entered : Phase → Stand → Stand
entered q k = stand_by q k.control k.waiting k.queue k.uf k.uf k.gone k.was_running

stand_enters : (q : Phase) (v : World) → stand_of (left (enters q) v) ≡ entered q (stand_of v)
unfolding enters and_then one apply
stand_enters q v = refl

-- ---- the bus reset (459-468)

stand_powers : (rs : Bool) (v : World) → rs ≡ true → late 400 (stand_of v) ≡ true → stand_of (left (powers rs) v) ≡ entered Reset (stand_of v)
unfolding powers
stand_powers rs v r l =
    ap stand_of (when_true _ _ v (and_both rs _ r l))
    ∙ fields_then stands _ _ v ∙ stand_enters Reset _ ∙ ap (entered Reset) (keeps_page stands _ v)

off_powers : (rs : Bool) (v : World) → rs ≡ false → left (powers rs) v ≡ v
unfolding powers
off_powers rs v r = when_false _ _ v (ap (λ (b : Bool). b && late 400 (stand_of v)) r)

early_powers : (rs : Bool) (v : World) → late 400 (stand_of v) ≡ false → left (powers rs) v ≡ v
unfolding powers
early_powers rs v l = when_false _ _ v (ap (λ (b : Bool). rs && b) l ∙ and_false rs)

-- ---- the end of the reset (469-487)

-- bit 6 of USBSTS
abbrev uri : World → Bool
uri v = any (word_at v.lent.memory.page USBSTS) 0x40

-- four setups behind those that wait
abbrev asking : Stand → Stand
asking k = stand_by k.phase k.control (k.waiting + 4) (sets k.queue (8 * k.waiting) first_setups) k.uf k.t k.gone k.was_running

stand_queued : (v : World) → stand_of (left (one (λ w. queued first_setups)) v) ≡ asking (stand_of v)
unfolding one apply
stand_queued v = refl

stand_resets : (v : World) → late 80 (stand_of v) ≡ true → uri v ≡ false → stand_of (left resets v) ≡ asking (entered Enumerate (stand_of v))
unfolding resets
stand_resets v l u =
    ap stand_of (when_true _ _ v (and_both (late 80 (stand_of v)) _ l (ap not u)))
    ∙ fields_then stands _ _ v ∙ fields_then stands _ _ _ ∙ stand_queued _
    ∙ ap asking (stand_enters Enumerate _ ∙ ap (entered Enumerate) (keeps_page stands _ v))

early_resets : (v : World) → late 80 (stand_of v) ≡ false → left resets v ≡ v
unfolding resets
early_resets v l = when_false _ _ v (ap (λ (b : Bool). b && not (uri v)) l)

held_resets : (v : World) → uri v ≡ true → left resets v ≡ v
unfolding resets
held_resets v u = when_false _ _ v (ap (λ (b : Bool). late 80 (stand_of v) && not b) u ∙ and_false (late 80 (stand_of v)))

-- ---- the setups as they stand in the queue

taken : (q : List ℕ) (n : ℕ) → 8 * n + 32 ≤ length q → take (8 * (n + 4)) (sets q (8 * n) first_setups) ≡ take (8 * n) q ++ first_setups
taken q n h =
    let four : 8 * (n + 4) ≡ 8 * n + 32 = omega arith in
    ap (λ (m : ℕ). take m (sets q (8 * n) first_setups)) four
    ∙ ap (take (8 * n + 32)) (sets-eq first_setups q (8 * n) h)
    ∙ take_at (take (8 * n) q ++ first_setups) (drop (8 * n + 32) q) (8 * n + 32)
    (length-append (take (8 * n) q) first_setups ∙ ap (λ (m : ℕ). m + 32) (length-take-le (8 * n) q (omega (arith, h))))

-- ---- the laws

module _ (t : ℕ) (w : World) (p : Present t w) (stayed : device_left t w ≡ false) where
  counts_there : wrapped (w.state.port.uf + 1) ≡ w.state.port.uf + 1
  counts_there = let few = p.few in omega arith

  late_there : (n : ℕ) → late n (stand_of (there t w p)) ≡ ltb (wrapped (w.state.port.t + n)) (wrapped (w.state.port.uf + 1))
  late_there n = ap (late n) (stand_there t w p stayed)

  begins : (q : Phase) (w' : World) (k : Stand) → stand_of w' ≡ k → k.phase ≡ q → k.uf ≡ (opened t w p).uf → k.t ≡ (opened t w p).uf → Begins q w w'
  begins q w' k e x y z =
      record {
        phase = ap (λ (s : Stand). s.phase) e ∙ x;
        counts = ap (λ (s : Stand). s.uf) e ∙ y ∙ counts_there;
        starts = ap (λ (s : Stand). s.t) e ∙ z ∙ counts_there;
      }

  goes_on : (q : Phase) → w.state.phase ≡ q → left (microframe t) w ≡ there t w p → GoesOn q w (left (microframe t) w)
  goes_on q e same =
      let k = ap stand_of same ∙ stand_there t w p stayed in
      record {
        phase = ap (λ (s : Stand). s.phase) k ∙ e;
        counts = ap (λ (s : Stand). s.uf) k ∙ counts_there;
        starts = ap (λ (s : Stand). s.t) k;
      }

-- more than 400 microframes after VBUS, this one counted, RS set: the bus reset begins
pub vbus_resets : (t : ℕ) (w : World) → Present t w → w.state.phase ≡ Vbus → rs_set w ≡ true → w.state.port.t + 400 < w.state.port.uf + 1
    → Begins Reset w (left (microframe t) w)
vbus_resets t w p e rs due =
    let stayed = stays_running t w rs in
    begins t w p stayed Reset (left (microframe t) w) (entered Reset (opened t w p))
    (ap stand_of (frame_in_lem t w p stayed Vbus e)
    ∙ stand_powers (rs_set w) (there t w p) rs (late_there t w p stayed 400 ∙ is_late 400 w.state.port.t w.state.port.uf p.few due)
    ∙ ap (entered Reset) (stand_there t w p stayed))
    refl refl refl

-- with RS clear, or before that, it waits on
pub vbus_waits : (t : ℕ) (w : World) → Present t w → device_left t w ≡ false → w.state.phase ≡ Vbus → w.state.port.t ≤ w.state.port.uf
    → (rs_set w ≡ false) ⊎ (w.state.port.uf + 1 ≤ w.state.port.t + 400) → GoesOn Vbus w (left (microframe t) w)
vbus_waits t w p stayed e h c = goes_on t w p stayed Vbus e (frame_in_lem t w p stayed Vbus e ∙ waits c)
  where
    waits : (rs_set w ≡ false) ⊎ (w.state.port.uf + 1 ≤ w.state.port.t + 400) → left (powers (rs_set w)) (there t w p) ≡ there t w p
    waits (inl x) = off_powers (rs_set w) (there t w p) x
    waits (inr x) =
        early_powers (rs_set w) (there t w p)
        (late_there t w p stayed 400 ∙ is_early 400 w.state.port.t w.state.port.uf (omega arith) p.few h x)

-- more than 80 microframes after the bus reset, URI clear at entry: the port is enabled, and four setups wait; RS is not asked for
pub reset_enumerates : (t : ℕ) (w : World) → Present t w → device_left t w ≡ false → w.state.phase ≡ Reset → w.state.port.t + 80 < w.state.port.uf + 1
    → length w.lent.memory.page ≡ 4096 → any (word_at w.lent.memory.page USBSTS) 0x40 ≡ false
    → Begins Enumerate w (left (microframe t) w) × Asks w (left (microframe t) w)
reset_enumerates t w p stayed e due h clear = (
  begins t w p stayed Enumerate (left (microframe t) w) (asking (entered Enumerate (opened t w p))) stand refl refl refl,
  record { waits = ap (λ (s : Stand). s.waiting) stand; bytes = λ room. ap (λ (s : Stand). take (8 * s.waiting) s.queue) stand ∙ taken w.own.setups w.state.lengths.setups room },
)
  where
    stand : stand_of (left (microframe t) w) ≡ asking (entered Enumerate (opened t w p))
    stand =
        ap stand_of (frame_in_lem t w p stayed Reset e)
        ∙ stand_resets (there t w p)
        (late_there t w p stayed 80 ∙ is_late 80 w.state.port.t w.state.port.uf p.few due) ((alike_phase (rs_set w) w h).uri ∙ clear)
        ∙ ap (λ (k : Stand). asking (entered Enumerate k)) (stand_there t w p stayed)

-- URI still set, or before that, it waits on
pub reset_waits : (t : ℕ) (w : World) → Present t w → device_left t w ≡ false → w.state.phase ≡ Reset → w.state.port.t ≤ w.state.port.uf
    → length w.lent.memory.page ≡ 4096 → (any (word_at w.lent.memory.page USBSTS) 0x40 ≡ true) ⊎ (w.state.port.uf + 1 ≤ w.state.port.t + 80)
    → GoesOn Reset w (left (microframe t) w)
reset_waits t w p stayed e h page c = goes_on t w p stayed Reset e (frame_in_lem t w p stayed Reset e ∙ waits c)
  where
    waits : (any (word_at w.lent.memory.page USBSTS) 0x40 ≡ true) ⊎ (w.state.port.uf + 1 ≤ w.state.port.t + 80) → left resets (there t w p) ≡ there t w p
    waits (inl x) = held_resets (there t w p) ((alike_phase (rs_set w) w page).uri ∙ x)
    waits (inr x) =
        early_resets (there t w p)
        (late_there t w p stayed 80 ∙ is_early 80 w.state.port.t w.state.port.uf (omega arith) p.few h x)
