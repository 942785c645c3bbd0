-- Demand 3's history: for every list of calls from a new host, refused ones included.
use Prim.Native.Nat.{ℕ, ◌+◌, ◌-◌, ◌*◌, ◌%◌, ◌≤◌}
use mathlib.Core.Path.{◌≡◌, refl}
use mathlib.Core.Bool.{Bool, true, false, ◌&&◌}
use mathlib.Core.List.{List, [], ◌∷◌}
use native.Mathlib.Omega.{arith}
use lib.Dec.{eqb, leb}
use lib.ListN.{length}
use borrow.Author.Tests.{leb-true, eqb-true}
use Rattle.bits.specs.Pick.{pick, pick_both}
use Rattle.record.specs.declared.Settings.{Settings}
use Rattle.record.specs.World.{Lent, World}
use Rattle.record.specs.Change.{left}
use Rattle.model.specs.Microframe as M
use Rattle.model.specs.Microframe.{rs_set, gone_at, asleep_at}
use Rattle.model.specs.Reach.{reaches_output, comes_back, device_left, at_output, output_ready, stream_by}
use Rattle.model.specs.Earned.{Counts, counts_of, sent_one, zeroed, blocks_read, reset_counts, heard_counts, sent_counts}
use Rattle.model.proofs.History.{counts_microframe}
use Rattle.kept.proofs.Credit.{SMALL, added, heard_plain}
use Rattle.usbhost.specs.declared.Host.{Host}
use Rattle.usbhost.specs.Answers.{Created}
use Rattle.usbhost.specs.Host.{new_host, settled, no_settings, created}
use Rattle.usbhost.specs.Calls as C
use Rattle.usbhost.specs.Calls.{midi_number, midi_queued, midi_sent, serial_number, serial_queued, serial_sent, give_number, frame_given, given, holds_frame, frame_taken, taken_frame, access_number, with_flag, device_written}
use Rattle.usbhost.specs.Frame.{world_of, host_in, frame_number, framed}
use Rattle.history.specs.Calls.{Call, microframe, midi_send, serial_send, frame_give, frame_take, device_read, device_write, step, after}
use Rattle.history.specs.Sums as S
use Rattle.history.specs.Sums.{Sums, none, receive, send, input_reached, output_reached, reset, heard, answered, summed, sums, Balanced}
use Rattle.history.proofs.Accepted.{Small, accepted_small}

-- the same of the counts alone
pub record Even (m : Counts) (g : Sums) : Type 0 where
  pub balance : g.received ≡ g.sent + m.credit
  pub sevens : m.credit % 7 ≡ 0

even_pick : (t : Bool) {m m' : Counts} {g g' : Sums} → Even m g → Even m' g' → Even (pick t m m') (pick t g g')
even_pick true p q = p
even_pick false p q = q

even_zero : (m : Counts) → Even (zeroed m) none
even_zero m = record { balance = refl; sevens = refl }

even_added : (n : ℕ) (m : Counts) (g : Sums) → Even m g → Even (added n m) (receive (7 * n) g)
even_added n m g e = record { balance = omega (arith, e.balance); sevens = omega (arith, e.sevens) }

-- the two tests of seven agree
even_sent : (t : Bool) (m : Counts) (g : Sums) → leb 7 m.credit ≡ t → Even m g → Even (pick t (sent_one m) m) (pick t (send g) g)
unfolding sent_one
even_sent true m g h e =
    let seven = leb-true 7 m.credit h in
    record { balance = omega (arith, e.balance); sevens = omega (arith, e.sevens) }
even_sent false m g h e = e

pub same_test : (m : Counts) (g : Sums) → Even m g → g.received - g.sent ≡ m.credit
same_test m g e = omega (arith, e.balance)

even_answer : (m : Counts) (g : Sums) → Even m g → Even (pick (leb 7 m.credit) (sent_one m) m) (pick (S.earned g) (send g) g)
even_answer m g e = rw (same_test m g e) (even_sent (leb 7 m.credit) m g refl e)

pick_and : {A : Type 0} (a b c : Bool) (x y : A) → pick (a && b) (pick c x y) y ≡ pick (a && (b && c)) x y
pick_and true true c x y = refl
pick_and true false c x y = refl
pick_and false b c x y = refl

-- ---- one accepted microframe

module _ (t : ℕ) (w : World) (g : Sums) (small : (counts_of w).credit ≤ SMALL) (few : (counts_of w).received ≤ SMALL) (e : Even (counts_of w) g) where
  abbrev rs : Bool
  rs = rs_set w

  abbrev gone : Bool
  gone = gone_at t w

  abbrev asleep : Bool
  asleep = asleep_at t w

  even_reset : Even (reset_counts rs gone asleep w) (reset t w g)
  unfolding reset_counts
  even_reset =
      even_pick (device_left t w) (even_zero (pick (comes_back t w) (zeroed (counts_of w)) (counts_of w)))
      (even_pick (comes_back t w) (even_zero (counts_of w)) e)

  pub even_heard : Even (heard_counts rs gone asleep w) (heard t w (reset t w g))
  unfolding blocks_read
  even_heard =
      rw (heard_plain rs gone asleep w small few)
      (even_pick (input_reached t w) (even_added (blocks_read (stream_by rs w)) _ _ even_reset) even_reset)

  even_answered : Even (sent_counts rs gone asleep w) (answered t w (heard t w (reset t w g)))
  unfolding sent_counts
  even_answered =
      let m = heard_counts rs gone asleep w in
      rw (← pick_and (reaches_output t w) (output_ready (at_output w)) (leb 7 m.credit) (sent_one m) m)
      (even_pick (output_reached t w) (even_answer m _ even_heard) even_heard)

  pub even_microframe : Even (counts_of (left (M.microframe t) w)) (answered t w (heard t w (reset t w g)))
  even_microframe = rw (counts_microframe t w) even_answered

-- ---- one call

pub small_counts : (h : Host) (l : Lent) → Small h → ((counts_of (world_of h l)).credit ≤ SMALL) × ((counts_of (world_of h l)).received ≤ SMALL)
small_counts h l s = (omega (arith, s.credit), omega (arith, s.received))

pub by_test : (P : Bool → Type 0) (b : Bool) → (b ≡ true → P true) → (b ≡ false → P false) → P b
by_test P true p q = p refl
by_test P false p q = q refl

balanced_frame : (h : Host) (g : Sums) (t : ℕ) (l : Lent) → Balanced h g → Balanced (step h (microframe t l)) (summed h g (microframe t l))
unfolding step framed summed
balanced_frame h g t l b =
    by_test
    (λ x. Balanced (host_in (pick x (left (M.microframe t) (world_of h l)) (world_of h l))) (pick x (answered t (world_of h l) (heard t (world_of h l) (reset t (world_of h l) g))) g))
    (eqb (frame_number h l) 0)
    (λ ok.
    let s = accepted_small h l (eqb-true (frame_number h l) 0 ok) in
    let c = small_counts h l s in
    let e = even_microframe t (world_of h l) g c.0 c.1 (record { balance = b.balance; sevens = b.sevens }) in
    record { balance = e.balance; sevens = e.sevens })
    (λ no. record { balance = b.balance; sevens = b.sevens })

-- a record by a test: both have the same credit
same_credit : (b : Bool) {h h' : Host} {g : Sums} → Balanced h g → Balanced h' g → Balanced (pick b h h') g
same_credit true p q = p
same_credit false p q = q

pub balanced_step : (h : Host) (g : Sums) (c : Call) → Balanced h g → Balanced (step h c) (summed h g c)
unfolding step summed midi_sent serial_sent given taken_frame device_written midi_queued serial_queued frame_given frame_taken with_flag C.device_read
balanced_step h g (microframe t l) b = balanced_frame h g t l b
balanced_step h g (midi_send cable bs) b = same_credit (eqb (midi_number h cable bs) 0) (record { balance = b.balance; sevens = b.sevens }) b
balanced_step h g (serial_send bs) b = same_credit (eqb (serial_number h bs) 0) (record { balance = b.balance; sevens = b.sevens }) b
balanced_step h g (frame_give f sending) b = same_credit (eqb (give_number h f sending) 0) (record { balance = b.balance; sevens = b.sevens }) b
balanced_step h g (frame_take received) b = same_credit (holds_frame h received) (record { balance = b.balance; sevens = b.sevens }) b
balanced_step h g (device_read page off size) b = b
balanced_step h g (device_write page off size v) b = same_credit (eqb (access_number h (length page) off size) 0) (record { balance = b.balance; sevens = b.sevens }) b

-- ---- every list of calls

all : (h : Host) (g : Sums) (cs : List Call) → Balanced h g → Balanced (after h cs) (sums h g cs)
unfolding after sums
all h g [] b = b
all h g (c ∷ cs) b = all (step h c) (summed h g c) cs (balanced_step h g c b)

-- demand 3: from `new`, whatever its settings
pub history : (s : Settings) (cs : List Call) → Balanced (after (new_host s) cs) (sums (new_host s) none cs)
unfolding new_host
history s cs = all (new_host s) none cs (record { balance = refl; sevens = refl })

-- and from whatever `new` answers, refused or not
pub history_new : (c : Settings) (cs : List Call) → Balanced (after (created c).host cs) (sums (created c).host none cs)
unfolding created
history_new c cs =
    pick_both (λ (x : Created). Balanced (after x.host cs) (sums x.host none cs)) (leb c.spans 16)
    {a = record { refusal = 0; host = new_host (settled c) }} {b = record { refusal = 3; host = new_host no_settings }}
    (history (settled c) cs) (history no_settings cs)
