-- What the user tabulates: the record's two counters of frames are the frames of the good blocks read and of the blocks sent, through every reset.
use Prim.Native.Nat.{ℕ, ◌+◌, ◌%◌, ◌^◌, ◌≤◌}
use mathlib.Core.Path.{◌≡◌, refl, ap, ap₂, sym, ◌∙◌}
use mathlib.Core.Bool.{Bool, true, false, ◌&&◌}
use mathlib.Core.List.{List, [], ◌∷◌}
use native.Mathlib.Omega.{arith}
use lib.Dec.{eqb, leb}
use lib.ListN.{length}
use borrow.Author.Tests.{eqb-true}
use Rattle.bits.specs.Pick.{pick, pick_both, pick_map}
use Rattle.record.specs.declared.Settings.{Settings}
use Rattle.record.specs.World.{Lent, World}
use Rattle.record.specs.Change.{left}
use Rattle.record.specs.Record.{counter_at, counter_of, out_frames}
use Rattle.model.specs.Audio.{BLOCK_FRAMES}
use Rattle.model.specs.Microframe as M
use Rattle.model.specs.Microframe.{rs_set, gone_at, asleep_at}
use Rattle.model.specs.Reach.{reaches_output, at_output, output_ready, stream_by, back_by, left_by}
use Rattle.model.specs.Earned.{Counts, counts_of, sent_one, zeroed, blocks_read, reset_counts, heard_counts, sent_counts}
use Rattle.model.proofs.History.{counts_microframe}
use Rattle.kept.proofs.Credit.{SMALL, added, heard_plain, reset_received}
use Rattle.usbhost.specs.declared.Host.{Host}
use Rattle.usbhost.specs.Answers.{Created}
use Rattle.usbhost.specs.Host.{new_host, settled, no_settings, created}
use Rattle.usbhost.specs.Calls as C
use Rattle.usbhost.specs.Calls.{midi_number, midi_queued, midi_sent, serial_number, serial_queued, serial_sent, give_number, frame_given, given, holds_frame, frame_taken, taken_frame, access_number, with_flag, device_written}
use Rattle.usbhost.specs.Frame.{world_of, host_in, frame_number, framed}
use Rattle.history.specs.Calls.{Call, microframe, midi_send, serial_send, frame_give, frame_take, device_read, device_write, step, after}
use Rattle.history.specs.Sums as S
use Rattle.history.specs.Sums.{Sums, none, receive, send, read_at, input_reached, output_reached, reset, heard, summed, Tally, answered_ever, tallied, tally, Balanced, Tabulated}
use Rattle.history.proofs.Accepted.{accepted_small}
use Rattle.history.proofs.History.{Even, even_heard, same_test, small_counts, by_test, balanced_step}

pick_sent : (t : Bool) (m m' : Counts) (n : ℕ) → m.sent ≡ n → m'.sent ≡ n → (pick t m m').sent ≡ n
pick_sent true m m' n p q = p
pick_sent false m m' n p q = q

pub and_assoc : (a b c : Bool) → (a && (b && c)) ≡ ((a && b) && c)
and_assoc true b c = refl
and_assoc false b c = refl

-- ---- one accepted microframe

module _ (t : ℕ) (w : World) (g a : Sums) (small : (counts_of w).credit ≤ SMALL) (few : (counts_of w).received ≤ SMALL) (less : (counts_of w).sent ≤ SMALL)
    (e : Even (counts_of w) g) (ins : (counts_of w).received ≡ a.received) (outs : (counts_of w).sent ≡ a.sent) where
  abbrev rs : Bool
  rs = rs_set w

  abbrev gone : Bool
  gone = gone_at t w

  abbrev asleep : Bool
  asleep = asleep_at t w

  reset_sent : (reset_counts rs gone asleep w).sent ≡ (counts_of w).sent
  unfolding reset_counts
  reset_sent =
      pick_sent (left_by rs gone asleep w) (zeroed (pick (back_by gone w) (zeroed (counts_of w)) (counts_of w))) (pick (back_by gone w) (zeroed (counts_of w)) (counts_of w)) _
      (pick_sent (back_by gone w) (zeroed (counts_of w)) (counts_of w) _ refl refl)
      (pick_sent (back_by gone w) (zeroed (counts_of w)) (counts_of w) _ refl refl)

  heard_sent : (heard_counts rs gone asleep w).sent ≡ a.sent
  heard_sent =
      ap (λ (m : Counts). m.sent) (heard_plain rs gone asleep w small few)
      ∙ pick_sent (input_reached t w) (added (blocks_read (stream_by rs w)) (reset_counts rs gone asleep w)) (reset_counts rs gone asleep w) _ reset_sent reset_sent
      ∙ outs

  heard_received : (heard_counts rs gone asleep w).received ≡ (heard t w a).received
  unfolding blocks_read
  heard_received =
      ap (λ (m : Counts). m.received) (heard_plain rs gone asleep w small few)
      ∙ pick_map (λ (m : Counts). m.received) (input_reached t w) (added (blocks_read (stream_by rs w)) (reset_counts rs gone asleep w)) (reset_counts rs gone asleep w)
      ∙ ap (λ (n : ℕ). pick (input_reached t w) (n + read_at w) n) (reset_received rs gone asleep w small few ∙ ins)
      ∙ sym (pick_map (λ (x : Sums). x.received) (input_reached t w) (receive (read_at w) a) a)

  -- the output step's test is the one that the sums make
  same_earned : leb BLOCK_FRAMES (heard_counts rs gone asleep w).credit ≡ S.earned (heard t w (reset t w g))
  same_earned = ap (leb BLOCK_FRAMES) (sym (same_test _ _ (even_heard t w g small few e)))

  tests : (reaches_output t w && (output_ready (at_output w) && leb BLOCK_FRAMES (heard_counts rs gone asleep w).credit)) ≡ (output_reached t w && S.earned (heard t w (reset t w g)))
  tests =
      ap (λ (b : Bool). reaches_output t w && (output_ready (at_output w) && b)) same_earned
      ∙ and_assoc (reaches_output t w) (output_ready (at_output w)) (S.earned (heard t w (reset t w g)))

  ever_sent : (heard t w a).sent ≡ a.sent
  ever_sent = pick_map (λ (x : Sums). x.sent) (input_reached t w) (receive (read_at w) a) a ∙ same (input_reached t w)
    where
      same : (b : Bool) → pick b a.sent a.sent ≡ a.sent
      same true = refl
      same false = refl

  pub frame_received : (counts_of (left (M.microframe t) w)).received ≡ (answered_ever t w (heard t w (reset t w g)) (heard t w a)).received
  unfolding sent_counts sent_one
  frame_received =
      let b = reaches_output t w && (output_ready (at_output w) && leb BLOCK_FRAMES (heard_counts rs gone asleep w).credit) in
      ap (λ (m : Counts). m.received) (counts_microframe t w)
      ∙ pick_map (λ (m : Counts). m.received) b (sent_one (heard_counts rs gone asleep w)) (heard_counts rs gone asleep w)
      ∙ same b
      ∙ heard_received
      ∙ sym (same' (output_reached t w && S.earned (heard t w (reset t w g))))
      ∙ sym (pick_map (λ (x : Sums). x.received) (output_reached t w && S.earned (heard t w (reset t w g))) (send (heard t w a)) (heard t w a))
    where
      same : (b : Bool) → pick b (heard_counts rs gone asleep w).received (heard_counts rs gone asleep w).received ≡ (heard_counts rs gone asleep w).received
      same true = refl
      same false = refl

      same' : (b : Bool) → pick b (heard t w a).received (heard t w a).received ≡ (heard t w a).received
      same' true = refl
      same' false = refl

  pub frame_sent : (counts_of (left (M.microframe t) w)).sent ≡ (answered_ever t w (heard t w (reset t w g)) (heard t w a)).sent
  unfolding sent_counts sent_one
  frame_sent =
      let b = reaches_output t w && (output_ready (at_output w) && leb BLOCK_FRAMES (heard_counts rs gone asleep w).credit) in
      let plain : ((heard_counts rs gone asleep w).sent + 7) % 2 ^ 64 ≡ (heard_counts rs gone asleep w).sent + 7 = omega (arith, less, outs, heard_sent) in
      ap (λ (m : Counts). m.sent) (counts_microframe t w)
      ∙ pick_map (λ (m : Counts). m.sent) b (sent_one (heard_counts rs gone asleep w)) (heard_counts rs gone asleep w)
      ∙ ap₂ (λ (x : Bool) (n : ℕ). pick x n (heard_counts rs gone asleep w).sent) tests plain
      ∙ ap (λ (n : ℕ). pick (output_reached t w && S.earned (heard t w (reset t w g))) (n + 7) n) (heard_sent ∙ sym ever_sent)
      ∙ sym (pick_map (λ (x : Sums). x.sent) (output_reached t w && S.earned (heard t w (reset t w g))) (send (heard t w a)) (heard t w a))

-- ---- one call

record Right (h : Host) (y : Tally) : Type 0 where
  even : Balanced h y.since
  table : Tabulated h y.ever

tabulated_frame : (h : Host) (y : Tally) (t : ℕ) (l : Lent) → Right h y → Tabulated (step h (microframe t l)) (tallied h y (microframe t l)).ever
unfolding step framed tallied
tabulated_frame h y t l r =
    by_test
    (λ x. Tabulated (host_in (pick x (left (M.microframe t) (world_of h l)) (world_of h l))) (pick x (answered_ever t (world_of h l) (heard t (world_of h l) (reset t (world_of h l) y.since)) (heard t (world_of h l) y.ever)) y.ever))
    (eqb (frame_number h l) 0)
    (λ ok.
    let s = accepted_small h l (eqb-true (frame_number h l) 0 ok) in
    let c = small_counts h l s in
    let less : counter_of out_frames h.stats ≤ SMALL = omega (arith, s.sent) in
    let e : Even (counts_of (world_of h l)) y.since = record { balance = r.even.balance; sevens = r.even.sevens } in
    record {
      received = frame_received t (world_of h l) y.since y.ever c.0 c.1 less e r.table.received r.table.sent;
      sent = frame_sent t (world_of h l) y.since y.ever c.0 c.1 less e r.table.received r.table.sent;
    })
    (λ no. record { received = r.table.received; sent = r.table.sent })

same_table : (b : Bool) {h h' : Host} {a : Sums} → Tabulated h a → Tabulated h' a → Tabulated (pick b h h') a
same_table true p q = p
same_table false p q = q

right_step : (h : Host) (y : Tally) (c : Call) → Right h y → Right (step h c) (tallied h y c)
unfolding step tallied midi_sent serial_sent given taken_frame device_written midi_queued serial_queued frame_given frame_taken with_flag C.device_read summed
right_step h y (microframe t l) r = record { even = balanced_step h y.since (microframe t l) r.even; table = tabulated_frame h y t l r }
right_step h y (midi_send cable bs) r =
    record { even = balanced_step h y.since (midi_send cable bs) r.even; table = same_table (eqb (midi_number h cable bs) 0) (record { received = r.table.received; sent = r.table.sent }) r.table }
right_step h y (serial_send bs) r =
    record { even = balanced_step h y.since (serial_send bs) r.even; table = same_table (eqb (serial_number h bs) 0) (record { received = r.table.received; sent = r.table.sent }) r.table }
right_step h y (frame_give f sending) r =
    record { even = balanced_step h y.since (frame_give f sending) r.even; table = same_table (eqb (give_number h f sending) 0) (record { received = r.table.received; sent = r.table.sent }) r.table }
right_step h y (frame_take received) r =
    record { even = balanced_step h y.since (frame_take received) r.even; table = same_table (holds_frame h received) (record { received = r.table.received; sent = r.table.sent }) r.table }
right_step h y (device_read page off size) r = r
right_step h y (device_write page off size v) r =
    record { even = balanced_step h y.since (device_write page off size v) r.even; table = same_table (eqb (access_number h (length page) off size) 0) (record { received = r.table.received; sent = r.table.sent }) r.table }

-- ---- every list of calls

all : (h : Host) (y : Tally) (cs : List Call) → Right h y → Right (after h cs) (tally h y cs)
unfolding after tally
all h y [] r = r
all h y (c ∷ cs) r = all (step h c) (tallied h y c) cs (right_step h y c r)

pub table_counters : (s : Settings) (cs : List Call) → Tabulated (after (new_host s) cs) (tally (new_host s) (record { since = none; ever = none }) cs).ever
unfolding new_host counter_at
table_counters s cs =
    (all (new_host s) (record { since = none; ever = none }) cs
    (record { even = record { balance = refl; sevens = refl }; table = record { received = refl; sent = refl } })
    ).table

-- and from whatever `new` answers, refused or not
pub table_counters_new : (c : Settings) (cs : List Call) → Tabulated (after (created c).host cs) (tally (created c).host (record { since = none; ever = none }) cs).ever
unfolding created
table_counters_new c cs =
    pick_both (λ (x : Created). Tabulated (after x.host cs) (tally x.host (record { since = none; ever = none }) cs).ever) (leb c.spans 16)
    {a = record { refusal = 0; host = new_host (settled c) }} {b = record { refusal = 3; host = new_host no_settings }}
    (table_counters (settled c) cs) (table_counters no_settings cs)
