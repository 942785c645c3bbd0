-- The counters: in a microframe each rises by at most 32,767 and does not wrap (document 01, number 5).
use Prim.Native.Nat.{ℕ, zero, suc, ◌+◌, ◌-◌, ◌*◌, ◌/◌, ◌%◌, ◌^◌, ◌≤◌, ◌<◌, min}
use mathlib.Core.Path.{◌≡◌, refl, sym, subst, ◌∙◌}
use mathlib.Core.Bool.{Bool, true, false, not, ◌&&◌}
use mathlib.Core.List.{List, [], ◌∷◌}
use native.Mathlib.Omega.{arith}
use lib.Dec.{leb, eqb}
use lib.ListN.{length, drop, length-drop}
use borrow.Author.Tests.{leb-true, le-leb, eqb-true, eqb-false}
use Rattle.bits.proofs.Tests.{false_true}
use Rattle.bits.specs.Pick.{pick}
use Rattle.bus.specs.Steps.{and_then, replay, exec_then}
use Rattle.bus.proofs.Sizes.{and_true}
use Rattle.usbdev.specs.Registers.{PageStep}
use Rattle.dtd.specs.Dtd.{Endpoint, endpoint, Run, run_dtds}
use Rattle.record.specs.declared.Phase.{Phase}
use Rattle.record.specs.declared.Phase.TheVariants.{Idle, Vbus, Reset, Enumerate, Stream}
use Rattle.record.specs.declared.Settings.{Settings}
use Rattle.record.specs.Record.{Stats, COUNTERS, wrapped, Counter, place, counter_at, counter_of, counted, raised, microframes, in_transfers, out_transfers, in_frames, out_frames, bad_blocks, midi_dtds, midi_asleep, out_underruns, midi_packets_out, vendor_in_bytes, restarts, enumerations}
use Rattle.record.proofs.Counters.{raised_same, raised_other}
use Rattle.record.specs.World.{World, bus_of}
use Rattle.record.specs.Change.{Change, count, budget, on_page, apply, Step, left, ◌then◌, nothing, if, when, one, here, ran_stores, runs}
use Rattle.model.specs.Phases.{now, counts, ticks, cable, returns, sleeps, suspends, enters, leaves, resets, starts_frame}
use Rattle.model.specs.Control.{stalled, unstalls, stages, posts, configured, controls}
use Rattle.model.specs.Streams.{naks, reads, reads_at, midi_in, fitting, serial_step, drains_midi, midi_out, reads_vendor}
use Rattle.model.specs.Audio.{audio_in, adds_budget, over_budget, clears_budget, blocks, blocks_of, good, keeps_frames, keeps_good, keeps_block, keeps_blocks, keeps_run, inputs, stream_in, sends_block, unprimes, stream_out, streams}
use Rattle.model.specs.Microframe.{rs_set, gone_at, asleep_at, others, transfers, enumerates, talks, at_phase, by_phase, opens, frame_of, microframe}
use Rattle.bounds.specs.Bounds.{MOST, times, none_above, counters_ok}
use Rattle.bounds.proofs.Laws.{all_below_lem, counter_below}
use Rattle.model.proofs.Holding.{Holds, holds_then, holds_seq, holds_nothing, holds_one}
use Rattle.model.proofs.Walk.{is_other, other_same, at_if, on_if, after_run_lem, on_page_lem, adds_any, clears_any, Ran, Requested, Chosen, Forgotten, walk_enters, walk_ticks, walk_suspends, walk_leaves, walk_forgets, walk_idles, walk_powers, walk_resets, walk_frame, walk_unstalls, walk_stages, walk_posts, walk_naks, walk_serves, walk_frames, walk_unprimes}
use Rattle.model.proofs.Bytes.{run_bytes}

-- ---- a counter that rises by at most n: it does not wrap while there is room for that

pub record Rise (n x x' : ℕ) : Type 0 where
  pub low : x + n < 2 ^ 64 → x ≤ x'
  pub high : x' ≤ x + n

rise_none : (n x : ℕ) → Rise n x x
rise_none n x = record { low = λ h. omega arith; high = omega arith }

rise_count : (n x : ℕ) → Rise n x (wrapped (x + n))
rise_count n x = record { low = λ h. omega arith; high = omega arith }

rise_then : (n m x y z : ℕ) → Rise n x y → Rise m y z → Rise (n + m) x z
rise_then n m x y z p q =
    let a = p.high in
    let b = q.high in
    record { low = λ h. both (p.low (omega arith)) (q.low (omega arith)); high = omega arith }
  where
    both : x ≤ y → y ≤ z → x ≤ z
    both u v = omega arith

rise_more : (n m x y : ℕ) → n ≤ m → Rise n x y → Rise m x y
rise_more n m x y l p = let a = p.high in record { low = λ h. p.low (omega arith); high = omega arith }

-- the most that the counter at a place rises by: vendor_in_bytes by m, every other by n
abbrev most : ℕ → ℕ → ℕ → ℕ
most n m k = pick (eqb k (place vendor_in_bytes)) m n

-- each by at most that, and the microframes stay
pub record Raised (n m : ℕ) (r r' : Stats) : Type 0 where
  pub microframes : counter_of microframes r' ≡ counter_of microframes r
  pub rises : (k : ℕ) → Rise (most n m k) (counter_at k r) (counter_at k r')

raised_none : (n m : ℕ) (r : Stats) → Raised n m r r
raised_none n m r = record { microframes = refl; rises = λ k. rise_none _ _ }

raised_then : (a b c d : ℕ) (r s t : Stats) → Raised a b r s → Raised c d s t → Raised (a + c) (b + d) r t
raised_then a b c d r s t p q =
    record {
      microframes = q.microframes ∙ p.microframes;
      rises = λ k. subst (λ (n : ℕ). Rise n (counter_at k r) (counter_at k t)) (both (eqb k (place vendor_in_bytes))) (rise_then _ _ _ _ _ (p.rises k) (q.rises k));
    }
  where
    both : (v : Bool) → pick v b a + pick v d c ≡ pick v (b + d) (a + c)
    both true = refl
    both false = refl

raised_more : (a b n m : ℕ) (r s : Stats) → a ≤ n → b ≤ m → Raised a b r s → Raised n m r s
raised_more a b n m r s k l p =
    record { microframes = p.microframes; rises = λ j. rise_more _ _ _ _ (more (eqb j (place vendor_in_bytes))) (p.rises j) }
  where
    more : (v : Bool) → pick v b a ≤ pick v m n
    more true = l
    more false = k

-- the counter at a place, and no other
raised_at : (j n : ℕ) (r : Stats) (k : ℕ) → Rise (pick (eqb k j) n 0) (counter_at k r) (counter_at k (raised j n r))
raised_at j n r k = by_place (eqb k j) refl
  where
    by_place : (b : Bool) → eqb k j ≡ b → Rise (pick b n 0) (counter_at k r) (counter_at k (raised j n r))
    by_place true e =
        let same = eqb-true k j e in
        rw same (subst (λ (x : ℕ). Rise n (counter_at j r) x) (sym (raised_same j n r)) (rise_count n (counter_at j r)))
    by_place false e = subst (λ (x : ℕ). Rise 0 (counter_at k r) x) (sym (raised_other k j n r (eqb-false k j e))) (rise_none 0 (counter_at k r))

-- a counter that is neither that of the microframes nor vendor_in_bytes, and that one
abbrev is_few : Counter → Bool
is_few c = is_other c && not (eqb (place c) (place vendor_in_bytes))

raised_count : (c : Counter) (n : ℕ) (r : Stats) → is_few c ≡ true → Raised n 0 r (counted c n r)
raised_count c n r e =
    let few = and_true (is_other c) _ e in
    record { microframes = other_same c n r few.0; rises = λ k. rise_more _ _ _ _ (fits k few.1 (eqb k (place c)) refl) (raised_at (place c) n r k) }
  where
    fits : (k : ℕ) → not (eqb (place c) (place vendor_in_bytes)) ≡ true → (b : Bool) → eqb k (place c) ≡ b → pick b n 0 ≤ most n 0 k
    fits k f true i = subst (λ (j : ℕ). n ≤ most n 0 j) (sym (eqb-true k (place c) i)) (other (eqb (place c) (place vendor_in_bytes)) f)
      where
        other : (v : Bool) → not v ≡ true → n ≤ pick v 0 n
        other true g = absurd (false_true g)
        other false g = omega arith
    fits k f false i = omega arith

raised_vendor : (n : ℕ) (r : Stats) → Raised 0 n r (counted vendor_in_bytes n r)
raised_vendor n r = record { microframes = other_same vendor_in_bytes n r refl; rises = raised_at (place vendor_in_bytes) n r }

-- ---- steps that leave the counters: no change that they make is a count

abbrev StatsAre : Stats → World → Type 0
StatsAre s w = w.state.stats ≡ s

module _ (s : Stats) where
  abbrev Same : World → Type 0
  Same = StatsAre s

  still_page : (f : PageStep) → Holds Same (on_page f)
  unfolding apply
  still_page f = on_page_lem Same (λ x w h. h) f

  ran_still : Ran Same
  unfolding apply
  ran_still = record { stores = λ x w h. h; marks = λ e k n w h. h; loses = λ n w h. h }

  requested_still : Requested Same
  unfolding apply
  requested_still =
      record {
        controls = λ c w h. h;
        replies = λ n bs w h. h;
        pushes = λ bs w h. h;
        queues = λ bs w h. h;
        devices = λ bs w h. h;
        configs = λ bs w h. h;
      }

  forgotten_still : Forgotten Same
  unfolding apply
  forgotten_still = record { clears = λ w h. h; drops = λ w h. h; credits = λ w h. h; budgets = λ w h. h; forgets = λ w h. h }

  still_enters : (p : Phase) → Holds Same (enters p)
  unfolding apply
  still_enters p = walk_enters Same p (λ w h. h) (λ w h. h)

  still_ticks : Holds Same ticks
  unfolding apply
  still_ticks = walk_ticks Same (λ x w h. h) (λ ts w h. h)

  still_suspends : (b : Bool) → Holds Same (suspends b)
  unfolding apply
  still_suspends = walk_suspends Same (λ x w h. h) (λ b w h. h)

  still_leaves : (stack rs : Bool) → Holds Same (leaves stack rs)
  unfolding apply
  still_leaves = walk_leaves Same forgotten_still (still_enters Vbus) (λ b w h. h)

  still_resets : Holds Same resets
  unfolding apply
  still_resets = walk_resets Same (λ x w h. h) still_enters (λ bs w h. h)

  still_posts : Holds Same posts
  unfolding apply
  still_posts = walk_posts Same ran_still requested_still (λ w h. h)

  still_serves : Holds Same serial_step
  unfolding apply
  still_serves = walk_serves Same ran_still (λ n w l h. h) (λ bs w h. h)

  still_block : {stack : Bool} → Chosen Same stack
  unfolding apply
  still_block e bs w l h = h

  still_budget : (n : ℕ) (w : World) → Same w → Same (apply (budget n) w)
  unfolding apply
  still_budget n w h = h

  still_frames : (n : ℕ) (bs : List ℕ) → Holds Same (keeps_frames n bs)
  unfolding apply
  still_frames = walk_frames Same (λ f w h. h)

-- ---- what each form of a step raises

record Raises (n m : ℕ) (f : Step) : Type 0 where
  up : (w : World) → Raised n m w.state.stats (left f w).state.stats

-- a step that leaves the counters
raises_still : (n m : ℕ) (f : Step) → ((s : Stats) → Holds (StatsAre s) f) → Raises n m f
raises_still n m f h =
    record { up = λ w. subst (Raised n m w.state.stats) (sym (h w.state.stats w refl)) (raised_none n m w.state.stats) }

-- a change that leaves them
raises_other : (n m : ℕ) (c : World → Change) → ((w : World) → (apply (c w) w).state.stats ≡ w.state.stats) → Raises n m (one c)
unfolding one
raises_other n m c h =
    record { up = λ w. subst (Raised n m w.state.stats) (sym (h w)) (raised_none n m w.state.stats) }

raises_nothing : (n m : ℕ) → Raises n m nothing
raises_nothing n m = raises_still n m nothing (λ s. holds_nothing (StatsAre s))

raises_then : (a b c d : ℕ) (f g : Step) → Raises a b f → Raises c d g → Raises (a + c) (b + d) (f then g)
raises_then a b c d f g p q =
    record { up = λ w. holds_seq (λ (v : World). Raised (a + c) (b + d) w.state.stats v.state.stats) f g w (raised_then a b c d _ _ _ (p.up w) (q.up (left f w))) }

raises_more : (a b n m : ℕ) (f : Step) → a ≤ n → b ≤ m → Raises a b f → Raises n m f
raises_more a b n m f k l p = record { up = λ w. raised_more a b n m _ _ k l (p.up w) }

raises_if : (n m : ℕ) (t : World → Bool) (f g : Step) → Raises n m f → Raises n m g → Raises n m (if t f g)
raises_if n m t f g p q =
    record { up = λ w. at_if (λ (v : World). Raised n m w.state.stats v.state.stats) t f g w (λ e. p.up w) (λ e. q.up w) }

raises_when : (n m : ℕ) (t : World → Bool) (f : Step) → Raises n m f → Raises n m (when t f)
raises_when n m t f p = raises_if n m t f nothing p (raises_nothing n m)

raises_here : (n m : ℕ) (f : World → Step) → ((v : World) → Raises n m (f v)) → Raises n m (here f)
unfolding here
raises_here n m f p = record { up = λ w. (p w).up w }

raises_pick : (n m : ℕ) (t : Bool) (f g : Step) → Raises n m f → Raises n m g → Raises n m (pick t f g)
raises_pick n m true f g p q = p
raises_pick n m false f g p q = q

-- what follows a run
abbrev after_run : Endpoint → List ℕ → World → World
after_run e bs w = replay apply (ran_stores e (run_dtds e bs (bus_of w))) w

after_stats : (e : Endpoint) (bs : List ℕ) (w : World) → (after_run e bs w).state.stats ≡ w.state.stats
unfolding apply
after_stats e bs w = after_run_lem (StatsAre w.state.stats) (λ x v h. h) (λ x k n v h. h) (λ n v h. h) e (run_dtds e bs (bus_of w)) w refl

left_runs : (e : Endpoint) (bs : List ℕ) (k : Run → Step) (w : World) → left (runs e bs k) w ≡ left (k (run_dtds e bs (bus_of w))) (after_run e bs w)
unfolding runs
left_runs e bs k w = exec_then apply (λ v. ran_stores e (run_dtds e bs (bus_of w))) (k (run_dtds e bs (bus_of w))) w

raises_runs : (n m : ℕ) (e : Endpoint) (bs : List ℕ) (k : Run → Step) → ((w : World) → Raises n m (k (run_dtds e bs (bus_of w)))) → Raises n m (runs e bs k)
raises_runs n m e bs k p =
    record {
      up = λ w. subst (λ (v : World). Raised n m w.state.stats v.state.stats) (sym (left_runs e bs k w))
          (subst (λ (r : Stats). Raised n m r (left (k (run_dtds e bs (bus_of w))) (after_run e bs w)).state.stats) (after_stats e bs w) ((p w).up (after_run e bs w)));
    }

raises_count : (c : Counter) → is_few c ≡ true → (k : World → ℕ) (n : ℕ) → ((w : World) → k w ≤ n) → Raises n 0 (one (λ w. count c (k w)))
unfolding one apply
raises_count c e k n l =
    record { up = λ w. raised_more (k w) 0 n 0 _ _ (l w) (omega arith) (raised_count c (k w) w.state.stats e) }

raises_one : (c : Counter) → is_few c ≡ true → (n : ℕ) → Raises n 0 (one (λ w. count c n))
raises_one c e n = raises_count c e (λ w. n) n (λ w. omega arith)

-- ---- on the way to control

raises_sleeps : Raises 1 0 sleeps
unfolding sleeps
raises_sleeps = raises_one midi_asleep refl 1

raises_returns : Raises 1 0 returns
unfolding returns apply
raises_returns =
    raises_then 0 0 1 0 _ _ (raises_other 0 0 _ (λ w. refl))
    (raises_then 0 0 1 0 _ _ (raises_still 0 0 _ (λ s. walk_forgets (StatsAre s) (forgotten_still s))) (raises_one restarts refl 1))

raises_cable : (g : Bool) → Raises 1 0 (cable g)
unfolding cable apply
raises_cable true = raises_still 1 0 _ (λ s. on_if (StatsAre s) _ _ nothing (holds_then (StatsAre s) _ _ (holds_one (StatsAre s) _ (λ w h. h)) (still_page s _)) (holds_nothing (StatsAre s)))
raises_cable false = raises_when 1 0 _ _ (raises_then 0 0 1 0 _ _ (raises_other 0 0 _ (λ w. refl)) raises_returns)

-- ---- control

raises_configured : Raises 1 0 configured
unfolding configured apply
raises_configured = raises_when 1 0 _ _ (raises_then 0 0 1 0 _ _ (raises_other 0 0 _ (λ w. refl)) (raises_one enumerations refl 1))

raises_controls : (stack : Bool) → Raises 1 0 (controls stack)
unfolding controls
raises_controls stack =
    raises_if 1 0 _ _ _
    (raises_if 1 0 stalled unstalls (stages stack) (raises_still 1 0 unstalls (λ s. walk_unstalls (StatsAre s) (ran_still s) (requested_still s))) (raises_still 1 0 (stages stack) (λ s. walk_stages (StatsAre s) (ran_still s) (requested_still s) stack (still_block s))))
    (raises_if 1 0 _ configured posts raises_configured (raises_still 1 0 posts still_posts))

raises_enumerates : (c : Settings) → Raises 1 0 (enumerates c)
unfolding enumerates
raises_enumerates c = raises_then 0 0 1 0 _ _ (raises_still 0 0 starts_frame (λ s. walk_frame (StatsAre s) (ran_still s).stores)) (raises_controls c.device_stack)

-- ---- MIDI and vendor

-- as many descriptors as reads
raises_reads : (n : ℕ) → Raises n 0 (reads n)
unfolding reads apply
raises_reads zero = raises_nothing 0 0
raises_reads (suc n) =
    let one_more : 1 + (0 + (0 + n)) ≤ suc n = omega arith in
    raises_runs (suc n) 0 (endpoint 1 true) [] _
    (λ w. raises_when (suc n) 0 _ _
    (raises_more (1 + (0 + (0 + n))) 0 (suc n) 0 _ one_more (omega arith)
    (raises_then 1 0 (0 + (0 + n)) 0 _ _ (raises_one midi_dtds refl 1)
    (raises_then 0 0 (0 + n) 0 _ _ (raises_other 0 0 _ (λ w. refl))
    (raises_then 0 0 n 0 _ _ (raises_other 0 0 _ (λ w. refl)) (raises_reads n))))))

reads_few : (every n : ℕ) → reads_at every n ≤ 8
reads_few every n = by_tests (eqb every 0) (eqb (n % every) 0)
  where
    by_tests : (a b : Bool) → pick a 8 (pick b 1 0) ≤ 8
    by_tests true b = omega arith
    by_tests false true = omega arith
    by_tests false false = omega arith

raises_midi : (asleep : Bool) (every : ℕ) → Raises 8 0 (midi_in asleep every)
unfolding midi_in
raises_midi true every = raises_more 1 0 8 0 _ (omega arith) (omega arith) raises_sleeps
raises_midi false every =
    raises_then 0 0 8 0 _ _ (raises_still 0 0 naks (λ s. walk_naks (StatsAre s) (ran_still s).stores))
    (raises_here 8 0 _ (λ v. raises_more _ 0 8 0 _ (reads_few every (now v)) (omega arith) (raises_reads (reads_at every (now v)))))

raises_drains : (n : ℕ) → Raises (n / 4) 0 (drains_midi n)
unfolding drains_midi apply
raises_drains n =
    raises_here (n / 4) 0 _
    (λ v. raises_more (0 + n / 4) 0 (n / 4) 0 _ (omega arith) (omega arith)
    (raises_then 0 0 (n / 4) 0 _ _ (raises_other 0 0 _ (λ w. refl))
    (raises_runs (n / 4) 0 _ _ _ (λ w. raises_one midi_packets_out refl (n / 4)))))

-- at most 512 bytes are 128 packets
packets : (a b : ℕ) → min (min a 512) b / 4 * 4 / 4 ≤ 128
packets a b = omega arith

raises_writes : Raises 128 0 midi_out
unfolding midi_out
raises_writes =
    raises_when 128 0 _ _
    (raises_here 128 0 _ (λ v. raises_more _ 0 128 0 _ (packets _ _) (omega arith) (raises_drains (fitting (endpoint 1 false) v.state.lengths.midi v / 4 * 4))))

raises_bytes : (n : ℕ) → Raises 0 n (one (λ w. count vendor_in_bytes n))
unfolding one apply
raises_bytes n = record { up = λ w. raised_vendor n w.state.stats }

raises_vendor : Raises 0 32767 reads_vendor
unfolding reads_vendor
raises_vendor =
    raises_runs 0 32767 _ _ _
    (λ w. raises_more 0 _ 0 32767 _ (omega arith) (run_bytes (endpoint 2 true) refl [] (bus_of w)) (raises_bytes (length (run_dtds (endpoint 2 true) [] (bus_of w)).bytes)))

-- how far a counter but vendor_in_bytes rises at most: by eight reads and a packet of MIDI, by all transfers, by what a connected host does, and in a microframe
abbrev most_others : ℕ
most_others = 8 + 128

abbrev most_transfers : ℕ
most_transfers = 646 + most_others

abbrev most_talks : ℕ
most_talks = 1 + most_transfers

abbrev pub most_frame : ℕ
most_frame = 1 + most_talks

raises_others : (c : Settings) (t : ℕ) → Raises most_others 32767 (others c t)
unfolding others
raises_others c t =
    raises_then 8 0 128 32767 _ _ (raises_when 8 0 _ _ (raises_midi _ _))
    (raises_when 128 32767 _ _ (raises_then 128 0 0 32767 _ _ raises_writes raises_vendor))

-- ---- the audio stream

raises_good : (b : List ℕ) → Raises 7 0 (keeps_good b)
unfolding keeps_good apply
raises_good b =
    raises_then 0 0 7 0 _ _ (raises_still 0 0 _ (λ s. still_frames s 7 _))
    (raises_then 7 0 0 0 _ _ (raises_one in_frames refl 7) (raises_other 0 0 _ (λ w. refl)))

raises_block : (b : List ℕ) → Raises 7 0 (keeps_block b)
unfolding keeps_block
raises_block b =
    raises_pick 7 0 (good b) _ _ (raises_good b) (raises_more 1 0 7 0 _ (omega arith) (omega arith) (raises_one bad_blocks refl 1))

raises_blocks : (bs : List (List ℕ)) → Raises (7 * length bs) 0 (keeps_blocks bs)
unfolding keeps_blocks
raises_blocks [] = raises_nothing 0 0
raises_blocks (b ∷ bs) =
    raises_more (7 + 7 * length bs) 0 _ 0 _ (omega arith) (omega arith)
    (raises_then 7 0 (7 * length bs) 0 _ _ (raises_block b) (raises_blocks bs))

-- a run of at most 32,767 bytes has at most 90 blocks
blocks_le : (n : ℕ) (bs : List ℕ) → 368 * length (blocks n bs) ≤ length bs + 367
unfolding blocks
blocks_le zero bs = omega arith
blocks_le (suc n) [] = omega arith
blocks_le (suc n) (b ∷ bs) =
    let rest : 368 * length (blocks n (drop 368 (b ∷ bs))) ≤ length (drop 368 (b ∷ bs)) + 367 = blocks_le n (drop 368 (b ∷ bs)) in
    let left_over : length (drop 368 (b ∷ bs)) ≡ length (b ∷ bs) - 368 = length-drop 368 (b ∷ bs) in
    omega arith

raises_run : (r : Run) → length r.bytes ≤ 32767 → Raises 631 0 (keeps_run r)
unfolding keeps_run
raises_run r l =
    let k = blocks_le (length r.bytes) r.bytes in
    raises_when 631 0 _ _
    (raises_then 1 0 630 0 _ _ (raises_one in_transfers refl 1)
    (raises_more (7 * length (blocks_of r.bytes)) 0 630 0 _ (omega arith) (omega arith) (raises_blocks (blocks_of r.bytes))))

raises_inputs : Raises 631 0 inputs
unfolding inputs
raises_inputs = raises_runs 631 0 audio_in [] keeps_run (λ w. raises_run (run_dtds audio_in [] (bus_of w)) (run_bytes audio_in refl [] (bus_of w)))

raises_hears : Raises 631 0 stream_in
unfolding stream_in
raises_hears =
    raises_then 0 0 631 0 _ _ (raises_still 0 0 adds_budget (λ s. adds_any (StatsAre s) (still_budget s)))
    (raises_if 631 0 over_budget nothing _ (raises_nothing 631 0) (raises_then 0 0 631 0 _ _ (raises_still 0 0 clears_budget (λ s. clears_any (StatsAre s) (still_budget s))) raises_inputs))

raises_sends : (bs : List ℕ) → Raises 15 0 (sends_block bs)
unfolding sends_block apply
raises_sends bs =
    raises_then 0 0 15 0 _ _ (raises_other 0 0 _ (λ w. refl))
    (raises_then 7 0 8 0 _ _ (raises_count out_underruns refl (λ w. 7 - w.state.audio.sending.len) 7 (λ w. omega arith))
    (raises_then 0 0 8 0 _ _ (raises_other 0 0 _ (λ w. refl))
    (raises_then 0 0 8 0 _ _ (raises_other 0 0 _ (λ w. refl))
    (raises_runs 8 0 _ _ _ (λ w. raises_then 1 0 7 0 _ _ (raises_one out_transfers refl 1) (raises_one out_frames refl 7))))))

raises_outputs : Raises 15 0 stream_out
unfolding stream_out
raises_outputs =
    raises_when 15 0 _ _
    (raises_if 15 0 _ _ unprimes (raises_here 15 0 _ (λ v. raises_sends _)) (raises_still 15 0 unprimes (λ s. walk_unprimes (StatsAre s) (ran_still s).stores)))

raises_streams : Raises 646 0 streams
unfolding streams
raises_streams = raises_then 631 0 15 0 _ _ raises_hears raises_outputs

-- ---- from the phase on

raises_transfers : (c : Settings) (t : ℕ) → Raises most_transfers 32767 (transfers c t)
unfolding transfers
raises_transfers c t =
    raises_when most_transfers 32767 _ _
    (raises_if most_transfers 32767 _ serial_step _ (raises_still most_transfers 32767 serial_step still_serves) (raises_then 646 0 most_others 32767 _ _ raises_streams (raises_others c t)))

raises_talks : (c : Settings) (t : ℕ) (rs : Bool) → Raises most_talks 32767 (talks c t rs)
unfolding talks
raises_talks c t rs = raises_when most_talks 32767 _ _ (raises_then 1 0 most_transfers 32767 _ _ (raises_enumerates c) (raises_transfers c t))

raises_at : (c : Settings) (t : ℕ) (rs : Bool) (p : Phase) → Raises most_talks 32767 (at_phase c t rs p)
raises_at c t rs Idle = raises_still most_talks 32767 _ (λ s. walk_idles (StatsAre s) (ran_still s).stores (still_enters s))
raises_at c t rs Vbus = raises_still most_talks 32767 _ (λ s. walk_powers (StatsAre s) (ran_still s).stores (still_enters s) rs)
raises_at c t rs Reset = raises_still most_talks 32767 _ still_resets
raises_at c t rs Enumerate = raises_talks c t rs
raises_at c t rs Stream = raises_talks c t rs

raises_by : (c : Settings) (t : ℕ) (rs : Bool) → Raises most_talks 32767 (by_phase c t rs)
unfolding by_phase
raises_by c t rs = raises_here most_talks 32767 _ (λ v. raises_at c t rs v.state.phase)

-- ---- a microframe: the count of microframes, and then what rises

counted_first : (w : World) → (left counts w).state.stats ≡ counted microframes 1 w.state.stats
unfolding counts and_then one apply
counted_first w = refl

-- from the count on
abbrev From : ℕ → World → World → Type 0
From n w v = Raised n 32767 (counted microframes 1 w.state.stats) v.state.stats

from_counts : (w : World) → Raised 0 0 (counted microframes 1 w.state.stats) (left counts w).state.stats
from_counts w = subst (Raised 0 0 (counted microframes 1 w.state.stats)) (sym (counted_first w)) (raised_none 0 0 _)

raised_opens : (c : Settings) (g : Bool) (w : World) → Raised 1 0 (counted microframes 1 w.state.stats) (left (opens c g) w).state.stats
unfolding opens
raised_opens c g w =
    holds_seq (λ (v : World). Raised 1 0 (counted microframes 1 w.state.stats) v.state.stats) counts _ w
    (raised_then 0 0 1 0 _ _ _ (from_counts w)
    ((raises_then 0 0 1 0 _ _ (raises_when 0 0 _ ticks (raises_still 0 0 ticks still_ticks)) (raises_cable g)).up (left counts w)))

raised_frame : (c : Settings) (t : ℕ) (rs g s : Bool) (w : World) → Raised most_frame 32767 (counted microframes 1 w.state.stats) (left (frame_of c t rs g s) w).state.stats
unfolding frame_of
raised_frame c t rs true s w =
    holds_seq (From most_frame w) (opens c true) sleeps w
    (raised_then 1 0 most_talks 32767 _ _ _ (raised_opens c true w) ((raises_more 1 0 most_talks 32767 sleeps (omega arith) (omega arith) raises_sleeps).up _))
raised_frame c t rs false true w =
    holds_seq (From most_frame w) (opens c false) (suspends true then sleeps) w
    (raised_then 1 0 most_talks 32767 _ _ _ (raised_opens c false w)
    ((raises_more 1 0 most_talks 32767 _ (omega arith) (omega arith) (raises_then 0 0 1 0 _ _ (raises_still 0 0 (suspends true) (λ r. still_suspends r true)) raises_sleeps)).up _))
raised_frame c t rs false false w =
    holds_seq (From most_frame w) (opens c false) (suspends false then leaves c.device_stack rs then by_phase c t rs) w
    (raised_then 1 0 most_talks 32767 _ _ _ (raised_opens c false w)
    ((raises_then 0 0 most_talks 32767 _ _ (raises_still 0 0 (suspends false) (λ r. still_suspends r false))
    (raises_then 0 0 most_talks 32767 _ _ (raises_still 0 0 (leaves c.device_stack rs) (λ r. still_leaves r c.device_stack rs)) (raises_by c t rs))).up _))

-- each rises by at most 784 and vendor_in_bytes by at most 32,767; the microframes are one more
pub counters_raised : (t : ℕ) (w : World) → Raised most_frame 32767 (counted microframes 1 w.state.stats) (left (microframe t) w).state.stats
unfolding microframe here
counters_raised t w = raised_frame w.settings t (rs_set w) (gone_at t w) (asleep_at t w) w

-- ---- the bounds

-- a counter in its bound has room for a microframe, so that it does not wrap
pub room : (n x : ℕ) → leb x (times 32767 n) ≡ true → x + 32767 < 2 ^ 64
room n x e = let h = leb-true x (times 32767 n) e in omega arith

grown : (n x x' : ℕ) → n < MOST → leb x (times 32767 n) ≡ true → x' ≤ x + 32767 → leb x' (times 32767 (n + 1)) ≡ true
grown n x x' few e l = let h = leb-true x (times 32767 n) e in le-leb x' (times 32767 (n + 1)) (omega arith)

at_most : (x x' : ℕ) → x' ≤ x + most_frame → x' ≤ x + 32767
at_most x x' l = omega arith

-- each counter behind that of the microframes, after n of them
abbrev Below : ℕ → Stats → Type 0
Below n r = (k : ℕ) → k < COUNTERS - 1 → leb (counter_at (suc k) r) (times 32767 n) ≡ true

few_a_microframe : (k : ℕ) → most most_frame 32767 k ≤ 32767
few_a_microframe k = by_place (eqb k (place vendor_in_bytes))
  where
    by_place : (v : Bool) → pick v 32767 most_frame ≤ 32767
    by_place true = omega arith
    by_place false = omega arith

-- the count of microframes is none of them
counted_before : (k : ℕ) (r : Stats) → counter_at (suc k) (counted microframes 1 r) ≡ counter_at (suc k) r
counted_before k r = raised_other (suc k) 0 1 r (λ e. absurd (omega (arith, e)))

below_next : (n : ℕ) → n < MOST → (r r' : Stats) → Below n r → Raised most_frame 32767 (counted microframes 1 r) r' → Below (n + 1) r'
below_next n few r r' below rises k l =
    let up = (rises.rises (suc k)).high in
    let most-is = few_a_microframe (suc k) in
    grown n _ _ few (below k l) (omega (arith, up, most-is, counted_before k r))

pub counters_kept : (t : ℕ) (w : World) → counters_ok w.state.stats ≡ true → counter_of microframes w.state.stats < MOST → counters_ok (left (microframe t) w).state.stats ≡ true
unfolding counters_ok
counters_kept t w e few =
    let r = w.state.stats in
    let n = counter_of microframes r in
    let up = counters_raised t w in
    let more : counter_of microframes (left (microframe t) w).state.stats ≡ n + 1 = up.microframes ∙ raised_same 0 1 r ∙ one_more n few in
    subst (λ (k : ℕ). none_above (times 32767 k) (left (microframe t) w).state.stats (COUNTERS - 1) ≡ true) (sym more)
    (all_below_lem (times 32767 (n + 1)) (left (microframe t) w).state.stats (COUNTERS - 1) (below_next n few r _ (counter_below r e) up))
  where
    one_more : (n : ℕ) → n < MOST → wrapped (n + 1) ≡ n + 1
    one_more n few = omega arith

-- ---- none wraps: each is no less than before, and at most 32,767 more

abbrev pub Risen : Stats → Stats → Type 0
Risen r r' = (k : ℕ) → k < COUNTERS - 1 → (counter_at (suc k) r ≤ counter_at (suc k) r') × (counter_at (suc k) r' ≤ counter_at (suc k) r + 32767)

risen_one : (k n x x' : ℕ) → k ≤ 32767 → leb x (times 32767 n) ≡ true → Rise k x x' → (x ≤ x') × (x' ≤ x + 32767)
risen_one k n x x' l e rise =
    let h = room n x e in
    let a = rise.high in
    (rise.low (omega arith), omega arith)

pub counters_risen : (t : ℕ) (w : World) → counters_ok w.state.stats ≡ true → Risen w.state.stats (left (microframe t) w).state.stats
counters_risen t w e k l =
    let r = w.state.stats in
    risen_one _ _ _ _ (few_a_microframe (suc k)) (counter_below r e k l)
    (subst (λ (x : ℕ). Rise (most most_frame 32767 (suc k)) x (counter_at (suc k) (left (microframe t) w).state.stats)) (counted_before k r) ((counters_raised t w).rises (suc k)))
