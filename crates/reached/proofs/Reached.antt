-- The lists of calls come to what specs/Claims says: demand 3's history is about hosts that receive and send.
use Prim.Native.Nat.{ℕ, suc, ◌+◌, ◌-◌, ◌*◌, ◌/◌, ◌^◌, ◌≤◌, ◌<◌}
use mathlib.Core.Path.{◌≡◌, refl, ap, ap₂, sym, subst, ◌∙◌}
use mathlib.Core.Bool.{Bool, true, false, ◌&&◌}
use mathlib.Core.List.{List, [], ◌∷◌, ◌++◌, append_assoc}
use native.Mathlib.Omega.{arith}
use lib.Dec.{eqb, leb-zero}
use lib.ListN.{length, take, drop, replicate, length-replicate}
use borrow.Author.Tests.{leb-true}
use Rattle.bits.specs.Word.{any}
use Rattle.bus.specs.Memory.{Memory}
use Rattle.record.specs.declared.Phase.{Phase}
use Rattle.record.specs.declared.Phase.TheVariants.{Idle, Vbus, Enumerate, Stream}
use Rattle.record.specs.declared.Settings.{Settings}
use Rattle.record.specs.Record.{wrapped, counter_at, counter_of, enumerations, out_frames}
use Rattle.record.specs.Setups.{little}
use Rattle.model.specs.Phases.{within, any_span, first_setups}
use Rattle.model.specs.Control.{fixed_setups}
use Rattle.model.specs.Audio.{blocks_of}
use Rattle.bits.proofs.Tests.{and_first}
use Rattle.bounds.specs.Bounds.{MOST, areas_ok}
use Rattle.usbhost.specs.declared.Host.{Host}
use Rattle.usbhost.specs.Host.{new_host, settled, created}
use Rattle.usbhost.specs.Calls.{sending_length}
use Rattle.usbhost.specs.Frame.{world_of, lengths_ok}
use Rattle.usbhost.proofs.Frame.{lengths_long}
use Rattle.usbhost.proofs.Kept.{new_bounded, new_received, new_sending}
use Rattle.history.specs.Calls.{Call, microframe, midi_send, serial_send, frame_give, frame_take, device_read, device_write, step, after}
use Rattle.history.specs.Sums.{Sums, Tally, none, summed, sums, tallied, tally}
use Rattle.history.proofs.History.{history}
use Rattle.history.proofs.Table.{table_counters}
use Rattle.reached.specs.Lists.{Areas, lend, small_areas, zero_static, words, stalled_page, stopped_page, primed_page, block_at400, block_at600, room_at420, room_at620, plain, with_stack, with_span, with_sleep, with_input, no_data, device_answer, header_answer, whole_answer, frame, rests, asked, brings, takes, to_stream, in_and_out, in_and_out_at_once, bad_block, rewritten, one_block, gone_and_back, gone_and_again, then_suspended, then_resumed, then_asleep, to_enumerate, answers_header, answers_whole, answers_setups, then_streams, then_in_and_out, run_bit_cleared, gives, hearing, heard, answering, answered, passing, streamed, given_and_taken}
use Rattle.reached.specs.Claims.{Lendable, frames, NoneRefused, Ends, Hears, Passes, Rests, Waits, Settled, Reached}
use Rattle.reached.proofs.Standing.{Stand}
use Rattle.reached.proofs.Page.{framed_memory}
use Rattle.reached.proofs.Opening.{opened_memory}
use Rattle.reached.proofs.Summed.{played, ready_in, bytes_asked, bytes_read, hears_brings, reads_brings}
use Rattle.reached.proofs.Leading.{Fit, Long, On, Leads, after_append, tally_append, accepted_append, leads_then, enters, step_is}
use Rattle.reached.proofs.Queued.{below_zeros, queue_new}
use Rattle.reached.proofs.Waits.{Calm, standing, marked}
use Rattle.reached.proofs.Streamed.{streams_of, opens_to_lem, ends_silent, streams_silent, resumes_silent, streams_brings, from_vbus, to_enumerated}
use Rattle.reached.proofs.Resets.{leads_gone, leads_back, leads_left}
use Rattle.reached.proofs.Aside.{Aside, slept, aside_suspended}
use Rattle.reached.proofs.Sleeping.{leads_suspends, aside_asleep, aside_host, Awake, aside_step, aside_waits}
use Rattle.reached.proofs.Controls.{asks}
use Rattle.reached.proofs.Asking.{Does, does_then, Waiting, Running, ended_by, does_powered, does_resets, does_posts, answers_plain, answers_device, answers_header_lem, answers_whole_lem}
use Rattle.reached.proofs.Rings.{Few, few_waits}
use Rattle.reached.proofs.Passed.{waits, sends, sent, gone, taken, heard_sums_lem, answered_sums, passing_sums, passing_phase, passing_numbers}
use Rattle.reached.proofs.Lendings.{all_words, page_words, fit_words, pages, contents, no_data_lem, device, header, whole}

-- ---- the sums since the last reset are those of the tally

since_step : (h : Host) (y : Tally) (c : Call) → summed h y.since c ≡ (tallied h y c).since
unfolding summed tallied
since_step h y (microframe t l) = refl
since_step h y (midi_send cable bs) = refl
since_step h y (serial_send bs) = refl
since_step h y (frame_give x sending) = refl
since_step h y (frame_take received) = refl
since_step h y (device_read page off size) = refl
since_step h y (device_write page off size v) = refl

since_is : (h : Host) (y : Tally) (cs : List Call) → sums h y.since cs ≡ (tally h y cs).since
unfolding sums tally
since_is h y [] = refl
since_is h y (c ∷ cs) = ap (λ (g : Sums). sums (step h c) g cs) (since_step h y c) ∙ since_is (step h c) (tallied h y c) cs

abbrev fresh : Tally
fresh = record { since = none; ever = none }

-- both sums alike
abbrev alike : ℕ → ℕ → Tally
alike received sent = record { since = frames received sent; ever = frames received sent }

-- ---- a new host

abbrev start : Stand
start = standing Idle false 0 0 0 false

module _ (a : Areas) (f : List ℕ) (l : Lendable a f) where
  long : Long a
  long = record { lengths = l.lengths; bytes = l.reply_bytes }

  twelve : 12 ≤ length a.sending
  unfolding sending_length
  twelve = omega (arith, leb-true 84 (length a.sending) (and_first _ _ (lengths_long _ _ _ _ _ _ l.lengths).sending_right))

  on_new : (c : Settings) → On c a start (new_host c)
  unfolding new_host areas_ok
  on_new c =
      record {
        settings = refl;
        stands = refl;
        queue = queue_new;
        bounds = record {
          record_bounds = new_bounded c;
          areas = ap (λ (b : Bool). b && true) (leb-zero (length a.config));
          received = new_received c;
          sending = new_sending c (length a.sending) twelve;
          second = omega arith;
        };
      }

  fit : (ds ps : List (ℕ × ℕ)) → all_words ds ≡ true → page_words ps ≡ true → Fit (words f ds ps)
  fit ds ps d p = fit_words f ds ps l.static_length l.static_bytes d p

  -- from what a list comes to: the credit is what the history leaves, and the counters are what the table says
  ends_by_lem : (c : Settings) (cs : List Call) (p : Phase) (since ever : Sums) (credit : ℕ) → since.received ≡ since.sent + credit
      → tally (new_host c) fresh cs ≡ record { since = since; ever = ever } → (after (new_host c) cs).phase ≡ p → NoneRefused (new_host c) cs → Ends c cs since ever credit p
  ends_by_lem c cs p since ever credit sum is there numbers =
      let same : sums (new_host c) none cs ≡ since = since_is (new_host c) fresh cs ∙ ap (λ (y : Tally). y.since) is in
      let balanced = (history c cs).balance in
      record {
        sums = same;
        through = ap (λ (y : Tally). y.ever) is;
        credit_left = omega (arith, balanced, ap (λ (g : Sums). g.received) same, ap (λ (g : Sums). g.sent) same, sum);
        frames_in_lem = (table_counters c cs).received ∙ ap (λ (y : Tally). y.ever.received) is;
        frames_out = (table_counters c cs).sent ∙ ap (λ (y : Tally). y.ever.sent) is;
        phase = there;
        accepted = numbers;
      }

  ends : (c : Settings) (cs : List Call) (k : Stand) (since ever : Sums) (credit : ℕ) → since.received ≡ since.sent + credit → Leads c a cs start k fresh (record { since = since; ever = ever })
      → Ends c cs since ever credit k.phase
  ends c cs k since ever credit sum p =
      ends_by_lem c cs k.phase since ever credit sum (p.sums (new_host c) (on_new c)) (ap (λ (x : Stand). x.phase) (p.host (new_host c) (on_new c)).stands) (p.numbers (new_host c) (on_new c))

  -- ---- the settings of the lists

  module _ (c : Settings) (calm : Calm c 0) where
    abbrev streaming : ℕ → Stand
    streaming u = standing Stream false 0 u 483 c.device_stack

    leads_stream : Leads c a (to_stream a f) start (streaming 492) fresh fresh
    unfolding to_stream
    leads_stream =
        let m = words f [] stalled_page in
        let ok = fit [] stalled_page refl refl in
        leads_then (to_enumerated c a long 0 calm m ok pages.rs_stalled pages.uri_stalled pages.stall fresh)
        (ends_silent c a long 0 calm m ok pages.rs_stalled 491 483 (omega arith) false (contents f).waits fresh)

    -- the first good block
    leads_good : Leads c a (one_block a f) start (streaming 493) fresh (alike 7 0)
    unfolding one_block
    leads_good =
        leads_then leads_stream
        (streams_brings c a long 0 calm (words f (block_at400 0x0700_0000) (primed_page 0x80000)) (fit (block_at400 0x0700_0000) (primed_page 0x80000) refl refl) pages.rs_in 492 483 (omega arith) 1 false (contents f).good_block fresh)

    -- room for one
    leads_room : (u : ℕ) → u < MOST → (y : Tally) → Leads c a (takes a f ∷ []) (streaming u) (streaming (u + 1)) y (played false false 0 true y)
    leads_room u early y =
        streams_silent c a long 0 calm (words f room_at420 (primed_page 8)) (fit room_at420 (primed_page 8) refl refl) pages.rs_out u 483 early true (contents f).room y

    leads_in_and_out : Leads c a (in_and_out a f) start (streaming 494) fresh (alike 7 7)
    unfolding in_and_out one_block
    leads_in_and_out =
        subst (λ (cs : List Call). Leads c a cs start (streaming 494) fresh (alike 7 7)) (append_assoc (to_stream a f) (brings a f 0x0700_0000 ∷ []) (takes a f ∷ []))
        (leads_then leads_good (leads_room 493 (omega arith) (alike 7 0)))

    leads_at_once : Leads c a (in_and_out_at_once a f) start (streaming 493) fresh (alike 7 7)
    unfolding in_and_out_at_once
    leads_at_once =
        leads_then leads_stream
        (streams_brings c a long 0 calm (words f (block_at400 0x0700_0000 ++ room_at420) (primed_page 0x80008)) (fit (block_at400 0x0700_0000 ++ room_at420) (primed_page 0x80008) refl refl) pages.rs_both 492 483 (omega arith) 1 true (contents f).both fresh)

    leads_bad : Leads c a (bad_block a f) start (streaming 494) fresh fresh
    unfolding bad_block
    leads_bad =
        leads_then leads_stream
        (leads_then
        (streams_brings c a long 0 calm (words f (block_at400 0x0800_0000) (primed_page 0x80000)) (fit (block_at400 0x0800_0000) (primed_page 0x80000) refl refl) pages.rs_in 492 483 (omega arith) 0 false (contents f).bad_block_lem fresh)
        (leads_room 493 (omega arith) fresh))

    -- the descriptors are others in every microframe
    leads_others : Leads c a (rewritten a f) start (streaming 496) fresh (alike 14 14)
    unfolding rewritten one_block
    leads_others =
        subst (λ (cs : List Call). Leads c a cs start (streaming 496) fresh (alike 14 14)) (append_assoc (to_stream a f) (brings a f 0x0700_0000 ∷ []) (others ∷ takes a f ∷ other_room ∷ []))
        (leads_then leads_good
        (leads_then
        (streams_brings c a long 0 calm (words f block_at600 (primed_page 0x80000)) (fit block_at600 (primed_page 0x80000) refl refl) pages.rs_in 493 483 (omega arith) 1 false (contents f).other_block (alike 7 0))
        (leads_then (leads_room 494 (omega arith) (alike 14 0))
        (streams_silent c a long 0 calm (words f room_at620 (primed_page 8)) (fit room_at620 (primed_page 8) refl refl) pages.rs_out 495 483 (omega arith) true (contents f).other_room_lem (alike 14 7)))))
      where
        others : Call
        others = frame a f 0 block_at600 (primed_page 0x80000)

        other_room : Call
        other_room = frame a f 0 room_at620 (primed_page 8)

  calm_plain : Calm plain 0
  calm_plain = record { audio = refl; there = refl; awake = refl; few = refl }

  calm_stack : Calm with_stack 0
  calm_stack = record { audio = refl; there = refl; awake = refl; few = refl }

  calm_span : (t : ℕ) → any_span (take 1 with_span.gone) t ≡ false → within with_span.suspend t ≡ false → Calm with_span t
  calm_span t e f = record { audio = refl; there = e; awake = f; few = refl }

  calm_sleep : (t : ℕ) → within with_sleep.suspend t ≡ false → Calm with_sleep t
  calm_sleep t e = record { audio = refl; there = refl; awake = e; few = refl }

  -- ---- the resets

  leads_gone_back : Leads with_span a (gone_and_back a f) start (standing Vbus false 0 495 495 false) fresh (record { since = none; ever = frames 7 0 })
  unfolding gone_and_back
  leads_gone_back =
      let m = words f [] stalled_page in
      let ok = fit [] stalled_page refl refl in
      leads_then (leads_good with_span (calm_span 0 refl refl))
      (leads_then (leads_gone with_span a long refl refl 1 m ok Stream 493 483 (omega arith) refl (alike 7 0))
      (leads_back with_span a long refl refl 2 m ok Stream 494 483 (omega arith) refl refl pages.rs_stalled (alike 7 0)))

  leads_again : Leads with_span a (gone_and_again a f) start (standing Stream false 0 987 977 false) fresh (record { since = frames 7 0; ever = frames 14 0 })
  unfolding gone_and_again
  leads_again =
      let m = words f [] stalled_page in
      let ok = fit [] stalled_page refl refl in
      let good = words f (block_at400 0x0700_0000) (primed_page 0x80000) in
      let later = calm_span 3 refl refl in
      let y : Tally = record { since = none; ever = frames 7 0 } in
      leads_then
      (leads_then leads_gone_back
      (leads_then (from_vbus with_span a long 3 later m ok pages.rs_stalled pages.uri_stalled pages.stall y 495 (omega arith))
      (ends_silent with_span a long 3 later m ok pages.rs_stalled 985 977 (omega arith) false (contents f).waits y)))
      (streams_brings with_span a long 3 later good (fit (block_at400 0x0700_0000) (primed_page 0x80000) refl refl) pages.rs_in 986 977 (omega arith) 1 false (contents f).good_block y)

  leads_cleared : Leads with_stack a (run_bit_cleared a f) start (standing Vbus false 0 494 494 false) fresh (record { since = none; ever = frames 7 0 })
  unfolding run_bit_cleared
  leads_cleared =
      leads_then (leads_good with_stack calm_stack)
      (leads_left with_stack a long refl refl 0 (words f [] stopped_page) (fit [] stopped_page refl refl) Stream 493 483 (omega arith) refl refl refl pages.rs_stopped (alike 7 0))

  -- ---- the suspend span and the sleep span

  abbrev good : Memory
  good = words f (block_at400 0x0700_0000) (primed_page 0x80000)

  good_fit : Fit good
  good_fit = fit (block_at400 0x0700_0000) (primed_page 0x80000) refl refl

  abbrev room : Memory
  room = words f room_at420 (primed_page 8)

  leads_suspended : Leads with_sleep a (then_suspended a f) start (marked true Stream 494 483 false) fresh (alike 7 0)
  unfolding then_suspended
  leads_suspended =
      leads_then (leads_good with_sleep (calm_sleep 0 refl))
      (leads_suspends with_sleep a long refl 1 (words f [] stalled_page) (fit [] stalled_page refl refl) Stream 493 483 (omega arith) refl refl (alike 7 0))

  leads_resumed : Leads with_sleep a (then_resumed a f) start (standing Stream false 0 495 483 false) fresh (alike 7 7)
  unfolding then_resumed
  leads_resumed =
      leads_then leads_suspended
      (resumes_silent with_sleep a long 2 (calm_sleep 2 refl) room (fit room_at420 (primed_page 8) refl refl) pages.rs_out 494 483 (omega arith) true (contents f).resumed_room (alike 7 0))

  leads_asleep : Leads with_sleep a (then_asleep a f) start (standing Stream false 0 496 483 false) fresh (alike 14 7)
  unfolding then_asleep
  leads_asleep =
      leads_then leads_resumed
      (streams_brings with_sleep a long 3 (calm_sleep 3 refl) good good_fit pages.rs_in 495 483 (omega arith) 1 false (contents f).good_block (alike 7 7))

  awake_sleep : (t : ℕ) → within with_sleep.suspend t ≡ false → within with_sleep.sleep t ≡ false → Awake with_sleep t
  awake_sleep t e f = record { there = refl; awake = e; reads = f; stack = refl }

  abbrev sleepers : List Call → Host
  sleepers cs = after (new_host with_sleep) cs

  -- the last call of a list
  last_is : (cs : List Call) (x : Call) → sleepers (cs ++ (x ∷ [])) ≡ step (sleepers cs) x
  unfolding after
  last_is cs x = after_append (new_host with_sleep) cs (x ∷ [])

  aside_before : aside_host (sleepers (one_block a f)) ≡ record { block = 368; channels = 12; asleep = 0 }
  unfolding one_block to_stream new_host counter_at
  aside_before =
      let k = awake_sleep 0 refl refl in
      let s = aside_waits with_sleep 0 k (lend a (words f [] stalled_page)) 492 (new_host with_sleep) refl in
      ap aside_host (last_is (to_stream a f) (brings a f 0x0700_0000))
      ∙ (aside_step with_sleep 0 k (lend a good) (sleepers (to_stream a f)) s.settings).aside
      ∙ s.aside

  rests_before : Rests with_sleep (one_block a f) false 0
  rests_before =
      let o = (leads_good with_sleep (calm_sleep 0 refl)).host (new_host with_sleep) (on_new with_sleep) in
      record { suspended = ap (λ (x : Stand). x.suspended) o.stands; asleep = ap (λ (x : Aside). x.asleep) aside_before }

  aside_then : aside_host (sleepers (then_suspended a f)) ≡ record { block = 368; channels = 12; asleep = 1 }
  unfolding then_suspended
  aside_then =
      let h = sleepers (one_block a f) in
      let o = (leads_good with_sleep (calm_sleep 0 refl)).host (new_host with_sleep) (on_new with_sleep) in
      let m = words f [] stalled_page in
      let of_settings : h.settings ≡ with_sleep = o.settings in
      ap aside_host (last_is (one_block a f) (frame a f 1 [] stalled_page) ∙ step_is with_sleep a long refl 1 m (fit [] stalled_page refl refl) (standing Stream false 0 493 483 false) (omega arith) h o)
      ∙ aside_suspended 1 (world_of h (lend a m)) (ap (λ (x : Settings). any_span (take x.spans x.gone) 1) of_settings) (ap (λ (x : Settings). within x.suspend 1) of_settings)
      ∙ ap slept aside_before

  rests_suspended : Rests with_sleep (then_suspended a f) true 1
  rests_suspended =
      let o = leads_suspended.host (new_host with_sleep) (on_new with_sleep) in
      record { suspended = ap (λ (x : Stand). x.suspended) o.stands; asleep = ap (λ (x : Aside). x.asleep) aside_then }

  aside_resumed : aside_host (sleepers (then_resumed a f)) ≡ record { block = 368; channels = 12; asleep = 1 }
  unfolding then_resumed
  aside_resumed =
      ap aside_host (last_is (then_suspended a f) (frame a f 2 room_at420 (primed_page 8)))
      ∙ (aside_step with_sleep 2 (awake_sleep 2 refl refl) (lend a room) (sleepers (then_suspended a f)) (leads_suspended.host (new_host with_sleep) (on_new with_sleep)).settings).aside
      ∙ aside_then

  rests_resumed : Rests with_sleep (then_resumed a f) false 1
  rests_resumed =
      let o = leads_resumed.host (new_host with_sleep) (on_new with_sleep) in
      record { suspended = ap (λ (x : Stand). x.suspended) o.stands; asleep = ap (λ (x : Aside). x.asleep) aside_resumed }

  aside_last : aside_host (sleepers (then_asleep a f)) ≡ record { block = 368; channels = 12; asleep = 2 }
  unfolding then_asleep
  aside_last =
      let h = sleepers (then_resumed a f) in
      let k = standing Stream false 0 495 483 false in
      let o = leads_resumed.host (new_host with_sleep) (on_new with_sleep) in
      let w = world_of h (lend a good) in
      let e = enters with_sleep a long refl 3 good good_fit k (omega arith) h o in
      let st = streams_of with_sleep a long 3 (calm_sleep 3 refl) good good_fit pages.rs_in false 495 483 (omega arith) Stream w e refl in
      ap aside_host (last_is (then_resumed a f) (frame a f 3 (block_at400 0x0700_0000) (primed_page 0x80000)) ∙ step_is with_sleep a long refl 3 good good_fit k (omega arith) h o)
      ∙ aside_asleep 3 w st (ap (λ (x : Stand). x.phase) o.stands) (ap (λ (x : Settings). x.device_stack) o.settings) (ap (λ (x : Settings). x.midi_in) o.settings) (ap (λ (x : Settings). within x.sleep 3) o.settings)
      ∙ ap slept aside_resumed

  rests_asleep : Rests with_sleep (then_asleep a f) false 2
  rests_asleep =
      let o = leads_asleep.host (new_host with_sleep) (on_new with_sleep) in
      record { suspended = ap (λ (x : Stand). x.suspended) o.stands; asleep = ap (λ (x : Aside). x.asleep) aside_last }

  -- ---- every setup is answered

  calm_input : Calm with_input 0
  calm_input = record { audio = refl; there = refl; awake = refl; few = refl }

  abbrev rest_memory : Memory
  rest_memory = words f [] (primed_page 0)

  rest_fit : Fit rest_memory
  rest_fit = fit [] (primed_page 0) refl refl

  abbrev device_bytes : List ℕ
  device_bytes = 0x12 ∷ 1 ∷ 0 ∷ 2 ∷ replicate 14 0

  -- a setup that is posted, and then the memory that answers it
  module _ (i u : ℕ) (ws : List ℕ) (size : length ws ≡ 8 * suc i) (few : i < 200) (early : u < 600) where
    abbrev Before : Host → Type 0
    Before = Waiting a (standing Enumerate false (suc i) u 483 false) ws 0

    posts : Does (rests a f ∷ []) Before (Running a (standing Enumerate true i (u + 1) 483 false) (drop 8 ws) 0 (little ws 0) (little ws 4))
    posts = does_posts a long calm_input rest_memory rest_fit pages.rs_rests i u 483 0 ws size (omega (arith, few)) (omega (arith, early))

    later : u + 1 < MOST
    later = omega (arith, early)

    asked_plain : length (drop 8 ws) ≡ 8 * i → eqb (little ws 4 / 2 ^ 16) 0 ≡ true → asks 2 (little ws 0) ≡ false
        → Does (asked a f no_data) Before (Waiting a (standing Enumerate false i (u + 1 + 1) 483 false) (drop 8 ws) 0)
    asked_plain rest none other =
        does_then posts
        (answers_plain a long calm_input (words f no_data (primed_page 0x10001)) (fit no_data (primed_page 0x10001) refl refl) pages.rs_asked (no_data_lem f) i (u + 1) 483 0 later (little ws 0) (little ws 4) (drop 8 ws) rest none other)

    asked_device : length (drop 8 ws) ≡ 8 * i → eqb (little ws 4 / 2 ^ 16) 0 ≡ false → any (little ws 0) 0x80 ≡ true → take (little ws 4 / 2 ^ 16 - 0) device_bytes ≡ device_bytes → asks 2 (little ws 0) ≡ false
        → Does (asked a f device_answer) Before (Waiting a (standing Enumerate false i (u + 1 + 1) 483 false) (drop 8 ws) 0)
    asked_device rest some input whole other =
        does_then posts
        (answers_device a long calm_input (words f device_answer (primed_page 0x10001)) (fit device_answer (primed_page 0x10001) refl refl) pages.rs_asked (device f).flags i (u + 1) 483 0 later (little ws 0) (little ws 4) (drop 8 ws) rest device_bytes (device f) some input whole other)

  -- the configuration request of 32 bytes
  abbrev whole_setup : List ℕ
  whole_setup = 0x80 ∷ 6 ∷ 0 ∷ 2 ∷ 0 ∷ 0 ∷ 32 ∷ 0 ∷ []

  asked_header : Does (asked a f header_answer) (Waiting a (standing Enumerate false 1 489 483 false) (drop 24 first_setups) 0) (Waiting a (standing Enumerate false 1 491 483 false) whole_setup 0)
  asked_header =
      does_then (posts 0 489 (drop 24 first_setups) refl (omega arith) (omega arith))
      (answers_header_lem a long calm_input (words f header_answer (primed_page 0x10001)) (fit header_answer (primed_page 0x10001) refl refl) pages.rs_asked (header f).flags 0 490 483 0 (omega arith)
      (little (drop 24 first_setups) 0) (little (drop 24 first_setups) 4) [] refl _ (header f) refl refl refl refl refl refl 32 0 refl refl refl)

  asked_whole : Does (asked a f whole_answer) (Waiting a (standing Enumerate false 1 491 483 false) whole_setup 0) (Waiting a (standing Enumerate false 3 493 483 false) fixed_setups 0)
  asked_whole =
      does_then (posts 0 491 whole_setup refl (omega arith) (omega arith))
      (answers_whole_lem a long calm_input (words f whole_answer (primed_page 0x10001)) (fit whole_answer (primed_page 0x10001) refl refl) pages.rs_asked (whole f).flags 0 492 483 0 (omega arith)
      (little whole_setup 0) (little whole_setup 4) [] refl _ (whole f) refl refl refl refl refl (omega arith))

  does_first : Does (to_enumerate a f) (Waiting a start [] 0) (Waiting a (standing Enumerate false 4 483 483 false) first_setups 0)
  unfolding to_enumerate
  does_first =
      does_then {cs = replicate 482 (rests a f)} {ds = rests a f ∷ []} (does_powered a long calm_input rest_memory rest_fit pages.rs_rests 0)
      (does_resets a long calm_input rest_memory rest_fit pages.rs_rests pages.uri_rests 0)

  does_header : Does (answers_header a f) (Waiting a start [] 0) (Waiting a (standing Enumerate false 1 491 483 false) whole_setup 0)
  unfolding answers_header
  does_header =
      does_then
      (does_then
      (does_then
      (does_then does_first
      (asked_device 3 483 first_setups refl (omega arith) (omega arith) refl refl refl refl refl))
      (asked_plain 2 485 (drop 8 first_setups) refl (omega arith) (omega arith) refl refl refl))
      (asked_device 1 487 (drop 16 first_setups) refl (omega arith) (omega arith) refl refl refl refl refl))
      asked_header

  does_whole : Does (answers_whole a f) (Waiting a start [] 0) (Waiting a (standing Enumerate false 3 493 483 false) fixed_setups 0)
  unfolding answers_whole
  does_whole = does_then does_header asked_whole

  does_answers : Does (answers_setups a f) (Waiting a start [] 0) (Waiting a (standing Enumerate false 0 499 483 false) [] 0)
  unfolding answers_setups
  does_answers =
      does_then
      (does_then
      (does_then does_whole
      (asked_plain 2 493 fixed_setups refl (omega arith) (omega arith) refl refl refl))
      (asked_plain 1 495 (drop 8 fixed_setups) refl (omega arith) (omega arith) refl refl refl))
      (asked_plain 0 497 (drop 16 fixed_setups) refl (omega arith) (omega arith) refl refl refl)

  waiting_new : Waiting a start [] 0 (new_host with_input)
  unfolding new_host counter_at
  waiting_new = record { on = on_new with_input; waits = refl; ended = refl }

  waits_after : (cs : List Call) (i u : ℕ) (ws : List ℕ) → Does cs (Waiting a start [] 0) (Waiting a (standing Enumerate false i u 483 false) ws 0) → 8 * i ≡ length ws → Waits with_input cs ws
  waits_after cs i u ws p size =
      let w = p.host (new_host with_input) waiting_new in
      record {
        free = ap (λ (x : Stand). x.on) w.on.stands;
        number = ap (λ (x : Stand). 8 * x.waiting) w.on.stands ∙ size;
        setups = w.waits;
      }

  abbrev asker : Host
  asker = after (new_host with_input) (answers_setups a f)

  waiting_answered : Waiting a (standing Enumerate false 0 499 483 false) [] 0 asker
  waiting_answered = does_answers.host (new_host with_input) waiting_new

  leads_begins : Leads with_input a (rests a f ∷ []) (standing Enumerate false 0 499 483 false) (standing Stream false 0 500 483 false) fresh fresh
  leads_begins = ends_silent with_input a long 0 calm_input rest_memory rest_fit pages.rs_rests 499 483 (omega arith) false (contents f).rests fresh

  leads_heard : Leads with_input a (brings a f 0x0700_0000 ∷ []) (standing Stream false 0 500 483 false) (standing Stream false 0 501 483 false) fresh (alike 7 0)
  leads_heard = streams_brings with_input a long 0 calm_input good good_fit pages.rs_in 500 483 (omega arith) 1 false (contents f).good_block fresh

  leads_sent : Leads with_input a (takes a f ∷ []) (standing Stream false 0 501 483 false) (standing Stream false 0 502 483 false) (alike 7 0) (alike 7 7)
  leads_sent = streams_silent with_input a long 0 calm_input room (fit room_at420 (primed_page 8) refl refl) pages.rs_out 501 483 (omega arith) true (contents f).room (alike 7 0)

  -- calls behind them
  ends_behind : (cs : List Call) (k : Stand) (since ever : Sums) (credit : ℕ) → since.received ≡ since.sent + credit
      → Leads with_input a cs (standing Enumerate false 0 499 483 false) k fresh (record { since = since; ever = ever }) → Ends with_input (answers_setups a f ++ cs) since ever credit k.phase
  ends_behind cs k since ever credit sum p =
      let o = waiting_answered.on in
      ends_by_lem with_input (answers_setups a f ++ cs) k.phase since ever credit sum
      (tally_append (new_host with_input) fresh (answers_setups a f) cs ∙ ap (λ (y : Tally). tally asker y cs) (does_answers.sums (new_host with_input) waiting_new fresh) ∙ p.sums asker o)
      (ap (λ (g : Host). g.phase) (after_append (new_host with_input) (answers_setups a f) cs) ∙ ap (λ (x : Stand). x.phase) (p.host asker o).stands)
      (accepted_append (new_host with_input) (answers_setups a f) cs (does_answers.numbers (new_host with_input) waiting_new) (p.numbers asker o))

  settled_behind : (cs : List Call) (q : Phase) (u n : ℕ) → On with_input a (standing q false 0 u 483 false) (after asker cs) → counter_of enumerations (after asker cs).stats ≡ n → Settled with_input (answers_setups a f ++ cs) n
  settled_behind cs q u n o e =
      let is = after_append (new_host with_input) (answers_setups a f) cs in
      record {
        ended = ap (λ (g : Host). counter_of enumerations g.stats) is ∙ e;
        free = ap (λ (g : Host). g.control.on) is ∙ ap (λ (x : Stand). x.on) o.stands;
        none_waits = ap (λ (g : Host). g.lengths.setups) is ∙ ap (λ (x : Stand). x.waiting) o.stands;
      }

  answers_end : Ends with_input (answers_setups a f) none none 0 Enumerate × Settled with_input (answers_setups a f) 0
  answers_end =
      let p = waiting_answered in (
        ends_by_lem with_input (answers_setups a f) Enumerate none none 0 refl (does_answers.sums (new_host with_input) waiting_new fresh) (ap (λ (x : Stand). x.phase) p.on.stands) (does_answers.numbers (new_host with_input) waiting_new),
        record { ended = p.ended; free = ap (λ (x : Stand). x.on) p.on.stands; none_waits = ap (λ (x : Stand). x.waiting) p.on.stands },
      )

  -- enumeration ends once
  on_begun : On with_input a (standing Stream false 0 500 483 false) (after asker (rests a f ∷ []))
  on_begun = leads_begins.host asker waiting_answered.on

  ended_once : counter_of enumerations (after asker (rests a f ∷ [])).stats ≡ 1
  unfolding after
  ended_once =
      ended_by a long calm_input rest_memory rest_fit pages.rs_rests (standing Enumerate false 0 499 483 false) (omega arith) refl asker waiting_answered.on
      ∙ ap (λ (n : ℕ). wrapped (n + 1)) waiting_answered.ended

  begun_end : Ends with_input (then_streams a f) none none 0 Stream × Settled with_input (then_streams a f) 1
  unfolding then_streams
  begun_end =
      (ends_behind (rests a f ∷ []) _ none none 0 refl leads_begins, settled_behind (rests a f ∷ []) Stream 500 1 on_begun ended_once)

  leads_all : Leads with_input a ((rests a f ∷ []) ++ (brings a f 0x0700_0000 ∷ takes a f ∷ [])) (standing Enumerate false 0 499 483 false) (standing Stream false 0 502 483 false) fresh (alike 7 7)
  leads_all = leads_then leads_begins (leads_then leads_heard leads_sent)

  ended_still : counter_of enumerations (after asker ((rests a f ∷ []) ++ (brings a f 0x0700_0000 ∷ takes a f ∷ []))).stats ≡ 1
  unfolding after
  ended_still =
      let h = after asker (rests a f ∷ []) in
      ended_by a long calm_input room (fit room_at420 (primed_page 8) refl refl) pages.rs_out (standing Stream false 0 501 483 false) (omega arith) refl (step h (brings a f 0x0700_0000)) (leads_heard.host h on_begun)
      ∙ ended_by a long calm_input good good_fit pages.rs_in (standing Stream false 0 500 483 false) (omega arith) refl h on_begun
      ∙ ended_once

  in_and_out_end : Ends with_input (then_in_and_out a f) (frames 7 7) (frames 7 7) 0 Stream × Settled with_input (then_in_and_out a f) 1
  unfolding then_in_and_out then_streams
  in_and_out_end =
      subst (λ (cs : List Call). Ends with_input cs (frames 7 7) (frames 7 7) 0 Stream × Settled with_input cs 1)
      (sym (append_assoc (answers_setups a f) (rests a f ∷ []) (brings a f 0x0700_0000 ∷ takes a f ∷ []))) (
        ends_behind ((rests a f ∷ []) ++ (brings a f 0x0700_0000 ∷ takes a f ∷ [])) _ (frames 7 7) (frames 7 7) 0 refl leads_all,
        settled_behind ((rests a f ∷ []) ++ (brings a f 0x0700_0000 ∷ takes a f ∷ [])) Stream 502 1 (leads_all.host asker waiting_answered.on) ended_still,
      )

  -- ---- a frame given and one taken

  module _ (x : List ℕ) (twelve_words : length x ≡ 12) where
    abbrev h : Host
    h = streamed a f x

    awake_plain : Awake plain 0
    awake_plain = record { there = refl; awake = refl; reads = refl; stack = refl }

    on_streamed : On plain a (standing Stream false 0 492 483 false) h
    on_streamed = (leads_stream plain calm_plain).host (new_host plain) (on_new plain)

    tally_streamed : tally (new_host plain) fresh (to_stream a f) ≡ fresh
    tally_streamed = (leads_stream plain calm_plain).sums (new_host plain) (on_new plain)

    few_streamed : Few h 0 0
    unfolding to_stream new_host
    few_streamed =
        subst (λ (y : Tally). Few h y.ever.received 0) tally_streamed
        (few_waits 0 (lend a (words f [] stalled_page)) 0 492 (new_host plain) fresh (record { received = omega arith; sending = omega arith }))

    none_in : h.audio.received.len ≡ 0
    none_in = omega (arith, few_streamed.received)

    none_out : h.audio.sending.len ≡ 0
    none_out = omega (arith, few_streamed.sending)

    aside_streamed : aside_host h ≡ record { block = 368; channels = 12; asleep = 0 }
    unfolding to_stream new_host counter_at
    aside_streamed = (aside_waits plain 0 awake_plain (lend a (words f [] stalled_page)) 492 (new_host plain) refl).aside

    -- the sums after more calls, and the counter of sent frames
    more_sums : (cs : List Call) (y : Tally) → tally h fresh cs ≡ y → tally (new_host plain) fresh (to_stream a f ++ cs) ≡ y
    more_sums cs y e = tally_append (new_host plain) fresh (to_stream a f) cs ∙ ap (λ (z : Tally). tally h z cs) tally_streamed ∙ e

    counter_is : (cs : List Call) (y : Tally) → tally h fresh cs ≡ y → counter_of out_frames (after h cs).stats ≡ y.ever.sent
    counter_is cs y e =
        ap (λ (g : Host). counter_of out_frames g.stats) (sym (after_append (new_host plain) (to_stream a f) cs))
        ∙ (table_counters plain (to_stream a f ++ cs)).sent
        ∙ ap (λ (z : Tally). z.ever.sent) (more_sums cs y e)

    sent_before : counter_of out_frames (heard a f x h).stats ≡ 0
    unfolding after
    sent_before = counter_is (gives a f x ∷ microframe 0 (hearing a f x h) ∷ []) (alike 7 0) (heard_sums_lem a f long l.static_length l.static_bytes calm_plain awake_plain x twelve_words h on_streamed none_in none_out aside_streamed)

    sent_now : counter_of out_frames (answered a f x h).stats ≡ 7
    unfolding after
    sent_now = counter_is (gives a f x ∷ microframe 0 (hearing a f x h) ∷ microframe 0 (answering a f x h) ∷ []) (alike 7 7) (answered_sums a f long l.static_length l.static_bytes calm_plain awake_plain x twelve_words h on_streamed none_in none_out aside_streamed)

    passes : Passes a f x
    unfolding given_and_taken
    passes =
        let goes-out = sends a f long l.static_length l.static_bytes calm_plain awake_plain x twelve_words h on_streamed none_in none_out aside_streamed sent_before sent_now in
        record {
          ends =
              ends_by_lem plain (given_and_taken a f x) Stream (frames 7 7) (frames 7 7) 0 refl (more_sums (passing a f x h) (alike 7 7) (passing_sums a f long l.static_length l.static_bytes calm_plain awake_plain x twelve_words h on_streamed none_in none_out aside_streamed))
              (ap (λ (g : Host). g.phase) (after_append (new_host plain) (to_stream a f) (passing a f x h)) ∙ passing_phase a f long l.static_length l.static_bytes calm_plain awake_plain x twelve_words h on_streamed none_in none_out aside_streamed)
              (accepted_append (new_host plain) (to_stream a f) (passing a f x h) ((leads_stream plain calm_plain).numbers (new_host plain) (on_new plain)) (passing_numbers a f long l.static_length l.static_bytes calm_plain awake_plain x twelve_words h on_streamed none_in none_out aside_streamed));
          waits = waits a f long l.static_length l.static_bytes calm_plain awake_plain x twelve_words h on_streamed none_in none_out aside_streamed;
          sends = goes-out;
          sent = sent a f long l.static_length l.static_bytes calm_plain awake_plain x twelve_words h on_streamed none_in none_out aside_streamed;
          gone = gone a f long l.static_length l.static_bytes calm_plain awake_plain x twelve_words h on_streamed none_in none_out aside_streamed goes-out;
          taken = taken a f long l.static_length l.static_bytes calm_plain awake_plain x twelve_words h on_streamed none_in none_out aside_streamed;
        }

  -- ---- the bad block is read

  hears_bad : Hears plain (to_stream a f) (lend a (words f (block_at400 0x0800_0000) (primed_page 0x80000))) ((8 ∷ replicate 367 0) ∷ [])
  hears_bad =
      let m = words f (block_at400 0x0800_0000) (primed_page 0x80000) in
      let h = after (new_host plain) (to_stream a f) in
      let k = standing Stream false 0 492 483 false in
      let ok = fit (block_at400 0x0800_0000) (primed_page 0x80000) refl refl in
      let o = (leads_stream plain calm_plain).host (new_host plain) (on_new plain) in
      let e = enters plain a long refl 0 m ok k (omega arith) h o in
      let w = world_of h (lend a m) in
      let st = streams_of plain a long 0 calm_plain m ok pages.rs_in false 492 483 (omega arith) Stream w e refl in
      let is : opened_memory w ≡ m = opens_to_lem plain a long 0 calm_plain m ok pages.rs_in false 492 483 Stream w e in
      let ready : ready_in (framed_memory (opened_memory w)) ≡ true = ap (λ (x : Memory). ready_in (framed_memory x)) is ∙ (contents f).bad_block_lem.input in
      let small : bytes_asked (framed_memory (opened_memory w)) ≤ 368 = subst (λ (x : Memory). bytes_asked (framed_memory x) ≤ 368) (sym is) (contents f).bad_block_lem.small in
      record {
        heard = hears_brings 0 w st e.budget ready small;
        read = ap blocks_of (reads_brings 0 w st e.budget ready small ∙ ap (λ (x : Memory). bytes_read (framed_memory x)) is) ∙ (contents f).bad_bytes;
      }

  pub reached : Reached a f
  unfolding created settled
  reached =
      record {
        made = (refl, (refl, (refl, (refl, refl))));
        stream = ends plain (to_stream a f) _ none none 0 refl (leads_stream plain calm_plain);
        in_and_out_lem = ends plain (in_and_out a f) _ (frames 7 7) (frames 7 7) 0 refl (leads_in_and_out plain calm_plain);
        at_once = ends plain (in_and_out_at_once a f) _ (frames 7 7) (frames 7 7) 0 refl (leads_at_once plain calm_plain);
        bad = ends plain (bad_block a f) _ none none 0 refl (leads_bad plain calm_plain);
        bad_read = hears_bad;
        other_descriptors = ends plain (rewritten a f) _ (frames 14 14) (frames 14 14) 0 refl (leads_others plain calm_plain);
        before_gone = ends with_span (one_block a f) _ (frames 7 0) (frames 7 0) 7 refl (leads_good with_span (calm_span 0 refl refl));
        gone = ends with_span (gone_and_back a f) _ none (frames 7 0) 0 refl leads_gone_back;
        again = ends with_span (gone_and_again a f) _ (frames 7 0) (frames 14 0) 7 refl leads_again;
        passes = passes;
        asks_first = waits_after (to_enumerate a f) 4 483 first_setups does_first refl;
        asks_whole_lem = waits_after (answers_header a f) 1 491 whole_setup does_header refl;
        asks_last = waits_after (answers_whole a f) 3 493 fixed_setups does_whole refl;
        answered = answers_end;
        answered_streams = begun_end;
        answered_in_and_out = in_and_out_end;
        before_suspend = (ends with_sleep (one_block a f) _ (frames 7 0) (frames 7 0) 7 refl (leads_good with_sleep (calm_sleep 0 refl)), rests_before);
        suspended = (ends with_sleep (then_suspended a f) _ (frames 7 0) (frames 7 0) 7 refl leads_suspended, rests_suspended);
        resumed = (ends with_sleep (then_resumed a f) _ (frames 7 7) (frames 7 7) 0 refl leads_resumed, rests_resumed);
        asleep = (ends with_sleep (then_asleep a f) _ (frames 14 7) (frames 14 7) 7 refl leads_asleep, rests_asleep);
        before_cleared = ends with_stack (one_block a f) _ (frames 7 0) (frames 7 0) 7 refl (leads_good with_stack calm_stack);
        cleared = ends with_stack (run_bit_cleared a f) _ none (frames 7 0) 0 refl leads_cleared;
      }

-- ---- such areas are there

small_lendable : Lendable small_areas zero_static
unfolding lengths_ok sending_length
small_lendable =
    record {
      lengths =
          ap₂ (λ (i j : ℕ). lengths_ok i j (length small_areas.receive) (length small_areas.cables) (length small_areas.received) (length small_areas.sending)) (length-replicate {A = ℕ} 65535 0) (length-replicate {A = ℕ} 65535 0)
          ∙ ap₂ (λ (i j : ℕ). lengths_ok 65535 65535 i j (length small_areas.received) (length small_areas.sending)) (length-replicate {A = ℕ} 196608 0) (length-replicate {A = ℕ} 196608 0)
          ∙ ap₂ (λ (i j : ℕ). lengths_ok 65535 65535 196608 196608 i j) (length-replicate {A = ℕ} 576000 0) (length-replicate {A = ℕ} 84 0);
      reply_bytes = below_zeros 65535;
      static_length = length-replicate {A = ℕ} 65536 0;
      static_bytes = below_zeros 65536;
    }

pub reached_small : Reached small_areas zero_static
reached_small = reached small_areas zero_static small_lendable
