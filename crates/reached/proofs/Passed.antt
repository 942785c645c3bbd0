-- From any host that streams with both rings empty: a frame is given, a block comes in, one goes out with the frame, and a frame is taken.
use Prim.Native.Nat.{ℕ, ◌+◌, ◌-◌, ◌*◌, ◌/◌, ◌%◌, ◌^◌, ◌≤◌, ◌<◌, min}
use mathlib.Core.Path.{◌≡◌, refl, ap, ap₂, sym, subst, ◌∙◌}
use mathlib.Core.Bool.{Bool, true, false, ◌&&◌}
use mathlib.Core.List.{List, [], ◌∷◌, ◌++◌, append_assoc, flat_map}
use native.Mathlib.Nat.{mod-lt}
use native.Mathlib.Omega.{arith}
use lib.Dec.{eqb, leb, ltb}
use lib.ListN.{length, get_or, take, drop, replicate}
use lib.Seq.{sets, length-sets, length-take-le, sets-eq, take_at, drop_at}
use borrow.Author.Tests.{eq-eqb, leb-true, lt-ltb}
use Rattle.bits.specs.Pick.{pick}
use Rattle.bits.proofs.Tests.{and_first, and_second}
use Rattle.bus.specs.Memory.{Memory}
use Rattle.record.specs.declared.Phase.TheVariants.{Stream}
use Rattle.record.specs.declared.Ring.{Ring}
use Rattle.record.specs.declared.Settings.{Settings}
use Rattle.record.specs.World.{World}
use Rattle.record.specs.Change.{left, taken_from}
use Rattle.record.specs.Record.{counter_of, out_frames}
use Rattle.model.specs.Audio.{bytes_of, frame_at, channel_bytes, frame_bytes, block_of}
use Rattle.model.specs.Microframe as M
use Rattle.model.specs.Reach.{reaches_input, reaches_output, at_input, at_output, output_ready}
use Rattle.model.specs.Earned.{Out, out_of, sent_out}
use Rattle.model.specs.Ring.{frame_in, oldest_first, contents, ring_frames, frames_read, last_of, in_bytes}
use Rattle.model.specs.Claims.{sends_at}
use Rattle.model.proofs.OldestFirst.{ring_length}
use Rattle.model.proofs.OneBlock.{one_block_lem, no_block, out_output}
use Rattle.model.proofs.SendingRing.{words_output}
use Rattle.model.proofs.InputStep.{input_step, no_input}
use Rattle.bounds.specs.Bounds.{areas_ok, sending_ok}
use Rattle.kept.proofs.Shape.{Shape, shape_kept}
use Rattle.usbhost.specs.declared.Host.{Host}
use Rattle.usbhost.specs.Host.{state_of}
use Rattle.usbhost.specs.Calls.{few_spans, sending_length, give_number, frame_put, frame_given, given, given_ring, take_number, frame_taken, oldest, holds_frame, taken_frame}
use Rattle.usbhost.specs.Frame.{Long as Lengths·Long, world_of, lengths_ok, framed}
use Rattle.usbhost.proofs.Frame.{lengths_long}
use Rattle.usbhost.proofs.Kept.{Kept, give_kept, ring_kept}
use Rattle.history.specs.Calls.{microframe, step, after}
use Rattle.history.specs.Sums.{Tally, tallied, tally}
use Rattle.history.specs.Accepts.{number_of, AtEach}
use Rattle.history.proofs.History.{by_test}
use Rattle.history.proofs.OneCall.{accepted_ring}
use Rattle.reached.specs.Lists.{Areas, lend, with_rings, words, primed_page, sound_at400, room_at420, plain, gives, hearing, answering, passing}
use Rattle.reached.specs.Claims.{frames, NoneRefused}
use Rattle.reached.proofs.Standing.{Stand}
use Rattle.reached.proofs.Opening.{opened_memory}
use Rattle.reached.proofs.Page.{framed_memory}
use Rattle.reached.proofs.Aside.{Aside, aside_of, aside_output}
use Rattle.reached.proofs.Summed.{ready_in, bytes_asked, bytes_read, hears_brings, reads_brings}
use Rattle.reached.proofs.Leading.{Fit, Long, On, Leads, Enters, enters, accepted, framed_is}
use Rattle.reached.proofs.Queued.{Below}
use Rattle.reached.proofs.Waits.{Calm, standing}
use Rattle.reached.proofs.Streamed.{streams_of, opens_to_lem, silent_law, brings_law, streams_silent, streams_brings}
use Rattle.reached.proofs.Sleeping.{Awake, aside_host, aside_step}
use Rattle.reached.proofs.Lendings.{fit_words, pages, contents as memories}

-- ---- twelve words

word_list : (x : List ℕ) → length x ≡ 12
    → x ≡ get_or x 0 0 ∷ get_or x 1 0 ∷ get_or x 2 0 ∷ get_or x 3 0 ∷ get_or x 4 0 ∷ get_or x 5 0 ∷ get_or x 6 0 ∷ get_or x 7 0 ∷ get_or x 8 0 ∷ get_or x 9 0 ∷ get_or x 10 0 ∷ get_or x 11 0 ∷ []
word_list [] e = absurd (omega arith)
word_list (a ∷ []) e = absurd (omega arith)
word_list (a ∷ b ∷ []) e = absurd (omega arith)
word_list (a ∷ b ∷ c ∷ []) e = absurd (omega arith)
word_list (a ∷ b ∷ c ∷ d ∷ []) e = absurd (omega arith)
word_list (a ∷ b ∷ c ∷ d ∷ g ∷ []) e = absurd (omega arith)
word_list (a ∷ b ∷ c ∷ d ∷ g ∷ h ∷ []) e = absurd (omega arith)
word_list (a ∷ b ∷ c ∷ d ∷ g ∷ h ∷ i ∷ []) e = absurd (omega arith)
word_list (a ∷ b ∷ c ∷ d ∷ g ∷ h ∷ i ∷ j ∷ []) e = absurd (omega arith)
word_list (a ∷ b ∷ c ∷ d ∷ g ∷ h ∷ i ∷ j ∷ k ∷ []) e = absurd (omega arith)
word_list (a ∷ b ∷ c ∷ d ∷ g ∷ h ∷ i ∷ j ∷ k ∷ l ∷ []) e = absurd (omega arith)
word_list (a ∷ b ∷ c ∷ d ∷ g ∷ h ∷ i ∷ j ∷ k ∷ l ∷ m ∷ []) e = absurd (omega arith)
word_list (a ∷ b ∷ c ∷ d ∷ g ∷ h ∷ i ∷ j ∷ k ∷ l ∷ m ∷ n ∷ []) e = refl
word_list (a ∷ b ∷ c ∷ d ∷ g ∷ h ∷ i ∷ j ∷ k ∷ l ∷ m ∷ n ∷ o ∷ r) e = absurd (omega arith)

-- a block behind its header: the frames' bytes, cut at 368
frames_part : ℕ → List ℕ → List ℕ → List ℕ → List ℕ → List ℕ → List ℕ → List ℕ → List ℕ
frames_part c w₀ w₁ w₂ w₃ w₄ w₅ w₆ =
    channel_bytes c w₀ ++ (channel_bytes c w₁ ++ (channel_bytes c w₂ ++ (channel_bytes c w₃ ++ (channel_bytes c w₄ ++ (channel_bytes c w₅ ++ (channel_bytes c w₆ ++ []))))))

-- one frame and silence
one_frame : (x : List ℕ) → length x ≡ 12
    → take 336 (frames_part 12 x (replicate 12 0) (replicate 12 0) (replicate 12 0) (replicate 12 0) (replicate 12 0) (replicate 12 0) ++ replicate 2048 0) ≡ flat_map bytes_of x ++ replicate 288 0
unfolding frames_part channel_bytes flat_map
one_frame x e =
    subst
    (λ (l : List ℕ). take 336 (frames_part 12 l (replicate 12 0) (replicate 12 0) (replicate 12 0) (replicate 12 0) (replicate 12 0) (replicate 12 0) ++ replicate 2048 0) ≡ flat_map bytes_of l ++ replicate 288 0)
    (sym (word_list x e)) refl

-- behind the one frame that waits there is silence
silent : (v : World) (i : ℕ) → v.state.audio.sending.len ≡ 1 → ltb i 1 ≡ false → frame_at v i ≡ replicate 12 0
unfolding frame_at
silent v i one e =
    ap (λ (n : ℕ). pick (ltb i n) (take 12 (drop ((v.state.audio.sending.start + i) % (length v.lent.sending / 12) * 12) v.lent.sending)) (replicate 12 0)) one
    ∙ ap (λ (t : Bool). pick t (take 12 (drop ((v.state.audio.sending.start + i) % (length v.lent.sending / 12) * 12) v.lent.sending)) (replicate 12 0)) e

-- the block of a World whose sending ring has one frame
block_tail : (v : World) (x : List ℕ) → length x ≡ 12 → v.state.audio.block ≡ 368 → v.state.audio.channels ≡ 12 → v.state.audio.sending.len ≡ 1 → frame_at v 0 ≡ x
    → drop 32 (block_of v) ≡ flat_map bytes_of x ++ replicate 288 0
unfolding block_of frame_bytes frames_part
block_tail v x twelve b c one first =
    ap (λ (n : ℕ). drop 32 (take n (7 ∷ 0xFF ∷ v.state.audio.counter / 2 ^ 8 ∷ v.state.audio.counter % 2 ^ 8 ∷ replicate 28 0 ++ frames_part v.state.audio.channels (frame_at v 0) (frame_at v 1) (frame_at v 2) (frame_at v 3) (frame_at v 4) (frame_at v 5) (frame_at v 6) ++ replicate 2048 0))) b
    ∙ ap (λ (n : ℕ). take 336 (frames_part n (frame_at v 0) (frame_at v 1) (frame_at v 2) (frame_at v 3) (frame_at v 4) (frame_at v 5) (frame_at v 6) ++ replicate 2048 0)) c
    ∙ ap (λ (l : List ℕ). take 336 (frames_part 12 l (frame_at v 1) (frame_at v 2) (frame_at v 3) (frame_at v 4) (frame_at v 5) (frame_at v 6) ++ replicate 2048 0)) first
    ∙ ap₂ (λ (l r : List ℕ). take 336 (frames_part 12 x l r (frame_at v 3) (frame_at v 4) (frame_at v 5) (frame_at v 6) ++ replicate 2048 0)) (silent v 1 one refl) (silent v 2 one refl)
    ∙ ap₂ (λ (l r : List ℕ). take 336 (frames_part 12 x (replicate 12 0) (replicate 12 0) l r (frame_at v 5) (frame_at v 6) ++ replicate 2048 0)) (silent v 3 one refl) (silent v 4 one refl)
    ∙ ap₂ (λ (l r : List ℕ). take 336 (frames_part 12 x (replicate 12 0) (replicate 12 0) (replicate 12 0) (replicate 12 0) l r ++ replicate 2048 0)) (silent v 5 one refl) (silent v 6 one refl)
    ∙ one_frame x twelve

-- a frame stored in a ring is read there
stored_frame : (ring x : List ℕ) (p : ℕ) → length x ≡ 12 → p * 12 + 12 ≤ length ring → take 12 (drop (p * 12) (sets ring (p * 12) x)) ≡ x
stored_frame ring x p twelve room =
    let long : length (take (p * 12) ring) ≡ p * 12 = length-take-le (p * 12) ring (omega arith) in
    ap (λ (l : List ℕ). take 12 (drop (p * 12) l)) (sets-eq x ring (p * 12) (omega (arith, twelve, room)) ∙ append_assoc (take (p * 12) ring) x _)
    ∙ ap (take 12) (drop_at (take (p * 12) ring) _ (p * 12) long)
    ∙ take_at x _ 12 twelve

neither : (a b c : Bool) → (a && b) ≡ false → (a && (b && c)) ≡ false
neither true b c e = ap (λ (t : Bool). t && c) e
neither false b c e = refl

first_of : List (List ℕ) → List ℕ
first_of [] = []
first_of (l ∷ ls) = l

-- ---- the calls

abbrev pub streaming : ℕ → Stand
streaming u = standing Stream false 0 u 483 false

abbrev pub alike : ℕ → ℕ → Tally
alike received sent = record { since = frames received sent; ever = frames received sent }

module _ (a : Areas) (f : List ℕ) (long : Long a) (static_length : length f ≡ 65536) (static_bytes : Below f) (calm : Calm plain 0) (awake : Awake plain 0)
    (x : List ℕ) (twelve : length x ≡ 12) (h : Host) (o : On plain a (streaming 492) h)
    (none_in : h.audio.received.len ≡ 0) (none_out : h.audio.sending.len ≡ 0) (is : aside_host h ≡ record { block = 368; channels = 12; asleep = 0 }) where
  -- ---- the frame is given

  abbrev ring : List ℕ
  ring = a.sending

  lengths : Lengths·Long (length a.reply) (length a.config) (length a.receive) (length a.cables) (length a.received) (length ring)
  lengths = lengths_long _ _ _ _ _ _ long.lengths

  most : 84 ≤ length ring
  unfolding sending_length
  most = leb-true 84 (length ring) (and_first _ _ lengths.sending_right)

  few_spans_lem : few_spans h ≡ true
  few_spans_lem = ap (λ (c : Settings). leb c.spans 16) o.settings

  pub give_number_lem : give_number h x ring ≡ 0
  unfolding give_number
  give_number_lem =
      simp (lengths.sending_right, twelve, few_spans_lem, o.bounds.record_bounds, o.bounds.sending, lt-ltb h.audio.sending.len (length ring / 12) (omega (arith, none_out, most)))

  given_is : (given h x ring).next ≡ frame_given h
  unfolding given
  given_is = ap (λ (n : ℕ). pick (eqb n 0) (frame_given h) h) give_number_lem

  abbrev h₁ : Host
  h₁ = step h (gives a f x)

  step_give : h₁ ≡ frame_given h
  unfolding step
  step_give = given_is

  pub waits : h₁.audio.sending.len ≡ 1
  unfolding frame_given
  waits = ap (λ (g : Host). g.audio.sending.len) step_give ∙ ap (λ (n : ℕ). n + 1) none_out

  -- the ring with it
  abbrev ring₁ : List ℕ
  ring₁ = given_ring h x ring

  ring_is : ring₁ ≡ frame_put h x ring
  unfolding given_ring
  ring_is = ap (λ (n : ℕ). pick (eqb n 0) (frame_put h x ring) ring) give_number_lem

  abbrev areas₁ : Areas
  areas₁ = with_rings a a.received ring₁

  long₁ : Long areas₁
  long₁ =
      record {
        lengths = ap (λ (n : ℕ). lengths_ok (length a.reply) (length a.config) (length a.receive) (length a.cables) (length a.received) n) (ring_kept h x ring) ∙ long.lengths;
        bytes = long.bytes;
      }

  on_given : On plain areas₁ (streaming 492) (frame_given h)
  unfolding frame_given areas_ok
  on_given =
      let k : Kept (length ring) h (frame_given h) = subst (Kept (length ring) h) given_is (give_kept h x ring) in
      record {
        settings = o.settings;
        stands = o.stands;
        queue = o.queue;
        bounds = record {
          record_bounds = k.bounds o.bounds.record_bounds;
          areas = o.bounds.areas;
          received = o.bounds.received;
          sending = ap (λ (n : ℕ). sending_ok (state_of (frame_given h)) n) (ring_kept h x ring) ∙ k.sending o.bounds.sending;
          second = o.bounds.second;
        };
      }

  on₁ : On plain areas₁ (streaming 492) h₁
  on₁ = subst (On plain areas₁ (streaming 492)) (sym step_give) on_given

  -- ---- a block comes in

  abbrev m₂ : Memory
  m₂ = words f sound_at400 (primed_page 0x80000)

  fit₂ : Fit m₂
  fit₂ = fit_words f sound_at400 (primed_page 0x80000) static_length static_bytes refl refl

  abbrev w₂ : World
  w₂ = world_of h₁ (lend areas₁ m₂)

  leads₂ : Leads plain areas₁ (microframe 0 (lend areas₁ m₂) ∷ []) (streaming 492) (streaming 493) (alike 0 0) (alike 7 0)
  leads₂ = streams_brings plain areas₁ long₁ 0 calm m₂ fit₂ pages.rs_in 492 483 (omega arith) 1 false (memories f).sound (alike 0 0)

  pub number₂ : number_of h₁ (microframe 0 (lend areas₁ m₂)) ≡ 0
  unfolding number_of
  number₂ = accepted plain areas₁ long₁ refl 0 m₂ fit₂ (streaming 492) (omega arith) h₁ on₁

  framed₂ : framed 0 h₁ (lend areas₁ m₂) ≡ left (M.microframe 0) w₂
  framed₂ = framed_is plain areas₁ long₁ refl 0 m₂ fit₂ (streaming 492) (omega arith) h₁ on₁

  enters₂ : Enters plain (streaming 492) m₂ w₂
  enters₂ = enters plain areas₁ long₁ refl 0 m₂ fit₂ (streaming 492) (omega arith) h₁ on₁

  abbrev h₂ : Host
  h₂ = step h₁ (microframe 0 (lend areas₁ m₂))

  on_heard : On plain areas₁ (streaming 493) h₂
  unfolding after
  on_heard = leads₂.host h₁ on₁

  empty : ring_frames w₂ ≡ []
  unfolding oldest_first frame_given
  empty =
      ap (λ (g : Host). contents a.received g.audio.received.start g.audio.received.len) step_give
      ∙ ap (λ (n : ℕ). contents a.received h.audio.received.start n) none_in

  -- its frames are the received ring's
  frames₂ : ring_frames (framed 0 h₁ (lend areas₁ m₂)) ≡ (0x1234_5678 ∷ 0x9ABC_DEF0 ∷ replicate 10 0) ∷ replicate 6 (replicate 12 0)
  unfolding number_of
  frames₂ =
      let st = streams_of plain areas₁ long₁ 0 calm m₂ fit₂ pages.rs_in false 492 483 (omega arith) Stream w₂ enters₂ refl in
      let opens : opened_memory w₂ ≡ m₂ = opens_to_lem plain areas₁ long₁ 0 calm m₂ fit₂ pages.rs_in false 492 483 Stream w₂ enters₂ in
      let ready : ready_in (framed_memory (opened_memory w₂)) ≡ true = ap (λ (m : Memory). ready_in (framed_memory m)) opens ∙ (memories f).sound.input in
      let small : bytes_asked (framed_memory (opened_memory w₂)) ≤ 368 = subst (λ (m : Memory). bytes_asked (framed_memory m) ≤ 368) (sym opens) (memories f).sound.small in
      let reached = hears_brings 0 w₂ st enters₂.budget ready small in
      let s = input_step 0 w₂ (accepted_ring h₁ (lend areas₁ m₂) number₂) (and_first (reaches_input 0 w₂) _ reached) (and_second (reaches_input 0 w₂) _ reached) in
      let bytes : in_bytes (at_input w₂) ≡ bytes_read (framed_memory m₂) = sym s.bytes ∙ reads_brings 0 w₂ st enters₂.budget ready small ∙ ap (λ (m : Memory). bytes_read (framed_memory m)) opens in
      ap ring_frames framed₂
      ∙ s.after
      ∙ ap₂ (λ (fs : List (List ℕ)) (bs : List ℕ). last_of 48000 (fs ++ frames_read bs)) empty bytes
      ∙ ap (λ (fs : List (List ℕ)). last_of 48000 fs) (memories f).sound_frames

  -- the sending ring waits
  sending₂ : out_of (framed 0 h₁ (lend areas₁ m₂)) ≡ out_of w₂
  sending₂ =
      let st = streams_of plain areas₁ long₁ 0 calm m₂ fit₂ pages.rs_in false 492 483 (omega arith) Stream w₂ enters₂ refl in
      let opens : opened_memory w₂ ≡ m₂ = opens_to_lem plain areas₁ long₁ 0 calm m₂ fit₂ pages.rs_in false 492 483 Stream w₂ enters₂ in
      let tested = brings_law plain areas₁ long₁ 0 calm m₂ fit₂ pages.rs_in 1 false (memories f).sound w₂ st opens enters₂.budget in
      ap out_of framed₂ ∙ (no_block 0 w₂ (neither (reaches_output 0 w₂) (output_ready (at_output w₂)) _ tested.answers)).out

  -- ---- room for a block

  abbrev ring₂ : List ℕ
  ring₂ = (framed 0 h₁ (lend areas₁ m₂)).lent.received

  abbrev areas₂ : Areas
  areas₂ = with_rings a ring₂ ring₁

  same_length : length ring₂ ≡ length a.received
  same_length = ap (λ (v : World). length v.lent.received) framed₂ ∙ ap (λ (z : Shape). z.received) (shape_kept 0 w₂)

  long₂ : Long areas₂
  long₂ =
      record {
        lengths = ap (λ (n : ℕ). lengths_ok (length a.reply) (length a.config) (length a.receive) (length a.cables) n (length ring₁)) same_length ∙ long₁.lengths;
        bytes = long.bytes;
      }

  on₂ : On plain areas₂ (streaming 493) h₂
  on₂ =
      let p = on_heard in
      let b = p.bounds in
      record {
        settings = p.settings;
        stands = p.stands;
        queue = p.queue;
        bounds = record { record_bounds = b.record_bounds; areas = b.areas; received = b.received; sending = b.sending; second = b.second };
      }

  abbrev m₃ : Memory
  m₃ = words f room_at420 (primed_page 8)

  fit₃ : Fit m₃
  fit₃ = fit_words f room_at420 (primed_page 8) static_length static_bytes refl refl

  abbrev w₃ : World
  w₃ = world_of h₂ (lend areas₂ m₃)

  leads₃ : Leads plain areas₂ (microframe 0 (lend areas₂ m₃) ∷ []) (streaming 493) (streaming 494) (alike 7 0) (alike 7 7)
  leads₃ = streams_silent plain areas₂ long₂ 0 calm m₃ fit₃ pages.rs_out 493 483 (omega arith) true (memories f).room (alike 7 0)

  pub number₃ : number_of h₂ (microframe 0 (lend areas₂ m₃)) ≡ 0
  unfolding number_of
  number₃ = accepted plain areas₂ long₂ refl 0 m₃ fit₃ (streaming 493) (omega arith) h₂ on₂

  framed₃ : framed 0 h₂ (lend areas₂ m₃) ≡ left (M.microframe 0) w₃
  framed₃ = framed_is plain areas₂ long₂ refl 0 m₃ fit₃ (streaming 493) (omega arith) h₂ on₂

  enters₃ : Enters plain (streaming 493) m₃ w₃
  enters₃ = enters plain areas₂ long₂ refl 0 m₃ fit₃ (streaming 493) (omega arith) h₂ on₂

  abbrev h₃ : Host
  h₃ = step h₂ (microframe 0 (lend areas₂ m₃))

  pub on₃ : On plain areas₂ (streaming 494) h₃
  unfolding after
  on₃ = leads₃.host h₂ on₂

  -- one frame waits
  waits₂ : h₂.audio.sending.len ≡ 1
  unfolding step
  waits₂ = ap (λ (z : Out). z.sending.len) sending₂ ∙ waits

  -- the block goes out, since it is counted
  pub sends : counter_of out_frames h₂.stats ≡ 0 → counter_of out_frames h₃.stats ≡ 7 → sends_at 0 w₃ ≡ true
  unfolding step
  sends before now =
      by_test (λ b. sends_at 0 w₃ ≡ b → b ≡ true) (sends_at 0 w₃) (λ e p. refl)
      (λ e p.
      let still : counter_of out_frames (framed 0 h₂ (lend areas₂ m₃)).state.stats ≡ counter_of out_frames h₂.stats = ap (λ (z : Out). z.sent) (ap out_of framed₃ ∙ (no_block 0 w₃ e).out) in
      absurd (omega (arith, still, before, now)))
      refl

  pub gone : sends_at 0 w₃ ≡ true → h₃.audio.sending.len ≡ 0
  unfolding step sent_out taken_from
  gone e =
      ap (λ (z : Out). z.sending.len) (ap out_of framed₃ ∙ (one_block_lem 0 w₃ e).out)
      ∙ ap (λ (n : ℕ). n - min 7 n) waits₂

  -- what it carries
  aside₃ : aside_of (at_output w₃) ≡ record { block = 368; channels = 12; asleep = 0 }
  unfolding frame_given
  aside₃ =
      aside_output w₃ (ap (λ (c : Settings). c.device_stack) on₂.settings)
      ∙ (aside_step plain 0 awake (lend areas₁ m₂) h₁ on₁.settings).aside
      ∙ ap aside_host step_give
      ∙ is

  place₃ : (at_output w₃).state.audio.sending ≡ record { start = h.audio.sending.start; len = h.audio.sending.len + 1 }
  unfolding step frame_given
  place₃ =
      ap (λ (z : Out). z.sending) (out_output w₃) ∙ ap (λ (z : Out). z.sending) sending₂ ∙ ap (λ (g : Host). g.audio.sending) step_give

  first_frame : frame_at (at_output w₃) 0 ≡ x
  unfolding frame_at frame_put
  first_frame =
      let s = h.audio.sending.start in
      let n = h.audio.sending.len in
      let words : (at_output w₃).lent.sending ≡ sets ring ((s + n) % (length ring / 12) * 12) x = words_output w₃ ∙ ring_is in
      let inside : s % (length ring / 12) < length ring / 12 = mod-lt s {m = length ring / 12} (omega (arith, most)) in
      let same₁ : s + 0 ≡ s = omega arith in
      let same₂ : s + n ≡ s = omega (arith, none_out) in
      ap₂ (λ (p : Ring) (l : List ℕ). pick (ltb 0 p.len) (take 12 (drop ((p.start + 0) % (length l / 12) * 12) l)) (replicate 12 0)) place₃ words
      ∙ ap (λ (k : ℕ). pick (ltb 0 (k + 1)) (take 12 (drop ((s + 0) % (length (sets ring ((s + n) % (length ring / 12) * 12) x) / 12) * 12) (sets ring ((s + n) % (length ring / 12) * 12) x))) (replicate 12 0)) none_out
      ∙ ap₂ (λ (i j : ℕ). take 12 (drop (i % (j / 12) * 12) (sets ring ((s + n) % (length ring / 12) * 12) x))) same₁ (length-sets ring ((s + n) % (length ring / 12) * 12) x)
      ∙ ap (λ (i : ℕ). take 12 (drop (s % (length ring / 12) * 12) (sets ring (i % (length ring / 12) * 12) x))) same₂
      ∙ stored_frame ring x (s % (length ring / 12)) twelve (omega (arith, inside))

  pub sent : drop 32 (block_of (at_output w₃)) ≡ flat_map bytes_of x ++ replicate 288 0
  sent =
      block_tail (at_output w₃) x twelve (ap (λ (z : Aside). z.block) aside₃) (ap (λ (z : Aside). z.channels) aside₃)
      (ap (λ (p : Ring). p.len) place₃ ∙ ap (λ (n : ℕ). n + 1) none_out) first_frame

  -- ---- a frame is taken

  abbrev ring₃ : List ℕ
  ring₃ = (framed 0 h₂ (lend areas₂ m₃)).lent.received

  frames₃ : ring_frames (framed 0 h₂ (lend areas₂ m₃)) ≡ (0x1234_5678 ∷ 0x9ABC_DEF0 ∷ replicate 10 0) ∷ replicate 6 (replicate 12 0)
  unfolding step number_of
  frames₃ =
      let st = streams_of plain areas₂ long₂ 0 calm m₃ fit₃ pages.rs_out false 493 483 (omega arith) Stream w₃ enters₃ refl in
      let opens : opened_memory w₃ ≡ m₃ = opens_to_lem plain areas₂ long₂ 0 calm m₃ fit₃ pages.rs_out false 493 483 Stream w₃ enters₃ in
      let tested = silent_law plain areas₂ long₂ 0 calm m₃ fit₃ pages.rs_out false true (memories f).room w₃ st opens enters₃.budget in
      ap ring_frames framed₃ ∙ (no_input 0 w₃ (accepted_ring h₂ (lend areas₂ m₃) number₃) tested.heard).frames ∙ frames₂

  seven : h₃.audio.received.len ≡ 7
  unfolding step
  seven =
      sym (ring_length 48000 ring₃ (framed 0 h₂ (lend areas₂ m₃)).state.audio.received.start (framed 0 h₂ (lend areas₂ m₃)).state.audio.received.len) ∙ ap length frames₃

  pub take_number_lem : take_number h₃ ring₃ ≡ 0
  unfolding take_number
  take_number_lem =
      let kept : length ring₃ ≡ length a.received = ap (λ (v : World). length v.lent.received) framed₃ ∙ ap (λ (z : Shape). z.received) (shape_kept 0 w₃) ∙ same_length in
      let whole = eq-eqb (length ring₃) 576000 (kept ∙ lengths.received_whole) in
      let spans : few_spans h₃ ≡ true = ap (λ (c : Settings). leb c.spans 16) on₃.settings in
      simp (whole, spans, on₃.bounds.record_bounds, on₃.bounds.received)

  oldest_is : oldest h₃ ring₃ ≡ 0x1234_5678 ∷ 0x9ABC_DEF0 ∷ replicate 10 0
  unfolding oldest oldest_first frame_in step first_of
  oldest_is =
      sym (ap (λ (n : ℕ). first_of (contents ring₃ (framed 0 h₂ (lend areas₂ m₃)).state.audio.received.start n)) seven)
      ∙ ap first_of frames₃

  pub taken : taken_frame h₃ ring₃ ≡ record { refusal = 0; empty = false; frame = 0x1234_5678 ∷ 0x9ABC_DEF0 ∷ replicate 10 0; next = frame_taken h₃ }
  unfolding taken_frame holds_frame
  taken = simp (take_number_lem, seven, oldest_is)

  -- ---- the list

  pub passing_numbers : NoneRefused h (passing a f x h)
  unfolding passing AtEach number_of
  passing_numbers = (give_number_lem, (number₂, (number₃, (take_number_lem, tt))))

  pub passing_phase : (after h (passing a f x h)).phase ≡ Stream
  unfolding passing after step frame_taken
  passing_phase = ap (λ z. z.next.phase) taken ∙ ap (λ (k : Stand). k.phase) on₃.stands

  pub heard_sums_lem : tally h (alike 0 0) (gives a f x ∷ microframe 0 (hearing a f x h) ∷ []) ≡ alike 7 0
  unfolding tally tallied
  heard_sums_lem = leads₂.sums h₁ on₁

  pub answered_sums : tally h (alike 0 0) (gives a f x ∷ microframe 0 (hearing a f x h) ∷ microframe 0 (answering a f x h) ∷ []) ≡ alike 7 7
  unfolding tally
  answered_sums =
      ap (λ (y : Tally). tally h₂ y (microframe 0 (answering a f x h) ∷ [])) heard_sums_lem ∙ leads₃.sums h₂ on₂

  pub passing_sums : tally h (alike 0 0) (passing a f x h) ≡ alike 7 7
  unfolding passing tally tallied
  passing_sums = answered_sums
