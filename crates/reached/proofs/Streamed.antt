-- The microframes of the stream: the one that begins it, those that follow, and what each brings by the memory that it is lent.
use Prim.Native.Nat.{ℕ, ◌+◌, ◌≤◌, ◌<◌}
use mathlib.Core.Path.{◌≡◌, refl, ap, ap₂, sym, subst, ◌∙◌}
use mathlib.Core.Bool.{Bool, true, false}
use mathlib.Core.List.{List, [], ◌∷◌}
use native.Mathlib.Omega.{arith}
use lib.ListN.{replicate, replicate-append-replicate}
use Rattle.bits.specs.Pick.{pick}
use Rattle.bits.specs.Word.{any}
use Rattle.bus.specs.Memory.{Memory}
use Rattle.bus.specs.Words.{word_at}
use Rattle.usbdev.specs.Offsets.{USBCMD, USBSTS, EPCR0}
use Rattle.dtd.specs.Dtd.{primed}
use Rattle.record.specs.declared.Phase.{Phase}
use Rattle.record.specs.declared.Phase.TheVariants.{Idle, Vbus, Enumerate, Stream}
use Rattle.record.specs.declared.Settings.{Settings}
use Rattle.record.specs.World.{World}
use Rattle.record.specs.Change.{left}
use Rattle.model.specs.Audio.{audio_in, blocks_of}
use Rattle.model.specs.Microframe as M
use Rattle.model.specs.Earned.{good_blocks}
use Rattle.bounds.specs.Bounds.{MOST}
use Rattle.history.specs.Calls.{Call, microframe}
use Rattle.history.specs.Sums.{Tally}
use Rattle.reached.specs.Lists.{Areas, lend}
use Rattle.reached.proofs.Standing.{Stand, Held, held_of}
use Rattle.reached.proofs.Opening.{opened_held, opened_memory}
use Rattle.reached.proofs.Page.{framed_memory, resumed_memory}
use Rattle.reached.proofs.Early.{streaming_held, frame_ends, frame_streams}
use Rattle.reached.proofs.Summed.{Tested, played, tested_tally, Streams, ready_in, ready_out, bytes_asked, bytes_read, ran_memory, tested_silent, tested_brings}
use Rattle.reached.proofs.Leading.{Fit, Long, Queue, Enters, Goes, Leads, leads_then, leads_one}
use Rattle.reached.proofs.Waits.{Calm, standing, marked, streams_at, seen_is, plain_of, leads_idle, waits_vbus, leads_powers, waits_reset, leads_resets, leads_posts, leads_stalls}

-- ---- what memory brings at its start of frame

-- the input endpoint is not primed; o: the output endpoint is ready
pub record Silent (m : Memory) (o : Bool) : Type 0 where
  pub unprimed : primed audio_in (framed_memory m).page ≡ false
  pub output : ready_out (framed_memory m) ≡ o

-- it is ready, asks for at most one packet's bytes, and has n good blocks; o: after its run the output endpoint is ready
pub record Brings (m : Memory) (n : ℕ) (o : Bool) : Type 0 where
  pub input : ready_in (framed_memory m) ≡ true
  pub small : bytes_asked (framed_memory m) ≤ 368
  pub blocks : good_blocks (blocks_of (bytes_read (framed_memory m))) ≡ n
  pub output : (l : Bool) → ready_out (ran_memory (framed_memory m) l) ≡ o

module _ (c : Settings) (a : Areas) (long : Long a) (t : ℕ) (calm : Calm c t) (m : Memory) (fit : Fit m) (rs : any (word_at m.page USBCMD) 1 ≡ true) where
  abbrev call : Call
  call = microframe t (lend a m)

  abbrev stack : Bool
  stack = c.device_stack

  abbrev pub At : Phase → ℕ → ℕ → Stand
  At q u s = standing q false 0 u s stack

  -- b: it was suspended before
  abbrev pub From : Bool → Phase → ℕ → ℕ → Stand
  From b q u s = marked b q u s stack

  -- the memory at the choice by phase
  abbrev pub opens_to : Bool → Memory
  opens_to b = pick b (resumed_memory m) m

  -- the World of such a microframe
  pub streams_of : (b : Bool) (u s : ℕ) → u < MOST → (q : Phase) (w : World) → Enters c (From b q u s) m w → streams_at (From b q u s) ≡ true → Streams t w
  streams_of b u s few q w e begins =
      record {
        plain = plain_of c a long t calm m fit rs (From b q u s) w refl few e;
        streams = ap streams_at e.stands ∙ begins;
        free = ap (λ (x : Stand). x.on) e.stands;
        nothing_waits = ap (λ (x : Stand). x.waiting) e.stands;
      }

  pub opens_to_lem : (b : Bool) (u s : ℕ) (q : Phase) (w : World) → Enters c (From b q u s) m w → opened_memory w ≡ opens_to b
  opens_to_lem b u s q w e = ap₂ (λ (x : Bool) (y : Memory). pick x (resumed_memory y) y) (ap (λ (x : Stand). x.suspended) e.stands) e.memory

  -- a microframe of a host in Stream, or in Enumerate with no setup left, by the tests of its sums
  module _ (b : Bool) (u s : ℕ) (few : u < MOST) (h : Bool) (n : ℕ) (o : Bool) (y : Tally)
      (law : (w : World) → Streams t w → opened_memory w ≡ opens_to b → w.state.audio.budget ≤ 32766 → Tested t w false h n o) where
    goes : (q : Phase) (w : World) → Enters c (From b q u s) m w → Streams t w
        → held_of (left (M.microframe t) w) ≡ record { stand = At Stream (u + 1) s; queue = w.own.setups } → Goes t w (At Stream (u + 1) s) y (played false h n o y)
    goes q w e st is =
        record {
          stands = ap (λ (x : Held). x.stand) is;
          queue = λ z. subst Queue (sym (ap (λ (x : Held). x.queue) is)) z;
          sums = tested_tally t w false h n o (law w st (opens_to_lem b u s q w e) e.budget) y;
        }

    -- what the opening makes of it
    more : (q : Phase) (w : World) → Enters c (From b q u s) m w → (f : Held → Held)
        → f (opened_held w.settings.device_stack (held_of w)) ≡ f (record { stand = At q (u + 1) s; queue = w.own.setups })
    more q w e f =
        ap₂ (λ (b : Bool) (x : Stand). f (opened_held b (record { stand = x; queue = w.own.setups }))) (ap (λ (x : Settings). x.device_stack) e.settings) e.stands
        ∙ ap (λ (b : Bool). f (record { stand = standing q false 0 (u + 1) s b; queue = w.own.setups })) (seen_is stack)

    leads_ends : Leads c a (call ∷ []) (From b Enumerate u s) (At Stream (u + 1) s) y (played false h n o y)
    leads_ends =
        leads_one c a long calm.few t m fit (From b Enumerate u s) few (At Stream (u + 1) s) y (played false h n o y) (λ w e.
        let st = streams_of b u s few Enumerate w e refl in
        goes Enumerate w e st
        (frame_ends t w st.plain (ap (λ (x : Stand). x.phase) e.stands) st.free st.nothing_waits ∙ more Enumerate w e streaming_held))

    leads_streams : Leads c a (call ∷ []) (From b Stream u s) (At Stream (u + 1) s) y (played false h n o y)
    leads_streams =
        leads_one c a long calm.few t m fit (From b Stream u s) few (At Stream (u + 1) s) y (played false h n o y) (λ w e.
        let st = streams_of b u s few Stream w e refl in
        goes Stream w e st
        (frame_streams t w st.plain (ap (λ (x : Stand). x.phase) e.stands) st.free st.nothing_waits ∙ more Stream w e (λ k. k)))

  -- ---- by what it is lent

  pub silent_law : (b o : Bool) → Silent (opens_to b) o → (w : World) → Streams t w → opened_memory w ≡ opens_to b → w.state.audio.budget ≤ 32766 → Tested t w false false 0 o
  silent_law b o h w st e few =
      tested_silent t w st o (ap (λ (x : Memory). primed audio_in (framed_memory x).page) e ∙ h.unprimed) (ap (λ (x : Memory). ready_out (framed_memory x)) e ∙ h.output)

  pub brings_law : (n : ℕ) (o : Bool) → Brings m n o → (w : World) → Streams t w → opened_memory w ≡ m → w.state.audio.budget ≤ 32766 → Tested t w false true n o
  brings_law n o h w st e few =
      let asks = h.small in
      tested_brings t w st few (ap (λ (x : Memory). ready_in (framed_memory x)) e ∙ h.input) (omega (arith, ap (λ (x : Memory). bytes_asked (framed_memory x)) e, asks)) n o
      (ap (λ (x : Memory). good_blocks (blocks_of (bytes_read (framed_memory x)))) e ∙ h.blocks)
      (λ l. ap (λ (x : Memory). ready_out (ran_memory (framed_memory x) l)) e ∙ h.output l)

  pub ends_silent : (u s : ℕ) → u < MOST → (o : Bool) → Silent m o → (y : Tally) → Leads c a (call ∷ []) (At Enumerate u s) (At Stream (u + 1) s) y (played false false 0 o y)
  ends_silent u s few o h y = leads_ends false u s few false 0 o y (silent_law false o h)

  pub streams_silent : (u s : ℕ) → u < MOST → (o : Bool) → Silent m o → (y : Tally) → Leads c a (call ∷ []) (At Stream u s) (At Stream (u + 1) s) y (played false false 0 o y)
  streams_silent u s few o h y = leads_streams false u s few false 0 o y (silent_law false o h)

  -- resumed
  pub resumes_silent : (u s : ℕ) → u < MOST → (o : Bool) → Silent (resumed_memory m) o → (y : Tally) → Leads c a (call ∷ []) (From true Stream u s) (At Stream (u + 1) s) y (played false false 0 o y)
  resumes_silent u s few o h y = leads_streams true u s few false 0 o y (silent_law true o h)

  pub streams_brings : (u s : ℕ) → u < MOST → (n : ℕ) (o : Bool) → Brings m n o → (y : Tally) → Leads c a (call ∷ []) (At Stream u s) (At Stream (u + 1) s) y (played false true n o y)
  streams_brings u s few n o h y = leads_streams false u s few true n o y (brings_law n o h)

  -- ---- from VBUS, and from a new host, to the end of enumeration, with one memory: RS set, URI clear, endpoint 0 stalled

  more_calls : (i j : ℕ) {k k' k'' : Stand} {y y' y'' : Tally} → Leads c a (replicate i call) k k' y y' → Leads c a (replicate j call) k' k'' y' y'' → Leads c a (replicate (i + j) call) k k'' y y''
  more_calls i j {k} {k'} {k''} {y} {y'} {y''} p q =
      subst (λ (cs : List Call). Leads c a cs k k'' y y'') (replicate-append-replicate {A = Call} i j call) (leads_then p q)

  module _ (clear : any (word_at m.page USBSTS) 0x40 ≡ false) (stall : any (word_at m.page EPCR0) 0x10001 ≡ true) (y : Tally) where
    -- two microframes for each of the four setups
    asked : (u s : ℕ) → u + 8 < MOST → Leads c a (replicate 8 call) (standing Enumerate false 4 u s stack) (At Enumerate (u + 1 + 1 + 1 + 1 + 1 + 1 + 1 + 1) s) y y
    asked u s few =
        more_calls 1 7 (leads_posts c a long t calm m fit rs 3 u s (omega arith) (omega arith) y)
        (more_calls 1 6 (leads_stalls c a long t calm m fit rs 3 (u + 1) s (omega arith) stall y)
        (more_calls 1 5 (leads_posts c a long t calm m fit rs 2 (u + 1 + 1) s (omega arith) (omega arith) y)
        (more_calls 1 4 (leads_stalls c a long t calm m fit rs 2 (u + 1 + 1 + 1) s (omega arith) stall y)
        (more_calls 1 3 (leads_posts c a long t calm m fit rs 1 (u + 1 + 1 + 1 + 1) s (omega arith) (omega arith) y)
        (more_calls 1 2 (leads_stalls c a long t calm m fit rs 1 (u + 1 + 1 + 1 + 1 + 1) s (omega arith) stall y)
        (more_calls 1 1 (leads_posts c a long t calm m fit rs 0 (u + 1 + 1 + 1 + 1 + 1 + 1) s (omega arith) (omega arith) y)
        (leads_stalls c a long t calm m fit rs 0 (u + 1 + 1 + 1 + 1 + 1 + 1 + 1) s (omega arith) stall y)))))))

    -- 401 microframes in Vbus, 81 in Reset, 8 in Enumerate
    pub from_vbus : (u : ℕ) → u + 490 < MOST
        → Leads c a (replicate 490 call) (standing Vbus false 0 u u stack) (At Enumerate (u + 400 + 1 + 80 + 1 + 1 + 1 + 1 + 1 + 1 + 1 + 1 + 1) (u + 400 + 1 + 80 + 1)) y y
    from_vbus u few =
        more_calls 400 90 (waits_vbus c a long t calm m fit rs 400 u u (omega arith) (omega arith) (omega arith) y)
        (more_calls 1 89 (leads_powers c a long t calm m fit rs (u + 400) u (omega arith) (omega arith) (omega arith) y)
        (more_calls 80 9 (waits_reset c a long t calm m fit rs 80 (u + 400 + 1) (u + 400 + 1) (omega arith) (omega arith) (omega arith) y)
        (more_calls 1 8 (leads_resets c a long t calm m fit rs (u + 400 + 1 + 80) (u + 400 + 1) (omega arith) (omega arith) (omega arith) clear y)
        (asked (u + 400 + 1 + 80 + 1) (u + 400 + 1 + 80 + 1) (omega arith)))))

    -- one in Idle
    pub to_enumerated : Leads c a (replicate 491 call) (standing Idle false 0 0 0 false) (At Enumerate 491 483) y y
    to_enumerated = more_calls 1 490 (leads_idle c a long t calm m fit rs y) (from_vbus 1 (omega arith))
