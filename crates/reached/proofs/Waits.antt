-- From a new host to its stream: the waits, by one law for any number of microframes, and the four setups.
use Prim.Native.Nat.{ℕ, zero, suc, ◌+◌, ◌-◌, ◌*◌, ◌≤◌, ◌<◌}
use mathlib.Core.Path.{◌≡◌, refl, ap, ap₂, sym, subst, ◌∙◌}
use mathlib.Core.Bool.{Bool, true, false, not, ◌&&◌, ◌||◌}
use mathlib.Core.List.{List, [], ◌∷◌}
use native.Mathlib.Omega.{arith}
use lib.Dec.{eqb, leb, ltb, eqb-suc-zero}
use lib.ListN.{replicate, take}
use borrow.Author.Tests.{lt-ltb, le-ltb}
use Rattle.bits.specs.Pick.{pick}
use Rattle.bits.specs.Word.{any}
use Rattle.bus.specs.Memory.{Memory}
use Rattle.bus.specs.Words.{word_at}
use Rattle.usbdev.specs.Offsets.{USBCMD, USBSTS, EPCR0}
use Rattle.record.specs.declared.Phase.{Phase}
use Rattle.record.specs.declared.Phase.TheVariants.{Idle, Vbus, Reset, Enumerate}
use Rattle.record.specs.declared.Settings.{Settings}
use Rattle.record.specs.Record.{wrapped}
use Rattle.record.specs.World.{World}
use Rattle.record.specs.Change.{left}
use Rattle.model.specs.Phases.{within, any_span}
use Rattle.model.specs.Control.{enumerating}
use Rattle.model.specs.Microframe as M
use Rattle.model.specs.Microframe.{streaming}
use Rattle.bounds.specs.Bounds.{MOST}
use Rattle.history.specs.Calls.{Call, microframe}
use Rattle.history.specs.Sums.{Tally}
use Rattle.reached.specs.Lists.{Areas, lend}
use Rattle.reached.proofs.Standing.{Stand, Held, stand_of, held_of}
use Rattle.reached.proofs.Opening.{opened_held, Plain}
use Rattle.reached.proofs.Page.{Stopped}
use Rattle.reached.proofs.Early.{entered_held, asking, posted_held, on_held, frame_idle, frame_vbus, frame_powers, frame_reset, frame_resets, frame_posts, frame_stalls}
use Rattle.reached.proofs.Summed.{tested_tally, tested_early}
use Rattle.reached.proofs.Leading.{Fit, Long, Queue, Enters, Leads, leads_none, leads_then, leads_one}
use Rattle.reached.proofs.Queued.{queue_first, queue_posted}

-- settings without a serial device, and a time at which the host is neither gone nor suspended
pub record Calm (c : Settings) (t : ℕ) : Type 0 where
  pub audio : c.cdc ≡ false
  pub there : any_span (take c.spans c.gone) t ≡ false
  pub awake : within c.suspend t ≡ false
  pub few : leb c.spans 16 ≡ true

-- a host that is neither gone nor suspended
abbrev pub standing : Phase → Bool → ℕ → ℕ → ℕ → Bool → Stand
standing q on n uf t r =
    record { phase = q; on = on; waiting = n; uf = uf; t = t; gone = false; suspended = false; was_running = r }

-- one that is suspended or not, and asks for nothing
abbrev pub marked : Bool → Phase → ℕ → ℕ → Bool → Stand
marked b q uf t r =
    record { phase = q; on = false; waiting = 0; uf = uf; t = t; gone = false; suspended = b; was_running = r }

pub seen_is : (stack : Bool) → pick stack true stack ≡ stack
seen_is true = refl
seen_is false = refl

seen_first : (stack : Bool) → pick stack true false ≡ stack
seen_first true = refl
seen_first false = refl

-- whether such a host streams in the next microframe
abbrev pub streams_at : Stand → Bool
streams_at k = streaming k.phase || (enumerating k.phase && (not k.on && eqb k.waiting 0))

module _ (c : Settings) (a : Areas) (long : Long a) (t : ℕ) (calm : Calm c t) (m : Memory) (fit : Fit m) (rs : any (word_at m.page USBCMD) 1 ≡ true) where
  abbrev call : Call
  call = microframe t (lend a m)

  abbrev stack : Bool
  stack = c.device_stack

  pub plain_of : (k : Stand) (w : World) → k.gone ≡ false → k.uf < MOST → Enters c k m w → Plain t w
  plain_of k w g u e =
      record {
        timers = subst (λ (x : Memory). Stopped x.page) (sym e.memory) fit.timers;
        audio = ap (λ (x : Settings). x.cdc) e.settings ∙ calm.audio;
        there = ap (λ (x : Settings). any_span (take x.spans x.gone) t) e.settings ∙ calm.there;
        awake = ap (λ (x : Settings). within x.suspend t) e.settings ∙ calm.awake;
        rs = ap (λ (x : Memory). any (word_at x.page USBCMD) 1) e.memory ∙ rs;
        still = ap (λ (x : Stand). x.gone) e.stands ∙ g;
        few = omega (arith, ap (λ (x : Stand). x.uf) e.stands, u);
      }

  -- before the stream: by what the microframe does to what the host holds, f, whatever its setups
  early : (k : Stand) (f : Bool → Held → Held) (y : Tally) → k.gone ≡ false → k.uf < MOST → streams_at k ≡ false
      → ((q : List ℕ) → Queue q → Queue (f stack (record { stand = k; queue = q })).queue)
      → ((w : World) → Plain t w → stand_of w ≡ k → w.lent.memory ≡ m → held_of (left (M.microframe t) w) ≡ f w.settings.device_stack (held_of w))
      → (k' : Stand) → ((q : List ℕ) → (f stack (record { stand = k; queue = q })).stand ≡ k') → Leads c a (call ∷ []) k k' y y
  early k f y gn u quiet queue law k' is =
      leads_one c a long calm.few t m fit k u k' y y (λ w e.
      let p = plain_of k w gn u e in
      let now = law w p e.stands e.memory ∙ ap₂ (λ (b : Bool) (x : Stand). f b (record { stand = x; queue = w.own.setups })) (ap (λ (x : Settings). x.device_stack) e.settings) e.stands in
      record {
        stands = ap (λ (x : Held). x.stand) now ∙ is w.own.setups;
        queue = λ h. subst Queue (sym (ap (λ (x : Held). x.queue) now)) (queue w.own.setups h);
        sums = tested_tally t w false false 0 false (tested_early t w p (ap streams_at e.stands ∙ quiet)) y;
      })

  -- ---- each kind of microframe

  pub leads_idle : (y : Tally) → Leads c a (call ∷ []) (standing Idle false 0 0 0 false) (standing Vbus false 0 1 1 stack) y y
  leads_idle y =
      early (standing Idle false 0 0 0 false) (λ b k. entered_held Vbus (opened_held b k)) y refl (omega arith) refl (λ q h. h)
      (λ w p e f. frame_idle t w p (ap (λ (x : Stand). x.phase) e))
      (standing Vbus false 0 1 1 stack) (λ q. ap (λ (b : Bool). standing Vbus false 0 1 1 b) (seen_first stack))

  module _ (u s : ℕ) (few : u < MOST) (begun : s ≤ u) where
    before_reset : (n : ℕ) → n ≤ 400 → u + 1 ≤ s + n → ltb (wrapped (s + n)) (u + 1) ≡ false
    before_reset n small h = le-ltb (wrapped (s + n)) (u + 1) (omega (arith, few, begun, small, h))

    past : (n : ℕ) → n ≤ 400 → s + n < u + 1 → ltb (wrapped (s + n)) (u + 1) ≡ true
    past n small h = lt-ltb (wrapped (s + n)) (u + 1) (omega (arith, few, begun, small, h))

    pub wait_vbus : u + 1 ≤ s + 400 → (y : Tally) → Leads c a (call ∷ []) (standing Vbus false 0 u s stack) (standing Vbus false 0 (u + 1) s stack) y y
    wait_vbus h y =
        early (standing Vbus false 0 u s stack) opened_held y refl few refl (λ q x. x)
        (λ w p e f. frame_vbus t w p (ap (λ (x : Stand). x.phase) e) (ap (λ (x : Stand). ltb (wrapped (x.t + 400)) (x.uf + 1)) e ∙ before_reset 400 (omega arith) h))
        (standing Vbus false 0 (u + 1) s stack) (λ q. ap (λ (b : Bool). standing Vbus false 0 (u + 1) s b) (seen_is stack))

    pub leads_powers : s + 400 < u + 1 → (y : Tally) → Leads c a (call ∷ []) (standing Vbus false 0 u s stack) (standing Reset false 0 (u + 1) (u + 1) stack) y y
    leads_powers h y =
        early (standing Vbus false 0 u s stack) (λ b k. entered_held Reset (opened_held b k)) y refl few refl (λ q x. x)
        (λ w p e f. frame_powers t w p (ap (λ (x : Stand). x.phase) e) (ap (λ (x : Stand). ltb (wrapped (x.t + 400)) (x.uf + 1)) e ∙ past 400 (omega arith) h))
        (standing Reset false 0 (u + 1) (u + 1) stack) (λ q. ap (λ (b : Bool). standing Reset false 0 (u + 1) (u + 1) b) (seen_is stack))

    pub wait_reset : u + 1 ≤ s + 80 → (y : Tally) → Leads c a (call ∷ []) (standing Reset false 0 u s stack) (standing Reset false 0 (u + 1) s stack) y y
    wait_reset h y =
        early (standing Reset false 0 u s stack) opened_held y refl few refl (λ q x. x)
        (λ w p e f. frame_reset t w p (ap (λ (x : Stand). x.phase) e) (ap (λ (x : Stand). ltb (wrapped (x.t + 80)) (x.uf + 1)) e ∙ before_reset 80 (omega arith) h))
        (standing Reset false 0 (u + 1) s stack) (λ q. ap (λ (b : Bool). standing Reset false 0 (u + 1) s b) (seen_is stack))

    -- URI is clear
    pub leads_resets : s + 80 < u + 1 → any (word_at m.page USBSTS) 0x40 ≡ false → (y : Tally) → Leads c a (call ∷ []) (standing Reset false 0 u s stack) (standing Enumerate false 4 (u + 1) (u + 1) stack) y y
    leads_resets h clear y =
        early (standing Reset false 0 u s stack) (λ b k. asking (entered_held Enumerate (opened_held b k))) y refl few refl (λ q x. queue_first q 0 x)
        (λ w p e f. frame_resets t w p (ap (λ (x : Stand). x.suspended) e) (ap (λ (x : Stand). x.phase) e) (ap (λ (x : Stand). ltb (wrapped (x.t + 80)) (x.uf + 1)) e ∙ past 80 (omega arith) h) (ap (λ (x : Memory). any (word_at x.page USBSTS) 0x40) f ∙ clear))
        (standing Enumerate false 4 (u + 1) (u + 1) stack) (λ q. ap (λ (b : Bool). standing Enumerate false 4 (u + 1) (u + 1) b) (seen_is stack))

  -- a setup is posted
  pub leads_posts : (n u s : ℕ) → n < 257 → u < MOST → (y : Tally) → Leads c a (call ∷ []) (standing Enumerate false (suc n) u s stack) (standing Enumerate true n (u + 1) s stack) y y
  leads_posts n u s small few y =
      let one_less : suc n - 1 ≡ n = omega arith in
      early (standing Enumerate false (suc n) u s stack) (λ b k. posted_held (opened_held b k)) y refl few (eqb-suc-zero n) (λ q x. queue_posted q (8 * suc n) (omega arith) x)
      (λ w p e f. frame_posts t w p (ap (λ (x : Stand). x.phase) e) (ap (λ (x : Stand). x.on) e) (omega (arith, ap (λ (x : Stand). x.waiting) e)))
      (standing Enumerate true n (u + 1) s stack)
      (λ q. ap₂ (λ (i : ℕ) (b : Bool). standing Enumerate true i (u + 1) s b) one_less (seen_is stack))

  -- and dropped: endpoint 0 is stalled
  pub leads_stalls : (n u s : ℕ) → u < MOST → any (word_at m.page EPCR0) 0x10001 ≡ true → (y : Tally) → Leads c a (call ∷ []) (standing Enumerate true n u s stack) (standing Enumerate false n (u + 1) s stack) y y
  leads_stalls n u s few stall y =
      early (standing Enumerate true n u s stack) (λ b k. on_held false (opened_held b k)) y refl few refl (λ q x. x)
      (λ w p e f. frame_stalls t w p (ap (λ (x : Stand). x.suspended) e) (ap (λ (x : Stand). x.phase) e) (ap (λ (x : Stand). x.on) e) (ap (λ (x : Memory). any (word_at x.page EPCR0) 0x10001) f ∙ stall))
      (standing Enumerate false n (u + 1) s stack) (λ q. ap (λ (b : Bool). standing Enumerate false n (u + 1) s b) (seen_is stack))

  -- ---- any number of waits: only the counts change

  pub waits_vbus : (n u s : ℕ) → u + n ≤ s + 400 → u + n < MOST → s ≤ u → (y : Tally) → Leads c a (replicate n call) (standing Vbus false 0 u s stack) (standing Vbus false 0 (u + n) s stack) y y
  waits_vbus zero u s h few begun y =
      let same : u ≡ u + 0 = omega arith in
      subst (λ (x : ℕ). Leads c a [] (standing Vbus false 0 u s stack) (standing Vbus false 0 x s stack) y y) same (leads_none c a (standing Vbus false 0 u s stack) y)
  waits_vbus (suc n) u s h few begun y =
      let same : u + 1 + n ≡ u + suc n = omega arith in
      subst (λ (x : ℕ). Leads c a (replicate (suc n) call) (standing Vbus false 0 u s stack) (standing Vbus false 0 x s stack) y y) same
      (leads_then (wait_vbus u s (omega arith) begun (omega arith) y) (waits_vbus n (u + 1) s (omega arith) (omega arith) (omega arith) y))

  pub waits_reset : (n u s : ℕ) → u + n ≤ s + 80 → u + n < MOST → s ≤ u → (y : Tally) → Leads c a (replicate n call) (standing Reset false 0 u s stack) (standing Reset false 0 (u + n) s stack) y y
  waits_reset zero u s h few begun y =
      let same : u ≡ u + 0 = omega arith in
      subst (λ (x : ℕ). Leads c a [] (standing Reset false 0 u s stack) (standing Reset false 0 x s stack) y y) same (leads_none c a (standing Reset false 0 u s stack) y)
  waits_reset (suc n) u s h few begun y =
      let same : u + 1 + n ≡ u + suc n = omega arith in
      subst (λ (x : ℕ). Leads c a (replicate (suc n) call) (standing Reset false 0 u s stack) (standing Reset false 0 x s stack) y y) same
      (leads_then (wait_reset u s (omega arith) begun (omega arith) y) (waits_reset n (u + 1) s (omega arith) (omega arith) (omega arith) y))
