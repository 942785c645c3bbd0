-- Facts on replies that are kept, on the bytes of the setups that are made here, and on those of pairs.
use mathlib.Core.Bool.{Bool, true, false, ◌&&◌}
use lib.Dec.{eqb, ltb}
use borrow.Author.Tests.{eq-eqb, ne_eqb, eqb-true}
use Rattle.bits.specs.Pick.{pick}
use Rattle.config.specs.Config.{parsed, out_block}
use Rattle.config.specs.Pairs.{pair_of, listed}
use Rattle.config.specs.Table.{info_of}
use Rattle.config.specs.declared.Pair.{Pair}
use Rattle.config.specs.declared.ConfigInfo.{ConfigInfo}
use Rattle.config.specs.declared.OutBlock.{OutBlock}
use Prim.Native.Nat.{ℕ, ◌+◌, ◌-◌, ◌*◌, ◌/◌, ◌%◌, ◌≤◌, ◌<◌}
use native.Mathlib.Omega.{arith}
use mathlib.Core.List.{List, [], ◌∷◌, ◌++◌, flat_map}
use mathlib.Core.Path.{◌≡◌, refl, sym, ap, ap₂, subst, ◌∙◌}
use lib.ListN.{length, get_or, take, length-append, length-map}
use lib.Seq.{sets, length-take-le}
use Rattle.std.proofs.lemmas.List.{take_more, map-append}
use Rattle.bits.proofs.Lists.{sets_append}
use Rattle.record.specs.declared.State.{State}
use Rattle.record.specs.Record.{with_block, with_on, with_setups, with_device, with_config, with_audio, with_control, with_lengths}
use Rattle.record.specs.Setups.{setup_bytes}
use Rattle.record.specs.World.{World}
use Rattle.record.specs.Change.{apply, block, control, device, config, pushed, queued, nothing, when, one}
use Rattle.record.specs.Did.{Leads}
use Rattle.record.proofs.Laws.{in_turn, by_true, by_false, unchanged, once, from_here, leads_as}
use Rattle.model.specs.Phases.{drops_request}
use Rattle.model.specs.Control.{request_type, request, descriptor_type, asks_for, replied, sets_interface, interface_setups, asks_whole, sets_configuration, chooses, fixed_setups, configures, finishes}
use Rattle.finished.specs.Promises.{at_request, Brings}
use Rattle.model.specs.Control.{keeps_device, keeps_config, chooses_by_reply, queues_fixed, takes_configuration}

-- a reply that is kept
module _ (s : State) (q d p c : List ℕ) (inside : s.control.got ≤ length p) where
  reply_long : length (take s.control.got p) ≡ s.control.got
  reply_long = length-take-le s.control.got p inside

  pub device_kept : {r : State} {d' : List ℕ} → (r ≡ with_lengths s (with_device s.lengths s.control.got)) × (d' ≡ sets d 0 (take s.control.got p)) → Brings keeps_device s q d p c r q d' c
  unfolding apply
  device_kept {r} {d'} e =
      record {
        leads = λ w.
            once (λ v. device (replied v)) (at_request w s q d p c) (at_request w r q d' p c)
            (ap₂ (λ (x : State) (y : List ℕ). at_request w x q y p c) (e.0 ∙ ap (λ (n : ℕ). with_lengths s (with_device s.lengths n)) (sym reply_long)) e.1);
      }

  pub config_kept : {r : State} {c' : List ℕ} → (r ≡ with_lengths s (with_config s.lengths s.control.got)) × (c' ≡ sets c 0 (take s.control.got p)) → Brings keeps_config s q d p c r q d c'
  unfolding apply
  config_kept {r} {c'} e =
      record {
        leads = λ w.
            once (λ v. config (replied v)) (at_request w s q d p c) (at_request w r q d p c')
            (ap₂ (λ (x : State) (y : List ℕ). at_request w x q d p y) (e.0 ∙ ap (λ (n : ℕ). with_lengths s (with_config s.lengths n)) (sym reply_long)) e.1);
      }

-- ---- setups

pub asked_bytes : (a b : ℕ) → a < 256 → b < 256 → setup_bytes 0x2000680 ((a + b * 256) * 0x10000) ≡ 0x80 ∷ 6 ∷ 0 ∷ 2 ∷ 0 ∷ 0 ∷ a ∷ b ∷ []
asked_bytes a b ha hb =
    let v = (a + b * 256) * 0x10000 in
    let e₀ : v % 256 ≡ 0 = omega arith in
    let h₁ : v / 256 ≡ (a + b * 256) * 256 = omega arith in
    let e₁ : v / 256 % 256 ≡ 0 = rw h₁ (omega arith) in
    let h₂ : v / 0x10000 ≡ a + b * 256 = omega arith in
    let e₂ : v / 0x10000 % 256 ≡ a = rw h₂ (omega arith) in
    let e₃ : v / 0x1000000 ≡ b = omega arith in
    rw (e₀, e₁, e₂, e₃)

pub interface_bytes : (i a : ℕ) → i < 256 → a < 256 → setup_bytes (0xB01 + a * 0x10000) i ≡ sets_interface i a
interface_bytes i a hi ha =
    let v = 0xB01 + a * 0x10000 in
    let e₀ : v % 256 ≡ 1 = omega arith in
    let h₁ : v / 256 ≡ 11 + a * 256 = omega arith in
    let e₁ : v / 256 % 256 ≡ 11 = rw h₁ (omega arith) in
    let h₂ : v / 0x10000 ≡ a = omega arith in
    let e₂ : v / 0x10000 % 256 ≡ a = rw h₂ (omega arith) in
    let e₃ : v / 0x1000000 ≡ 0 = omega arith in
    let f₀ : i % 256 ≡ i = omega arith in
    let f₁ : i / 256 % 256 ≡ 0 = omega arith in
    let f₂ : i / 0x10000 % 256 ≡ 0 = omega arith in
    let f₃ : i / 0x1000000 ≡ 0 = omega arith in
    rw (e₀, e₁, e₂, e₃, f₀, f₁, f₂, f₃)

pub setups_size : (ps : List (ℕ × ℕ)) → length (interface_setups ps) ≡ 8 * length ps
unfolding interface_setups flat_map
setups_size [] = refl
setups_size (p ∷ ps) = omega (arith, setups_size ps)

-- a header's total length is asked for, where no setup waits
pub whole_asked : (s : State) (q p : List ℕ) {q' : List ℕ} → s.lengths.setups ≡ 0 → get_or p 2 0 < 256 → get_or p 3 0 < 256
    → q' ≡ sets q 0 (setup_bytes 0x2000680 ((get_or p 2 0 + get_or p 3 0 * 256) * 0x10000)) → (d c : List ℕ)
    → Brings asks_whole s q d p c (with_lengths s (with_setups s.lengths 1)) q' d c
unfolding apply asks_whole
whole_asked s q p {q'} none h₂ h₃ e d c =
    let bytes = asked_bytes (get_or p 2 0) (get_or p 3 0) h₂ h₃ in
    record {
      leads = λ w.
          once (λ v. pushed (0x80 ∷ 6 ∷ 0 ∷ 2 ∷ 0 ∷ 0 ∷ get_or v.lent.reply 2 0 ∷ get_or v.lent.reply 3 0 ∷ [])) (at_request w s q d p c) (at_request w (with_lengths s (with_setups s.lengths 1)) q' d p c)
          (ap (λ (x : List ℕ). at_request w (with_lengths s (with_setups s.lengths 1)) x d p c) (e ∙ ap (sets q 0) bytes)
          ∙ ap (λ (n : ℕ). at_request w (with_lengths s (with_setups s.lengths (n + 1))) (sets q 0 ((0x80 ∷ 6 ∷ 0 ∷ 2 ∷ 0 ∷ 0 ∷ get_or p 2 0 ∷ get_or p 3 0 ∷ []) ++ take (8 * n) q)) d p c) (sym none));
    }

-- setups behind none that wait
pub fixed_queued : (s : State) (q : List ℕ) {q₁ q₂ q₃ : List ℕ} → s.lengths.setups ≡ 0 → q₁ ≡ sets q 0 (setup_bytes 0x10900 0)
    → q₂ ≡ sets q₁ 8 (setup_bytes 0x30B01 1) → q₃ ≡ sets q₂ 16 (setup_bytes 0x30B01 2) → (d p c : List ℕ)
    → Brings queues_fixed s q d p c (with_lengths s (with_setups s.lengths 3)) q₃ d c
unfolding apply
fixed_queued s q {q₁} {q₂} {q₃} none e₁ e₂ e₃ d p c =
    record {
      leads = λ w.
          once (λ v. queued fixed_setups) (at_request w s q d p c) (at_request w (with_lengths s (with_setups s.lengths 3)) q₃ d p c)
          (ap (λ (x : List ℕ). at_request w (with_lengths s (with_setups s.lengths 3)) x d p c) (e₃ ∙ ap (λ (x : List ℕ). sets x 16 (setup_bytes 0x30B01 2)) (e₂ ∙ ap (λ (x : List ℕ). sets x 8 (setup_bytes 0x30B01 1)) e₁))
          ∙ ap (λ (n : ℕ). at_request w (with_lengths s (with_setups s.lengths (n + 3))) (sets q (8 * n) fixed_setups) d p c) (sym none));
    }

-- ---- pairs

setups_more : (ps : List (ℕ × ℕ)) (p : ℕ × ℕ) → interface_setups (ps ++ p ∷ []) ≡ interface_setups ps ++ sets_interface p.0 p.1
unfolding interface_setups flat_map
setups_more [] p = refl
setups_more (x ∷ ps) p = ap (λ (l : List ℕ). sets_interface x.0 x.1 ++ l) (setups_more ps p)

-- a place that no pair was taken to
abbrev pub none : Pair
none = record { interface = 0; alternate = 0 }

pub pushed_none : (q : List ℕ) → q ≡ sets q 8 (interface_setups [])
unfolding interface_setups flat_map
pushed_none q = refl

-- set interface for one pair more, behind those of the pairs before it
pub pushed_more : (q : List ℕ) (ps : List Pair) (i : ℕ) (p : Pair) → i < length ps → p ≡ get_or ps i none → p.interface < 256 → p.alternate < 256
    → sets (sets q 8 (interface_setups (listed (take i ps)))) (8 * (i + 1)) (setup_bytes (0xB01 + p.alternate * 0x10000) p.interface)
    ≡ sets q 8 (interface_setups (listed (take (i + 1) ps)))
pushed_more q ps i p h is hi ha =
    let done = interface_setups (listed (take i ps)) in
    let one = sets_interface p.interface p.alternate in
    let place : 8 * (i + 1) ≡ 8 + length done =
    omega (arith, setups_size (listed (take i ps)), length-map (take i ps) pair_of, length-take-le i ps) in
    let all : interface_setups (listed (take (i + 1) ps)) ≡ done ++ one =
    ap (λ (l : List Pair). interface_setups (listed l)) (take_more ps i none h ∙ ap (λ (x : Pair). take i ps ++ x ∷ []) (sym is))
    ∙ ap interface_setups (map-append pair_of (take i ps) (p ∷ []))
    ∙ setups_more (listed (take i ps)) (pair_of p) in
    ap₂ (λ (at : ℕ) (x : List ℕ). sets (sets q 8 done) at x) place (interface_bytes p.interface p.alternate hi ha)
    ∙ sym (sets_append q 8 done one) ∙ ap (λ (x : List ℕ). sets q 8 x) (sym all)

-- ---- a configuration's choice

-- the block of a state, with its channels
abbrev pub block_of : State → OutBlock
block_of s = record { block = s.audio.block; channels = s.audio.channels }

abbrev pub with_out : State → OutBlock → State
with_out s b = with_audio s (with_block s.audio b.block b.channels)

module _ (w : World) (s : State) (q d p c : List ℕ) where
  abbrev sized : ℕ → Bool → World
  sized size t = at_request w (with_out s (record { block = pick t size s.audio.block; channels = pick t ((size - 32) / 28) s.audio.channels })) q d p c

  by_size : (size : ℕ) (t : Bool) → ltb 32 size ≡ t → Leads (when (λ v. ltb 32 size) (one (λ v. block size ((size - 32) / 28)))) (at_request w s q d p c) (sized size (ltb 32 size))
  unfolding apply
  by_size size true e =
      by_true (λ v. ltb 32 size) (one (λ v. block size ((size - 32) / 28))) nothing e
      (once (λ v. block size ((size - 32) / 28)) (at_request w s q d p c) (sized size (ltb 32 size)) (ap (sized size) e))
  by_size size false e =
      by_false (λ v. ltb 32 size) (one (λ v. block size ((size - 32) / 28))) nothing e (leads_as (unchanged (at_request w s q d p c)) (ap (sized size) e))

  pairs_queued : (ps : List (ℕ × ℕ)) {q₁ q₂ : List ℕ} → s.lengths.setups ≡ 0 → q₁ ≡ sets q 0 (setup_bytes 0x10900 0) → q₂ ≡ sets q₁ 8 (interface_setups ps)
      → Leads (one (λ v. queued (sets_configuration ++ interface_setups ps))) (at_request w s q d p c) (at_request w (with_lengths s (with_setups s.lengths (1 + length ps))) q₂ d p c)
  unfolding apply
  pairs_queued ps {q₁} {q₂} none e₁ e₂ =
      let bs = sets_configuration ++ interface_setups ps in
      let size : length bs ≡ 8 * (1 + length ps) = length-append sets_configuration (interface_setups ps) ∙ omega (arith, setups_size ps) in
      let count : 1 + length ps ≡ 0 + length bs / 8 = omega (arith, size) in
      once (λ v. queued bs) (at_request w s q d p c) (at_request w (with_lengths s (with_setups s.lengths (1 + length ps))) q₂ d p c)
      (ap₂ (λ (n : ℕ) (x : List ℕ). at_request w (with_lengths s (with_setups s.lengths n)) x d p c) count (e₂ ∙ ap (λ (x : List ℕ). sets x 8 (interface_setups ps)) e₁ ∙ sym (sets_append q 0 sets_configuration (interface_setups ps)))
      ∙ ap (λ (n : ℕ). at_request w (with_lengths s (with_setups s.lengths (n + length bs / 8))) (sets q (8 * n) bs) d p c) (sym none))

module _ (s : State) (q p : List ℕ) {info : ConfigInfo} (is : info ≡ info_of (parsed (take s.control.got p))) where
  pub choice_made : {out : OutBlock} {q₁ q₂ : List ℕ} → s.lengths.setups ≡ 0 → out ≡ out_block info.ob_out_packet (block_of s) → q₁ ≡ sets q 0 (setup_bytes 0x10900 0)
      → (ps : List Pair) → listed ps ≡ info.pairs → q₂ ≡ sets q₁ 8 (interface_setups (listed ps)) → (d c : List ℕ)
      → Brings chooses_by_reply s q d p c (with_lengths (with_out s out) (with_setups s.lengths (1 + length ps))) q₂ d c
  unfolding chooses
  choice_made {out} {q₁} {q₂} none eo e₁ ps ep e₂ d c =
      let ch = parsed (take s.control.got p) in
      let eo' : out ≡ out_block ch.output (block_of s) = eo ∙ ap (λ (x : ConfigInfo). out_block x.ob_out_packet (block_of s)) is in
      let same : listed ps ≡ ch.pairs = ep ∙ ap (λ (x : ConfigInfo). x.pairs) is in
      let ec : length ps ≡ length ch.pairs = sym (length-map ps pair_of) ∙ ap length same in
      let e₂' : q₂ ≡ sets q₁ 8 (interface_setups ch.pairs) = e₂ ∙ ap (λ (x : List (ℕ × ℕ)). sets q₁ 8 (interface_setups x)) same in
      record {
        leads = λ w.
            from_here (λ v. chooses (parsed (take v.state.control.got v.lent.reply))) (at_request w s q d p c)
            (leads_as
            (in_turn (by_size w s q d p c ch.output (ltb 32 ch.output) refl) (pairs_queued w (with_out s (out_block ch.output (block_of s))) q d p c ch.pairs none e₁ e₂'))
            (ap₂ (λ (b : OutBlock) (n : ℕ). at_request w (with_lengths (with_out s b) (with_setups s.lengths (1 + n))) q₂ d p c) eo' ec));
      }

-- ---- a configuration reply

module _ (stack : Bool) {s : State} {q d p c : List ℕ} where
  pub by_header : s.control.got ≡ 9 → {r : State} {q' : List ℕ} → Brings asks_whole s q d p c r q' d c → Brings (takes_configuration stack) s q d p c r q' d c
  by_header h b =
      record { leads = λ w. by_true (λ v. eqb v.state.control.got 9) asks_whole (configures stack) (eq-eqb s.control.got 9 h) (b.leads w) }

  -- stored, and what follows with the device stack or without it
  pub by_whole : (s.control.got ≡ 9 → ⊥) → {s₁ r : State} {c' q' : List ℕ} → Brings keeps_config s q d p c s₁ q d c' → Brings (pick stack chooses_by_reply queues_fixed) s₁ q d p c' r q' d c'
      → Brings (takes_configuration stack) s q d p c r q' d c'
  unfolding configures
  by_whole h k b =
      record {
        leads = λ w.
            by_false (λ v. eqb v.state.control.got 9) asks_whole (configures stack) (ne_eqb s.control.got 9 h) (in_turn (k.leads w) (b.leads w));
      }

  pub with_stack_lem : stack ≡ true → {r : State} {q' : List ℕ} → Brings chooses_by_reply s q d p c r q' d c → Brings (pick stack chooses_by_reply queues_fixed) s q d p c r q' d c
  with_stack_lem e {r} {q'} b = subst (λ (t : Bool). Brings (pick t chooses_by_reply queues_fixed) s q d p c r q' d c) (sym e) b

  pub without_stack : stack ≡ false → {r : State} {q' : List ℕ} → Brings queues_fixed s q d p c r q' d c → Brings (pick stack chooses_by_reply queues_fixed) s q d p c r q' d c
  without_stack e {r} {q'} b = subst (λ (t : Bool). Brings (pick t chooses_by_reply queues_fixed) s q d p c r q' d c) (sym e) b

-- ---- a request that is done

one_type : (u v : Bool) (x : ℕ) → u && (v && eqb x 1) ≡ true → u && (v && eqb x 2) ≡ false
one_type true true x e = ne_eqb x 2 (λ h. let k = eqb-true x 1 e in omega arith)
one_type true false x e = refl
one_type false v x e = refl

module _ (stack : Bool) (s : State) (q d p c : List ℕ) {e : State} (is : e ≡ with_control s (with_on s.control false)) where
  dropped : Brings drops_request s q d p c e q d c
  unfolding drops_request apply
  dropped =
      record { leads = λ w. once (λ v. control (with_on v.state.control false)) (at_request w s q d p c) (at_request w e q d p c) (ap (λ (x : State). at_request w x q d p c) is) }

  same_test : (t : ℕ) {b : Bool} → asks_for t s.control ≡ b → asks_for t e.control ≡ b
  same_test t h = ap (λ (x : State). asks_for t x.control) is ∙ h

  pub device_finished : asks_for 1 s.control ≡ true → e.control.got ≤ length p → {r : State} {d' : List ℕ}
      → (r ≡ with_lengths e (with_device e.lengths e.control.got)) × (d' ≡ sets d 0 (take e.control.got p)) → Brings (finishes stack) s q d p c r q d' c
  unfolding finishes
  device_finished h inside {r} {d'} k =
      let other : asks_for 2 r.control ≡ false = ap (λ (x : State). asks_for 2 x.control) k.0 ∙ same_test 2 (one_type (eqb (request_type s.control) 0x80) (eqb (request s.control) 6) (descriptor_type s.control) h) in
      record {
        leads = λ w.
            in_turn (dropped.leads w)
            (in_turn (by_true (λ v. asks_for 1 v.state.control) keeps_device nothing (same_test 1 h) ((device_kept e q d p c inside k).leads w))
            (by_false (λ v. asks_for 2 v.state.control) (takes_configuration stack) nothing other (unchanged (at_request w r q d' p c))));
      }

  pub other_finished : asks_for 1 s.control ≡ false → {r : State} {q' c' : List ℕ}
      → Brings (when (λ v. asks_for 2 v.state.control) (takes_configuration stack)) e q d p c r q' d c' → Brings (finishes stack) s q d p c r q' d c'
  unfolding finishes
  other_finished h b =
      record {
        leads = λ w.
            in_turn (dropped.leads w)
            (in_turn (by_false (λ v. asks_for 1 v.state.control) keeps_device nothing (same_test 1 h) (unchanged (at_request w e q d p c))) (b.leads w));
      }

  pub configuration_finished : asks_for 2 s.control ≡ true → {r : State} {q' c' : List ℕ} → Brings (takes_configuration stack) e q d p c r q' d c'
      → Brings (when (λ v. asks_for 2 v.state.control) (takes_configuration stack)) e q d p c r q' d c'
  configuration_finished h b =
      record { leads = λ w. by_true (λ v. asks_for 2 v.state.control) (takes_configuration stack) nothing (same_test 2 h) (b.leads w) }

  pub nothing_finished : asks_for 2 s.control ≡ false → Brings (when (λ v. asks_for 2 v.state.control) (takes_configuration stack)) e q d p c e q d c
  nothing_finished h =
      record { leads = λ w. by_false (λ v. asks_for 2 v.state.control) (takes_configuration stack) nothing (same_test 2 h) (unchanged (at_request w e q d p c)) }
