-- The fields of an answer do not overlap in its number: each is found again there, and so is the next packer.
use Prim.Native.Nat.{ℕ, ◌+◌, ◌*◌, ◌/◌, ◌%◌, ◌^◌, ◌<◌}
use mathlib.Core.Bool.{Bool, true, false, ◌&&◌}
use mathlib.Core.List.{List}
use mathlib.Core.Path.{◌≡◌, refl}
use native.Mathlib.Omega.{arith}
use borrow.Author.Tests.{leb-true, eq-eqb, ne_eqb}
use lib.Dec.{eqb, leb}
use Rattle.bits.specs.Pick.{pick, pick_both}
use Rattle.bus.proofs.Sizes.{and_true}
use Rattle.config.specs.Config.{parsed}
use Rattle.config.specs.Table.{table_of}
use Rattle.config.proofs.Cases.{by_test}
use Rattle.config.proofs.Sizes.{sizes_small}
use Rattle.midi.specs.declared.Packer.{Packer}
use Rattle.midi.specs.Packer.{Sent, is_cable, sent_of, sent_on, fresh, room_for, packet_count, AllBytes, PackerBound, PackerBytes}
use Rattle.midi.proofs.Bounds.{fed_all_bytes, sent_bound}
use Rattle.bounds.specs.Bounds.{packer_ok}
use Rattle.bounds.proofs.Laws.{packer_bound, packer_ok_lem}
use Rattle.exports.specs.Answers.{above, flag, of_config, of_packer, packer_of, of_sent}
use Rattle.exports.specs.Send.{bounded, midi_sent}

pub above_parts : (refusal answer : ℕ) → answer < 2 ^ 32 → (above refusal answer / 2 ^ 32 ≡ refusal) × (above refusal answer % 2 ^ 32 ≡ answer)
above_parts refusal answer h = (omega arith, omega arith)

-- ---- the interface choice

pub record Sizes (d : List ℕ) : Type 0 where
  pub count : of_config (table_of (parsed d)) / 2 ^ 32 ≡ (table_of (parsed d)).count
  pub output : of_config (table_of (parsed d)) / 2 ^ 16 % 2 ^ 16 ≡ (parsed d).output
  pub input : of_config (table_of (parsed d)) % 2 ^ 16 ≡ (parsed d).input

pub sizes_found : (d : List ℕ) → Sizes d
sizes_found d =
    let s = sizes_small d in
    record { count = omega arith; output = omega arith; input = omega arith }

-- ---- a send

-- what a queue holds after a send has two bytes: what it held before, or 4,096 at most
pub sent_held : (p : Packer) (bs : List ℕ) (held : ℕ) → held < 65536 → (sent_of p bs held).held < 65536
unfolding sent_of
sent_held p bs held h =
    by_test (room_for p bs held)
    (λ e. let few = leb-true (held + 4 * packet_count p bs) 4096 e in rw e (omega arith))
    (λ e. rw e h)

pub sent_on_held : (cable : ℕ) (p : Packer) (bs : List ℕ) (held : ℕ) → held < 65536 → (sent_on cable p bs held).held < 65536
unfolding sent_on
sent_on_held cable p bs held h = pick_both (λ (s : Sent). s.held < 65536) (is_cable cable) (sent_held p bs held h) h

pub midi_sent_held : (cable : ℕ) (p : Packer) (bs : List ℕ) (held : ℕ) → held < 65536 → (midi_sent cable p bs held).held < 65536
unfolding midi_sent
midi_sent_held cable p bs held h =
    pick_both (λ (s : Sent). s.held < 65536) (is_cable cable)
    (pick_both (λ (s : Sent). s.held < 65536) (bounded p held) (sent_held p bs held h) h) h

flag_lt : (b : Bool) → flag b < 2
flag_lt true = omega arith
flag_lt false = omega arith

flag_is : (b : Bool) (k : ℕ) → k ≡ flag b → eqb k 1 ≡ b
flag_is true k e = eq-eqb k 1 e
flag_is false k e = ne_eqb k 1 (omega arith)

abbrev packer : ℕ → ℕ → ℕ → ℕ → Bool → Packer
packer s f g h b = record { status = s; first = f; second = g; held = h; sysex = b }

same : {s s' f f' g g' h h' : ℕ} {b b' : Bool} → s ≡ s' → f ≡ f' → g ≡ g' → h ≡ h' → b ≡ b' → packer s f g h b ≡ packer s' f' g' h' b'
same s f g h b = cc

packer_found : (n : ℕ) (p : Packer) → PackerBytes p → p.held < 256 → n % 2 ^ 40 ≡ of_packer p → packer_of n ≡ p
packer_found n p bytes few e =
    let l = flag_lt p.sysex in
    same (omega arith) (omega arith) (omega arith) (omega arith) (flag_is p.sysex (n / 2 ^ 32 % 2) (omega arith))

-- 0 is the packer of a new host, inside number 5's bound
pub packer_new : (packer_of 0 ≡ fresh) × (packer_ok (packer_of 0) ≡ true)
unfolding packer_ok
packer_new = (cc, refl)

pub record Found (s : Sent) : Type 0 where
  pub refusal : of_sent s / 2 ^ 56 ≡ s.refusal
  pub held : of_sent s / 2 ^ 40 % 2 ^ 16 ≡ s.held
  pub packer : packer_of (of_sent s) ≡ s.packer

found : (s : Sent) → s.held < 65536 → PackerBytes s.packer → s.packer.held < 256 → Found s
found s most bytes few =
    let l = flag_lt s.packer.sysex in
    record {
      refusal = omega arith;
      held = omega arith;
      packer = packer_found (of_sent s) s.packer bytes few (omega arith);
    }

sent_bytes : (p : Packer) (bs : List ℕ) (held : ℕ) → PackerBytes p → AllBytes bs → PackerBytes (sent_of p bs held).packer
unfolding sent_of
sent_bytes p bs held h all = pick_both (λ (s : Sent). PackerBytes s.packer) (room_for p bs held) (fed_all_bytes p bs h all) h

-- an answer holds the next packer, so that it can be passed to the next send as it is
pub sent_found : (cable n : ℕ) (bs : List ℕ) (held : ℕ) → AllBytes bs → held < 65536 → Found (midi_sent cable (packer_of n) bs held)
unfolding midi_sent bounded
sent_found cable n bs held all h =
    let p = packer_of n in
    let bytes : PackerBytes p = record { status = omega arith; first = omega arith; second = omega arith } in
    pick_both Found (is_cable cable)
    (by_test (bounded p held)
    (λ e. let next = sent_bound p bs held (packer_bound p (and_true (packer_ok p) (leb held 4096 && eqb (held % 4) 0) e).0) in
    rw e (found (sent_of p bs held) (sent_held p bs held h) (sent_bytes p bs held bytes all) (omega (arith, next.few))))
    (λ e. rw e (found (record { refusal = 5; packer = p; held = held }) h bytes (omega arith))))
    (found (record { refusal = 8; packer = p; held = held }) h bytes (omega arith))

-- inside number 5's bound it stays there: a caller who starts with 0 and passes each answer on never meets 5 by the packer
pub sent_again : (cable n : ℕ) (bs : List ℕ) (held : ℕ) → AllBytes bs → held < 65536 → packer_ok (packer_of n) ≡ true
    → packer_ok (packer_of (of_sent (midi_sent cable (packer_of n) bs held))) ≡ true
unfolding midi_sent
sent_again cable n bs held all h ok =
    let p = packer_of n in
    let b = packer_bound p ok in
    let inside : PackerBound (pick (bounded p held) (sent_of p bs held) (record { refusal = 5; packer = p; held = held })).packer =
    pick_both (λ (s : Sent). PackerBound s.packer) (bounded p held) (sent_bound p bs held b) b in
    rw (sent_found cable n bs held all h).packer
    (packer_ok_lem (midi_sent cable p bs held).packer (pick_both (λ (s : Sent). PackerBound s.packer) (is_cable cable) inside b))
