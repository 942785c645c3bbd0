-- S-3: in an accepted send the packets counted are the packets written, each once and at its place in the queue, and nothing else is.
use mathlib.Core.Path.{◌≡◌, refl, sym, ap, subst, ◌∙◌}
use mathlib.Core.Bool.{Bool, true, false}
use mathlib.Core.List.{List, [], ◌∷◌, ◌++◌, append_assoc, flat_map}
use Prim.Native.Nat.{ℕ, zero, suc, ◌+◌, ◌*◌, ◌≤◌, ◌<◌}
use native.Mathlib.Omega.{arith}
use lib.ListN.{length, get_or, take, drop, length-append, length-drop}
use lib.Seq.{length-take-le, take_at, drop_at, drop-append-add, drop-append-le, take-append-le}
use borrow.Author.Tests.{leb-true}
use Rattle.bits.specs.Pick.{pick}
use Rattle.midi.specs.declared.Packer.{Packer}
use Rattle.std.specs.Prelude.{Some, None}
use Rattle.midi.specs.Packer.{Event, Sent, feed_of, made, events_of, packet_count, packet_bytes, packets_of, is_cable, room_for, sent_of, sent_on, queue_after, queue_on, Sends}
use Rattle.midi.specs.Claims.{Written}
use Rattle.midi.proofs.Laws.{packets_size, sent_fits, queue_fits}

-- ---- the bytes of packets, by their number

-- packet i of es is the four bytes from 4 * i on
abbrev At : ℕ → List Event → ℕ → Type 0
At cable es i = take 4 (drop (4 * i) (flat_map (packet_bytes cable) es)) ≡ packet_bytes cable (get_or es i None)

one_more : (cable : ℕ) (e : Event) (es : List Event) → ((i : ℕ) → i < length es → At cable es i) → (i : ℕ) → i < length (made e ++ es) → At cable (made e ++ es) i
unfolding flat_map
one_more cable None es h i l = h i l
one_more cable (Some e) es h zero l = refl
one_more cable (Some e) es h (suc i) l =
    let four : 4 * suc i ≡ suc (suc (suc (suc (4 * i)))) = omega arith in
    rw four (h i (omega arith))

packet_at : (cable : ℕ) (p : Packer) (bs : List ℕ) (i : ℕ) → i < packet_count p bs → At cable (events_of p bs) i
unfolding packet_count events_of
packet_at cable p [] i l = absurd (omega arith)
packet_at cable p (b ∷ bs) i l = one_more cable (feed_of p b).event (events_of (feed_of p b).next bs) (packet_at cable (feed_of p b).next bs) i l

-- ---- a queue in three parts: what it held, the packets, what stood behind their place

module _ (cable : ℕ) (p : Packer) (bs : List ℕ) (held : ℕ) (q q' : List ℕ) (fits : held + 4 * packet_count p bs ≤ length q)
    (parts : q' ≡ take held q ++ packets_of cable p bs ++ drop (held + 4 * packet_count p bs) q) where
  abbrev front : List ℕ
  front = take held q

  abbrev packets : List ℕ
  packets = packets_of cable p bs

  abbrev rest : List ℕ
  rest = drop (held + 4 * packet_count p bs) q

  held_long : length front ≡ held
  held_long = length-take-le held q (omega (arith, fits))

  joined : q' ≡ front ++ (packets ++ rest)
  joined = parts ∙ append_assoc front packets rest

  packet_there : (i : ℕ) → i < packet_count p bs → take 4 (drop (held + 4 * i) q') ≡ packet_bytes cable (get_or (events_of p bs) i None)
  unfolding packets_of
  packet_there i l =
      let size = packets_size cable p bs in
      let past : drop (held + 4 * i) (front ++ (packets ++ rest)) ≡ drop (4 * i) (packets ++ rest) =
      subst (λ (n : ℕ). drop (n + 4 * i) (front ++ (packets ++ rest)) ≡ drop (4 * i) (packets ++ rest)) held_long (drop-append-add front (packets ++ rest) (4 * i)) in
      ap (λ (l : List ℕ). take 4 (drop (held + 4 * i) l)) joined
      ∙ ap (take 4) (past ∙ drop-append-le (4 * i) packets rest (omega (arith, size)))
      ∙ take-append-le 4 (drop (4 * i) packets) rest (omega (arith, size, length-drop (4 * i) packets))
      ∙ packet_at cable p bs i l

  pub packets_written : Written cable p bs held (held + 4 * packet_count p bs) q q'
  packets_written =
      let size = packets_size cable p bs in
      let upto = length-append front packets in
      let whole = length-append (front ++ packets) rest in
      let left = length-drop (held + 4 * packet_count p bs) q in
      record {
        four_each = refl;
        fits = fits;
        packet = packet_there;
        before = ap (take held) joined ∙ take_at front (packets ++ rest) held held_long;
        behind = ap (drop (held + 4 * packet_count p bs)) parts ∙ drop_at (front ++ packets) rest (held + 4 * packet_count p bs) (omega (arith, upto, size, held_long));
        long = ap length parts ∙ omega (arith, whole, upto, left, size, held_long, fits);
      }

-- ---- a send

accepted : (there room : Bool) (s t u : Sent) → t.refusal ≡ 7 → u.refusal ≡ 8 → (pick there (pick room s t) u).refusal ≡ 0 → (there ≡ true) × (room ≡ true)
accepted true true s t u et eu e = (refl, refl)
accepted true false s t u et eu e = absurd (omega arith)
accepted false room s t u et eu e = absurd (omega arith)

-- what `send` ensures, of an accepted one: from the bytes held before to those held then the packets counted, in order, four bytes each
pub counted_written : {cable : ℕ} {p : Packer} {bs : List ℕ} {held : ℕ} {q q' : List ℕ} {r : Sent} → Sends cable p bs held q q' r → r.refusal ≡ 0
    → length q ≡ 4096 → Written cable p bs held r.held q q'
unfolding sent_on queue_on sent_of
counted_written {cable} {p} {bs} {held} {q} {q'} {r} s e long =
    let is = accepted (is_cable cable) (room_for p bs held) _ _ _ refl refl (sym (ap (λ (t : Sent). t.refusal) s.answer) ∙ e) in
    let fits = leb-true (held + 4 * packet_count p bs) 4096 is.1 in
    let answer : r ≡ sent_of p bs held = s.answer ∙ simp is.0 in
    let queue : q' ≡ queue_after cable p bs held q = s.queue ∙ simp is.0 in
    subst (λ (n : ℕ). Written cable p bs held n q q') (sym (ap (λ (t : Sent). t.held) (answer ∙ sent_fits cable p bs held q fits)))
    (packets_written cable p bs held q q' (omega (arith, fits, long)) (queue ∙ queue_fits cable p bs held q fits long))
