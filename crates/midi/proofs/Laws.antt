-- Laws of a run of bytes: what it makes, a byte at a time and cut anywhere, its size, and how a loop writes it.
use mathlib.Core.Path.{◌≡◌, refl, sym, ap, ap₂, ◌∙◌}
use mathlib.Core.List.{List, [], ◌∷◌, ◌++◌, append_assoc, flat_map}
use Prim.Native.Nat.{ℕ, suc, ◌+◌, ◌*◌, ◌≤◌, ◌<◌}
use native.Mathlib.Numerals.{add-one}
use native.Mathlib.Nat.{add-zero}
use native.Mathlib.Omega.{arith}
use lib.ListN.{length, set, get_or, take, drop, length-append, drop_of_length-le}
use lib.Seq.{drop-cons, sets, sets-eq, length-sets}
use lib.Dec.{leb}
use borrow.Author.Tests.{le-leb, lt-leb}
use Rattle.bits.proofs.Lists.{sets_append}
use Rattle.bits.specs.Pick.{pick_both}
use Rattle.midi.specs.declared.Packer.{Packer}
use Rattle.std.specs.Prelude.{Some, None}
use Rattle.midi.specs.declared.Fed.{Fed}
use Rattle.midi.specs.Packer.{Event, feed_of, fed_all, made, events_of, packet_count, packet_bytes, written, packets_of, sent_of, queue_after}

-- ---- the bytes of a list of packets

-- the bytes of two lists of packets are those of the first and then those of the second
pub flat_map_append : {A : Type 0} (f : A → List ℕ) (xs ys : List A) → flat_map f (xs ++ ys) ≡ flat_map f xs ++ flat_map f ys
unfolding flat_map
flat_map_append f [] ys = refl
flat_map_append f (x ∷ xs) ys = ap (λ l. f x ++ l) (flat_map_append f xs ys) ∙ sym (append_assoc (f x) (flat_map f xs) (flat_map f ys))

-- ---- one byte at a place of a run

module _ (p : Packer) (bs : List ℕ) (i : ℕ) (h : i < length bs) (f : Fed) (e : f ≡ feed_of p (get_or bs i 0)) where
  pub events_at : events_of p (drop i bs) ≡ made f.event ++ events_of f.next (drop (i + 1) bs)
  unfolding events_of
  events_at = rw (add-one, drop-cons bs i 0, e)

  pub fed_at : fed_all p (drop i bs) ≡ fed_all f.next (drop (i + 1) bs)
  unfolding fed_all
  fed_at = rw (add-one, drop-cons bs i 0, e)

  pub count_at : packet_count p (drop i bs) ≡ length (made f.event) + packet_count f.next (drop (i + 1) bs)
  unfolding packet_count
  count_at = ap length events_at ∙ simp length-append

-- nothing is left past the end
module _ (p : Packer) (bs : List ℕ) (i : ℕ) (h : length bs ≤ i) where
  pub events_past : events_of p (drop i bs) ≡ []
  unfolding events_of
  events_past = rw (drop_of_length-le bs h)

  pub fed_past : fed_all p (drop i bs) ≡ p
  unfolding fed_all
  fed_past = rw (drop_of_length-le bs h)

  pub count_past : packet_count p (drop i bs) ≡ 0
  unfolding packet_count
  count_past = ap length events_past

-- ---- a run cut anywhere

pub fed_all_append : (p : Packer) (xs ys : List ℕ) → fed_all p (xs ++ ys) ≡ fed_all (fed_all p xs) ys
unfolding fed_all
fed_all_append p [] ys = refl
fed_all_append p (x ∷ xs) ys = fed_all_append (feed_of p x).next xs ys

pub events_of_append : (p : Packer) (xs ys : List ℕ) → events_of p (xs ++ ys) ≡ events_of p xs ++ events_of (fed_all p xs) ys
unfolding events_of fed_all
events_of_append p [] ys = refl
events_of_append p (x ∷ xs) ys =
    ap (λ l. made (feed_of p x).event ++ l) (events_of_append (feed_of p x).next xs ys)
    ∙ sym (append_assoc (made (feed_of p x).event) (events_of (feed_of p x).next xs) (events_of (fed_all (feed_of p x).next xs) ys))

-- a stream cut anywhere gives the same packets
pub packets_of_append : (cable : ℕ) (p : Packer) (xs ys : List ℕ)
    → packets_of cable p (xs ++ ys) ≡ packets_of cable p xs ++ packets_of cable (fed_all p xs) ys
unfolding packets_of
packets_of_append cable p xs ys =
    ap (flat_map (packet_bytes cable)) (events_of_append p xs ys)
    ∙ flat_map_append (packet_bytes cable) (events_of p xs) (events_of (fed_all p xs) ys)

pub packet_count_append : (p : Packer) (xs ys : List ℕ) → packet_count p (xs ++ ys) ≡ packet_count p xs + packet_count (fed_all p xs) ys
unfolding packet_count
packet_count_append p xs ys = ap length (events_of_append p xs ys) ∙ simp length-append

-- ---- sizes

made_size : (cable : ℕ) (e : Event) → length (flat_map (packet_bytes cable) (made e)) ≡ 4 * length (made e)
unfolding flat_map
made_size cable None = refl
made_size cable (Some e) = refl

-- a packet is four bytes
pub packets_size : (cable : ℕ) (p : Packer) (bs : List ℕ) → length (packets_of cable p bs) ≡ 4 * packet_count p bs
unfolding packets_of packet_count events_of flat_map
packets_size cable p [] = refl
packets_size cable p (b ∷ bs) =
    let e = (feed_of p b).event in
    let rest = events_of (feed_of p b).next bs in
    let new = flat_map (packet_bytes cable) (made e) in
    let cut = ap length (flat_map_append (packet_bytes cable) (made e) rest) ∙ length-append new (flat_map (packet_bytes cable) rest) in
    omega (arith, cut, made_size cable e, packets_size cable (feed_of p b).next bs, length-append (made e) rest)

made_few : (e : Event) → length (made e) ≤ 1
made_few None = omega arith
made_few (Some e) = omega arith

-- a byte makes at most one packet
pub count_le : (p : Packer) (bs : List ℕ) → packet_count p bs ≤ length bs
unfolding packet_count events_of
count_le p [] = omega arith
count_le p (b ∷ bs) =
    let e = (feed_of p b).event in
    let rest = events_of (feed_of p b).next bs in
    omega (arith, made_few e, count_le (feed_of p b).next bs, length-append (made e) rest)

-- the empty send is accepted and changes nothing
module _ (cable : ℕ) (p : Packer) (held : ℕ) (q : List ℕ) (h : held ≤ 4096) where
  pub empty_send : sent_of p [] held ≡ record { refusal = 0; packer = p; held = held }
  unfolding sent_of fed_all packet_count events_of
  empty_send = simp (add-zero, le-leb held 4096 h)

  pub empty_queue : queue_after cable p [] held q ≡ q
  unfolding queue_after packets_of packet_count events_of flat_map
  empty_queue = simp (add-zero, le-leb held 4096 h)

-- ---- a send by its two cases

module _ (cable : ℕ) (p : Packer) (bs : List ℕ) (held : ℕ) (q : List ℕ) where
  -- a send that fits: the answer, and the queue in three parts
  pub sent_fits : held + 4 * packet_count p bs ≤ 4096 → sent_of p bs held ≡ record { refusal = 0; packer = fed_all p bs; held = held + 4 * packet_count p bs }
  unfolding sent_of
  sent_fits h = simp (le-leb (held + 4 * packet_count p bs) 4096 h)

  pub queue_fits : held + 4 * packet_count p bs ≤ 4096 → length q ≡ 4096
      → queue_after cable p bs held q ≡ take held q ++ packets_of cable p bs ++ drop (held + 4 * packet_count p bs) q
  unfolding queue_after
  queue_fits h l =
      let size = packets_size cable p bs in
      simp (le-leb (held + 4 * packet_count p bs) 4096 h)
      (sets-eq (packets_of cable p bs) q held (omega (arith, size)) ∙ ap (λ n. take held q ++ packets_of cable p bs ++ drop (held + n) q) size)

  -- a send that does not fit changes nothing
  pub sent_full : 4096 < held + 4 * packet_count p bs → sent_of p bs held ≡ record { refusal = 7; packer = p; held = held }
  unfolding sent_of
  sent_full h = simp (lt-leb (held + 4 * packet_count p bs) 4096 h)

  pub queue_full : 4096 < held + 4 * packet_count p bs → queue_after cable p bs held q ≡ q
  unfolding queue_after
  queue_full h = simp (lt-leb (held + 4 * packet_count p bs) 4096 h)

  pub queue_length : length (queue_after cable p bs held q) ≡ length q
  unfolding queue_after
  queue_length = pick_both (λ (l : List ℕ). length l ≡ length q) (leb (held + 4 * packet_count p bs) 4096) (length-sets q held (packets_of cable p bs)) refl

-- ---- stores

-- four stores in a row
pub sets_four : (q : List ℕ) (at a b c d : ℕ) → set (set (set (set q at a) (at + 1) b) (at + 2) c) (at + 3) d ≡ sets q at (a ∷ b ∷ c ∷ d ∷ [])
sets_four q at a b c d =
    let one : at + 1 ≡ suc at = omega arith in
    let two : at + 2 ≡ suc (suc at) = omega arith in
    let three : at + 3 ≡ suc (suc (suc at)) = omega arith in
    rw (one, two, three)

-- where a loop stands that writes each packet in some form: what is left to write from here makes the whole
pub record Writing (form : Event → List ℕ) (bs q₀ q : List ℕ) (start at i : ℕ) (p₀ p : Packer) : Type 0 where
  pub inside : i ≤ length bs
  pub same : length q ≡ length q₀
  pub room : at + length (written form p (drop i bs)) ≤ length q
  pub end : at + length (written form p (drop i bs)) ≡ start + length (written form p₀ bs)
  pub queue : sets q at (written form p (drop i bs)) ≡ sets q₀ start (written form p₀ bs)
  pub fed : fed_all p (drop i bs) ≡ fed_all p₀ bs

module _ (form : Event → List ℕ) (p : Packer) (bs : List ℕ) (i : ℕ) (h : i < length bs) (f : Fed) (e : f ≡ feed_of p (get_or bs i 0)) where
  pub written_at : written form p (drop i bs) ≡ flat_map form (made f.event) ++ written form f.next (drop (i + 1) bs)
  written_at = ap (flat_map form) (events_at p bs i h f e) ∙ flat_map_append form (made f.event) (events_of f.next (drop (i + 1) bs))

  pub written_size_at : length (written form p (drop i bs)) ≡ length (flat_map form (made f.event)) + length (written form f.next (drop (i + 1) bs))
  written_size_at = ap length written_at ∙ simp length-append

-- a byte more: its packet, if it made one, is written
pub writing_more : {form : Event → List ℕ} {bs q₀ q : List ℕ} {start at i : ℕ} {p₀ p : Packer} → Writing form bs q₀ q start at i p₀ p → (h : i < length bs)
    → (f : Fed) → f ≡ feed_of p (get_or bs i 0)
    → (q' : List ℕ) → q' ≡ sets q at (flat_map form (made f.event))
    → (at' : ℕ) → at' ≡ at + length (flat_map form (made f.event))
    → Writing form bs q₀ q' start at' (i + 1) p₀ f.next
writing_more {form} {bs} {q₀} {q} {start} {at} {i} {p₀} {p} inv h f e q' eq at' ea =
    let size = written_size_at form p bs i h f e in
    let new = flat_map form (made f.event) in
    let rest = written form f.next (drop (i + 1) bs) in
    let long : length q' ≡ length q = ap length eq ∙ length-sets q at new in
    record {
      inside = omega arith;
      same = long ∙ inv.same;
      room = omega (arith, size, long, inv.room);
      end = omega (arith, size, inv.end);
      queue = ap₂ (λ x y. sets x y rest) eq ea ∙ sym (sets_append q at new rest) ∙ ap (sets q at) (sym (written_at form p bs i h f e)) ∙ inv.queue;
      fed = sym (fed_at p bs i h f e) ∙ inv.fed;
    }

-- past the last byte all is written
module _ {form : Event → List ℕ} {bs q₀ q : List ℕ} {start at i : ℕ} {p₀ p : Packer} (inv : Writing form bs q₀ q start at i p₀ p) (h : length bs ≤ i) where
  written_past : written form p (drop i bs) ≡ []
  unfolding flat_map
  written_past = ap (flat_map form) (events_past p bs i h)

  pub writing_end : at ≡ start + length (written form p₀ bs)
  writing_end = omega (arith, ap length written_past, inv.end)

  pub writing_queue : q ≡ sets q₀ start (written form p₀ bs)
  writing_queue = rw written_past at inv.queue

  pub writing_packer : p ≡ fed_all p₀ bs
  writing_packer = sym (fed_past p bs i h) ∙ inv.fed
