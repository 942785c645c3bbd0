-- Bounds that every byte keeps: number 5's of the packer, the sixteen codes, and that packets are bytes.
use mathlib.Core.Path.{◌≡◌, refl}
use mathlib.Core.Logic.{◌⊎◌, inl, inr, ⊎_elim}
use mathlib.Core.Bool.{Bool, true, false, ◌||◌}
use mathlib.Core.List.{List, [], ◌∷◌, ◌++◌, flat_map}
use Prim.Native.Nat.{ℕ, zero, suc, ◌+◌, ◌*◌, ◌%◌, ◌≤◌, ◌<◌}
use native.Mathlib.Omega.{arith}
use lib.ListN.{length, get_or}
use lib.Dec.{eqb, leb}
use borrow.Author.Tests.{leb-false, eqb-false, leb-true}
use Rattle.bits.specs.Pick.{pick, pick_both}
use Rattle.midi.specs.declared.Packer.{Packer}
use Rattle.std.specs.Prelude.{Some, None}
use Rattle.midi.specs.declared.Fed.{Fed}
use Rattle.midi.specs.Packer.{Event, Sent, packet_count, sent_of, within, message_length, message_code, running_of, held_bytes, holding, packet, sysex_of, message_of, so_far, fed_data, fed_status, feed_of, fed_all, made, events_of, code_of, header, packet_bytes, packets_of, fresh, PackerBound, AllBytes, PackerBytes}
use Rattle.midi.proofs.Laws.{flat_map_append}

-- a choice by its test
pick_by : {A : Type 0} (P : A → Type 0) (t : Bool) {a b : A} → (t ≡ true → P a) → (t ≡ false → P b) → P (pick t a b)
pick_by P true p q = p refl
pick_by P false p q = q refl

pub message_length_le : (s : ℕ) → message_length s ≤ 3
unfolding message_length
message_length_le s = pick_both (λ n. n ≤ 3) (within 0xC0 0xDF s || (eqb s 0xF1 || eqb s 0xF3)) (omega arith) (omega arith)

code_below_16 : (s : ℕ) → message_code s < 16
unfolding message_code
code_below_16 s =
    pick_by (λ n. n < 16) (leb 0xF0 s) (λ t. omega (arith, message_length_le s)) (λ t. let less = leb-false 0xF0 s t in omega arith)

held_few : (p : Packer) (b : ℕ) → length (held_bytes p ++ (b ∷ [])) ≤ 3
held_few p b =
    pick_both (λ l. length (l ++ (b ∷ [])) ≤ 3) (eqb p.held 0) (omega arith)
    (pick_both (λ l. length (l ++ (b ∷ [])) ≤ 3) (eqb p.held 1) (omega arith) (omega arith))

sysex_code : (p : Packer) (b : ℕ) (bs : List ℕ) → length bs ≤ 3 → code_of (sysex_of p b bs).event < 16
sysex_code p b bs h =
    pick_both (λ (f : Fed). code_of f.event < 16) (eqb b 0xF7) (omega arith)
    (pick_both (λ (f : Fed). code_of f.event < 16) (eqb (length bs) 3) (omega arith) (omega arith))

message_code_lem : (p : Packer) (bs : List ℕ) → code_of (message_of p bs).event < 16
message_code_lem p bs =
    pick_both (λ (f : Fed). code_of f.event < 16) (leb (message_length p.status) (length bs)) (code_below_16 p.status) (omega arith)

pub data_code : (p : Packer) (b : ℕ) → code_of (fed_data p b).event < 16
data_code p b =
    pick_both (λ (f : Fed). code_of f.event < 16) (eqb p.status 0) (omega arith) (message_code_lem p (so_far p b))

status_code : (p : Packer) (b : ℕ) → code_of (fed_status p b).event < 16
status_code p b =
    pick_both (λ (f : Fed). code_of f.event < 16) (eqb b 0xF0) (omega arith)
    (pick_both (λ (f : Fed). code_of f.event < 16) (eqb b 0xF6) (omega arith) (omega arith))

-- table 4-1 has sixteen codes, whatever the packer holds
pub code_any : (p : Packer) (b : ℕ) → code_of (feed_of p b).event < 16
unfolding feed_of
code_any p b =
    pick_both (λ (f : Fed). code_of f.event < 16) (leb 0xF8 b) (omega arith)
    (pick_both (λ (f : Fed). code_of f.event < 16) p.sysex (sysex_code p b (held_bytes p ++ (b ∷ [])) (held_few p b))
    (pick_both (λ (f : Fed). code_of f.event < 16) (leb 0x80 b) (status_code p b) (data_code p b)))

pub code_below : (p : Packer) (b : ℕ) → p.status < 256 → code_of (feed_of p b).event < 16
code_below p b h = code_any p b

-- ---- number 5's bound of a packer

apart : true ≡ false → {A : Type 0} → A
apart e = let z : ◌≡◌ {A = ℕ} 0 1 = cc in absurd (omega arith)

-- a packer that holds nothing, or is inside SysEx with two bytes at most, is inside the bound
empty_bound : (s : ℕ) (x : Bool) → PackerBound (holding s x [])
empty_bound s x = record { few = omega arith; none = λ e l. refl }

sysex_bound : (s : ℕ) (bs : List ℕ) → length bs ≤ 2 → PackerBound (holding s true bs)
sysex_bound s bs h = record { few = h; none = λ e l. apart e }

fed_sysex_bound : (p : Packer) (b : ℕ) (bs : List ℕ) → length bs ≤ 3 → PackerBound (sysex_of p b bs).next
fed_sysex_bound p b bs h =
    pick_both (λ (f : Fed). PackerBound f.next) (eqb b 0xF7) (empty_bound p.status false)
    (pick_by (λ (f : Fed). PackerBound f.next) (eqb (length bs) 3) (λ t. empty_bound p.status true)
    (λ t. let less : length bs ≡ 3 → ⊥ = eqb-false (length bs) 3 t in sysex_bound p.status bs (omega arith)))

-- outside SysEx a message so far has two bytes at least
two_at_least : (t u : Bool) (s x y b : ℕ) → 2 ≤ length (pick t (s ∷ []) (pick t [] (pick u (x ∷ []) (x ∷ y ∷ []))) ++ (b ∷ []))
two_at_least true u s x y b = omega arith
two_at_least false true s x y b = omega arith
two_at_least false false s x y b = omega arith

message_bound : (p : Packer) (bs : List ℕ) → 2 ≤ length bs → PackerBound (message_of p bs).next
message_bound p bs h =
    pick_by (λ (f : Fed). PackerBound f.next) (leb (message_length p.status) (length bs)) (λ t. empty_bound (running_of p.status) false)
    (λ t. let more = leb-false (message_length p.status) (length bs) t in
    record { few = omega (arith, message_length_le p.status); none = λ e l. absurd (omega arith) })

data_bound : (p : Packer) (b : ℕ) → PackerBound p → PackerBound (fed_data p b).next
data_bound p b h =
    pick_both (λ (f : Fed). PackerBound f.next) (eqb p.status 0) h
    (message_bound p (so_far p b)
    (two_at_least (eqb p.held 0) (eqb p.held 1) p.status p.first p.second b))

status_bound : (p : Packer) (b : ℕ) → PackerBound p → PackerBound (fed_status p b).next
unfolding message_length
status_bound p b h =
    pick_both (λ (f : Fed). PackerBound f.next) (eqb b 0xF0) (sysex_bound 0 (b ∷ []) (omega arith))
    (pick_both (λ (f : Fed). PackerBound f.next) (eqb b 0xF6) (record { few = h.few; none = λ e l. absurd (omega (arith, l)) })
    (empty_bound b false))

two_or_three : (s : ℕ) → (message_length s ≡ 2) ⊎ (message_length s ≡ 3)
unfolding message_length
two_or_three s = pick_both (λ n. (n ≡ 2) ⊎ (n ≡ 3)) (within 0xC0 0xDF s || (eqb s 0xF1 || eqb s 0xF3)) (inl refl) (inr refl)

three_at_most : (p : Packer) (b : ℕ) → length (so_far p b) ≤ 3
three_at_most p b = pick_both (λ (l : List ℕ). length (l ++ (b ∷ [])) ≤ 3) (eqb p.held 0) (omega arith) (held_few p b)

three_exactly : (n : ℕ) → 2 ≤ n → n ≤ 3 → leb 3 n ≡ eqb n 3
three_exactly zero l h = absurd (omega arith)
three_exactly (suc zero) l h = absurd (omega arith)
three_exactly (suc (suc zero)) l h = refl
three_exactly (suc (suc (suc zero))) l h = refl
three_exactly (suc (suc (suc (suc n)))) l h = absurd (omega arith)

-- inside number 5's bound a message so far never passes its length, so that "at least" and the source's "exactly" are one test
pub whole_exactly : (p : Packer) (b : ℕ) → PackerBound p → p.sysex ≡ false
    → leb (message_length p.status) (length (so_far p b)) ≡ eqb (length (so_far p b)) (message_length p.status)
whole_exactly p b h x =
    ⊎_elim
    (λ e. let none : p.held ≡ 0 = h.none x e in simp (e, none))
    (λ e. rw e (three_exactly (length (so_far p b)) (two_at_least (eqb p.held 0) (eqb p.held 1) p.status p.first p.second b) (three_at_most p b)))
    (two_or_three p.status)

-- a byte leaves a packer inside number 5's bound
pub bound_kept : (p : Packer) (b : ℕ) → PackerBound p → PackerBound (feed_of p b).next
unfolding feed_of
bound_kept p b h =
    pick_both (λ (f : Fed). PackerBound f.next) (leb 0xF8 b) h
    (pick_both (λ (f : Fed). PackerBound f.next) p.sysex (fed_sysex_bound p b (held_bytes p ++ (b ∷ [])) (held_few p b))
    (pick_both (λ (f : Fed). PackerBound f.next) (leb 0x80 b) (status_bound p b h) (data_bound p b h)))

pub fresh_bound : PackerBound fresh
fresh_bound = empty_bound 0 false

pub fed_all_bound : (p : Packer) (bs : List ℕ) → PackerBound p → PackerBound (fed_all p bs)
unfolding fed_all
fed_all_bound p [] h = h
fed_all_bound p (b ∷ bs) h = fed_all_bound (feed_of p b).next bs (bound_kept p b h)

-- a send leaves a packer and a queue inside number 5's bounds
pub sent_bound : (p : Packer) (bs : List ℕ) (held : ℕ) → PackerBound p → PackerBound (sent_of p bs held).packer
unfolding sent_of
sent_bound p bs held h = pick_both (λ (s : Sent). PackerBound s.packer) (leb (held + 4 * packet_count p bs) 4096) (fed_all_bound p bs h) h

pub sent_most : (p : Packer) (bs : List ℕ) (held : ℕ) → held ≤ 4096 → (sent_of p bs held).held ≤ 4096
unfolding sent_of
sent_most p bs held h =
    pick_by (λ (s : Sent). s.held ≤ 4096) (leb (held + 4 * packet_count p bs) 4096) (λ t. leb-true (held + 4 * packet_count p bs) 4096 t) (λ t. h)

pub sent_fours : (p : Packer) (bs : List ℕ) (held : ℕ) → held % 4 ≡ 0 → (sent_of p bs held).held % 4 ≡ 0
unfolding sent_of
sent_fours p bs held h =
    pick_both (λ (s : Sent). s.held % 4 ≡ 0) (leb (held + 4 * packet_count p bs) 4096) (omega arith) h

-- ---- packets are bytes

bytes_append : (xs ys : List ℕ) → AllBytes xs → AllBytes ys → AllBytes (xs ++ ys)
bytes_append xs ys hx hy = record { below = at xs hx.below }
  where
    at : (xs : List ℕ) → ((k : ℕ) → get_or xs k 0 < 256) → (k : ℕ) → get_or (xs ++ ys) k 0 < 256
    at [] h k = hy.below k
    at (x ∷ xs) h zero = h 0
    at (x ∷ xs) h (suc k) = at xs (λ j. h (suc j)) k

bytes_one : (b : ℕ) → b < 256 → AllBytes (b ∷ [])
bytes_one b h = record { below = at }
  where
    at : (k : ℕ) → get_or (b ∷ []) k 0 < 256
    at zero = h
    at (suc k) = omega arith

bytes_four : (w x y z : ℕ) → w < 256 → x < 256 → y < 256 → z < 256 → AllBytes (w ∷ x ∷ y ∷ z ∷ [])
bytes_four w x y z hw hx hy hz =
    bytes_append (w ∷ []) (x ∷ y ∷ z ∷ []) (bytes_one w hw)
    (bytes_append (x ∷ []) (y ∷ z ∷ []) (bytes_one x hx)
    (bytes_append (y ∷ []) (z ∷ []) (bytes_one y hy) (bytes_one z hz)))

none_bytes : AllBytes []
none_bytes = record { below = λ k. omega arith }

-- what one byte leaves is made of bytes
record FedBytes (f : Fed) : Type 0 where
  next : PackerBytes f.next
  packet : (cable : ℕ) → code_of f.event < 16 → AllBytes (packet_bytes cable f.event)

holding_bytes : (s : ℕ) (x : Bool) (bs : List ℕ) → s < 256 → AllBytes bs → PackerBytes (holding s x bs)
holding_bytes s x bs h all = record { status = h; first = all.below 0; second = all.below 1 }

packet_bytes_lem : (code : ℕ) (bs : List ℕ) → AllBytes bs → (cable : ℕ) → code < 16 → AllBytes (packet_bytes cable (packet code bs))
packet_bytes_lem code bs all cable h =
    bytes_four (header cable code) (get_or bs 0 0) (get_or bs 1 0) (get_or bs 2 0) (omega arith) (all.below 0) (all.below 1) (all.below 2)

held_bytes_lem : (p : Packer) → PackerBytes p → AllBytes (held_bytes p)
held_bytes_lem p h =
    pick_both AllBytes (eqb p.held 0) none_bytes
    (pick_both AllBytes (eqb p.held 1) (bytes_one p.first h.first)
    (bytes_append (p.first ∷ []) (p.second ∷ []) (bytes_one p.first h.first) (bytes_one p.second h.second)))

sysex_bytes : (p : Packer) (b : ℕ) (bs : List ℕ) → PackerBytes p → AllBytes bs → FedBytes (sysex_of p b bs)
sysex_bytes p b bs h all =
    pick_both FedBytes (eqb b 0xF7)
    (record { next = holding_bytes p.status false [] h.status none_bytes; packet = packet_bytes_lem (4 + length bs) bs all })
    (pick_both FedBytes (eqb (length bs) 3)
    (record { next = holding_bytes p.status true [] h.status none_bytes; packet = packet_bytes_lem 4 bs all })
    (record { next = holding_bytes p.status true bs h.status all; packet = λ cable l. none_bytes }))

running_byte : (s : ℕ) → s < 256 → running_of s < 256
unfolding running_of
running_byte s h = pick_both (λ n. n < 256) (leb 0xF0 s) (omega arith) h

message_bytes : (p : Packer) (bs : List ℕ) → PackerBytes p → AllBytes bs → FedBytes (message_of p bs)
message_bytes p bs h all =
    pick_both FedBytes (leb (message_length p.status) (length bs))
    (record { next = holding_bytes (running_of p.status) false [] (running_byte p.status h.status) none_bytes; packet = packet_bytes_lem (message_code p.status) bs all })
    (record { next = holding_bytes p.status false bs h.status all; packet = λ cable l. none_bytes })

data_bytes : (p : Packer) (b : ℕ) → PackerBytes p → b < 256 → FedBytes (fed_data p b)
data_bytes p b h hb =
    let start = pick (eqb p.held 0) (p.status ∷ []) (held_bytes p) in
    pick_both FedBytes (eqb p.status 0) (record { next = h; packet = λ cable l. none_bytes })
    (message_bytes p (start ++ (b ∷ [])) h
    (bytes_append start (b ∷ []) (pick_both AllBytes (eqb p.held 0) (bytes_one p.status h.status) (held_bytes_lem p h)) (bytes_one b hb)))

status_bytes : (p : Packer) (b : ℕ) → PackerBytes p → b < 256 → FedBytes (fed_status p b)
status_bytes p b h hb =
    pick_both FedBytes (eqb b 0xF0)
    (record { next = holding_bytes 0 true (b ∷ []) (omega arith) (bytes_one b hb); packet = λ cable l. none_bytes })
    (pick_both FedBytes (eqb b 0xF6)
    (record { next = record { status = omega arith; first = h.first; second = h.second }; packet = packet_bytes_lem 5 (b ∷ []) (bytes_one b hb) })
    (record { next = holding_bytes b false [] hb none_bytes; packet = λ cable l. none_bytes }))

feed_bytes : (p : Packer) (b : ℕ) → PackerBytes p → b < 256 → FedBytes (feed_of p b)
unfolding feed_of
feed_bytes p b h hb =
    pick_both FedBytes (leb 0xF8 b) (record { next = h; packet = packet_bytes_lem 0xF (b ∷ []) (bytes_one b hb) })
    (pick_both FedBytes p.sysex (sysex_bytes p b (held_bytes p ++ (b ∷ [])) h (bytes_append (held_bytes p) (b ∷ []) (held_bytes_lem p h) (bytes_one b hb)))
    (pick_both FedBytes (leb 0x80 b) (status_bytes p b h hb) (data_bytes p b h hb)))

made_bytes : (cable : ℕ) (e : Event) → AllBytes (packet_bytes cable e) → AllBytes (flat_map (packet_bytes cable) (made e))
unfolding flat_map
made_bytes cable None h = none_bytes
made_bytes cable (Some e) h = h

-- a packer fed bytes is made of bytes
pub fed_all_bytes : (p : Packer) (bs : List ℕ) → PackerBytes p → AllBytes bs → PackerBytes (fed_all p bs)
unfolding fed_all
fed_all_bytes p [] h all = h
fed_all_bytes p (b ∷ bs) h all =
    fed_all_bytes (feed_of p b).next bs (feed_bytes p b h (all.below 0)).next (record { below = λ k. all.below (suc k) })

-- the packets of bytes are bytes
pub packets_bytes : (cable : ℕ) (p : Packer) (bs : List ℕ) → PackerBytes p → AllBytes bs → AllBytes (packets_of cable p bs)
unfolding packets_of events_of flat_map
packets_bytes cable p [] h all = none_bytes
packets_bytes cable p (b ∷ bs) h all =
    let one = feed_bytes p b h (all.below 0) in
    let e = (feed_of p b).event in
    let rest = events_of (feed_of p b).next bs in
    rw (flat_map_append (packet_bytes cable) (made e) rest)
    (bytes_append (flat_map (packet_bytes cable) (made e)) (flat_map (packet_bytes cable) rest)
    (made_bytes cable e (one.packet cable (code_below p b h.status)))
    (packets_bytes cable (feed_of p b).next bs one.next (record { below = λ k. all.below (suc k) })))
