-- What MIDI packets from the device hold, by the indices of their bytes (USB MIDI 1.0, section 4 and table 4-1; usbhost.rs 797-806).
use Prim.Native.Nat.{ℕ, zero, suc, ◌+◌, ◌-◌, ◌*◌, ◌/◌, ◌%◌, ◌≤◌, ◌<◌}
use mathlib.Core.Path.{◌≡◌, refl, ap, ap₂, sym, subst, ◌∙◌}
use mathlib.Core.Bool.{Bool, true, false}
use mathlib.Core.List.{List, [], ◌∷◌, ◌++◌, append_assoc, append-nil, map, foldr, flat_map}
use native.Mathlib.Omega.{arith}
use borrow.Author.Tests.{leb-true}
use lib.Dec.{leb}
use native.Mathlib.Nat.{min-le_left}
use lib.ListN.{length, get_or, take, drop, replicate, length-append, length-take, length-drop, length-replicate}
use lib.Seq.{ext_get_or, length-take-le, take-nil, get_or-take, get_or-drop, take-take, drop-drop, take-append_seam, drop_at}
use Rattle.bits.specs.Pick.{pick}
use Rattle.bus.specs.Steps.{replay, replay_append, and_then, choose}
use Rattle.transfer.specs.Transfer.{tabulate}
use Rattle.transfer.proofs.Laws.{length_tabulate, get_d_tabulate, tabulate_same}
use Rattle.midi.specs.Packer.{byte_count}
use Rattle.midi.proofs.Table.{every_in}
use Rattle.dtd.specs.Dtd.{endpoint, Run, run_dtds}
use Rattle.record.specs.Record.{midi_dtds}
use Rattle.record.specs.World.{World, bus_of}
use Rattle.record.specs.Change.{Change, count, cabled, received, apply, nothing, one, runs, ran_stores}
use Rattle.model.specs.Streams.{brought, packet_data, packet_cables, each_packet, decoded, cables_of, reads}
use Rattle.model.specs.Index.{bytes_of_packet, cables_of_packet, one_read}

-- ---- how many bytes a packet holds, by its code (table 4-1; 799-804)

pub record PacketSizes : Type 0 where
  pub none : map byte_count (0x0 ∷ 0x1 ∷ []) ≡ replicate 2 0
  pub one : map byte_count (0x5 ∷ 0xF ∷ []) ≡ replicate 2 1
  pub two : map byte_count (0x2 ∷ 0x6 ∷ 0xC ∷ 0xD ∷ []) ≡ replicate 4 2
  pub three : map byte_count (0x3 ∷ 0x4 ∷ 0x7 ∷ 0x8 ∷ 0x9 ∷ 0xA ∷ 0xB ∷ 0xE ∷ []) ≡ replicate 8 3

pub packet_sizes : PacketSizes
unfolding byte_count
packet_sizes = record { none = refl; one = refl; two = refl; three = refl }

-- three at most
pub count_few : (x : ℕ) → byte_count (x % 16) ≤ 3
unfolding byte_count
count_few x = leb-true (byte_count (x % 16)) 3 (every_in (λ c. leb (byte_count c) 3) 0 16 refl (x % 16) (omega arith) (omega arith))

-- ---- what is decoded

-- bytes one behind the other, by their indices
part_bytes : (k o : ℕ) (bs : List ℕ) → o + k ≤ length bs → take k (drop o bs) ≡ tabulate k (λ j. get_or bs (o + j) 0)
part_bytes k o bs h =
    let long : length (take k (drop o bs)) ≡ k = length-take-le k (drop o bs) (omega (arith, length-drop o bs)) in
    ext_get_or 0 (take k (drop o bs)) (tabulate k (λ j. get_or bs (o + j) 0)) (long ∙ sym (length_tabulate k (λ j. get_or bs (o + j) 0)))
    (λ j b.
    let less : j < k = subst (λ (x : ℕ). j < x) long b in
    get_or-take k (drop o bs) j 0 less ∙ get_or-drop o bs j 0 ∙ sym (get_d_tabulate k (λ j. get_or bs (o + j) 0) j 0 less))

-- packet s, where the packets before it have been passed
packet_at : (s : ℕ) (bs : List ℕ) → 4 * s + 4 ≤ length bs
    → take (byte_count (get_or (drop (4 * s) bs) 0 0 % 16)) (drop 1 (drop (4 * s) bs)) ≡ bytes_of_packet bs s
packet_at s bs h =
    let e : 4 * s + 0 ≡ 4 * s = omega arith in
    ap₂ (λ (x : ℕ) (l : List ℕ). take (byte_count (x % 16)) l) (get_or-drop (4 * s) bs 0 0 ∙ ap (λ (k : ℕ). get_or bs k 0) e) (drop-drop 1 (4 * s) bs)
    ∙ part_bytes (byte_count (get_or bs (4 * s) 0 % 16)) (4 * s + 1) bs (omega (arith, count_few (get_or bs (4 * s) 0)))

next : (s n : ℕ) → tabulate n (λ i. suc s + i) ≡ tabulate n (λ i. s + suc i)
next s n = tabulate_same n (λ i. suc s + i) (λ i. s + suc i) (λ i b. omega arith)

repeated : (n x : ℕ) → replicate n x ≡ tabulate n (λ j. x)
unfolding tabulate
repeated zero x = refl
repeated (suc n) x = ap (λ (l : List ℕ). x ∷ l) (repeated n x)

-- its cables
cables_at : (s : ℕ) (bs : List ℕ) → 4 * s + 4 ≤ length bs → packet_cables (drop (4 * s) bs) ≡ cables_of_packet bs s
cables_at s bs h =
    let e : 4 * s + 0 ≡ 4 * s = omega arith in
    let k = byte_count (get_or bs (4 * s) 0 % 16) in
    ap₂ (λ (n x : ℕ). replicate n (x / 16)) (ap length (packet_at s bs h) ∙ length_tabulate k (λ j. get_or bs (4 * s + 1 + j) 0))
    (get_or-drop (4 * s) bs 0 0 ∙ ap (λ (i : ℕ). get_or bs i 0) e)
    ∙ repeated k (get_or bs (4 * s) 0 / 16)

-- n packets from packet s on, and what is taken of each, by its index
module _ (form : List ℕ → List ℕ) (by : List ℕ → ℕ → List ℕ) (at-packet : (s : ℕ) (bs : List ℕ) → 4 * s + 4 ≤ length bs → form (drop (4 * s) bs) ≡ by bs s) where
  from : (n s : ℕ) (bs : List ℕ) → 4 * s + 4 * n ≤ length bs → each_packet form n (drop (4 * s) bs) ≡ flat_map (by bs) (tabulate n (λ i. s + i))
  unfolding each_packet tabulate flat_map
  from zero s bs h = refl
  from (suc n) s bs h =
      let e : 4 * s + 4 ≡ 4 * suc s = omega arith in
      let e₀ : s ≡ s + 0 = omega arith in
      ap₂ ◌++◌ (at-packet s bs (omega arith) ∙ ap (by bs) e₀)
      (ap (each_packet form n) (drop-drop 4 (4 * s) bs ∙ ap (λ (k : ℕ). drop k bs) e) ∙ from n (suc s) bs (omega arith) ∙ ap (flat_map (by bs)) (next s n))

  -- packets 0, 1, .., n - 1, in order, and nothing else
  each_packet_lem : (n : ℕ) (bs : List ℕ) → 4 * n ≤ length bs → each_packet form n bs ≡ flat_map (by bs) (tabulate n (λ i. i))
  each_packet_lem n bs h =
      from n 0 bs (omega arith) ∙ ap (flat_map (by bs)) (tabulate_same n (λ i. 0 + i) (λ i. i) (λ i b. omega arith))

-- the bytes of packets, and their cables
pub decoded_bytes : (n : ℕ) (bs : List ℕ) → 4 * n ≤ length bs → decoded n bs ≡ flat_map (bytes_of_packet bs) (tabulate n (λ i. i))
decoded_bytes = each_packet_lem packet_data bytes_of_packet packet_at

pub cables_bytes : (n : ℕ) (bs : List ℕ) → 4 * n ≤ length bs → cables_of n bs ≡ flat_map (cables_of_packet bs) (tabulate n (λ i. i))
cables_bytes = each_packet_lem packet_cables cables_of_packet cables_at

-- of a run: all its whole packets (797)
pub decoded_run : (bs : List ℕ) → decoded (length bs / 4) bs ≡ flat_map (bytes_of_packet bs) (tabulate (length bs / 4) (λ i. i))
decoded_run bs = decoded_bytes (length bs / 4) bs (omega arith)

cables_run : (bs : List ℕ) → cables_of (length bs / 4) bs ≡ flat_map (cables_of_packet bs) (tabulate (length bs / 4) (λ i. i))
cables_run bs = cables_bytes (length bs / 4) bs (omega arith)

-- a cable for each byte, of any bytes
pub cables_length : (n : ℕ) (bs : List ℕ) → length (cables_of n bs) ≡ length (decoded n bs)
unfolding each_packet
cables_length zero bs = refl
cables_length (suc n) bs =
    length-append (packet_cables bs) (cables_of n (drop 4 bs))
    ∙ ap₂ ◌+◌ (length-replicate (length (packet_data bs)) (get_or bs 0 0 / 16)) (cables_length n (drop 4 bs))
    ∙ sym (length-append (packet_data bs) (decoded n (drop 4 bs)))

-- how many bytes the packets of some indices have
counts : (n : ℕ) (bs : List ℕ) (f : ℕ → ℕ)
    → length (flat_map (bytes_of_packet bs) (tabulate n f)) ≡ foldr ◌+◌ 0 (tabulate n (λ i. byte_count (get_or bs (4 * f i) 0 % 16)))
unfolding tabulate flat_map
counts zero bs f = refl
counts (suc n) bs f =
    let k = byte_count (get_or bs (4 * f 0) 0 % 16) in
    length-append (bytes_of_packet bs (f 0)) (flat_map (bytes_of_packet bs) (tabulate n (λ i. f (suc i))))
    ∙ ap₂ ◌+◌ (length_tabulate k (λ j. get_or bs (4 * f 0 + 1 + j) 0)) (counts n bs (λ i. f (suc i)))

-- none is lost: there are as many as the codes say
pub decoded_length : (n : ℕ) (bs : List ℕ) → 4 * n ≤ length bs
    → length (decoded n bs) ≡ foldr ◌+◌ 0 (tabulate n (λ i. byte_count (get_or bs (4 * i) 0 % 16)))
decoded_length n bs h = ap length (decoded_bytes n bs h) ∙ counts n bs (λ i. i)

-- three at most of a packet, and so of n
pub data_few : (bs : List ℕ) → length (packet_data bs) ≤ 3
data_few bs =
    let k = byte_count (get_or bs 0 0 % 16) in
    omega (arith, length-take k (drop 1 bs), min-le_left k (length (drop 1 bs)), count_few (get_or bs 0 0))

pub cables_few : (bs : List ℕ) → length (packet_cables bs) ≤ 3
cables_few bs = omega (arith, length-replicate (length (packet_data bs)) (get_or bs 0 0 / 16), data_few bs)

pub each_few : (form : List ℕ → List ℕ) → ((bs : List ℕ) → length (form bs) ≤ 3) → (n : ℕ) (bs : List ℕ) → length (each_packet form n bs) ≤ 3 * n
unfolding each_packet
each_few form few zero bs = omega arith
each_few form few (suc n) bs = omega (arith, length-append (form bs) (each_packet form n (drop 4 bs)), few bs, each_few form few n (drop 4 bs))

pub decoded_few : (n : ℕ) (bs : List ℕ) → length (decoded n bs) ≤ 3 * n
decoded_few n bs = each_few packet_data data_few n bs

-- ---- packets one behind the other

drop_take : (i n : ℕ) (l : List ℕ) → drop i (take n l) ≡ take (n - i) (drop i l)
drop_take zero n l = let same : n ≡ n - 0 = omega arith in ap (λ (k : ℕ). take k l) same
drop_take (suc i) zero l = let none : 0 - suc i ≡ 0 = omega arith in sym (ap (λ (k : ℕ). take k (drop (suc i) l)) none)
drop_take (suc i) (suc n) [] = sym (take-nil (suc n - suc i))
drop_take (suc i) (suc n) (x ∷ l) = let less : n - i ≡ suc n - suc i = omega arith in drop_take i n l ∙ ap (λ (k : ℕ). take k (drop i l)) less

-- what is taken of a packet lies in its four bytes
abbrev pub InPacket : (List ℕ → List ℕ) → Type 0
InPacket form = (n : ℕ) (bs : List ℕ) → 4 ≤ n → form (take n bs) ≡ form bs

pub data_inside : InPacket packet_data
data_inside n bs h =
    let first : get_or (take n bs) 0 0 ≡ get_or bs 0 0 = get_or-take n bs 0 0 (omega arith) in
    let few : byte_count (get_or bs 0 0 % 16) ≤ 3 = count_few (get_or bs 0 0) in
    ap₂ (λ (x : ℕ) (l : List ℕ). take (byte_count (x % 16)) l) first (drop_take 1 n bs) ∙ take-take (byte_count (get_or bs 0 0 % 16)) (n - 1) (drop 1 bs) (omega arith)

pub cables_inside : InPacket packet_cables
cables_inside n bs h = ap₂ (λ (l : List ℕ) (x : ℕ). replicate (length l) (x / 16)) (data_inside n bs h) (get_or-take n bs 0 0 (omega arith))

module _ (form : List ℕ → List ℕ) where
  -- k packets and then n
  pub each_split : (k n : ℕ) (bs : List ℕ) → each_packet form (k + n) bs ≡ each_packet form k bs ++ each_packet form n (drop (4 * k) bs)
  unfolding each_packet
  each_split zero n bs = let none : zero + n ≡ n = omega arith in ap (λ (x : ℕ). each_packet form x bs) none
  each_split (suc k) n bs =
      let more : suc k + n ≡ suc (k + n) = omega arith in
      let far : 4 + 4 * k ≡ 4 * suc k = omega arith in
      ap (λ (x : ℕ). each_packet form x bs) more
      ∙ ap (λ (l : List ℕ). form bs ++ l) (each_split k n (drop 4 bs) ∙ ap (λ (l : List ℕ). each_packet form k (drop 4 bs) ++ each_packet form n l) (drop-drop (4 * k) 4 bs ∙ ap (λ (x : ℕ). drop x bs) far))
      ∙ sym (append_assoc (form bs) (each_packet form k (drop 4 bs)) (each_packet form n (drop (4 * suc k) bs)))

  module _ (inside : InPacket form) where
    -- what lies behind the packets does not matter
    pub each_take : (k n : ℕ) (bs : List ℕ) → 4 * k ≤ n → each_packet form k (take n bs) ≡ each_packet form k bs
    unfolding each_packet
    each_take zero n bs h = refl
    each_take (suc k) n bs h =
        ap₂ ◌++◌ (inside n bs (omega arith)) (ap (each_packet form k) (drop_take 4 n bs) ∙ each_take k (n - 4) (drop 4 bs) (omega arith))

    -- k packets, and n behind them
    pub each_append : (k n : ℕ) (xs ys : List ℕ) → length xs ≡ 4 * k → each_packet form (k + n) (xs ++ ys) ≡ each_packet form k xs ++ each_packet form n ys
    each_append k n xs ys e =
        each_split k n (xs ++ ys)
        ∙ ap₂ (λ (l m : List ℕ). l ++ each_packet form n m)
        (sym (each_take k (length xs) (xs ++ ys) (omega arith)) ∙ ap (each_packet form k) (take-append_seam xs ys))
        (drop_at xs ys (4 * k) e)

-- ---- a read of the MIDI endpoint (791-807)

-- what a read counts and gives: its bytes, bs, and their cables, cs
abbrev got : List ℕ → List ℕ → List Change
got cs bs = count midi_dtds 1 ∷ cabled cs ∷ received bs ∷ []

-- a read with its run as it is
abbrev read_by : ℕ → World → Run → List Change
read_by n w r =
    let own = ran_stores (endpoint 1 true) r in
    let cs = cables_of (length r.bytes / 4) r.bytes in
    let bs = decoded (length r.bytes / 4) r.bytes in
    own ++ pick (brought r) (got cs bs ++ reads n (replay apply (got cs bs) (replay apply own w))) []

reads_open : (n : ℕ) (w : World) → reads (suc n) w ≡ read_by n w (run_dtds (endpoint 1 true) [] (bus_of w))
unfolding reads runs one and_then choose nothing
reads_open n w = refl

module _ (n : ℕ) (w : World) (r : Run) (is : r ≡ run_dtds (endpoint 1 true) [] (bus_of w)) where
  -- one that brought a byte or a completion, and then the reads that are left
  pub read_received : brought r ≡ true → reads (suc n) w ≡ one_read r ++ reads n (replay apply (one_read r) w)
  read_received h =
      let own = ran_stores (endpoint 1 true) r in
      let old = cables_of (length r.bytes / 4) r.bytes in
      let cs = flat_map (cables_of_packet r.bytes) (tabulate (length r.bytes / 4) (λ i. i)) in
      let bs = flat_map (bytes_of_packet r.bytes) (tabulate (length r.bytes / 4) (λ i. i)) in
      reads_open n w
      ∙ ap (read_by n w) (sym is)
      ∙ ap₂ (λ (t : Bool) (l : List ℕ). own ++ pick t (got old l ++ reads n (replay apply (got old l) (replay apply own w))) []) h (decoded_run r.bytes)
      ∙ ap (λ (l : List ℕ). own ++ (got l bs ++ reads n (replay apply (got l bs) (replay apply own w)))) (cables_run r.bytes)
      ∙ ap (λ (v : World). own ++ (got cs bs ++ reads n v)) (sym (replay_append apply own (got cs bs) w))
      ∙ sym (append_assoc own (got cs bs) (reads n (replay apply (own ++ got cs bs) w)))

  -- any other ends them
  pub read_none : brought r ≡ false → reads (suc n) w ≡ ran_stores (endpoint 1 true) r
  read_none h =
      let own = ran_stores (endpoint 1 true) r in
      let cs = cables_of (length r.bytes / 4) r.bytes in
      let bs = decoded (length r.bytes / 4) r.bytes in
      reads_open n w
      ∙ ap (read_by n w) (sym is)
      ∙ ap (λ (t : Bool). own ++ pick t (got cs bs ++ reads n (replay apply (got cs bs) (replay apply own w))) []) h
      ∙ append-nil own
