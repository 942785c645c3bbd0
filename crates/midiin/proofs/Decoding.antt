-- Packets decoded piece by piece: a piece of whole packets, or the last one, splits what is decoded.
use Rattle.std.specs.Simd.{first_chunks}
use Rattle.std.proofs.Common.{◌≡◌, ℕ, zero, suc, ◌+◌, ◌-◌, ◌*◌, ◌/◌, ◌<◌, ◌≤◌, min, List, [], ◌∷◌, ◌++◌, length, get_or, take, drop, sym, refl, ap, ◌∙◌, subst, arith, length-append, drop-cons, drop-drop}
use native.Mathlib.Nat.{min-le_left, min-le_right}
use lib.Seq.{sets, length-sets}
use Rattle.bus.specs.Memory.{Memory}
use Rattle.transfer.specs.Transfer.{bytes_in, bytes_from}
use Rattle.transfer.proofs.Laws.{length_bytes_in, from_in}
use Rattle.bits.proofs.Lists.{sets_append}
use Rattle.model.specs.Streams.{packet_data, packet_cables, each_packet, decoded}
use Rattle.model.proofs.Decoded.{data_few, cables_few, each_few, InPacket, data_inside, cables_inside, each_split, each_take, cables_length}
use Rattle.midiin.specs.Promises.{Decodes}

-- what is taken of packets: three bytes at most of each, by its own four
pub record Form (form : List ℕ → List ℕ) : Type 0 where
  pub few : (bs : List ℕ) → length (form bs) ≤ 3
  pub own : InPacket form

pub bytes_form : Form packet_data
bytes_form = record { few = data_few; own = data_inside }

pub cables_form : Form packet_cables
cables_form = record { few = cables_few; own = cables_inside }

-- ---- a loop over the pieces of a run: what is left makes the whole

-- an area into which a form of packets goes
pub record Filling (form : List ℕ → List ℕ) (bs out₀ out : List ℕ) (start at i : ℕ) : Type 0 where
  pub room : at + 3 * ((length bs - i) / 4) ≤ length out
  pub area : sets out at (each_packet form ((length bs - i) / 4) (drop i bs)) ≡ sets out₀ start (each_packet form (length bs / 4) bs)

-- both areas, and the index behind what is in them
pub record Decoding (bs out₀ out cs₀ cs : List ℕ) (start at i : ℕ) : Type 0 where
  pub inside : i ≤ length bs
  pub bytes : Filling packet_data bs out₀ out start at i
  pub cables : Filling packet_cables bs cs₀ cs start at i
  pub end : at + length (decoded ((length bs - i) / 4) (drop i bs)) ≡ start + length (decoded (length bs / 4) bs)

module _ {form : List ℕ → List ℕ} {bs out₀ : List ℕ} {start : ℕ} where
  filling_first : start + 3 * (length bs / 4) ≤ length out₀ → Filling form bs out₀ out₀ start start 0
  filling_first h =
      let all : (length bs - 0) / 4 ≡ length bs / 4 = omega arith in
      record { room = omega arith; area = rw all }

  filling_end : {out : List ℕ} {at i : ℕ} → Filling form bs out₀ out start at i → (length bs - i) / 4 ≡ 0 → out ≡ sets out₀ start (each_packet form (length bs / 4) bs)
  unfolding each_packet
  filling_end inv none = rw none at inv.area

module _ {bs out₀ cs₀ : List ℕ} {start : ℕ} where
  pub decoding_first : start + 3 * (length bs / 4) ≤ length out₀ → start + 3 * (length bs / 4) ≤ length cs₀ → Decoding bs out₀ out₀ cs₀ cs₀ start start 0
  decoding_first h k =
      let all : (length bs - 0) / 4 ≡ length bs / 4 = omega arith in
      record {
        inside = omega arith;
        bytes = filling_first h;
        cables = filling_first k;
        end = rw all;
      }

  module _ {out cs : List ℕ} {at i : ℕ} (inv : Decoding bs out₀ out cs₀ cs start at i) (past : length bs < i + 4) where
    none : (length bs - i) / 4 ≡ 0
    none = omega (arith, inv.inside)

    pub decoding_end : Decodes (length bs / 4) bs out₀ out cs₀ cs start at
    unfolding each_packet
    decoding_end =
        record {
          area = filling_end inv.bytes none;
          cables = filling_end inv.cables none;
          behind = let nil : at ≡ at + 0 = omega arith in nil ∙ (rw none at inv.end);
        }

-- a piece of n bytes from i on
module _ (bs : List ℕ) (i n : ℕ) (more : i + n ≤ length bs) (whole : i + n < length bs → n ≡ 4 * (n / 4)) where
  abbrev later : ℕ
  later = (length bs - (i + n)) / 4

  abbrev piece : List ℕ
  piece = take n (drop i bs)

  counts : (length bs - i) / 4 ≡ n / 4 + later
  counts = grind arith

  module _ {form : List ℕ → List ℕ} (f : Form form) where
    rest : each_packet form later (drop (4 * (n / 4)) (drop i bs)) ≡ each_packet form later (drop (i + n) bs)
    unfolding each_packet
    rest = by_later later refl
      where
        by_later : (k : ℕ) → later ≡ k → each_packet form k (drop (4 * (n / 4)) (drop i bs)) ≡ each_packet form k (drop (i + n) bs)
        by_later zero e = refl
        by_later (suc k) e = let w : n ≡ 4 * (n / 4) = whole (omega arith) in rw (drop-drop (4 * (n / 4)) i bs, ← w)

    split : each_packet form ((length bs - i) / 4) (drop i bs) ≡ each_packet form (n / 4) piece ++ each_packet form later (drop (i + n) bs)
    split = rw (counts, each_split form (n / 4) later (drop i bs), each_take form f.own (n / 4) n (drop i bs) (omega arith), rest)

    module _ {out₀ out : List ℕ} {start at : ℕ} (inv : Filling form bs out₀ out start at i) where
      filling_room : at + 3 * (n / 4) ≤ length out
      filling_room = omega (arith, inv.room, counts)

      filling_more : {out' : List ℕ} {at' : ℕ} → out' ≡ sets out at (each_packet form (n / 4) piece) → at' ≡ at + length (each_packet form (n / 4) piece) → Filling form bs out₀ out' start at' (i + n)
      filling_more {out'} {at'} puts behind =
          let put = each_packet form (n / 4) piece in
          let left = each_packet form later (drop (i + n) bs) in
          let long : length out' ≡ length out = ap length puts ∙ length-sets out at put in
          record {
            room = omega (arith, inv.room, counts, behind, each_few form f.few (n / 4) piece, long);
            area = rw (puts, behind, ← sets_append out at put left, ← split) inv.area;
          }

  module _ {out₀ out cs₀ cs : List ℕ} {start at : ℕ} (inv : Decoding bs out₀ out cs₀ cs start at i) where
    piece_room : (at + 3 * (n / 4) ≤ length out) × (at + 3 * (n / 4) ≤ length cs)
    piece_room = (filling_room bytes_form inv.bytes, filling_room cables_form inv.cables)

    decoding_more : {out' cs' : List ℕ} {at' : ℕ} → Decodes (n / 4) piece out out' cs cs' at at' → Decoding bs out₀ out' cs₀ cs' start at' (i + n)
    decoding_more {out'} {cs'} {at'} d =
        let put = decoded (n / 4) piece in
        let left = decoded later (drop (i + n) bs) in
        record {
          inside = more;
          bytes = filling_more bytes_form inv.bytes d.area d.behind;
          cables = filling_more cables_form inv.cables d.cables (rw (cables_length (n / 4) piece) d.behind);
          end =
              let joined = rw (split bytes_form, length-append put left) at inv.end in
              omega (arith, d.behind, joined);
        }

-- ---- one packet

-- its four bytes
pub take_four : (bs : List ℕ) (i : ℕ) → i + 4 ≤ length bs → take 4 (drop i bs) ≡ get_or bs i 0 ∷ get_or bs (i + 1) 0 ∷ get_or bs (i + 2) 0 ∷ get_or bs (i + 3) 0 ∷ []
take_four bs i h =
    ap (take 4)
    (next i (i + 1) (omega arith) (omega arith) ∙ ap (λ (l : List ℕ). get_or bs i 0 ∷ l)
    (next (i + 1) (i + 2) (omega arith) (omega arith) ∙ ap (λ (l : List ℕ). get_or bs (i + 1) 0 ∷ l)
    (next (i + 2) (i + 3) (omega arith) (omega arith) ∙ ap (λ (l : List ℕ). get_or bs (i + 2) 0 ∷ l)
    (next (i + 3) (i + 4) (omega arith) (omega arith)))))
  where
    next : (j k : ℕ) → suc j ≡ k → j < length bs → drop j bs ≡ get_or bs j 0 ∷ drop k bs
    next j k e l = drop-cons bs j 0 l ∙ ap (λ (n : ℕ). get_or bs j 0 ∷ drop n bs) e

-- four bytes of a list
abbrev pub four : List ℕ → List ℕ
four x = get_or x 0 0 ∷ get_or x 1 0 ∷ get_or x 2 0 ∷ get_or x 3 0 ∷ []

-- one of the first k packets
pub packet_at : (k i : ℕ) (bs : List ℕ) → i < k → get_or (first_chunks 4 k bs) i [] ≡ take 4 (drop (4 * i) bs)
packet_at zero i bs h = absurd (omega arith)
packet_at (suc k) zero bs h = refl
packet_at (suc k) (suc i) bs h =
    let next : 4 + 4 * i ≡ 4 * suc i = omega arith in
    packet_at k i (drop 4 bs) (omega arith) ∙ ap (take 4) (drop-drop (4 * i) 4 bs ∙ ap (λ (n : ℕ). drop n bs) next)

-- a turn of the loop over packets
pub decoding_packet : {bs out₀ out out' cs₀ cs cs' : List ℕ} {start at at' i : ℕ} → Decoding bs out₀ out cs₀ cs start at (4 * i) → i < length bs / 4
    → {x : List ℕ} → x ≡ take 4 (drop (4 * i) bs) → Decodes 1 (four x) out out' cs cs' at at' → Decoding bs out₀ out' cs₀ cs' start at' (4 * (i + 1))
decoding_packet {bs} {out₀} {out} {out'} {cs₀} {cs} {cs'} {start} {at} {at'} {i} inv h {x} e d =
    let fits : 4 * i + 4 ≤ length bs = omega arith in
    let next : 4 * i + 4 ≡ 4 * (i + 1) = omega arith in
    let bytes = take_four bs (4 * i) fits in
    let packet : four x ≡ take 4 (drop (4 * i) bs) = ap four (e ∙ bytes) ∙ sym bytes in
    rw (← next) (decoding_more bs (4 * i) 4 fits (λ more. refl) inv (rw packet at d))

-- ---- a turn of the loop over the pieces of a run of total bytes

module _ (total from n : ℕ) (goes : from < total) (is : n ≡ min 512 (total - from)) where
  pub piece_few : n ≤ 512
  piece_few = omega (arith, is, min-le_left 512 (total - from))

  pub piece_inside : from + n ≤ total
  piece_inside = omega (arith, is, min-le_right 512 (total - from))

  piece_whole : from + n < total → n ≡ 4 * (n / 4)
  piece_whole more = omega (arith, is)

module _ (m : Memory) (ps : List ℕ) (total : ℕ) where
  size : length (bytes_in m ps total) ≡ total
  size = length_bytes_in m ps total

  module _ {out₀ cs₀ : List ℕ} {start : ℕ} where
    pub run_first : start + 3 * (total / 4) ≤ length out₀ → start + 3 * (total / 4) ≤ length cs₀ → Decoding (bytes_in m ps total) out₀ out₀ cs₀ cs₀ start start 0
    run_first h k = decoding_first (rw size h) (rw size k)

    module _ {out cs : List ℕ} {at from : ℕ} (inv : Decoding (bytes_in m ps total) out₀ out cs₀ cs start at from) where
      pub run_end : total ≤ from → Decodes (total / 4) (bytes_in m ps total) out₀ out cs₀ cs start at
      run_end h = subst (λ (k : ℕ). Decodes (k / 4) (bytes_in m ps total) out₀ out cs₀ cs start at) size (decoding_end inv (omega (arith, size)))

      module _ (goes : from < total) (n : ℕ) (is : n ≡ min 512 (total - from)) where
        inside_bytes : from + n ≤ length (bytes_in m ps total)
        inside_bytes = omega (arith, size, piece_inside total from n goes is)

        whole_pieces : from + n < length (bytes_in m ps total) → n ≡ 4 * (n / 4)
        whole_pieces more = piece_whole total from n goes is (omega (arith, size))

        pub run_room : (at + 3 * (n / 4) ≤ length out) × (at + 3 * (n / 4) ≤ length cs)
        run_room = piece_room (bytes_in m ps total) from n inside_bytes whole_pieces inv

        pub decoding_run : (k : ℕ) → k ≡ n → {out' cs' : List ℕ} {at' : ℕ} → Decodes (k / 4) (bytes_from m ps from k) out out' cs cs' at at' → Decoding (bytes_in m ps total) out₀ out' cs₀ cs' start at' (from + n)
        decoding_run k e {out'} {cs'} {at'} d =
            decoding_more (bytes_in m ps total) from n inside_bytes whole_pieces inv
            (rw (e, from_in m ps from n total (piece_inside total from n goes is)) at d)
