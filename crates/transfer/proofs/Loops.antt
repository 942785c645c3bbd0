-- A turn of each copy: the bytes that lie in one page.
use Rattle.std.proofs.Common.{◌≡◌, ℕ, zero, suc, ◌+◌, ◌-◌, ◌*◌, ◌%◌, ◌<◌, ◌≤◌, List, ◌++◌, length, get_or, take, drop, sym, refl, ap, ◌∙◌, subst, append_assoc, append-nil, le_of_eq, add-zero, add-suc, zero-add, arith, lit≤, length-drop, length-take-le, get_or-drop, take_all, get_or-take, drop-drop, ext_get_or, take-add}
use borrow.Rule.Slice.PartMut.{put_mid, Post-is}
use lib.Seq.{paste, paste-zero, length-paste, drop-length, take-paste, drop-paste}
use Rattle.bus.proofs.PageWords.{lost_shift}
use Rattle.bus.specs.Memory.{Memory, place, peek8, poke8, dropped8}
use Rattle.bus.specs.Sized.{Power}
use Rattle.bus.proofs.Pages.{shift, place_shift}
use Rattle.transfer.specs.Transfer.{tabulate, bytes_in, bytes_from, received, written, data_addr, dropped_out}
use Rattle.transfer.specs.Pages.{run_in, run_out}
use Rattle.transfer.proofs.Laws.{length_tabulate, get_d_tabulate, length_from, get_or_from, from_first}
use Rattle.transfer.proofs.Addresses.{addr_shift}
use Rattle.transfer.proofs.Runs.{lost_at}

-- how long a part is
pub part_count : (l : List ℕ) (i n : ℕ) → i + n ≤ length l → length (take (i + n - i) (drop i l)) ≡ n
part_count l i n room = length-take-le (i + n - i) (drop i l) (omega (arith, length-drop i l)) ∙ count
  where
    count : i + n - i ≡ n
    count = omega arith

-- ---- in

paste_part : (d : List ℕ) (at : ℕ) (s : List ℕ) (i n : ℕ) → at + i ≤ length d → i ≤ length s
    → put_mid (at + i) (at + i + n - (at + i)) (paste d at s i) (take n (drop i s)) ≡ paste d at s (i + n)
paste_part d at s i n hd hs =
    ap (λ (x : List ℕ). x ++ (take n (drop i s) ++ rest)) (take-paste d at s i (omega arith) hs)
    ∙ ap (λ (x : List ℕ). take at d ++ take i s ++ (take n (drop i s) ++ x)) tail
    ∙ sym (append_assoc (take at d ++ take i s) (take n (drop i s)) (drop (at + (i + n)) d))
    ∙ ap (λ (x : List ℕ). x ++ drop (at + (i + n)) d) (append_assoc (take at d) (take i s) (take n (drop i s)) ∙ ap (λ (x : List ℕ). take at d ++ x) (sym (take-add i n s)))
  where
    rest : List ℕ
    rest = drop (at + i + n - (at + i)) (drop (at + i) (paste d at s i))

    count : at + i + (at + i + n - (at + i)) ≡ at + (i + n)
    count = omega arith

    tail : rest ≡ drop (at + (i + n)) d
    tail =
        ap (drop (at + i + n - (at + i))) (drop-paste d at s i (omega arith) hs) ∙ drop-drop (at + i + n - (at + i)) (at + i) d
        ∙ ap (λ (x : ℕ). drop x d) count

-- a run within a page, as a part of the bytes from one on
pub run_from : (m : Memory) (ps : List ℕ) (s total i n : ℕ) → i + n ≤ total → data_addr ps (s + i) % 4096 + n ≤ 4096
    → run_in m (data_addr ps (s + i)) n ≡ take n (drop i (bytes_from m ps s total))
unfolding run_in
run_from m ps s total i n room h =
    ext_get_or 0 (tabulate n f) (take n (drop i b)) (length_tabulate n f ∙ sym long)
    (λ k less. at_k k (subst (λ (x : ℕ). k < x) (length_tabulate n f) less))
  where
    f : ℕ → ℕ
    f = λ k. peek8 m (data_addr ps (s + i) + k)

    b : List ℕ
    b = bytes_from m ps s total

    long : length (take n (drop i b)) ≡ n
    long = length-take-le n (drop i b) (omega (arith, length-drop i b, length_from m ps s total))

    sum : (k : ℕ) → s + i + k ≡ s + (i + k)
    sum k = omega arith

    at_k : (k : ℕ) → k < n → get_or (tabulate n f) k 0 ≡ get_or (take n (drop i b)) k 0
    at_k k less =
        get_d_tabulate n f k 0 less ∙ ap (peek8 m) (sym (addr_shift ps (s + i) k (omega arith)) ∙ ap (data_addr ps) (sum k))
        ∙ sym (get_or-take n (drop i b) k 0 less ∙ get_or-drop i b k 0 ∙ get_or_from m ps s total (i + k) (omega arith))

-- out after i of its bytes
pub partly : Memory → List ℕ → ℕ → List ℕ → ℕ → List ℕ
partly m ps s out i = paste out 0 (bytes_from m ps s (length out)) i

pub partly_none : (m : Memory) (ps : List ℕ) (s : ℕ) (out : List ℕ) → out ≡ partly m ps s out 0
unfolding partly
partly_none m ps s out = paste-zero out 0 (bytes_from m ps s (length out))

pub partly_all : (m : Memory) (ps : List ℕ) (s : ℕ) (out l : List ℕ) (i : ℕ) → l ≡ partly m ps s out i → i ≡ length out → l ≡ bytes_from m ps s (length out)
unfolding partly
partly_all m ps s out l i e all =
    e ∙ ap (paste out 0 b) all ∙ ap (λ (x : ℕ). take 0 out ++ take (length out) b ++ drop x out) (zero-add (length out))
    ∙ ap (λ (x : List ℕ). take 0 out ++ take (length out) b ++ x) (drop-length out)
    ∙ append-nil (take (length out) b)
    ∙ take_all (length out) b (le_of_eq (length_from m ps s (length out)))
  where
    b : List ℕ
    b = bytes_from m ps s (length out)

pub partly_length : (m : Memory) (ps : List ℕ) (s : ℕ) (out : List ℕ) (i : ℕ) → i ≤ length out → length (partly m ps s out i) ≡ length out
unfolding partly
partly_length m ps s out i h = length-paste out 0 (bytes_from m ps s (length out)) i (omega arith) (omega (arith, length_from m ps s (length out)))

-- a turn of the copy of a part
pub from_run : (m : Memory) (ps : List ℕ) (s : ℕ) (out₀ : List ℕ) (i n : ℕ) (out l : List ℕ) (a : ℕ) → out ≡ partly m ps s out₀ i
    → length out ≡ length out₀ → i + n ≤ length out₀ → a ≡ data_addr ps (s + i) → a % 4096 + n ≤ 4096
    → l ≡ run_in m a (length (take (i + n - i) (drop i out))) → put_mid i (i + n - i) out l ≡ partly m ps s out₀ (i + n)
unfolding partly
from_run m ps s out₀ i n out l a e same less p h q =
    ap (λ (x : List ℕ). put_mid i (i + n - i) x l) e
    ∙ ap (put_mid i (i + n - i) (paste out₀ 0 b i)) (q ∙ ap (run_in m a) (part_count out i n (omega arith)) ∙ ap (λ (x : ℕ). run_in m x n) p ∙ run_from m ps s (length out₀) i n less (subst (λ (x : ℕ). x % 4096 + n ≤ 4096) p h))
    ∙ subst (λ (x : ℕ). put_mid x (x + n - x) (paste out₀ 0 b i) (take n (drop i b)) ≡ paste out₀ 0 b (i + n)) (zero-add i) (paste_part out₀ 0 b i n (omega arith) (omega (arith, length_from m ps s (length out₀))))
  where
    b : List ℕ
    b = bytes_from m ps s (length out₀)

-- an area whose part from at on came back with the bytes of a transfer
pub part_received : (m : Memory) (ps : List ℕ) (n : ℕ) (out l : List ℕ) (at : ℕ) → at + n ≤ length out
    → l ≡ bytes_from m ps 0 (length (take (at + n - at) (drop at out))) → put_mid at (at + n - at) out l ≡ received m ps n out at
unfolding received
part_received m ps n out l at room e =
    ap (λ (x : List ℕ). put_mid at (at + n - at) out x) (e ∙ ap (bytes_from m ps 0) (part_count out at n room) ∙ from_first m ps n)
    ∙ ap (λ (x : List ℕ). take at out ++ (bytes_in m ps n ++ x)) (Post-is at (at + n) out (omega arith))
    ∙ sym (append_assoc (take at out) (bytes_in m ps n) (drop (at + n) out))

-- ---- out

run_written : (m : Memory) (ps s s' : List ℕ) (i n : ℕ) → data_addr ps i % 4096 + n ≤ 4096 → ((k : ℕ) → k < n → get_or s' k 0 ≡ get_or s (i + k) 0)
    → run_out (written m ps s i) (data_addr ps i) s' n ≡ written m ps s (i + n)
unfolding run_out written
run_written m ps s s' i zero h g = ap (written m ps s) (sym (add-zero i))
run_written m ps s s' i (suc k) h g =
    ap (λ (x : Memory). poke8 x (data_addr ps i + k) (get_or s' k 0)) (run_written m ps s s' i k (omega arith) (λ j less. g j (omega arith)))
    ∙ ap (λ (x : ℕ). poke8 (written m ps s (i + k)) x (get_or s' k 0)) (sym (addr_shift ps i k (omega arith)))
    ∙ ap (poke8 (written m ps s (i + k)) (data_addr ps (i + k))) (g k (omega arith))
    ∙ ap (written m ps s) (sym (add-suc i k))

-- a turn of the copy out
pub out_run : (m : Memory) (ps s : List ℕ) (i n : ℕ) (m₁ m₂ : Memory) (a : ℕ) → m₁ ≡ written m ps s i → i + n ≤ length s → a ≡ data_addr ps i
    → a % 4096 + n ≤ 4096 → m₂ ≡ run_out m₁ a (take (i + n - i) (drop i s)) (length (take (i + n - i) (drop i s))) → m₂ ≡ written m ps s (i + n)
out_run m ps s i n m₁ m₂ a e room p h q =
    q ∙ ap (run_out m₁ a part) long ∙ ap (λ (x : Memory). run_out x a part n) e ∙ ap (λ (x : ℕ). run_out (written m ps s i) x part n) p
    ∙ run_written m ps s part i n (subst (λ (x : ℕ). x % 4096 + n ≤ 4096) p h) (λ k less. get_or-take (i + n - i) (drop i s) k 0 (omega arith) ∙ get_or-drop i s k 0)
  where
    part : List ℕ
    part = take (i + n - i) (drop i s)

    long : length part ≡ n
    long = part_count s i n room

dropped_shift : (a k : ℕ) → a % 4096 + k < 4096 → dropped8 (a + k) ≡ dropped8 a
dropped_shift a k h =
    lost_at 4096 (a + k) (shift (place 4096 a) k) (sym (place_shift a k power h)) ∙ lost_shift (place 4096 a) k ∙ sym (lost_at 4096 a (place 4096 a) refl)
  where
    power : Power 4096
    power = record { exponent = 12; low = lit≤ tt; high = lit≤ tt; power = refl }

run_dropped : (ps : List ℕ) (i n : ℕ) → data_addr ps i % 4096 + n ≤ 4096 → dropped_out ps i + n * dropped8 (data_addr ps i) ≡ dropped_out ps (i + n)
unfolding dropped_out
run_dropped ps i zero h = omega (arith, ap (dropped_out ps) (add-zero i))
run_dropped ps i (suc k) h =
    omega
    (arith, run_dropped ps i k (omega arith), dropped_shift (data_addr ps i) k (omega arith), ap dropped8 (addr_shift ps i k (omega arith)), ap (dropped_out ps) (add-suc i k))

-- what a turn of the copy out drops
pub dropped_run : (ps s : List ℕ) (i n : ℕ) (t d a : ℕ) → t ≡ dropped_out ps i → i + n ≤ length s → a ≡ data_addr ps i
    → a % 4096 + n ≤ 4096 → d ≡ length (take (i + n - i) (drop i s)) * dropped8 a → t + d ≡ dropped_out ps (i + n)
dropped_run ps s i n t d a e room p h q =
    ap (λ (x : ℕ). x + d) e
    ∙ ap (λ (x : ℕ). dropped_out ps i + x) (q ∙ ap (λ (x : ℕ). x * dropped8 a) long ∙ ap (λ (x : ℕ). n * dropped8 x) p)
    ∙ run_dropped ps i n (subst (λ (x : ℕ). x % 4096 + n ≤ 4096) p h)
  where
    long : length (take (i + n - i) (drop i s)) ≡ n
    long = part_count s i n room
