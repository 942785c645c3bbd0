-- The laws of a transfer's definitions: lengths, elements, and the bytes from one on as a part of all.
use Rattle.std.proofs.Common.{◌≡◌, ℕ, zero, suc, ◌+◌, ◌<◌, ◌≤◌, List, ◌∷◌, ◌++◌, length, get_or, take, drop, sym, refl, ap, ◌∙◌, subst, ap₂, le_of_eq, le_refl, le_of_suc-le-suc, not-suc-le-zero, arith, length-append, length-drop, length-take-le, get_or-drop, take_all, get_or-take, ext_get_or}
use Rattle.bus.specs.Memory.{Memory, peek8}
use Rattle.bus.proofs.Places.{Kept, kept_refl, kept_trans, kept_poke8}
use Rattle.bus.specs.Stores.{Bus, Store, byte}
use Rattle.bus.proofs.Words.{dropped8_le}
use Rattle.bus.proofs.WordLaws.{Bytes, peek8_lt, bytes_poke8}
use Rattle.transfer.specs.Transfer.{data_addr, tabulate, bytes_in, bytes_from, received, stores, sending, written, dropped_out}

pub length_tabulate : (n : ℕ) (f : ℕ → ℕ) → length (tabulate n f) ≡ n
unfolding tabulate
length_tabulate zero f = refl
length_tabulate (suc n) f = ap suc (length_tabulate n (λ k. f (suc k)))

pub get_d_tabulate : (n : ℕ) (f : ℕ → ℕ) (i d : ℕ) → i < n → get_or (tabulate n f) i d ≡ f i
unfolding tabulate
get_d_tabulate zero f i d h = absurd (not-suc-le-zero h)
get_d_tabulate (suc n) f zero d h = refl
get_d_tabulate (suc n) f (suc i) d h = get_d_tabulate n (λ k. f (suc k)) i d (le_of_suc-le-suc h)

-- the lists of two functions that agree below n
pub tabulate_same : (n : ℕ) (f g : ℕ → ℕ) → ((k : ℕ) → k < n → f k ≡ g k) → tabulate n f ≡ tabulate n g
tabulate_same n f g e =
    ext_get_or 0 (tabulate n f) (tabulate n g) (length_tabulate n f ∙ sym (length_tabulate n g))
    (λ k b. let b' : k < n = subst (λ (x : ℕ). k < x) (length_tabulate n f) b in get_d_tabulate n f k 0 b' ∙ e k b' ∙ sym (get_d_tabulate n g k 0 b'))

module _ (m : Memory) (ps : List ℕ) where
  pub length_bytes_in : (n : ℕ) → length (bytes_in m ps n) ≡ n
  unfolding bytes_in
  length_bytes_in n = length_tabulate n (λ k. peek8 m (data_addr ps k))

  pub get_or_bytes_in : (n i : ℕ) → i < n → get_or (bytes_in m ps n) i 0 ≡ peek8 m (data_addr ps i)
  unfolding bytes_in
  get_or_bytes_in n i h = get_d_tabulate n (λ k. peek8 m (data_addr ps k)) i 0 h

  pub length_from : (s n : ℕ) → length (bytes_from m ps s n) ≡ n
  unfolding bytes_from
  length_from s n = length_tabulate n (λ k. peek8 m (data_addr ps (s + k)))

  pub get_or_from : (s n k : ℕ) → k < n → get_or (bytes_from m ps s n) k 0 ≡ peek8 m (data_addr ps (s + k))
  unfolding bytes_from
  get_or_from s n k h = get_d_tabulate n (λ k. peek8 m (data_addr ps (s + k))) k 0 h

  -- the bytes from one on are a part of all
  pub from_in : (s n total : ℕ) → s + n ≤ total → bytes_from m ps s n ≡ take n (drop s (bytes_in m ps total))
  from_in s n total room =
      ext_get_or 0 (bytes_from m ps s n) (take n (drop s b)) (length_from s n ∙ sym long)
      (λ k less. at_k k (subst (λ (x : ℕ). k < x) (length_from s n) less))
    where
      b : List ℕ
      b = bytes_in m ps total

      long : length (take n (drop s b)) ≡ n
      long = length-take-le n (drop s b) (omega (arith, length-drop s b, length_bytes_in total))

      at_k : (k : ℕ) → k < n → get_or (bytes_from m ps s n) k 0 ≡ get_or (take n (drop s b)) k 0
      at_k k less =
          get_or_from s n k less
          ∙ sym (get_or-take n (drop s b) k 0 less ∙ get_or-drop s b k 0 ∙ get_or_bytes_in total (s + k) (omega arith))

  -- from the first on they are all
  pub from_first : (n : ℕ) → bytes_from m ps 0 n ≡ bytes_in m ps n
  from_first n =
      from_in 0 n n (omega arith) ∙ take_all n (bytes_in m ps n) (le_of_eq (length_bytes_in n))

  -- fewer bytes are the first of more
  pub in_take : (n total : ℕ) → n ≤ total → bytes_in m ps n ≡ take n (bytes_in m ps total)
  in_take n total h = sym (from_first n) ∙ from_in 0 n total (omega arith)

  -- an area keeps its length
  pub length_received : (n : ℕ) (out : List ℕ) (at : ℕ) → at + n ≤ length out → length (received m ps n out at) ≡ length out
  unfolding received
  length_received n out at h =
      let room : length (take at out) ≡ at = length-take-le at out (omega arith) in
      simp (length-append, room, length-drop, length_bytes_in) (omega arith)

  -- what memory holds is bytes, and so is what is read
  pub bytes_in_lt : Bytes m → (n i : ℕ) → i < n → get_or (bytes_in m ps n) i 0 < 256
  bytes_in_lt b n i h = subst (λ (x : ℕ). x < 256) (sym (get_or_bytes_in n i h)) (peek8_lt b (data_addr ps i))

  pub bytes_written : Bytes m → (s : List ℕ) → ((i : ℕ) → get_or s i 0 < 256) → (n : ℕ) → Bytes (written m ps s n)
  unfolding written
  bytes_written b s h zero = b
  bytes_written b s h (suc n) = bytes_poke8 (bytes_written b s h n) (data_addr ps n) (get_or s n 0) (h n)

  pub kept_written : (s : List ℕ) (n : ℕ) → Kept m (written m ps s n)
  unfolding written
  kept_written s zero = kept_refl m
  kept_written s (suc n) = kept_trans (kept_written s n) (kept_poke8 _ _ _)

pub dropped_le : (ps : List ℕ) (n : ℕ) → dropped_out ps n ≤ n
unfolding dropped_out
dropped_le ps zero = le_refl 0
dropped_le ps (suc n) = omega (arith, dropped_le ps n, dropped8_le (data_addr ps n))

-- ---- lists of pointers that give the same addresses give the same bytes and the same stores

module _ (ps qs : List ℕ) (total : ℕ) (same : (k : ℕ) → k < total → data_addr ps k ≡ data_addr qs k) where
  pub bytes_same : (m : Memory) (n : ℕ) → n ≤ total → bytes_in m ps n ≡ bytes_in m qs n
  unfolding bytes_in
  bytes_same m n h = tabulate_same n _ _ (λ k b. ap (peek8 m) (same k (omega arith)))

  pub from_same : (m : Memory) (s n : ℕ) → s + n ≤ total → bytes_from m ps s n ≡ bytes_from m qs s n
  unfolding bytes_from
  from_same m s n h = tabulate_same n _ _ (λ k b. ap (peek8 m) (same (s + k) (omega arith)))

  pub received_same : (m : Memory) (n : ℕ) (out : List ℕ) (at : ℕ) → n ≤ total → received m ps n out at ≡ received m qs n out at
  unfolding received
  received_same m n out at h = ap (λ (l : List ℕ). take at out ++ l ++ drop (at + n) out) (bytes_same m n h)

  stores_same : (s : List ℕ) (k n : ℕ) → k + n ≤ total → stores ps s k n ≡ stores qs s k n
  unfolding stores
  stores_same s k zero h = refl
  stores_same s k (suc n) h =
      ap₂ (λ (a : ℕ) (l : List Store). byte a (get_or s k 0) ∷ l) (same k (omega arith)) (stores_same s (suc k) n (omega arith))

  pub sending_same : (s : List ℕ) (n : ℕ) (b : Bus) → n ≤ total → sending ps s n b ≡ sending qs s n b
  unfolding sending
  sending_same s n b h = stores_same s 0 n (omega arith)
