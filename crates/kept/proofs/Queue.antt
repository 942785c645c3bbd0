-- Setups in a queue: which ones are made by the source, as they move up, and as lists of them are put at the start.
use Prim.Native.Nat.{ℕ, zero, suc, ◌+◌, ◌-◌, ◌*◌, ◌/◌, ◌%◌, ◌^◌, ◌≤◌, ◌<◌}
use mathlib.Core.Path.{◌≡◌, refl, sym, ap, ap₂, subst, ◌∙◌}
use mathlib.Core.Bool.{Bool, true, not, ◌&&◌}
use mathlib.Core.List.{List, [], ◌∷◌, ◌++◌, flat_map}
use native.Mathlib.Nat.{add-zero}
use native.Mathlib.Omega.{arith}
use borrow.Author.Tests.{eq-eqb, ne_eqb, lt-ltb, ltb-true, ltb-false}
use lib.Dec.{ltb, lit<}
use lib.ListN.{length, get_or, take, drop, length-take, length-drop, length-append, get_or-append}
use lib.Seq.{sets, sets-eq, get_or-take, get_or-drop, get_or-append-add}
use Rattle.config.specs.Config.{Bytes}
use Rattle.config.proofs.Few.{bytes_take, bytes_drop}
use Rattle.config.proofs.Cases.{by_test}
use Rattle.record.specs.Change.{drained}
use Rattle.record.specs.Setups.{little}
use Rattle.model.specs.Phases.{first_setups}
use Rattle.model.specs.Control.{sets_configuration, sets_interface, interface_setups, fixed_setups}
use Rattle.bounds.specs.Bounds.{le, asks_configuration, device_shape, address_shape, configuration_shape, chosen_shape, interface_shape, made, made_at, all_made, other, none_asks}
use Rattle.bounds.proofs.Shapes.{shape_there}
use Rattle.kept.proofs.Fits.{bytes_none, bytes_append}
use Rattle.kept.proofs.Pairs.{Pair, Pairs}
use Rattle.bits.proofs.Tests.{and_first, and_second, and_both}

-- ---- a test of each of the first n

module _ (all at : ℕ → Bool) (none : all 0 ≡ true) (more : (n : ℕ) → all (suc n) ≡ (all n && at n)) where
  pub at_every : (n i : ℕ) → all n ≡ true → i < n → at i ≡ true
  at_every zero i e h = absurd (omega arith)
  at_every (suc n) i e h =
      let both = sym (more n) ∙ e in
      by_test (ltb i n) (λ l. at_every n i (and_first (all n) (at n) both) (ltb-true i n l))
      (λ l. subst (λ (j : ℕ). at j ≡ true) (same (ltb-false i n l) h) (and_second (all n) (at n) both))
    where
      same : n ≤ i → i < suc n → n ≡ i
      same p q = omega arith

  pub all_of : (n : ℕ) → ((i : ℕ) → i < n → at i ≡ true) → all n ≡ true
  all_of zero h = none
  all_of (suc n) h = more n ∙ and_both (all n) (at n) (all_of n (λ i l. h i (omega arith))) (h n (omega arith))

module _ (q : List ℕ) where
  pub made_every : (n i : ℕ) → all_made q n ≡ true → i < n → made_at q i ≡ true
  unfolding all_made
  made_every = at_every (all_made q) (made_at q) refl (λ n. refl)

  pub made_all : (n : ℕ) → ((i : ℕ) → i < n → made_at q i ≡ true) → all_made q n ≡ true
  unfolding all_made
  made_all = all_of (all_made q) (made_at q) refl (λ n. refl)

  pub other_every : (n i : ℕ) → none_asks q n ≡ true → i < n → other q i ≡ true
  unfolding none_asks
  other_every = at_every (none_asks q) (other q) refl (λ n. refl)

  pub other_all : (n : ℕ) → ((i : ℕ) → i < n → other q i ≡ true) → none_asks q n ≡ true
  unfolding none_asks
  other_all = all_of (none_asks q) (other q) refl (λ n. refl)

-- ---- the same setup in two queues

-- setup i of q has the bytes of setup j of q'
abbrev pub Alike : List ℕ → List ℕ → ℕ → ℕ → Type 0
Alike q q' i j = (c : ℕ) → c < 8 → get_or q (8 * i + c) 0 ≡ get_or q' (8 * j + c) 0

little_same : (q q' : List ℕ) (x y : ℕ) → ((c : ℕ) → c < 4 → get_or q (x + c) 0 ≡ get_or q' (y + c) 0) → little q x ≡ little q' y
little_same q q' x y h =
    let first : get_or q x 0 ≡ get_or q' y 0 = sym (ap (λ (n : ℕ). get_or q n 0) (add-zero x)) ∙ h 0 (omega arith) ∙ ap (λ (n : ℕ). get_or q' n 0) (add-zero y) in
    omega (arith, h 1 (omega arith), h 2 (omega arith), h 3 (omega arith))

module _ (q q' : List ℕ) (i j : ℕ) (h : Alike q q' i j) where
  first_same : little q (8 * i) ≡ little q' (8 * j)
  first_same = little_same q q' (8 * i) (8 * j) (λ c l. h c (omega arith))

  second_same : little q (8 * i + 4) ≡ little q' (8 * j + 4)
  second_same =
      little_same q q' (8 * i + 4) (8 * j + 4)
      (λ c l. ap (λ (n : ℕ). get_or q n 0) (four (8 * i) c) ∙ h (4 + c) (omega arith) ∙ sym (ap (λ (n : ℕ). get_or q' n 0) (four (8 * j) c)))
    where
      four : (n c : ℕ) → n + 4 + c ≡ n + (4 + c)
      four n c = omega arith

  pub made_same : made_at q i ≡ made_at q' j
  unfolding made_at
  made_same = ap₂ made first_same second_same

  pub other_same : other q i ≡ other q' j
  unfolding other
  other_same = ap (λ (n : ℕ). not (asks_configuration n)) first_same

-- ---- the first leaves, and the others move up

drained_at : (q : List ℕ) (n x : ℕ) → 8 * n ≤ length q → x + 8 < 8 * n → get_or (drained q (8 * n) 8) x 0 ≡ get_or q (8 + x) 0
unfolding drained
drained_at q n x h l =
    let size : length (take (8 * n - 8) (drop 8 q)) ≡ 8 * n - 8 = simp (length-take, length-drop) (omega arith) in
    get_or-append (take (8 * n - 8) (drop 8 q)) (drop (8 * n - 8) q) 0 x (omega arith)
    ∙ get_or-take (8 * n - 8) (drop 8 q) x 0 (omega arith)
    ∙ get_or-drop 8 q x 0

pub drained_alike : (q : List ℕ) (n i : ℕ) → 8 * n ≤ length q → suc i < n → Alike (drained q (8 * n) 8) q i (suc i)
drained_alike q n i h l c k =
    drained_at q n (8 * i + c) h (omega arith) ∙ ap (λ (x : ℕ). get_or q x 0) (up i c)
  where
    up : (i c : ℕ) → 8 + (8 * i + c) ≡ 8 * suc i + c
    up i c = omega arith

pub drained_bytes : (q : List ℕ) (len n : ℕ) → Bytes q → Bytes (drained q len n)
unfolding drained
drained_bytes q len n b =
    bytes_append (take (len - n) (drop n q)) (drop (len - n) q) (bytes_take (len - n) (drop n q) (bytes_drop n q b)) (bytes_drop (len - n) q b)

-- ---- put at the start

pub sets_alike : (q bs : List ℕ) (i : ℕ) → length bs ≤ length q → 8 * i + 8 ≤ length bs → Alike (sets q 0 bs) bs i i
sets_alike q bs i h l c k =
    ap (λ (s : List ℕ). get_or s (8 * i + c) 0) (sets-eq bs q 0 (omega arith))
    ∙ get_or-append bs (drop (0 + length bs) q) 0 (8 * i + c) (omega arith)

-- ---- lists of setups that the source makes, in bytes, a configuration request only as the last

pub record Good (bs : List ℕ) (n : ℕ) : Type 0 where
  pub size : length bs ≡ 8 * n
  pub each_made : (i : ℕ) → i < n → made_at bs i ≡ true
  pub last_asks : (i : ℕ) → suc i < n → other bs i ≡ true
  pub bytes : Bytes bs

-- one, of any length but no configuration request
record Plain (s : List ℕ) : Type 0 where
  size : length s ≡ 8
  is_made : made_at s 0 ≡ true
  is_other_lem : other s 0 ≡ true
  bytes : Bytes s

module _ (s bs : List ℕ) (p : Plain s) where
  front_alike : Alike (s ++ bs) s 0 0
  front_alike c l = get_or-append s bs 0 (8 * 0 + c) (omega (arith, p.size))

  behind_alike : (i : ℕ) → Alike (s ++ bs) bs (suc i) i
  behind_alike i c l =
      ap (λ (x : ℕ). get_or (s ++ bs) x 0) (index p.size) ∙ get_or-append-add s bs (8 * i + c) 0
    where
      index : length s ≡ 8 → 8 * suc i + c ≡ length s + (8 * i + c)
      index e = omega arith

good_none : Good [] 0
good_none =
    record { size = refl; each_made = λ i h. absurd (omega arith); last_asks = λ i h. absurd (omega arith); bytes = bytes_none }

good_more : (s bs : List ℕ) (n : ℕ) → Plain s → Good bs n → Good (s ++ bs) (suc n)
good_more s bs n p g =
    record {
      size = length-append s bs ∙ total p.size g.size;
      each_made = by_made;
      last_asks = by_other;
      bytes = bytes_append s bs p.bytes g.bytes;
    }
  where
    total : length s ≡ 8 → length bs ≡ 8 * n → length s + length bs ≡ 8 * suc n
    total e f = omega arith

    by_made : (i : ℕ) → i < suc n → made_at (s ++ bs) i ≡ true
    by_made zero l = made_same (s ++ bs) s 0 0 (front_alike s bs p) ∙ p.is_made
    by_made (suc i) l = made_same (s ++ bs) bs (suc i) i (behind_alike s bs p i) ∙ g.each_made i (omega arith)

    by_other : (i : ℕ) → suc i < suc n → other (s ++ bs) i ≡ true
    by_other zero l = other_same (s ++ bs) s 0 0 (front_alike s bs p) ∙ p.is_other_lem
    by_other (suc i) l = other_same (s ++ bs) bs (suc i) i (behind_alike s bs p i) ∙ g.last_asks i (omega arith)

-- ---- those of the source

-- a test that every number is a byte
unfoldable in_bytes : List ℕ → Bool
in_bytes [] = true
in_bytes (x ∷ xs) = ltb x 256 && in_bytes xs

bytes_by : (xs : List ℕ) → in_bytes xs ≡ true → Bytes xs
unfolding in_bytes
bytes_by [] e k = lit< tt
bytes_by (x ∷ xs) e zero = ltb-true x 256 (and_first (ltb x 256) (in_bytes xs) e)
bytes_by (x ∷ xs) e (suc k) = bytes_by xs (and_second (ltb x 256) (in_bytes xs) e) k

pub good_first : Good first_setups 4
unfolding made_at made other in_bytes
good_first = record { size = refl; each_made = by_made; last_asks = by_other; bytes = bytes_by first_setups refl }
  where
    by_made : (i : ℕ) → i < 4 → made_at first_setups i ≡ true
    by_made zero l = refl
    by_made (suc zero) l = refl
    by_made (suc (suc zero)) l = refl
    by_made (suc (suc (suc zero))) l = refl
    by_made (suc (suc (suc (suc i)))) l = absurd (omega arith)

    by_other : (i : ℕ) → suc i < 4 → other first_setups i ≡ true
    by_other zero l = refl
    by_other (suc zero) l = refl
    by_other (suc (suc zero)) l = refl
    by_other (suc (suc (suc i))) l = absurd (omega arith)

-- 715: the whole configuration, of a length in two bytes
pub good_whole : (b₂ b₃ : ℕ) → b₂ < 256 → b₃ < 256 → Good (0x80 ∷ 6 ∷ 0 ∷ 2 ∷ 0 ∷ 0 ∷ b₂ ∷ b₃ ∷ []) 1
unfolding made_at made other in_bytes
good_whole b₂ b₃ l₂ l₃ =
    record {
      size = refl;
      each_made = by_made;
      last_asks = λ i l. absurd (omega arith);
      bytes = bytes_by (0x80 ∷ 6 ∷ 0 ∷ 2 ∷ 0 ∷ 0 ∷ b₂ ∷ b₃ ∷ []) (simp (lt-ltb b₂ 256 l₂, lt-ltb b₃ 256 l₃));
    }
  where
    low : (0 + 2 ^ 8 * 0 + 2 ^ 16 * b₂ + 2 ^ 24 * b₃) % 2 ^ 16 ≡ 0
    low = omega arith

    by_made : (i : ℕ) → i < 1 → made_at (0x80 ∷ 6 ∷ 0 ∷ 2 ∷ 0 ∷ 0 ∷ b₂ ∷ b₃ ∷ []) i ≡ true
    by_made zero l = rw (eq-eqb ((0 + 2 ^ 8 * 0 + 2 ^ 16 * b₂ + 2 ^ 24 * b₃) % 2 ^ 16) 0 low)
    by_made (suc i) l = absurd (omega arith)

plain_configuration : Plain sets_configuration
unfolding made_at made other in_bytes
plain_configuration = record { size = refl; is_made = refl; is_other_lem = refl; bytes = bytes_by sets_configuration refl }

module _ (i a : ℕ) (p : Pair i a) where
  interface_made : made (1 + 2 ^ 8 * 11 + 2 ^ 16 * a + 2 ^ 24 * 0) (i + 2 ^ 8 * 0 + 2 ^ 16 * 0 + 2 ^ 24 * 0) ≡ true
  unfolding made
  interface_made =
      let f = 1 + 2 ^ 8 * 11 + 2 ^ 16 * a + 2 ^ 24 * 0 in
      let s = i + 2 ^ 8 * 0 + 2 ^ 16 * 0 + 2 ^ 24 * 0 in
      shape_there (device_shape ∷ address_shape ∷ configuration_shape ∷ chosen_shape ∷ []) interface_shape [] f s
      (and_both _ _ (eq-eqb (f % 2 ^ 16) (le 1 11 0 0) (omega arith))
      (and_both _ _ (lt-ltb 0 (f / 2 ^ 16) (omega (arith, p.some))) (lt-ltb (f / 2 ^ 16) 256 (omega (arith, p.alternate_lt)))))
      (lt-ltb s 256 (omega (arith, p.interface_lt)))

  interface_other : not (asks_configuration (1 + 2 ^ 8 * 11 + 2 ^ 16 * a + 2 ^ 24 * 0)) ≡ true
  interface_other =
      ap not (ne_eqb (1 + 2 ^ 8 * 11 + 2 ^ 16 * a + 2 ^ 24 * 0) (le 0x80 6 0 2) (λ e. omega arith))

  interface_bytes : Bytes (sets_interface i a)
  unfolding in_bytes
  interface_bytes = bytes_by (sets_interface i a) (simp (lt-ltb a 256 p.alternate_lt, lt-ltb i 256 p.interface_lt))

  plain_interface : Plain (sets_interface i a)
  unfolding made_at other
  plain_interface = record { size = refl; is_made = interface_made; is_other_lem = interface_other; bytes = interface_bytes }

good_interfaces : (ps : List (ℕ × ℕ)) → Pairs ps → Good (interface_setups ps) (length ps)
unfolding interface_setups flat_map
good_interfaces [] h = good_none
good_interfaces (p ∷ ps) h =
    good_more (sets_interface p.0 p.1) (interface_setups ps) (length ps) (plain_interface p.0 p.1 h.0) (good_interfaces ps h.1)

pub good_chosen : (ps : List (ℕ × ℕ)) → Pairs ps → Good (sets_configuration ++ interface_setups ps) (suc (length ps))
good_chosen ps h = good_more sets_configuration (interface_setups ps) (length ps) plain_configuration (good_interfaces ps h)

fixed_pair : (i : ℕ) → i < 3 → Pair i 3
fixed_pair i h = record { interface_lt = omega arith; alternate_lt = omega arith; some = omega arith }

pub good_fixed : Good fixed_setups 3
good_fixed =
    good_more sets_configuration (sets_interface 1 3 ++ sets_interface 2 3) 2 plain_configuration
    (good_more (sets_interface 1 3) (sets_interface 2 3) 1 (plain_interface 1 3 (fixed_pair 1 (omega arith)))
    (good_more (sets_interface 2 3) [] 0 (plain_interface 2 3 (fixed_pair 2 (omega arith))) good_none))
