-- Digits, and the numbers that they make.
use Rattle.std.proofs.Common.{◌≡◌, ℕ, ◌+◌, ◌*◌, ◌%◌, ◌^◌, ◌<◌, ◌≤◌, Option, None, Some, List, [], ◌∷◌, suc, length, get_or, take, drop, sym, ap, ◌∙◌, add-one, arith, lit<}
use Rattle.std.proofs.Math.Nat.{mul-le-mul_right, pow-le-pow_right, pow-suc}
use Rattle.std.specs.Prelude.{Bool, is_some, unwrap_or, bit_or, ◌==◌, ◌&&◌}
use Rattle.bits.specs.Pick.{pick}
use Rattle.std.proofs.lemmas.Nat.{or_shifted}
use Rattle.std.proofs.lemmas.List.{at_drop_more, length-take}
use Rattle.script.specs.Line.{digit, byte_of, byte, run, hex, bytes}

pub worth_lt : (b : ℕ) → unwrap_or (digit b) 0 < 16
worth_lt b = grind arith

-- what is above 64 bits is of no account
pub hex_mod : (bs : List ℕ) (v w : ℕ) → v % 2 ^ 64 ≡ w % 2 ^ 64 → hex v bs % 2 ^ 64 ≡ hex w bs % 2 ^ 64
unfolding hex
hex_mod [] v w e = e
hex_mod (b ∷ bs) v w e = hex_mod bs (v * 16 + unwrap_or (digit b) 0) (w * 16 + unwrap_or (digit b) 0) (omega arith)

-- a digit behind a number of 64 bits
pub shifted : (v d : ℕ) → d < 16 → bit_or (v * 16 % 2 ^ 64) d % 2 ^ 64 ≡ (v * 16 + d) % 2 ^ 64
shifted v d h =
    let e : v * 16 % 2 ^ 64 ≡ v % 2 ^ 60 * 2 ^ 4 = omega arith in
    let s : (v % 2 ^ 60 * 2 ^ 4 + d) % 2 ^ 64 ≡ (v * 16 + d) % 2 ^ 64 = omega arith in
    ap (λ (x : ℕ). x % 2 ^ 64) (ap (λ (x : ℕ). bit_or x d) e ∙ or_shifted (v % 2 ^ 60) 4 d h) ∙ s

hex_lt : (bs : List ℕ) (v : ℕ) → hex v bs < (v + 1) * 16 ^ length bs
unfolding hex
hex_lt [] v = omega arith
hex_lt (b ∷ bs) v =
    let w = v * 16 + unwrap_or (digit b) 0 in
    let h = hex_lt bs w in
    let more : (w + 1) * 16 ^ length bs ≤ (v + 1) * 16 * 16 ^ length bs = mul-le-mul_right (16 ^ length bs) (omega (arith, worth_lt b)) in
    let e : (v + 1) * 16 ^ suc (length bs) ≡ (v + 1) * 16 * 16 ^ length bs = rw pow-suc (omega arith) in
    omega arith

-- sixteen digits make a number of 64 bits
pub hex_fits : (bs : List ℕ) → length bs ≤ 16 → hex 0 bs % 2 ^ 64 ≡ hex 0 bs
hex_fits bs h =
    let p : 16 ^ length bs ≤ 16 ^ 16 = pow-le-pow_right (lit< tt) h in
    omega (arith, hex_lt bs 0)

-- two digits more
pub bytes_more : (ds : List ℕ) (k : ℕ) → k + 1 < length ds
    → bytes (drop k ds) ≡ unwrap_or (byte (get_or ds k 0) (get_or ds (k + 1) 0)) 0 ∷ bytes (drop (k + 2) ds)
unfolding bytes
bytes_more ds k h =
    at_drop_more bytes ds k 0 (omega arith)
    ∙ at_drop_more (λ (l : List ℕ). bytes (get_or ds k 0 ∷ l)) ds (k + 1) 0 h
    ∙ ap (λ (n : ℕ). bytes (get_or ds k 0 ∷ get_or ds (k + 1) 0 ∷ drop n ds)) two
  where
    two : k + 1 + 1 ≡ k + 2
    two = omega arith

-- the digits that a text begins with
abbrev pub leading : List ℕ → List ℕ
leading ds = take (run ds) ds

-- a text that begins with a digit
pub digit_more : (b d : ℕ) (bs : List ℕ) → digit b ≡ Some d → (run (b ∷ bs) ≡ run bs + 1) × (leading (b ∷ bs) ≡ b ∷ leading bs)
unfolding run
digit_more b d bs e =
    let one : run (b ∷ bs) ≡ run bs + 1 = ap (λ (o : Option ℕ). pick (is_some o) (run bs + 1) 0) e in
    let next : run (b ∷ bs) ≡ suc (run bs) = one ∙ add-one _ in
    (one, ap (λ (n : ℕ). take n (b ∷ bs)) next)

-- and one that does not
pub digit_none : (b : ℕ) (bs : List ℕ) → digit b ≡ None → run (b ∷ bs) ≡ 0
unfolding run
digit_none b bs e = ap (λ (o : Option ℕ). pick (is_some o) (run bs + 1) 0) e

-- at the last of the digits that a text begins with, the number so far is theirs
pub number_ends : (ds : List ℕ) (i v : ℕ) → run ds ≡ i → run (drop i ds) ≡ 0 → hex v (leading (drop i ds)) % 2 ^ 64 ≡ hex 0 (leading ds) % 2 ^ 64 → v < 2 ^ 64 → i ≤ 16 → v ≡ hex 0 (leading ds)
unfolding hex
number_ends ds i v count ends e small few =
    let none : leading (drop i ds) ≡ [] = ap (λ (n : ℕ). take n (drop i ds)) ends in
    let now : v % 2 ^ 64 ≡ hex 0 (leading ds) % 2 ^ 64 = sym (ap (λ (bs : List ℕ). hex v bs % 2 ^ 64) none) ∙ e in
    let whole : hex 0 (leading ds) % 2 ^ 64 ≡ hex 0 (leading ds) = hex_fits (leading ds) (omega (arith, length-take (run ds) ds)) in
    omega arith

-- whether a text is digits to its end
abbrev pub whole : List ℕ → Bool
whole ds = run ds == length ds

both : (o p : Option ℕ) (n k : ℕ) → (pick (is_some o) (pick (is_some p) (n + 1) 0 + 1) 0 == suc (suc k)) ≡ (is_some (byte_of o p) && (n == k))
both None None n k = grind arith
both None (Some d) n k = grind arith
both (Some d) None n k = grind arith
both (Some d) (Some e) n k = grind arith

one : (o : Option ℕ) (n k : ℕ) → (pick (is_some o) (n + 1) 0 == suc k) ≡ (is_some o && (n == k))
one None n k = grind arith
one (Some d) n k = grind arith

-- a character more
pub whole_next : (ds : List ℕ) (k : ℕ) → k < length ds
    → whole (drop k ds) ≡ (is_some (digit (get_or ds k 0)) && whole (drop (k + 1) ds))
unfolding run
whole_next ds k h = at_drop_more whole ds k 0 h ∙ one (digit (get_or ds k 0)) (run (drop (k + 1) ds)) (length (drop (k + 1) ds))

-- two characters more
pub whole_more : (ds : List ℕ) (k : ℕ) → k + 1 < length ds
    → whole (drop k ds) ≡ (is_some (byte (get_or ds k 0) (get_or ds (k + 1) 0)) && whole (drop (k + 2) ds))
unfolding run
whole_more ds k h =
    at_drop_more whole ds k 0 (omega arith)
    ∙ at_drop_more (λ (l : List ℕ). whole (get_or ds k 0 ∷ l)) ds (k + 1) 0 h
    ∙ ap (λ (n : ℕ). whole (get_or ds k 0 ∷ get_or ds (k + 1) 0 ∷ drop n ds)) two
    ∙ both (digit (get_or ds k 0)) (digit (get_or ds (k + 1) 0)) (run (drop (k + 2) ds)) (length (drop (k + 2) ds))
  where
    two : k + 1 + 1 ≡ k + 2
    two = omega arith
