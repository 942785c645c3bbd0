-- What calls put into an output, one behind the other.
use Rattle.std.proofs.Common.{◌≡◌, ℕ, ◌+◌, ◌<◌, ◌≤◌, List, [], ◌∷◌, ◌++◌, length, take, sym, ap, ◌∙◌, append_assoc, append-nil, length-append, length-take, lit≤, arith}
use Rattle.stdio.specs.Held as H
use Rattle.stdio.specs.Held.{Held}
use Rattle.stdio.specs.Behind.{Behind}

-- nothing
pub behind_none : {h : Held} → Behind 0 h h
behind_none {h} = record {
  more = λ room. ([], (lit≤ tt, sym (ap (λ (l : List ℕ). record { bytes = l; failed = h.failed }) (append-nil h.bytes))));
}

-- a text that is known
pub behind_text : {old new : Held} (text : List ℕ) → (length old.bytes + length text ≤ 65536 → new ≡ H.more old text) → Behind (length text) old new
behind_text text same = record { more = λ room. (text, (omega arith, same room)) }

-- a byte
pub behind_byte : {old new : Held} (b : ℕ) → (length old.bytes < 65536 → new ≡ H.more old (b ∷ [])) → Behind 1 old new
behind_byte b same = record { more = λ room. (b ∷ [], (lit≤ tt, same (omega (arith, room)))) }

-- the first k bytes of a text
pub behind_first : {n : ℕ} {old new : Held} (k : ℕ) (text : List ℕ) → k ≤ n → (length old.bytes + n ≤ 65536 → new ≡ H.more old (take k text)) → Behind n old new
behind_first k text few same = record { more = λ room. (take k text, (omega (arith, few, length-take k text), same room)) }

-- one call and another
pub behind_then : {m n : ℕ} {old mid new : Held} → Behind m old mid → Behind n mid new → Behind (m + n) old new
behind_then {m} {n} {old} {mid} {new} first second =
    record {
      more = λ room.
          let a = first.more (omega (arith, room)) in
          let long : length mid.bytes ≡ length old.bytes + length a.0 = ap (λ (h : Held). length h.bytes) a.1.1 ∙ length-append old.bytes a.0 in
          let b = second.more (omega (arith, room, long, a.1.0)) in (
            a.0 ++ b.0,
            (
              omega (arith, length-append a.0 b.0, a.1.0, b.1.0),
              b.1.1 ∙ ap (λ (h : Held). H.more h b.0) a.1.1 ∙ ap (λ (l : List ℕ). record { bytes = l; failed = old.failed }) (append_assoc old.bytes a.0 b.0),
            ),
          );
    }

-- a bound that is larger
pub behind_le : {m n : ℕ} {old new : Held} → m ≤ n → Behind m old new → Behind n old new
behind_le fewer h = record {
  more = λ room.
      let a = h.more (omega (arith, room, fewer)) in
      (a.0, (omega (arith, a.1.0, fewer), a.1.1));
}
