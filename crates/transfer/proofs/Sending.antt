-- What sending does: the replay of its stores is `written`, the line's flag stays, and the bytes dropped are `dropped_out`.
use Rattle.std.proofs.Common.{◌≡◌, ℕ, zero, suc, ◌+◌, Bool, List, [], ◌∷◌, ◌++◌, get_or, sym, refl, ap, ◌∙◌, add-zero, zero-add, arith}
use Rattle.bus.specs.Memory.{Memory}
use Rattle.bus.specs.Sized.{Sized}
use Rattle.bus.specs.Steps.{exec}
use Rattle.bus.specs.Stores.{Bus, bus, Store, byte, store, stored, stored_append, dropped, dropped_by, dropped_append, Does}
use Rattle.transfer.specs.Transfer.{data_addr, stores, sending, written, dropped_out}

-- one more byte goes behind
pub stores_more : (ps s : List ℕ) (k n : ℕ) → stores ps s k (suc n) ≡ stores ps s k n ++ (byte (data_addr ps (k + n)) (get_or s (k + n) 0) ∷ [])
unfolding stores
stores_more ps s k zero = ap (λ (i : ℕ). byte (data_addr ps i) (get_or s i 0) ∷ []) (sym (add-zero k))
stores_more ps s k (suc n) =
    ap (λ (l : List Store). byte (data_addr ps k) (get_or s k 0) ∷ l)
    (stores_more ps s (suc k) n ∙ ap (λ (i : ℕ). stores ps s (suc k) n ++ (byte (data_addr ps i) (get_or s i 0) ∷ [])) next)
  where
    next : suc k + n ≡ k + suc n
    next = omega arith

-- the first n + 1 bytes are the first n and one more
first_more : (ps s : List ℕ) (n : ℕ) → stores ps s 0 (suc n) ≡ stores ps s 0 n ++ (byte (data_addr ps n) (get_or s n 0) ∷ [])
first_more ps s n =
    stores_more ps s 0 n ∙ ap (λ (i : ℕ). stores ps s 0 n ++ (byte (data_addr ps i) (get_or s i 0) ∷ [])) (zero-add n)

stores_is : (ps s : List ℕ) (n : ℕ) (b : Bus) → stored (stores ps s 0 n) b ≡ bus (written b.memory ps s n) b.line
unfolding stores written store
stores_is ps s zero b = refl
stores_is ps s (suc n) b =
    ap (λ (l : List Store). stored l b) (first_more ps s n) ∙ stored_append (stores ps s 0 n) _ b
    ∙ ap (λ (x : Bus). stored (byte (data_addr ps n) (get_or s n 0) ∷ []) x) (stores_is ps s n b)

stores_dropped : (ps s : List ℕ) (n : ℕ) → dropped_by (stores ps s 0 n) ≡ dropped_out ps n
unfolding stores dropped_out dropped_by dropped
stores_dropped ps s zero = refl
stores_dropped ps s (suc n) =
    ap dropped_by (first_more ps s n) ∙ dropped_append (stores ps s 0 n) _ ∙ omega (arith, stores_dropped ps s n)

-- the bus after sending: the bytes written in order, the line as it was
pub sending_is : (ps s : List ℕ) (n : ℕ) (b : Bus) → exec store (sending ps s n) b ≡ bus (written b.memory ps s n) b.line
unfolding sending
sending_is ps s n b = stores_is ps s n b

pub sending_memory : (ps s : List ℕ) (n : ℕ) (b : Bus) → (exec store (sending ps s n) b).memory ≡ written b.memory ps s n
sending_memory ps s n b = ap (λ (x : Bus). x.memory) (sending_is ps s n b)

pub sending_line : (ps s : List ℕ) (n : ℕ) (b : Bus) → (exec store (sending ps s n) b).line ≡ b.line
sending_line ps s n b = ap (λ (x : Bus). x.line) (sending_is ps s n b)

pub sending_dropped : (ps s : List ℕ) (n : ℕ) (b : Bus) → dropped_by (sending ps s n b) ≡ dropped_out ps n
unfolding sending
sending_dropped ps s n b = stores_dropped ps s n

-- a function that leaves what was written and counts what was dropped does what sending says
pub does_sending : {m m' : Memory} {d : ℕ} (ps s : List ℕ) (n : ℕ) (l : Bool) → m' ≡ written m ps s n → Sized m' → d ≡ dropped_out ps n
    → Does (sending ps s n) (bus m l) (bus m' l) d
does_sending {m} {m'} {d} ps s n l p z e =
    record {
      is = ap (λ (x : Memory). bus x l) p ∙ sym (sending_is ps s n (bus m l));
      sized = z;
      counted = e ∙ sym (sending_dropped ps s n (bus m l));
    }
