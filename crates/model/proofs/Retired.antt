-- What a retired descriptor is: the first store of its retirement, behind its data, is to its token, which is no longer active and has the bytes moved
-- off its total (usbhost.rs 584-585; MCF5441x Reference Manual, USB OTG: dTD token).
use Prim.Native.Nat.{ℕ, zero, suc, ◌+◌, ◌-◌, ◌*◌, ◌/◌, ◌%◌, ◌^◌, ◌<◌, min}
use mathlib.Core.Path.{◌≡◌, refl, ap, ap₂, sym, subst, ◌∙◌}
use mathlib.Core.Bool.{true, false, not, ◌&&◌}
use mathlib.Core.List.{List, [], ◌∷◌, ◌++◌, map, append_assoc, map-append}
use native.Mathlib.Omega.{arith}
use lib.Bits.{bit_and, bit_or, and_mask, and_high, and_shr, or_shr, or_zero_r}
use lib.ListN.{length, get_or, drop}
use Rattle.bits.specs.Word.{clear, inv32}
use Rattle.bits.proofs.Bit.{any_is}
use Rattle.bits.proofs.Tests.{and_first, and_second}
use Rattle.bus.specs.Memory.{Memory, after, peek8}
use Rattle.bus.specs.Steps.{and_then}
use Rattle.bus.specs.Stores.{Bus, Store, word, byte, irq, putting}
use Rattle.usbdev.specs.Transfer.{total_of, token_after}
use Rattle.usbdev.proofs.Tokens.{total_is, total_lt, total_after, low_after}
use Rattle.transfer.specs.Transfer.{data_addr, pointers, stores, sending}
use Rattle.transfer.proofs.Laws.{length_bytes_in, get_or_bytes_in}
use Rattle.dtd.specs.Dtd.{Endpoint, bit_of, primed, terminates, descriptor, token_of, next_dtd, next_active, moves, data_out, closing, retiring, turning, most, run_dtds, finishing}
use Rattle.dtd.proofs.Runs.{IsActive, active_stores}
use Rattle.record.specs.World.{World, bus_of}
use Rattle.record.specs.Change.{Change, bus, Step}
use Rattle.model.specs.Audio.{audio_in, audio_out, block_of, inputs, stream_out}
use Rattle.model.specs.Microframe.{microframe}
use Rattle.model.specs.Reach.{reaches_input, reaches_output, at_input, at_output, input_ready, output_ready}
use Rattle.model.specs.Claims.{block_first, sends_at, out_pointer, out_token, out_moved, block_stores}
use Rattle.model.specs.Ring.{in_pointer, in_token, in_moved, in_bytes, in_stores}
use Rattle.model.specs.Ready.{token_address}
use Rattle.model.specs.Retired.{TokenRetired, StoresToken, block_data}
use Rattle.model.proofs.Ready.{token_address_lem}
use Rattle.model.proofs.Placed.{Placed}
use Rattle.model.proofs.OneBlock.{one_block_lem}
use Rattle.model.proofs.InputStep.{placed_input, inputs_changes}

-- ---- a token before and after

low : (tok n : ℕ) → token_after tok n % 2 ^ 16 ≡ tok % 2 ^ 16 / 2 ^ 8 % 2 ^ 8 * 2 ^ 8
low tok n = low_after tok n ∙ and_high (tok % 2 ^ 16) 8 8

high : (tok n : ℕ) → token_after tok n / 2 ^ 31 ≡ tok / 2 ^ 31 % 2
unfolding token_after
high tok n =
    or_shr (clear (clear tok 0x7FFF0000) 0xFF) ((total_of tok - n) * 2 ^ 16 % 2 ^ 32) 31
    ∙ ap₂ bit_or kept none ∙ or_zero_r (tok / 2 ^ 31 % 2)
  where
    kept : clear (clear tok 0x7FFF0000) 0xFF / 2 ^ 31 ≡ tok / 2 ^ 31 % 2
    kept =
        and_shr (clear tok 0x7FFF0000) (inv32 0xFF) 31
        ∙ ap (λ (x : ℕ). bit_and x 1) (and_shr tok (inv32 0x7FFF0000) 31 ∙ and_mask (tok / 2 ^ 31) 1)
        ∙ and_mask (tok / 2 ^ 31 % 2) 1
        ∙ omega arith

    none : (total_of tok - n) * 2 ^ 16 % 2 ^ 32 / 2 ^ 31 ≡ 0
    none = omega (arith, total_lt tok)

pub token_retired : (tok n : ℕ) → TokenRetired tok n (token_after tok n)
token_retired tok n =
    let v = token_after tok n in
    let l = low tok n in
    let t : v / 2 ^ 16 % 2 ^ 15 ≡ tok / 2 ^ 16 % 2 ^ 15 - n = sym (total_is v) ∙ total_after tok n ∙ ap (λ (x : ℕ). x - n) (total_is tok) in
    record {
      active = omega (arith, l);
      total = t;
      status = omega (arith, l);
      middle = omega (arith, l);
      top = high tok n;
    }

-- ---- stores

retiring_first : (qh n tok moved k : ℕ) (b : Bus) → retiring qh n tok moved k b ≡ word (after (descriptor n) 4) (token_after tok moved) ∷ drop 1 (retiring qh n tok moved k b)
unfolding retiring closing and_then putting
retiring_first qh n tok moved k b = refl

finishing_first : (qh n tok moved k : ℕ) (b : Bus) → finishing qh n tok moved k b ≡ word (after (descriptor n) 4) (token_after tok moved) ∷ drop 1 (finishing qh n tok moved k b)
unfolding finishing retiring closing and_then putting
finishing_first qh n tok moved k b = refl

-- a list that begins so
retires_by : (n tok moved : ℕ) (sent ss : List Store) → ss ≡ word (after (descriptor n) 4) (token_after tok moved) ∷ drop 1 ss → StoresToken n tok moved sent (sent ++ ss)
retires_by n tok moved sent ss e =
    record {
      value = token_after tok moved;
      rest = drop 1 ss;
      stores = ap (λ (l : List Store). sent ++ l) (e ∙ ap (λ (a : ℕ). word a (token_after tok moved) ∷ drop 1 ss) (token_address_lem n));
      token = token_retired tok moved;
    }

-- every descriptor of every run, in either direction, endpoint 0's too
pub turning_retires : (e : Endpoint) (qh n : ℕ) (bs : List ℕ) (b : Bus)
    → StoresToken n (token_of n b.memory) (moves e (token_of n b.memory) bs) (data_out e n (token_of n b.memory) bs b) (turning e qh n bs b)
unfolding turning and_then
turning_retires e qh n bs b =
    retires_by n (token_of n b.memory) (moves e (token_of n b.memory) bs) (data_out e n (token_of n b.memory) bs b) _
    (retiring_first qh n (token_of n b.memory) (moves e (token_of n b.memory) bs) (bit_of e) _)

-- the run of any other endpoint whose next descriptor is active
pub run_retires : (e : Endpoint) (bs : List ℕ) (b : Bus) → most e ≡ 1 → (qh n tok : ℕ) → IsActive e b.memory qh n tok
    → StoresToken n tok (moves e tok bs) (data_out e n tok bs b) (run_dtds e bs b).stores
unfolding and_then
run_retires e bs b one qh n tok is =
    subst (StoresToken n tok (moves e tok bs) (data_out e n tok bs b)) (sym (active_stores e bs b one qh n tok is))
    (retires_by n tok (moves e tok bs) (data_out e n tok bs b) _ (finishing_first qh n tok (moves e tok bs) (bit_of e) _))

-- a descriptor of the audio input and of the audio output endpoint
input_retires : (x : World) → StoresToken (in_pointer x) (in_token x) (in_moved x) [] (in_stores x)
input_retires x = retires_by (in_pointer x) (in_token x) (in_moved x) [] (in_stores x) (finishing_first _ (in_pointer x) (in_token x) (in_moved x) (bit_of audio_in) (bus_of x))

output_retires : (x : World) → StoresToken (out_pointer x) (out_token x) (out_moved x) (block_data x) (block_stores x (bus_of x))
unfolding and_then
output_retires x = retires_by (out_pointer x) (out_token x) (out_moved x) (block_data x) _ (finishing_first _ (out_pointer x) (out_token x) (out_moved x) (bit_of audio_out) _)

-- ---- the bytes that move

-- what an input descriptor brings is as many bytes as its total says
pub input_moved : (x : World) → length (in_bytes x) ≡ in_token x / 2 ^ 16 % 2 ^ 15
input_moved x = length_bytes_in x.lent.memory (pointers x.lent.memory (descriptor (in_pointer x))) (in_moved x) ∙ total_is (in_token x)

-- byte k of them is the one at the address of byte k of the descriptor's data
pub input_byte : (x : World) (k : ℕ) → k < length (in_bytes x)
    → get_or (in_bytes x) k 0 ≡ peek8 x.lent.memory (data_addr (pointers x.lent.memory (descriptor (in_pointer x))) k)
input_byte x k h =
    let ps = pointers x.lent.memory (descriptor (in_pointer x)) in
    get_or_bytes_in x.lent.memory ps (in_moved x) k (omega (arith, length_bytes_in x.lent.memory ps (in_moved x)))

stores_count : (ps s : List ℕ) (k n : ℕ) → length (stores ps s k n) ≡ n
unfolding stores
stores_count ps s k zero = refl
stores_count ps s k (suc n) = ap suc (stores_count ps s (suc k) n)

stores_at : (ps s : List ℕ) (k n i : ℕ) → i < n → get_or (stores ps s k n) i (irq false) ≡ byte (data_addr ps (k + i)) (get_or s (k + i) 0)
unfolding stores
stores_at ps s k zero i h = absurd (omega arith)
stores_at ps s k (suc n) zero h = let e : k ≡ k + 0 = omega arith in ap (λ (j : ℕ). byte (data_addr ps j) (get_or s j 0)) e
stores_at ps s k (suc n) (suc i) h =
    let e : suc k + i ≡ k + suc i = omega arith in
    stores_at ps s (suc k) n i (omega arith) ∙ ap (λ (j : ℕ). byte (data_addr ps j) (get_or s j 0)) e

-- what an output descriptor takes is the block's first bytes, as many as its total allows
pub output_moved : (x : World) → length (block_data x) ≡ min (out_token x / 2 ^ 16 % 2 ^ 15) (length (block_of x))
unfolding sending
output_moved x =
    stores_count (pointers x.lent.memory (descriptor (out_pointer x))) (block_of x) 0 (out_moved x)
    ∙ ap (λ (k : ℕ). min k (length (block_of x))) (total_is (out_token x))

-- byte k of the block goes to the address of byte k of the descriptor's data
pub output_byte : (x : World) (k : ℕ) → k < length (block_data x)
    → get_or (block_data x) k (irq false) ≡ byte (data_addr (pointers x.lent.memory (descriptor (out_pointer x))) k) (get_or (block_of x) k 0)
unfolding sending
output_byte x k h =
    let ps = pointers x.lent.memory (descriptor (out_pointer x)) in
    let e : 0 + k ≡ k = omega arith in
    stores_at ps (block_of x) 0 (out_moved x) k (omega (arith, stores_count ps (block_of x) 0 (out_moved x)))
    ∙ ap (λ (j : ℕ). byte (data_addr ps j) (get_or (block_of x) j 0)) e

-- ---- in the microframe's list

-- a token's active bit is bit 7
active_bit : (e : Endpoint) (m : Memory) → next_active e m ≡ true → token_of (next_dtd e m) m / 2 ^ 7 % 2 ≡ 1
unfolding next_active
active_bit e m h = (any_is 7 (token_of (next_dtd e m) m)).0 (and_second (not (terminates (next_dtd e m))) _ h)

-- the changes of the step g, with the World x at it, stand in the microframe's list, whole: what it changes first, the data sent, and then the store
-- that retires the endpoint's next descriptor, which was active, with the bytes moved off its total
pub record Retired (t : ℕ) (w : World) (g : Step) (x : World) (e : Endpoint) (first : List Change) (sent : List Store) (moved : ℕ) : Type 0 where
  pub placed : Placed (microframe t) w g x
  pub was : token_of (next_dtd e x.lent.memory) x.lent.memory / 2 ^ 7 % 2 ≡ 1
  pub value : ℕ
  pub behind : List Change
  pub changes : g x ≡ first ++ (map bus sent ++ (bus (word (token_address (next_dtd e x.lent.memory)) value) ∷ behind))
  pub token : TokenRetired (token_of (next_dtd e x.lent.memory) x.lent.memory) moved value

module _ (t : ℕ) (w : World) (g : Step) (x : World) (e : Endpoint) (first : List Change) (sent ss : List Store) (moved : ℕ) (tail : List Change)
    (placed : Placed (microframe t) w g x)
    (ready : (primed e x.lent.memory.page && next_active e x.lent.memory) ≡ true)
    (is : g x ≡ first ++ (map bus ss ++ tail))
    (r : StoresToken (next_dtd e x.lent.memory) (token_of (next_dtd e x.lent.memory) x.lent.memory) moved sent ss) where
  retired_by : Retired t w g x e first sent moved
  retired_by =
      let s = word (token_address (next_dtd e x.lent.memory)) r.value in
      record {
        placed = placed;
        was = active_bit e x.lent.memory (and_second (primed e x.lent.memory.page) _ ready);
        value = r.value;
        behind = map bus r.rest ++ tail;
        changes =
            is
            ∙ ap (λ (l : List Change). first ++ l)
            (ap (λ (l : List Store). map bus l ++ tail) r.stores
            ∙ ap (λ (l : List Change). l ++ tail) (map-append bus sent (s ∷ r.rest))
            ∙ append_assoc (map bus sent) (map bus (s ∷ r.rest)) tail);
        token = r.token;
      }

-- the input step's first store: all bytes of its total have moved
pub input_retired : (t : ℕ) (w : World) → reaches_input t w ≡ true → input_ready (at_input w) ≡ true
    → Retired t w inputs (at_input w) audio_in [] [] (length (in_bytes (at_input w)))
unfolding input_ready
input_retired t w e r =
    let x = at_input w in
    let same : in_moved x ≡ length (in_bytes x) = sym (length_bytes_in x.lent.memory (pointers x.lent.memory (descriptor (in_pointer x))) (in_moved x)) in
    retired_by t w inputs x audio_in [] [] (in_stores x) (length (in_bytes x)) _ (placed_input t w e) r (inputs_changes x r)
    (subst (λ (n : ℕ). StoresToken (in_pointer x) (in_token x) n [] (in_stores x)) same (input_retires x))

-- so that none are left
pub input_left : (t : ℕ) (w : World) (p : Retired t w inputs (at_input w) audio_in [] [] (length (in_bytes (at_input w)))) → p.value / 2 ^ 16 % 2 ^ 15 ≡ 0
input_left t w p = omega (arith, p.token.total, input_moved (at_input w))

-- the output step's first store behind its data
pub output_retired : (t : ℕ) (w : World) → sends_at t w ≡ true
    → Retired t w stream_out (at_output w) audio_out (block_first (at_output w)) (block_data (at_output w)) (length (block_data (at_output w)))
unfolding sending output_ready
output_retired t w e =
    let x = at_output w in
    let b = one_block_lem t w e in
    let same : out_moved x ≡ length (block_data x) = sym (stores_count (pointers x.lent.memory (descriptor (out_pointer x))) (block_of x) 0 (out_moved x)) in
    retired_by t w stream_out x audio_out (block_first x) (block_data x) (block_stores x (bus_of x)) (length (block_data x)) _ b.placed (and_first (output_ready x) _ (and_second (reaches_output t w) _ e)) b.changes
    (subst (λ (n : ℕ). StoresToken (out_pointer x) (out_token x) n (block_data x) (block_stores x (bus_of x))) same (output_retires x))
