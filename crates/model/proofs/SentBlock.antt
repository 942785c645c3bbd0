-- The block that the output step sends, byte by byte (document 01, "Streams"; usbhost.rs 926-946).
use Prim.Native.Nat.{ℕ, zero, suc, ◌+◌, ◌-◌, ◌*◌, ◌/◌, ◌%◌, ◌^◌, ◌≤◌, ◌<◌}
use mathlib.Core.Path.{◌≡◌, refl, ap, ap₂, sym, ◌∙◌}
use mathlib.Core.Bool.{Bool, true, false}
use mathlib.Core.List.{List, [], ◌∷◌, ◌++◌}
use native.Mathlib.Nat.{add-zero, mul-le-mul_right, zero-div}
use native.Mathlib.Omega.{arith}
use borrow.Author.Tests.{ltb-true, ltb-false, lt-ltb, le-ltb}
use lib.Dec.{ltb}
use lib.ListN.{length, get_or, take, drop, replicate, length-append, length-take, length-replicate, get_or-append, get_or-eq_default}
use lib.Seq.{get_or-append-add, get_or-take, get_or-drop, length-take-le}
use Rattle.record.specs.World.{World}
use Rattle.record.specs.Sizes.{WORDS}
use Rattle.model.specs.Audio.{BLOCK_FRAMES, capacity, frame_at, bytes_of, channel_bytes, frame_bytes, block_of}
use Rattle.model.specs.Ring.{frame_in, waiting_frames}
use Rattle.model.specs.SentBlock.{byte_at, BlockBytes}
use Rattle.model.proofs.OldestFirst.{ring_length, ring_nth}

-- ---- lists

zeros_at : (n i : ℕ) → get_or {A = ℕ} (replicate n 0) i 0 ≡ 0
zeros_at zero i = refl
zeros_at (suc n) zero = refl
zeros_at (suc n) (suc i) = zeros_at n i

-- a zero of a list is a zero of its beginning, or lies behind it
zero_take : (n : ℕ) (l : List ℕ) (i : ℕ) → get_or l i 0 ≡ 0 → get_or (take n l) i 0 ≡ 0
zero_take zero l i e = refl
zero_take (suc n) [] i e = refl
zero_take (suc n) (x ∷ l) zero e = e
zero_take (suc n) (x ∷ l) (suc i) e = zero_take n l i e

-- an element behind a list of known length
behind : {A : Type 0} (xs ys : List A) (n i j : ℕ) (d : A) → length xs ≡ n → j ≡ n + i → get_or (xs ++ ys) j d ≡ get_or ys i d
behind xs ys n i j d long at =
    let there : j ≡ length xs + i = omega arith in
    ap (λ (k : ℕ). get_or (xs ++ ys) k d) there ∙ get_or-append-add xs ys i d

-- ---- a word's bytes, a frame's channels, a block's frames

word_byte : (v i : ℕ) → i < 4 → get_or (bytes_of v) i 0 ≡ v / 2 ^ (24 - 8 * i) % 256
word_byte v zero h = refl
word_byte v (suc zero) h = refl
word_byte v (suc (suc zero)) h = refl
word_byte v (suc (suc (suc zero))) h = omega arith
word_byte v (suc (suc (suc (suc i)))) h = absurd (omega arith)

pub length_channels : (n : ℕ) (ws : List ℕ) → length (channel_bytes n ws) ≡ 4 * n
unfolding channel_bytes
length_channels zero ws = refl
length_channels (suc n) ws = omega (arith, length-append (bytes_of (get_or ws 0 0)) (channel_bytes n (drop 1 ws)), length_channels n (drop 1 ws))

channel_byte : (n : ℕ) (ws : List ℕ) (c i : ℕ) → c < n → i < 4 → get_or (channel_bytes n ws) (4 * c + i) 0 ≡ get_or ws c 0 / 2 ^ (24 - 8 * i) % 256
unfolding channel_bytes
channel_byte zero ws c i h l = absurd (omega arith)
channel_byte (suc n) ws zero i h l =
    let e : 4 * 0 + i ≡ i = omega arith in
    let first = bytes_of (get_or ws 0 0) in
    ap (λ (k : ℕ). get_or (first ++ channel_bytes n (drop 1 ws)) k 0) e
    ∙ get_or-append first (channel_bytes n (drop 1 ws)) 0 i l
    ∙ word_byte (get_or ws 0 0) i l
channel_byte (suc n) ws (suc c) i h l =
    let one : 1 + c ≡ suc c = omega arith in
    behind (bytes_of (get_or ws 0 0)) (channel_bytes n (drop 1 ws)) 4 (4 * c + i) (4 * suc c + i) 0 refl (omega arith)
    ∙ channel_byte n (drop 1 ws) c i (omega arith) l
    ∙ ap (λ (v : ℕ). v / 2 ^ (24 - 8 * i) % 256) (get_or-drop 1 ws c 0 ∙ ap (λ (k : ℕ). get_or ws k 0) one)

-- ---- a header of four bytes and zeros, frames of n channels, zeros, cut to so many bytes

module _ (p q r s n : ℕ) (frames : List ℕ) (size : ℕ) (full : length frames ≡ 4 * (BLOCK_FRAMES * n)) where
  abbrev header : List ℕ
  header = p ∷ q ∷ r ∷ s ∷ replicate 28 0

  abbrev front : List ℕ
  front = header ++ frames

  abbrev built : List ℕ
  built = take size (front ++ replicate 2048 0)

  front_length : length front ≡ 32 + 28 * n
  front_length = omega (arith, length-append header frames)

  built_length : size ≤ 2047 → length built ≡ size
  built_length h = length-take-le size (front ++ replicate 2048 0) (omega (arith, length-append front (replicate 2048 0), length-replicate {A = ℕ} 2048 0))

  built_front : (j : ℕ) → j < size → j < 32 + 28 * n → get_or built j 0 ≡ get_or front j 0
  built_front j h l = get_or-take size (front ++ replicate 2048 0) j 0 h ∙ get_or-append front (replicate 2048 0) 0 j (omega (arith, front_length))

  built_header : (j : ℕ) → j < size → j < 32 → get_or built j 0 ≡ get_or header j 0
  built_header j h l = built_front j h (omega arith) ∙ get_or-append header frames 0 j l

  built_frames : (j m : ℕ) → j < size → j < 32 + 28 * n → j ≡ 32 + m → get_or built j 0 ≡ get_or frames m 0
  built_frames j m h l e = built_front j h l ∙ behind header frames 32 m j 0 refl e

  built_number : (v : ℕ) → 3 < size → 256 * r + s ≡ v → 256 * get_or built 2 0 + get_or built 3 0 ≡ v
  built_number v h e = ap₂ (λ (x y : ℕ). 256 * x + y) (built_header 2 (omega arith) (omega arith)) (built_header 3 h (omega arith)) ∙ e

  built_low : 3 < size → s < 256 → get_or built 3 0 < 256
  built_low h l = omega (arith, built_header 3 h (omega arith))

  built_head : (j : ℕ) → 4 ≤ j → j < 32 → get_or built j 0 ≡ 0
  built_head j low high =
      zero_take size (front ++ replicate 2048 0) j
      (get_or-append front (replicate 2048 0) 0 j (omega (arith, front_length))
      ∙ get_or-append header frames 0 j high
      ∙ behind (p ∷ q ∷ r ∷ s ∷ []) (replicate 28 0) 4 (j - 4) j 0 refl (omega arith)
      ∙ zeros_at 28 (j - 4))

  built_rest : (j : ℕ) → 32 + 28 * n ≤ j → get_or built j 0 ≡ 0
  built_rest j h =
      zero_take size (front ++ replicate 2048 0) j
      (behind front (replicate 2048 0) (32 + 28 * n) (j - (32 + 28 * n)) j 0 front_length (omega arith) ∙ zeros_at 2048 (j - (32 + 28 * n)))

module _ (w : World) where
  abbrev channels : ℕ
  channels = w.state.audio.channels

  pub length_frames : (i n : ℕ) → length (frame_bytes i n w) ≡ 4 * (n * channels)
  unfolding frame_bytes
  length_frames i zero = omega arith
  length_frames i (suc n) =
      omega (arith, length-append (channel_bytes channels (frame_at w i)) (frame_bytes (suc i) n w), length_channels channels (frame_at w i), length_frames (suc i) n)

  frame_byte : (i n f k : ℕ) → f < n → k < 4 * channels → get_or (frame_bytes i n w) (4 * (f * channels) + k) 0 ≡ get_or (channel_bytes channels (frame_at w (i + f))) k 0
  unfolding frame_bytes
  frame_byte i zero f k h l = absurd (omega arith)
  frame_byte i (suc n) zero k h l =
      let e : 4 * (0 * channels) + k ≡ k = omega arith in
      let first = channel_bytes channels (frame_at w i) in
      ap (λ (j : ℕ). get_or (first ++ frame_bytes (suc i) n w) j 0) e
      ∙ get_or-append first (frame_bytes (suc i) n w) 0 k (omega (arith, length_channels channels (frame_at w i)))
      ∙ ap (λ (j : ℕ). get_or (channel_bytes channels (frame_at w j)) k 0) (sym (add-zero i))
  frame_byte i (suc n) (suc f) k h l =
      let next : suc i + f ≡ i + suc f = omega arith in
      behind (channel_bytes channels (frame_at w i)) (frame_bytes (suc i) n w) (4 * channels) (4 * (f * channels) + k) (4 * (suc f * channels) + k) 0 (length_channels channels (frame_at w i)) (omega arith)
      ∙ frame_byte (suc i) n f k (omega arith) l
      ∙ ap (λ (j : ℕ). get_or (channel_bytes channels (frame_at w j)) k 0) next

  -- the f-th frame that waits, and silence where none does
  frame_there : (f : ℕ) → f < w.state.audio.sending.len → frame_at w f ≡ frame_in w.lent.sending ((w.state.audio.sending.start + f) % capacity w)
  unfolding frame_at frame_in
  frame_there f h = simp (lt-ltb f w.state.audio.sending.len h)

  frame_silent : (f : ℕ) → w.state.audio.sending.len ≤ f → frame_at w f ≡ replicate WORDS 0
  unfolding frame_at
  frame_silent f h = simp (le-ltb f w.state.audio.sending.len h)

  -- as many wait as the ring's place says
  waiting_length : length (waiting_frames w) ≡ w.state.audio.sending.len
  waiting_length = ring_length (capacity w) w.lent.sending w.state.audio.sending.start w.state.audio.sending.len

  none_waits : (f : ℕ) → length (waiting_frames w) ≤ f → get_or (waiting_frames w) f [] ≡ []
  none_waits f h = get_or-eq_default (waiting_frames w) [] h

  module _ (inside : w.state.audio.sending.start < capacity w) where
    one_waits : (f : ℕ) → f < w.state.audio.sending.len → get_or (waiting_frames w) f [] ≡ frame_in w.lent.sending ((w.state.audio.sending.start + f) % capacity w)
    one_waits f h = ring_nth (capacity w) w.lent.sending w.state.audio.sending.start w.state.audio.sending.len f inside h

    -- a word of the f-th frame that waits, or 0
    frame_word : (f c : ℕ) → get_or (frame_at w f) c 0 ≡ get_or (get_or (waiting_frames w) f []) c 0
    frame_word f c = by (ltb f w.state.audio.sending.len) refl
      where
        by : (t : Bool) → ltb f w.state.audio.sending.len ≡ t → get_or (frame_at w f) c 0 ≡ get_or (get_or (waiting_frames w) f []) c 0
        by true e =
            let less = ltb-true f w.state.audio.sending.len e in
            ap (λ (l : List ℕ). get_or l c 0) (frame_there f less ∙ sym (one_waits f less))
        by false e =
            let past = ltb-false f w.state.audio.sending.len e in
            ap (λ (l : List ℕ). get_or l c 0) (frame_silent f past)
            ∙ zeros_at WORDS c
            ∙ sym (ap (λ (l : List ℕ). get_or l c 0) (none_waits f (omega (arith, waiting_length))))

    -- a frame has at most twelve words
    twelve_words : (f : ℕ) → length (get_or (waiting_frames w) f []) ≤ 12
    unfolding frame_in
    twelve_words f = by (ltb f w.state.audio.sending.len) refl
      where
        by : (t : Bool) → ltb f w.state.audio.sending.len ≡ t → length (get_or (waiting_frames w) f []) ≤ 12
        by true e =
            let long = ap length (one_waits f (ltb-true f w.state.audio.sending.len e)) in
            omega (arith, long, length-take WORDS (drop ((w.state.audio.sending.start + f) % capacity w * WORDS) w.lent.sending))
        by false e =
            let none = ap length (none_waits f (omega (arith, waiting_length, ltb-false f w.state.audio.sending.len e))) in
            omega (arith, none)

  -- ---- the block

  abbrev size : ℕ
  size = w.state.audio.block

  abbrev body : List ℕ
  body = frame_bytes 0 BLOCK_FRAMES w

  full : length body ≡ 4 * (BLOCK_FRAMES * channels)
  full = length_frames 0 BLOCK_FRAMES

  pub block_length : size ≤ 2047 → length (block_of w) ≡ size
  unfolding block_of
  block_length h = built_length _ _ _ _ channels body size full h

  pub block_first_lem : 0 < size → get_or (block_of w) 0 0 ≡ 7
  unfolding block_of
  block_first_lem h = built_header _ _ _ _ channels body size full 0 h (omega arith)

  pub block_second : 1 < size → get_or (block_of w) 1 0 ≡ 0xFF
  unfolding block_of
  block_second h = built_header _ _ _ _ channels body size full 1 h (omega arith)

  -- the counter's two bytes, the high one first
  pub block_number : 3 < size → 256 * get_or (block_of w) 2 0 + get_or (block_of w) 3 0 ≡ w.state.audio.counter
  unfolding block_of
  block_number h = built_number _ _ _ _ channels body size full w.state.audio.counter h (omega arith)

  pub block_low : 3 < size → get_or (block_of w) 3 0 < 256
  unfolding block_of
  block_low h = built_low _ _ _ _ channels body size full h (omega arith)

  -- byte i of word c of the f-th frame that waits
  pub block_word : (f c i : ℕ) → f < BLOCK_FRAMES → c < channels → i < 4 → 32 + 28 * channels ≤ size → w.state.audio.sending.start < capacity w
      → get_or (block_of w) (byte_at channels f c i) 0 ≡ get_or (get_or (waiting_frames w) f []) c 0 / 2 ^ (24 - 8 * i) % 256
  unfolding block_of
  block_word f c i hf hc hi room inside =
      let six : f ≤ 6 = omega arith in
      let most : f * channels ≤ 6 * channels = mul-le-mul_right channels six in
      let less : byte_at channels f c i < 32 + 28 * channels = omega arith in
      let at : byte_at channels f c i ≡ 32 + (4 * (f * channels) + (4 * c + i)) = omega arith in
      let same : 0 + f ≡ f = omega arith in
      built_frames _ _ _ _ channels body size full (byte_at channels f c i) (4 * (f * channels) + (4 * c + i)) (omega arith) less at
      ∙ frame_byte 0 BLOCK_FRAMES f (4 * c + i) hf (omega arith)
      ∙ ap (λ (k : ℕ). get_or (channel_bytes channels (frame_at w k)) (4 * c + i) 0) same
      ∙ channel_byte channels (frame_at w f) c i hc hi
      ∙ ap (λ (v : ℕ). v / 2 ^ (24 - 8 * i) % 256) (frame_word inside f c)

  -- zeros behind the counter, and behind the frames
  pub block_head : (j : ℕ) → 4 ≤ j → j < 32 → get_or (block_of w) j 0 ≡ 0
  unfolding block_of
  block_head j low high = built_head _ _ _ _ channels body size full j low high

  pub block_rest : (j : ℕ) → 32 + 28 * channels ≤ j → get_or (block_of w) j 0 ≡ 0
  unfolding block_of
  block_rest j h = built_rest _ _ _ _ channels body size full j h

  silent : (v i : ℕ) → v ≡ 0 → v / 2 ^ (24 - 8 * i) % 256 ≡ 0
  silent v i e = ap (λ (x : ℕ). x / 2 ^ (24 - 8 * i) % 256) e ∙ ap (λ (x : ℕ). x % 256) (zero-div (2 ^ (24 - 8 * i)))

  -- all of it, for a block within its bounds and a ring whose start lies in it (number 5)
  pub sent_block_lem : 33 ≤ size → size ≤ 2047 → channels ≡ (size - 32) / 28 → w.state.audio.sending.start < capacity w
      → BlockBytes size channels w.state.audio.counter (waiting_frames w) (block_of w)
  sent_block_lem least most matching inside =
      let room : 32 + 28 * channels ≤ size = omega arith in
      record {
        long = block_length most;
        first = block_first_lem (omega arith);
        second = block_second (omega arith);
        number = block_number (omega arith);
        low = block_low (omega arith);
        high = λ h. omega (arith, block_number (omega arith));
        words = λ f c i hf hc hi. block_word f c i hf hc hi room inside;
        unfilled =
            λ f c i hf hc hi none.
            block_word f c i hf hc hi room inside ∙ silent (get_or (get_or (waiting_frames w) f []) c 0) i (ap (λ (l : List ℕ). get_or l c 0) (none_waits f none));
        narrow =
            λ f c i hf hc hi past.
            block_word f c i hf hc hi room inside
            ∙ silent (get_or (get_or (waiting_frames w) f []) c 0) i (get_or-eq_default (get_or (waiting_frames w) f []) 0 (omega (arith, twelve_words inside f)));
        head = block_head;
        rest = block_rest;
      }
