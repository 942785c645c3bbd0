-- The block that is sent: its bytes so far with zeros behind them, word by word and frame by frame.
use Prim.Native.Nat.{ℕ, zero, suc, ◌+◌, ◌-◌, ◌*◌, ◌/◌, ◌%◌, ◌^◌, ◌≤◌, ◌<◌, min}
use mathlib.Core.Bool.{Bool, true, false}
use mathlib.Core.List.{List, ◌++◌, append_assoc, append-nil}
use mathlib.Core.Path.{◌≡◌, refl, sym, ap, ap₂, subst, ◌∙◌}
use native.Mathlib.Nat.{add-zero, zero-add, suc-add, suc-mul, zero-mul, add-mul, mul-le-mul_right}
use native.Mathlib.Numerals.{add-one}
use native.Mathlib.Omega.{arith}
use borrow.Author.Tests.{lt-ltb, le-ltb, leb-true, leb-false}
use lib.Dec.{leb}
use lib.ListN.{length, get_or, set, take, drop, replicate, length-append, length-take, length-drop, length-replicate, replicate-append-replicate, get_or-eq_default}
use lib.Seq.{sets, sets-eq, take-append_seam, drop-append-add, take-append-le, get_or-take, get_or-drop}
use Rattle.bits.specs.Pick.{pick}
use Rattle.bus.specs.Words.{word_put}
use Rattle.midi.proofs.Laws.{sets_four}
use Rattle.record.specs.declared.Ring.{Ring}
use Rattle.record.specs.World.{World}
use Rattle.model.specs.Audio.{frame_at, bytes_of, channel_bytes, frame_bytes, block_of}
use Rattle.model.proofs.SentBlock.{length_channels, length_frames}
use Rattle.sending.specs.Promises.{Begun, header_of, at_sending}

-- ---- zeros behind a beginning

abbrev zeros : ℕ → List ℕ
zeros n = replicate n 0

drop_zeros : (n k : ℕ) → drop n (zeros (n + k)) ≡ zeros k
drop_zeros zero k = ap zeros (zero-add k)
drop_zeros (suc n) k = ap (λ (x : ℕ). drop (suc n) (zeros x)) (suc-add n k) ∙ drop_zeros n k

pub begun_zeros : {b p : List ℕ} → Begun b p → (k : ℕ) → length p + k ≤ 2048 → Begun b (p ++ zeros k)
begun_zeros {b} {p} g k room =
    record {
      room = omega (arith, long);
      is =
          g.is ∙ ap (λ (x : ℕ). p ++ zeros x) behind
          ∙ ap (λ (x : List ℕ). p ++ x) (sym (replicate-append-replicate k (2048 - length (p ++ zeros k)) 0))
          ∙ sym (append_assoc p (zeros k) (zeros (2048 - length (p ++ zeros k))));
    }
  where
    long : length (p ++ zeros k) ≡ length p + k
    long = length-append p (zeros k) ∙ ap (λ (x : ℕ). length p + x) (length-replicate k 0)

    behind : 2048 - length p ≡ k + (2048 - length (p ++ zeros k))
    behind = omega (arith, long)

-- bytes stored behind the beginning
module _ (b p xs : List ℕ) (at k : ℕ) (g : Begun b p) (e : at ≡ length p) (is : length p + length xs + k ≡ 2048) where
  stored : sets b at xs ≡ sets (p ++ zeros (length xs + k)) (length p) xs
  stored =
      let behind : 2048 - length p ≡ length xs + k = omega arith in
      ap₂ (λ (x : List ℕ) (y : ℕ). sets x y xs) (g.is ∙ ap (λ (x : ℕ). p ++ zeros x) behind) e

  rest : sets (p ++ zeros (length xs + k)) (length p) xs ≡ (p ++ xs) ++ zeros k
  rest =
      let long = length-append p (zeros (length xs + k)) ∙ ap (λ (x : ℕ). length p + x) (length-replicate (length xs + k) 0) in
      sets-eq xs (p ++ zeros (length xs + k)) (length p) (omega (arith, long))
      ∙ ap₂ (λ (x y : List ℕ). x ++ xs ++ y) (take-append_seam p (zeros (length xs + k))) (drop-append-add p (zeros (length xs + k)) (length xs) ∙ drop_zeros (length xs) k)

  begun_sets : Begun (sets b at xs) (p ++ xs)
  begun_sets =
      let same : k ≡ 2048 - length (p ++ xs) = omega (arith, length-append p xs) in
      record { room = omega (arith, length-append p xs); is = stored ∙ rest ∙ ap (λ (x : ℕ). (p ++ xs) ++ zeros x) same }

-- a word stored behind it
pub begun_put : {b p : List ℕ} → Begun b p → (at v : ℕ) → at ≡ length p → v < 2 ^ 32 → length p + 4 ≤ 2048 → Begun (word_put b at v) (p ++ bytes_of v)
unfolding word_put
begun_put {b} {p} g at v e h room =
    let high : v / 2 ^ 24 ≡ v / 2 ^ 24 % 256 = omega arith in
    subst (λ (x : List ℕ). Begun x (p ++ bytes_of v))
    (sym (ap (λ (x : ℕ). set (set (set (set b at x) (at + 1) (v / 2 ^ 16 % 256)) (at + 2) (v / 2 ^ 8 % 256)) (at + 3) (v % 256)) high ∙ sets_four b at (v / 2 ^ 24 % 256) (v / 2 ^ 16 % 256) (v / 2 ^ 8 % 256) (v % 256)))
    (begun_sets b p (bytes_of v) at (2048 - (length p + 4)) g e (omega arith))

-- the first bytes of a block
pub begun_take : {b p : List ℕ} → Begun b p → (n : ℕ) → n ≤ 2048 → take n b ≡ take n (p ++ replicate 2048 0)
begun_take {b} {p} g n few =
    let k : (2048 - length p) + length p ≡ 2048 = omega (arith, g.room) in
    sym (take-append-le n b (replicate (length p) 0) (omega (arith, long)))
    ∙ ap (λ (x : List ℕ). take n (x ++ replicate (length p) 0)) g.is
    ∙ ap (take n) (append_assoc p (replicate (2048 - length p) 0) (replicate (length p) 0) ∙ ap (λ (x : List ℕ). p ++ x) (replicate-append-replicate (2048 - length p) (length p) 0 ∙ ap (λ (x : ℕ). replicate x 0) k))
  where
    long : length b ≡ 2048
    long = ap length g.is ∙ length-append p (replicate (2048 - length p) 0) ∙ ap (λ (x : ℕ). length p + x) (length-replicate (2048 - length p) 0) ∙ omega (arith, g.room)

-- the header of a block of zeros
pub begun_header : (b : List ℕ) (counter : ℕ) → b ≡ replicate 2048 0 → Begun (set (set (set (set b 0 7) 1 255) 2 (counter / 256)) 3 (counter % 256)) (header_of counter)
begun_header b counter e =
    record {
      room = omega arith;
      is = ap (λ (x : List ℕ). set (set (set (set x 0 7) 1 255) 2 (counter / 256)) 3 (counter % 256)) e;
    }

-- ---- a frame's channels

more_bytes : (n : ℕ) (ws : List ℕ) → channel_bytes (suc n) ws ≡ channel_bytes n ws ++ bytes_of (get_or ws n 0)
unfolding channel_bytes
more_bytes zero ws = append-nil (bytes_of (get_or ws 0 0))
more_bytes (suc n) ws =
    ap (λ (x : List ℕ). bytes_of (get_or ws 0 0) ++ x) (more_bytes n (drop 1 ws) ∙ ap (λ (x : ℕ). channel_bytes n (drop 1 ws) ++ bytes_of x) (get_or-drop 1 ws n 0 ∙ ap (λ (x : ℕ). get_or ws x 0) one))
    ∙ sym (append_assoc (bytes_of (get_or ws 0 0)) (channel_bytes n (drop 1 ws)) (bytes_of (get_or ws (suc n) 0)))
  where
    one : 1 + n ≡ suc n
    one = omega arith

-- past a frame's words there is silence
silent : (ws : List ℕ) (n k : ℕ) → length ws ≤ n → channel_bytes (n + k) ws ≡ channel_bytes n ws ++ replicate (4 * k) 0
silent ws n zero h = ap (λ (x : ℕ). channel_bytes x ws) (add-zero n) ∙ sym (append-nil (channel_bytes n ws))
silent ws n (suc k) h =
    let s : n + suc k ≡ suc (n + k) = omega arith in
    let four : 4 * k + 4 ≡ 4 * suc k = omega arith in
    ap (λ (x : ℕ). channel_bytes x ws) s ∙ more_bytes (n + k) ws
    ∙ ap₂ (λ (x : List ℕ) (y : ℕ). x ++ bytes_of y) (silent ws n k h) (past ws (n + k) (omega arith))
    ∙ append_assoc (channel_bytes n ws) (replicate (4 * k) 0) (replicate 4 0)
    ∙ ap (λ (x : List ℕ). channel_bytes n ws ++ x) (replicate-append-replicate (4 * k) 4 0 ∙ ap (λ (x : ℕ). replicate x 0) four)
  where
    past : (l : List ℕ) (i : ℕ) → length l ≤ i → get_or l i 0 ≡ 0
    past l i h = get_or-eq_default l 0 h

-- the words of the frame at a place of the ring
pub word_in : (l : List ℕ) (at c : ℕ) → c < 12 → get_or l (12 * at + c) 0 ≡ get_or (take 12 (drop (at * 12) l)) c 0
word_in l at c h =
    let e : 12 * at + c ≡ at * 12 + c = omega arith in
    ap (λ (x : ℕ). get_or l x 0) e ∙ sym (get_or-take 12 (drop (at * 12) l) c 0 h ∙ get_or-drop (at * 12) l c 0)

pub twelve_in : (l : List ℕ) (at : ℕ) → at * 12 + 12 ≤ length l → length (take 12 (drop (at * 12) l)) ≡ 12
twelve_in l at h = omega (arith, length-take 12 (drop (at * 12) l), length-drop (at * 12) l)

-- where a loop over a frame's words stands
pub record Channels (from : ℕ) (ws b₀ b : List ℕ) (c : ℕ) : Type 0 where
  pub begun : (p : List ℕ) → length p ≡ from → Begun b₀ p → Begun b (p ++ channel_bytes c ws)

pub channels_none : (from : ℕ) (ws b : List ℕ) → Channels from ws b b 0
unfolding channel_bytes
channels_none from ws b = record { begun = λ p e g. subst (Begun b) (sym (append-nil p)) g }

module _ {from : ℕ} {ws b₀ b : List ℕ} {c : ℕ} (inv : Channels from ws b₀ b c) where
  pub channels_step : (at v : ℕ) → at ≡ from + 4 * c → v ≡ get_or ws c 0 → v < 2 ^ 32 → from + 4 * c + 4 ≤ 2048
      → (b' : List ℕ) → b' ≡ word_put b at v → Channels from ws b₀ b' (c + 1)
  channels_step at v ea ev less room b' eb =
      record { begun = λ p e g. step p e g }
    where
      step : (p : List ℕ) → length p ≡ from → Begun b₀ p → Begun b' (p ++ channel_bytes (c + 1) ws)
      step p e g =
          let here : length (p ++ channel_bytes c ws) ≡ from + 4 * c = omega (arith, length-append p (channel_bytes c ws), length_channels c ws) in
          let put = begun_put (inv.begun p e g) at v (omega arith) less (omega arith) in
          subst (λ (x : List ℕ). Begun x (p ++ channel_bytes (c + 1) ws)) (sym eb)
          (subst (Begun (word_put b at v))
          (append_assoc p (channel_bytes c ws) (bytes_of v) ∙ ap (λ (x : ℕ). p ++ (channel_bytes c ws ++ bytes_of x)) ev ∙ ap (λ (x : List ℕ). p ++ x) (sym (more_bytes c ws) ∙ ap (λ (x : ℕ). channel_bytes x ws) (sym (add-one c))))
          put)

  -- all of a frame's channels: those past its twelve words are zeros already
  pub channels_end : (channels : ℕ) → c ≡ min channels 12 → length ws ≡ 12 → from + 4 * channels ≤ 2048
      → (p : List ℕ) → length p ≡ from → Begun b₀ p → Begun b (p ++ channel_bytes channels ws)
  channels_end channels ec twelve room p e g = by_test (leb channels 12) refl
    where
      by_test : (t : Bool) → leb channels 12 ≡ t → Begun b (p ++ channel_bytes channels ws)
      by_test true h =
          let few = leb-true channels 12 h in
          let same : c ≡ channels = omega arith in
          subst (λ (x : ℕ). Begun b (p ++ channel_bytes x ws)) same (inv.begun p e g)
      by_test false h =
          let many = leb-false channels 12 h in
          let same : c ≡ 12 = omega arith in
          let k : c + (channels - c) ≡ channels = omega arith in
          let here : length (p ++ channel_bytes c ws) ≡ from + 4 * c = omega (arith, length-append p (channel_bytes c ws), length_channels c ws) in
          subst (Begun b)
          (append_assoc p (channel_bytes c ws) (replicate (4 * (channels - c)) 0)
          ∙ ap (λ (x : List ℕ). p ++ x) (sym (silent ws c (channels - c) (omega arith)) ∙ ap (λ (x : ℕ). channel_bytes x ws) k))
          (begun_zeros (inv.begun p e g) (4 * (channels - c)) (omega arith))

-- ---- the frames of a block

module _ (w : World) where
  abbrev of : ℕ
  of = w.state.audio.channels

  split_frames : (i n k : ℕ) → frame_bytes i (n + k) w ≡ frame_bytes i n w ++ frame_bytes (i + n) k w
  unfolding frame_bytes
  split_frames i zero k = ap₂ (λ (x y : ℕ). frame_bytes x y w) (sym (add-zero i)) (zero-add k)
  split_frames i (suc n) k =
      let j : suc i + n ≡ i + suc n = omega arith in
      ap (λ (x : ℕ). frame_bytes i x w) (suc-add n k)
      ∙ ap (λ (x : List ℕ). channel_bytes of (frame_at w i) ++ x) (split_frames (suc i) n k ∙ ap (λ (x : ℕ). frame_bytes (suc i) n w ++ frame_bytes x k w) j)
      ∙ sym (append_assoc (channel_bytes of (frame_at w i)) (frame_bytes (suc i) n w) (frame_bytes (i + suc n) k w))

  more_frames : (n : ℕ) → frame_bytes 0 (n + 1) w ≡ frame_bytes 0 n w ++ channel_bytes of (frame_at w n)
  unfolding frame_bytes
  more_frames n =
      split_frames 0 n 1 ∙ ap (λ (x : List ℕ). frame_bytes 0 n w ++ x) (append-nil (channel_bytes of (frame_at w (0 + n))) ∙ ap (λ (x : ℕ). channel_bytes of (frame_at w x)) (zero-add n))

  -- a ring without so many frames gives silence
  joined : (n : ℕ) → zeros 4 ++ zeros (4 * n) ≡ zeros (4 * suc n)
  joined n = let e : 4 + 4 * n ≡ 4 * suc n = omega arith in replicate-append-replicate 4 (4 * n) 0 ∙ ap zeros e

  silent_frame : (n k : ℕ) → channel_bytes n (zeros k) ≡ zeros (4 * n)
  unfolding channel_bytes
  silent_frame zero k = refl
  silent_frame (suc n) zero = ap (λ (x : List ℕ). zeros 4 ++ x) (silent_frame n zero) ∙ joined n
  silent_frame (suc n) (suc k) = ap (λ (x : List ℕ). zeros 4 ++ x) (silent_frame n k) ∙ joined n

  silent_frames : (i n : ℕ) → w.state.audio.sending.len ≤ i → frame_bytes i n w ≡ zeros (4 * (n * of))
  unfolding frame_bytes frame_at
  silent_frames i zero h = ap (λ (x : ℕ). zeros (4 * x)) (sym (zero-mul of))
  silent_frames i (suc n) h =
      let four : 4 * of + 4 * (n * of) ≡ 4 * (suc n * of) = omega (arith, suc-mul n of) in
      ap₂ (λ (x y : List ℕ). x ++ y)
      (ap (λ (t : Bool). channel_bytes of (pick t (take 12 (drop ((w.state.audio.sending.start + i) % (length w.lent.sending / 12) * 12) w.lent.sending)) (zeros 12))) (le-ltb i w.state.audio.sending.len h) ∙ silent_frame of 12)
      (silent_frames (suc i) n (omega arith))
      ∙ replicate-append-replicate (4 * of) (4 * (n * of)) 0 ∙ ap zeros four

  frame_is : (i at : ℕ) → i < w.state.audio.sending.len → at ≡ (w.state.audio.sending.start + i) % (length w.lent.sending / 12)
      → frame_at w i ≡ take 12 (drop (at * 12) w.lent.sending)
  unfolding frame_at
  frame_is i at h e = simp (lt-ltb i w.state.audio.sending.len h, e)

-- a block has room for seven frames
pub frame_fits : (f channels : ℕ) → f < 7 → 32 + 28 * channels ≤ 2048 → 32 + 4 * (f * channels) + 4 * channels ≤ 2048
frame_fits f channels h room =
    let few : f ≤ 6 = omega arith in
    omega (arith, mul-le-mul_right channels few)

-- where a loop over the frames stands
pub record Frames (channels : ℕ) (sending : List ℕ) (r : Ring) (b₀ b : List ℕ) (f : ℕ) : Type 0 where
  pub begun : (w : World) (p : List ℕ) → length p ≡ 32 → Begun b₀ p → Begun b (p ++ frame_bytes 0 f (at_sending w r channels sending))

pub frames_none : (channels : ℕ) (sending : List ℕ) (r : Ring) (b : List ℕ) → Frames channels sending r b b 0
unfolding frame_bytes
frames_none channels sending r b = record { begun = λ w p e g. subst (Begun b) (sym (append-nil p)) g }

module _ {channels : ℕ} {sending : List ℕ} {r : Ring} {b₀ b : List ℕ} {f : ℕ} (inv : Frames channels sending r b₀ b f) where
  pub frames_step : (capacity at : ℕ) → capacity ≡ length sending / 12 → at ≡ (r.start + f) % capacity → f < r.len
      → (b' : List ℕ)
      → ((p : List ℕ) → length p ≡ 32 + 4 * (f * channels) → Begun b p → Begun b' (p ++ channel_bytes channels (take 12 (drop (at * 12) sending))))
      → Frames channels sending r b₀ b' (f + 1)
  frames_step capacity at ec ea less b' puts =
      record { begun = λ w p e g. step w p e g }
    where
      step : (w : World) (p : List ℕ) → length p ≡ 32 → Begun b₀ p → Begun b' (p ++ frame_bytes 0 (f + 1) (at_sending w r channels sending))
      step w p e g =
          let v = at_sending w r channels sending in
          let here : length (p ++ frame_bytes 0 f v) ≡ 32 + 4 * (f * channels) = omega (arith, length-append p (frame_bytes 0 f v), length_frames v 0 f) in
          subst (Begun b')
          (append_assoc p (frame_bytes 0 f v) (channel_bytes channels (take 12 (drop (at * 12) sending)))
          ∙ ap (λ (x : List ℕ). p ++ (frame_bytes 0 f v ++ channel_bytes channels x)) (sym (frame_is v f at less (ea ∙ ap (λ (x : ℕ). (r.start + f) % x) ec)))
          ∙ ap (λ (x : List ℕ). p ++ x) (sym (more_frames v f)))
          (puts (p ++ frame_bytes 0 f v) here (inv.begun w p e g))

  pub frames_end : f ≡ min r.len 7 → 32 + 28 * channels ≤ 2048
      → (w : World) (p : List ℕ) → length p ≡ 32 → Begun b₀ p → Begun b (p ++ frame_bytes 0 7 (at_sending w r channels sending))
  frames_end ef room w p e g = by_test (leb r.len 7) refl
    where
      by_test : (t : Bool) → leb r.len 7 ≡ t → Begun b (p ++ frame_bytes 0 7 (at_sending w r channels sending))
      by_test true h =
          let few = leb-true r.len 7 h in
          let v = at_sending w r channels sending in
          let same : r.len ≡ f = omega arith in
          let k : f + (7 - f) ≡ 7 = omega arith in
          let parts : f * channels + (7 - f) * channels ≡ 7 * channels = sym (add-mul f (7 - f) channels) ∙ ap (λ (x : ℕ). x * channels) k in
          let here : length (p ++ frame_bytes 0 f v) ≡ 32 + 4 * (f * channels) = omega (arith, length-append p (frame_bytes 0 f v), length_frames v 0 f) in
          subst (Begun b)
          (append_assoc p (frame_bytes 0 f v) (zeros (4 * ((7 - f) * channels)))
          ∙ ap (λ (x : List ℕ). p ++ (frame_bytes 0 f v ++ x)) (sym (silent_frames v (0 + f) (7 - f) (omega arith)))
          ∙ ap (λ (x : List ℕ). p ++ x) (sym (split_frames v 0 f (7 - f)) ∙ ap (λ (x : ℕ). frame_bytes 0 x v) k))
          (begun_zeros (inv.begun w p e g) (4 * ((7 - f) * channels)) (omega arith))
      by_test false h =
          let many = leb-false r.len 7 h in
          let same : f ≡ 7 = omega arith in
          subst (λ (x : ℕ). Begun b (p ++ frame_bytes 0 x (at_sending w r channels sending))) same (inv.begun w p e g)

-- ---- the block

pub block_is_lem : (w : World) (b : List ℕ) → Begun b (header_of w.state.audio.counter ++ frame_bytes 0 7 w) → w.state.audio.block ≤ 2048 → take w.state.audio.block b ≡ block_of w
unfolding block_of
block_is_lem w b g few =
    begun_take g w.state.audio.block few
    ∙ ap (take w.state.audio.block) (append_assoc (header_of w.state.audio.counter) (frame_bytes 0 7 w) (zeros 2048))
