-- What a block that is sent holds, byte by byte (document 01, "Streams": "built as the source builds it"; usbhost.rs 926-946).
use Rattle.std.specs.Prelude.{ℕ, ◌+◌, ◌-◌, ◌*◌, ◌/◌, ◌%◌, ◌^◌, ◌≤◌, ◌<◌, ◌≡◌, List, [], length, get_or}

-- where byte i of channel c of the f-th frame stands, in a block of so many channels (942)
abbrev pub byte_at : ℕ → ℕ → ℕ → ℕ → ℕ
byte_at channels f c i = 32 + 4 * (f * channels + c) + i

-- b: the bytes, for a block of so many bytes and channels, a stream counter, and the frames that wait, oldest first
pub record BlockBytes (block channels counter : ℕ) (frames : List (List ℕ)) (b : List ℕ) : Type 0 where
  pub long : length b ≡ block
  -- 929-930
  pub first : get_or b 0 0 ≡ 7
  pub second : get_or b 1 0 ≡ 0xFF
  -- 931: the counter's two bytes, the high one first
  pub number : 256 * get_or b 2 0 + get_or b 3 0 ≡ counter
  pub low : get_or b 3 0 < 256
  pub high : counter < 2 ^ 16 → get_or b 2 0 < 256
  -- 941-944: the four bytes of word c of the f-th frame, the highest first; a word that is not there reads as 0
  pub words : (f c i : ℕ) → f < 7 → c < channels → i < 4 → get_or b (byte_at channels f c i) 0 ≡ get_or (get_or frames f []) c 0 / 2 ^ (24 - 8 * i) % 256
  -- 936-939: no f-th frame waits
  pub unfilled : (f c i : ℕ) → f < 7 → c < channels → i < 4 → length frames ≤ f → get_or b (byte_at channels f c i) 0 ≡ 0
  -- 941: a frame has twelve words
  pub narrow : (f c i : ℕ) → f < 7 → c < channels → i < 4 → 12 ≤ c → get_or b (byte_at channels f c i) 0 ≡ 0
  -- 926: everything else is 0
  pub head : (j : ℕ) → 4 ≤ j → j < 32 → get_or b j 0 ≡ 0
  pub rest : (j : ℕ) → 32 + 28 * channels ≤ j → get_or b j 0 ≡ 0
