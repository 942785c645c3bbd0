-- The received ring after a list of frames: it holds the last 48,000 of its own and of those, oldest first.
use Prim.Native.Nat.{ℕ, zero, suc, ◌+◌, ◌-◌, ◌*◌, ◌%◌, ◌≤◌, ◌<◌}
use mathlib.Core.Path.{◌≡◌, refl, ap, sym, subst, ◌∙◌}
use mathlib.Core.Logic.{◌≢◌}
use mathlib.Core.Bool.{Bool, true, false}
use mathlib.Core.List.{List, [], ◌∷◌, ◌++◌, map, append_assoc, append-nil}
use native.Mathlib.Omega.{arith}
use borrow.Author.Tests.{eqb-true, eqb-false}
use lib.Dec.{eqb}
use lib.ListN.{length, take, drop, length-append, length-drop}
use lib.Seq.{sets, length-sets, drop-append-le, drop-drop}
use Rattle.bits.specs.Pick.{pick}
use Rattle.bus.specs.Steps.{replay, replay_append}
use Rattle.record.specs.Record.{wrapped, in_frames, bad_blocks}
use Rattle.record.specs.Sizes.{FRAMES, WORDS}
use Rattle.record.specs.Change.{Change, count, credit, frame, ringed, ringed_place}
use Rattle.model.specs.Audio.{BLOCK_FRAMES, words_of, good}
use Rattle.model.specs.Ring.{frame_in, contents, InOrder, frames_from, frames_of_block, frames_of_blocks, last_of, block_changes, blocks_changes}
use Rattle.model.proofs.Received.{Kept, kept_by, kept_on}
use Rattle.model.proofs.OldestFirst.{ring_length, ring_oldest, ring_appends}
use Rattle.model.proofs.Blocks.{words_twelve}

-- ---- lists

-- the last n of some lists in turn are the last n of all
pub last_last : (n : ℕ) (xs ys : List (List ℕ)) → last_of n (last_of n xs ++ ys) ≡ last_of n (xs ++ ys)
last_last n xs ys =
    let k = length xs - n in
    let front : drop k xs ++ ys ≡ drop k (xs ++ ys) = sym (drop-append-le k xs ys (omega arith)) in
    let long : length (xs ++ ys) ≡ length xs + length ys = length-append xs ys in
    let rest : length (drop k (xs ++ ys)) ≡ length (xs ++ ys) - k = length-drop k (xs ++ ys) in
    let e : k + (length (drop k (xs ++ ys)) - n) ≡ length (xs ++ ys) - n = omega arith in
    ap (last_of n) front ∙ drop-drop (length (drop k (xs ++ ys)) - n) k (xs ++ ys) ∙ ap (λ (j : ℕ). drop j (xs ++ ys)) e

last_few : (n : ℕ) (l : List (List ℕ)) → length l ≤ n → last_of n l ≡ l
last_few n l h = let e : length l - n ≡ 0 = omega arith in ap (λ (j : ℕ). drop j l) e

-- ---- frames behind the newest

abbrev pub held : Kept → List (List ℕ)
held k = contents k.ring k.place.start k.place.len

-- the ring holds the last 48,000 of what it held and fs, and is in order
pub record Adds (fs : List (List ℕ)) (k k' : Kept) : Type 0 where
  pub frames : held k' ≡ last_of FRAMES (held k ++ fs)
  pub order : InOrder k'.ring k'.place

last_more : (n : ℕ) (x : List ℕ) (l : List (List ℕ)) → length l ≡ n → last_of n (x ∷ l) ≡ l
last_more n x l h = let e : suc (length l) - n ≡ 1 = omega arith in ap (λ (j : ℕ). drop j (x ∷ l)) e

module _ (k : Kept) (f : List ℕ) (whole : length f ≡ WORDS) (o : InOrder k.ring k.place) where
  abbrev at : ℕ
  at = (k.place.start + k.place.len) % FRAMES

  abbrev next : ℕ
  next = (k.place.start + 1) % FRAMES

  abbrev stores : List ℕ
  stores = sets k.ring (at * WORDS) f

  room : length stores ≡ 576000
  room = length-sets k.ring (at * WORDS) f ∙ o.room

  -- a ring that is full loses its oldest
  full : k.place.len ≡ FRAMES → Adds (f ∷ []) k (kept_by stores (record { start = next; len = FRAMES }))
  full h =
      let rest = contents k.ring next 47999 in
      let there : at ≡ (next + 47999) % FRAMES = omega (arith, o.starts) in
      let long : length (rest ++ (f ∷ [])) ≡ FRAMES = length-append rest (f ∷ []) ∙ ap (λ (n : ℕ). n + 1) (ring_length FRAMES k.ring next 47999) in
      let before : held k ≡ frame_in k.ring k.place.start ∷ rest =
      ap (contents k.ring k.place.start) h ∙ ring_oldest FRAMES k.ring k.place.start 47999 in
      record {
        frames =
            ap (λ (i : ℕ). contents (sets k.ring (i * WORDS) f) next FRAMES) there
            ∙ ring_appends FRAMES k.ring next 47999 f (omega arith) (omega arith) (omega (arith, o.room)) whole
            ∙ sym (last_more FRAMES (frame_in k.ring k.place.start) (rest ++ (f ∷ [])) long)
            ∙ sym (ap (λ (l : List (List ℕ)). last_of FRAMES (l ++ (f ∷ []))) before);
        order = record { room = room; starts = omega arith; holds = omega arith };
      }

  -- one with room has one more
  roomy : k.place.len ≢ FRAMES → Adds (f ∷ []) k (kept_by stores (record { start = k.place.start; len = k.place.len + 1 }))
  roomy h =
      let n = k.place.len in
      let less : n < FRAMES = omega (arith, o.holds) in
      let up : n + 1 ≡ suc n = omega arith in
      let long : length (held k ++ (f ∷ [])) ≡ n + 1 = length-append (held k) (f ∷ []) ∙ ap (λ (j : ℕ). j + 1) (ring_length FRAMES k.ring k.place.start n) in
      record {
        frames =
            ap (contents stores k.place.start) up
            ∙ ring_appends FRAMES k.ring k.place.start n f o.starts less (omega (arith, o.room)) whole
            ∙ sym (last_few FRAMES (held k ++ (f ∷ [])) (omega arith));
        order = record { room = room; starts = o.starts; holds = omega arith };
      }

  by_room : (t : Bool) → eqb k.place.len FRAMES ≡ t
      → Adds (f ∷ []) k (kept_by stores (pick t (record { start = next; len = FRAMES }) (record { start = k.place.start; len = k.place.len + 1 })))
  by_room true e = full (eqb-true k.place.len FRAMES e)
  by_room false e = roomy (eqb-false k.place.len FRAMES e)

  adds_frame : Adds (f ∷ []) k (kept_on (frame f) k)
  unfolding ringed ringed_place
  adds_frame = by_room (eqb k.place.len FRAMES) refl

pub adds_none : (k : Kept) → InOrder k.ring k.place → Adds [] k k
adds_none k o =
    let long : length (held k) ≡ k.place.len = ring_length FRAMES k.ring k.place.start k.place.len in
    record { frames = sym (ap (last_of FRAMES) (append-nil (held k)) ∙ last_few FRAMES (held k) (omega (arith, o.holds))); order = o }

adds_both : (xs ys : List (List ℕ)) (k k₁ k₂ : Kept) → Adds xs k k₁ → Adds ys k₁ k₂ → Adds (xs ++ ys) k k₂
adds_both xs ys k k₁ k₂ p q =
    record {
      frames =
          q.frames ∙ ap (λ (l : List (List ℕ)). last_of FRAMES (l ++ ys)) p.frames ∙ last_last FRAMES (held k ++ xs) ys
          ∙ ap (last_of FRAMES) (append_assoc (held k) xs ys);
      order = q.order;
    }

-- ---- lists of changes

-- frames of a block, one behind the other
adds_from : (n i : ℕ) (b : List ℕ) (k : Kept) → InOrder k.ring k.place → Adds (frames_from n i b) k (replay kept_on (map frame (frames_from n i b)) k)
unfolding frames_from
adds_from zero i b k o = adds_none k o
adds_from (suc n) i b k o =
    let f = words_of (take 48 (drop (32 + 48 * i) b)) in
    let first = adds_frame k f (words_twelve (take 48 (drop (32 + 48 * i) b))) o in
    adds_both (f ∷ []) (frames_from n (suc i) b) k (kept_on (frame f) k) _ first (adds_from n (suc i) b (kept_on (frame f) k) first.order)

-- what becomes of a block, and of some
adds_block : (c : ℕ) (b : List ℕ) (k : Kept) → InOrder k.ring k.place → Adds (frames_of_block b) k (replay kept_on (block_changes c b) k)
unfolding frames_of_block block_changes
adds_block c b k o = by (good b)
  where
    fs : List (List ℕ)
    fs = frames_from BLOCK_FRAMES 0 b

    rest : List Change
    rest = count in_frames BLOCK_FRAMES ∷ credit (wrapped (c + BLOCK_FRAMES)) ∷ []

    by : (t : Bool) → Adds (pick t fs []) k (replay kept_on (pick t (map frame fs ++ rest) (count bad_blocks 1 ∷ [])) k)
    by true = subst (Adds fs k) (sym (replay_append kept_on (map frame fs) rest k)) (adds_from BLOCK_FRAMES 0 b k o)
    by false = adds_none k o

pub adds_blocks : (c : ℕ) (bs : List (List ℕ)) (k : Kept) → InOrder k.ring k.place → Adds (frames_of_blocks bs) k (replay kept_on (blocks_changes c bs) k)
unfolding frames_of_blocks blocks_changes
adds_blocks c [] k o = adds_none k o
adds_blocks c (b ∷ bs) k o =
    let first = adds_block c b k o in
    subst (Adds (frames_of_block b ++ frames_of_blocks bs) k) (sym (replay_append kept_on (block_changes c b) _ k))
    (adds_both (frames_of_block b) (frames_of_blocks bs) k (replay kept_on (block_changes c b) k) _ first (adds_blocks (pick (good b) (wrapped (c + BLOCK_FRAMES)) c) bs (replay kept_on (block_changes c b) k) first.order))
