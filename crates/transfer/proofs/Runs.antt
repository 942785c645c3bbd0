-- A run of bytes within a page is a part of one window.
use Rattle.std.proofs.Common.{◌≡◌, ℕ, zero, suc, ◌+◌, ◌-◌, ◌%◌, ◌<◌, ◌≤◌, List, [], ◌++◌, length, get_or, take, drop, replicate, le_refl, sym, refl, ap, ◌∙◌, subst, append_assoc, arith, length-drop, length-take-le, get_or-drop, get_or-take, ext_get_or}
use Rattle.std.proofs.lemmas.List.{length-replicate, get_or-replicate}
use lib.Seq.{paste, paste-zero, paste-suc, take-length}
use borrow.Rule.Slice.PartMut.{put_mid, Post-is}
use Rattle.bus.specs.declared.Place.{Place}
use Rattle.bus.specs.declared.Place.TheVariants.{Dynamic, Static, Page, Nowhere}
use Rattle.bus.specs.Memory.{Memory, memory, place, read, write, lost, at, peek8, dropped8}
use Rattle.bus.specs.Sized.{Sized}
use Rattle.bus.specs.Windows.{viewed, memory_of}
use Rattle.bus.specs.declared.windows.Windows.{Windows}
use Rattle.bus.specs.declared.windows.View.{View}
use Rattle.bus.proofs.Lengths.{sized_of, sized_view}
use Rattle.bus.proofs.Places.{Inside, inside, peek_at, poke_at, Kept, kept_refl, kept_trans, kept_poke8, dropped_at}
use Rattle.bus.proofs.Laws.{at_kept}
use Rattle.transfer.specs.Transfer.{tabulate}
use Rattle.transfer.proofs.Laws.{length_tabulate, get_d_tabulate}
use Rattle.transfer.specs.Pages.{run_in, run_out}
use Rattle.bus.proofs.Pages.{shift, at_shift, Ends, ends}

-- ---- reading

-- the n bytes from a place on, as a part of its window
abbrev pub part : Memory → Place → ℕ → List ℕ
part m (Dynamic i) n = take (i + n - i) (drop i m.dynamic)
part m (Static i) n = take (i + n - i) (drop i m.sram)
part m (Page i) n = take (i + n - i) (drop i m.page)
part m Nowhere n = replicate n 0

middle : (l : List ℕ) (i n : ℕ) (f : ℕ → ℕ) → i + n ≤ length l → ((k : ℕ) → k < n → f k ≡ get_or l (i + k) 0) → take (i + n - i) (drop i l) ≡ tabulate n f
middle l i n f h g =
    ext_get_or 0 (take (i + n - i) (drop i l)) (tabulate n f) (long ∙ sym (length_tabulate n f))
    (λ k b. at_k k (subst (λ (x : ℕ). k < x) long b))
  where
    count : i + n - i ≡ n
    count = omega arith

    long : length (take (i + n - i) (drop i l)) ≡ n
    long = length-take-le (i + n - i) (drop i l) (omega (arith, length-drop i l)) ∙ count

    at_k : (k : ℕ) → k < n → get_or (take (i + n - i) (drop i l)) k 0 ≡ get_or (tabulate n f) k 0
    at_k k b =
        get_or-take (i + n - i) (drop i l) k 0 (omega arith) ∙ get_or-drop i l k 0 ∙ sym (g k b) ∙ sym (get_d_tabulate n f k 0 b)

part_run : (m : Memory) (q : Place) (n : ℕ) (f : ℕ → ℕ) → Ends m q n → ((k : ℕ) → k < n → f k ≡ read m (shift q k)) → part m q n ≡ tabulate n f
unfolding read
part_run m (Dynamic i) n f h g = middle m.dynamic i n f h g
part_run m (Static i) n f h g = middle m.sram i n f h g
part_run m (Page i) n f h g = middle m.page i n f h g
part_run m Nowhere n f h g =
    ext_get_or 0 (replicate n 0) (tabulate n f) (length-replicate n 0 ∙ sym (length_tabulate n f))
    (λ k b. let b' : k < n = subst (λ (x : ℕ). k < x) (length-replicate n 0) b in get_or-replicate n k 0 0 b' ∙ sym (g k b') ∙ sym (get_d_tabulate n f k 0 b'))

pub run_part : (m : Memory) (a n : ℕ) (q : Place) → at m a ≡ q → Sized m → a % 4096 + n ≤ 4096 → part m q n ≡ run_in m a n
unfolding run_in
run_part m a n q e s h =
    part_run m q n (λ k. peek8 m (a + k)) (ends m a n q e s h)
    (λ k b. peek_at m (a + k) (shift q k) (at_shift m a k s (omega arith) ∙ ap (λ (p : Place). shift p k) e))

-- ---- writing

pub kept_run_out : (m : Memory) (a : ℕ) (s : List ℕ) (n : ℕ) → Kept m (run_out m a s n)
unfolding run_out
kept_run_out m a s zero = kept_refl m
kept_run_out m a s (suc n) = kept_trans (kept_run_out m a s n) (kept_poke8 _ _ _)

-- the memory with the first n elements of s in place of the n bytes from a place on
abbrev pub pasted : Memory → Place → List ℕ → ℕ → Memory
pasted m (Dynamic i) s n = memory (paste m.dynamic i s n) m.sram m.page
pasted m (Static i) s n = memory m.dynamic (paste m.sram i s n) m.page
pasted m (Page i) s n = memory m.dynamic m.sram (paste m.page i s n)
pasted m Nowhere s n = m

pasted_none : (m : Memory) (q : Place) (s : List ℕ) → m ≡ pasted m q s 0
pasted_none m (Dynamic i) s = ap (λ (l : List ℕ). memory l m.sram m.page) (paste-zero m.dynamic i s)
pasted_none m (Static i) s = ap (λ (l : List ℕ). memory m.dynamic l m.page) (paste-zero m.sram i s)
pasted_none m (Page i) s = ap (λ (l : List ℕ). memory m.dynamic m.sram l) (paste-zero m.page i s)
pasted_none m Nowhere s = refl

pasted_turn : (m : Memory) (q : Place) (s : List ℕ) (k : ℕ) → Inside m (shift q k) → k < length s
    → write (pasted m q s k) (shift q k) (get_or s k 0) ≡ pasted m q s (suc k)
unfolding write
pasted_turn m (Dynamic i) s k h b = ap (λ (l : List ℕ). memory l m.sram m.page) (paste-suc m.dynamic i s k 0 h b)
pasted_turn m (Static i) s k h b = ap (λ (l : List ℕ). memory m.dynamic l m.page) (paste-suc m.sram i s k 0 h b)
pasted_turn m (Page i) s k h b = ap (λ (l : List ℕ). memory m.dynamic m.sram l) (paste-suc m.page i s k 0 h b)
pasted_turn m Nowhere s k h b = refl

pub run_pasted : (m : Memory) (a : ℕ) (s : List ℕ) (n : ℕ) (q : Place) → at m a ≡ q → Sized m → a % 4096 + n ≤ 4096 → n ≤ length s
    → run_out m a s n ≡ pasted m q s n
unfolding run_out
run_pasted m a s zero q e z h b = pasted_none m q s
run_pasted m a s (suc k) q e z h b =
    poke_at (run_out m a s k) (a + k) (shift q k) (at_kept (kept_run_out m a s k) (a + k) ∙ there) (get_or s k 0)
    ∙ ap (λ (x : Memory). write x (shift q k) (get_or s k 0)) (run_pasted m a s k q e z (omega arith) (omega arith))
    ∙ pasted_turn m q s k (subst (Inside m) there (inside z (a + k))) (omega arith)
  where
    there : at m (a + k) ≡ shift q k
    there = at_shift m a k z (omega arith) ∙ ap (λ (p : Place). shift p k) e

-- a part that came back as s, as a paste
pub put_paste : (d s l : List ℕ) (i : ℕ) → l ≡ s → put_mid i (i + length s - i) d l ≡ paste d i s (length s)
put_paste d s l i e =
    ap (λ (x : List ℕ). put_mid i (i + length s - i) d x) e
    ∙ ap (λ (x : List ℕ). take i d ++ (s ++ x)) (Post-is i (i + length s) d (omega arith))
    ∙ sym (append_assoc (take i d) s (drop (i + length s) d))
    ∙ ap (λ (x : List ℕ). take i d ++ x ++ drop (i + length s) d) (sym (take-length s))

-- ---- what the arms of page_in and page_out know: the place of an address, and that windows which are a value are sized

pub page_read : (v : View) (a n : ℕ) (q : Place) → q ≡ place (length v.dynamic.now) a → a % 4096 + n ≤ 4096
    → run_in (viewed v) a n ≡ part (viewed v) q n
unfolding at
page_read v a n q e h = sym (run_part (viewed v) a n q (sym e) (sized_view v) h)

pub page_written : (w : Windows) (a : ℕ) (s : List ℕ) (q : Place) → q ≡ place (length w.dynamic.now) a → a % 4096 + length s ≤ 4096
    → run_out (memory_of w) a s (length s) ≡ pasted (memory_of w) q s (length s)
unfolding at
page_written w a s q e h = run_pasted (memory_of w) a s (length s) q (sym e) (sized_of w) h (le_refl _)

-- whether a byte is dropped does not depend on the length of dynamic memory
pub lost_at : (n a : ℕ) (q : Place) → q ≡ place n a → dropped8 a ≡ lost q
unfolding at
lost_at n a q e =
    dropped_at (memory (replicate n 0) [] []) a q (ap (λ (x : ℕ). place x a) (length-replicate {A = ℕ} n 0) ∙ sym e)
