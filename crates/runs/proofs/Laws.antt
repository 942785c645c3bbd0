-- The turns of the loops over descriptors.
use Prim.Native.Nat.{ℕ, suc, ◌+◌, ◌-◌, ◌*◌, ◌≤◌, min}
use mathlib.Core.Bool.{Bool, true, false, ◌||◌}
use mathlib.Core.List.{List, [], ◌++◌}
use mathlib.Core.Path.{◌≡◌, refl, sym, ap, ap₂, subst, ◌∙◌}
use native.Mathlib.Omega.{arith}
use lib.ListN.{length, drop}
use lib.Seq.{drop-nil}
use Rattle.std.proofs.lemmas.List.{drop-drop}
use Rattle.bits.proofs.Tests.{or_false}
use Rattle.bus.specs.Memory.{Memory}
use Rattle.bus.specs.Sized.{Sized}
use Rattle.bus.specs.Steps.{exec, replay_append}
use Rattle.bus.specs.Stores.{Bus, bus, store, stored, dropped_by, dropped_append, BusStep, ◌then◌, nothing, when, Does}
use Rattle.bus.proofs.Storing.{does_nothing, does_then, does_as}
use Rattle.bits.specs.Pick.{pick}
use Rattle.usbdev.specs.Transfer.{total_of}
use Rattle.usbdev.proofs.Tokens.{total_lt}
use Rattle.transfer.specs.Transfer.{pointers, pointers_for, bytes_in, received}
use Rattle.dtd.specs.declared.Descriptor.{Descriptor}
use Rattle.dtd.specs.declared.Retired.{Retired}
use Rattle.dtd.specs.declared.Ran.{Ran}
use Rattle.dtd.specs.Dtd.{Endpoint, endpoint, bit_of, descriptor, terminates, token_of, is_active, interrupts, moves, bytes_of, data_out, retiring, turning, followed, following, Run, ended, joined, turns, most, primed, queue_head, next_of, next_dtd, settling, settled, run_dtds}
use Rattle.dtd.specs.Promises.{Retires, none_ran, running, Held, Moves, RunsOver}
use Rattle.dtd.proofs.Runs.{run_unprimed, runs_none, moved_unsent}
use Rattle.runs.specs.declared.Turn.{Turn}
use Rattle.dtd.specs.declared.side.Moved.{Moved}
use Rattle.runs.specs.Turns.{kept, kept_end, first_turn, stopped_at, Same, rest, filled, Turned, Looped, RunsIn, answer_of}
use Rattle.runs.proofs.Kept.{kept_append, end_append, kept_none, end_none, received_kept, end_kept}

or_assoc : (x y z : Bool) → x || (y || z) ≡ (x || y) || z
or_assoc true y z = refl
or_assoc false y z = refl

-- ---- the bytes of one descriptor, from what the code does

-- into an area
pub sink_moves : (d : Descriptor) (limit at : ℕ) (out : List ℕ) {m seen : Memory} {out' : List ℕ} {keep td total : ℕ} {ps : List ℕ} → Sized m → limit ≤ length out → at ≤ limit
    → keep ≡ min (total_of d.token) (limit - at) → td ≡ descriptor d.pointer → seen ≡ m → ps ≡ pointers_for seen td keep → out' ≡ received seen ps keep out at → total ≡ total_of d.token
    → Moves true d [] [] (filled out at limit) (filled out' (at + keep) limit) m m (record { bytes = total; lost = 0 })
unfolding data_out when nothing moves
sink_moves d limit at out {m} {out' = out'} {keep} z room inside is-keep is-descriptor same is-pointers copied is-total =
    let bytes = bytes_in m (pointers m (descriptor d.pointer)) (total_of d.token) in
    let few : total_of d.token ≤ 32767 = omega (arith, total_lt d.token) in
    let area : out' ≡ kept out at limit bytes =
    copied ∙ rw (is-pointers, is-descriptor, same) (received_kept m (descriptor d.pointer) (total_of d.token) keep out at limit is-keep few inside room) in
    let end : at + keep ≡ kept_end at limit bytes = end_kept m (descriptor d.pointer) (total_of d.token) keep out at limit is-keep few inside room in
    record {
      does = λ ep l. does_nothing (bus m l) z;
      bytes = λ ep. is-total;
      left = λ ep. sym (drop-nil (total_of d.token));
      holds = λ ys.
          ap₂ (λ (x : List ℕ) (y : ℕ). (x, y)) (kept_append out at limit bytes ys) (end_append out at limit bytes ys)
          ∙ ap₂ (λ (x : List ℕ) (y : ℕ). filled x y limit ys) (sym area) (sym end);
      few = (omega (arith, is-total, few), omega arith);
    }

-- ---- an active descriptor takes a turn of the run: its bytes are moved, and it is retired

module _ (ep : ℕ) (input : Bool) (qh : ℕ) {bit : ℕ} {bs bs' : List ℕ} {f f' : List ℕ → Held} {m m₁ m' : Memory} (t : Turn) (tok : ℕ) {p : Moved} {r : Retired} {i : Bool}
    (goes : terminates t.next ≡ false) (is-token : tok ≡ token_of t.next m) (active : is_active tok ≡ true) (is_done : i ≡ interrupts tok) (is_bit : bit ≡ bit_of (endpoint ep input))
    (moved : Moves input (record { queue_head = qh; pointer = t.next; token = tok; bit = bit }) bs bs' f f' m m₁ p) (retired : Retires qh t.next tok p.bytes bit m₁ m' r) where
  abbrev e : Endpoint
  e = endpoint ep input

  abbrev after : Turn
  after =
      record { next = r.next; done = t.done || i; moved = t.moved + p.bytes; retired = t.retired + 1; dropped = t.dropped + (p.lost + r.dropped); stop = false }

  -- the same bits by the token that memory has
  is_active_lem : is_active (token_of t.next m) ≡ true
  is_active_lem = ap is_active (sym is-token) ∙ active

  module _ (l : Bool) (k : ℕ) where
    -- what is left after it
    abbrev later : Run
    later = turns k e qh r.next bs' (bus m' l)

    -- this descriptor's step, by its token
    abbrev step_of : ℕ → BusStep
    step_of x = data_out e t.next x bs then retiring qh t.next x (moves e x bs) (bit_of e)

    -- this descriptor, by its token, and what is left
    abbrev run_of : ℕ → Run
    run_of x =
        record {
          stores = step_of x (bus m l) ++ later.stores;
          bytes = pick input (bytes_in m (pointers m (descriptor t.next)) (total_of x)) [] ++ later.bytes;
          done = interrupts x || later.done;
          last = later.last;
          moved = moves e x bs + later.moved;
          retired = 1 + later.retired;
        }

    does : Does (step_of tok) (bus m l) (bus m' l) (p.lost + r.dropped)
    does =
        does_then (moved.does ep l) (does_as (ap₂ (λ (x y : ℕ). retiring qh t.next tok x y (bus m₁ l)) (moved.bytes ep) is_bit) (retired.does l))

    goes_on : following e qh t.next bs (bus m l) ≡ r.next
    unfolding following
    goes_on =
        ap (λ (x : ℕ). followed qh t.next x (moves e x bs) (exec store (data_out e t.next x bs) (bus m l))) (sym is-token)
        ∙ sym (retired.next l ∙ ap₂ (λ (x : ℕ) (y : Bus). followed qh t.next tok x y) (moved.bytes ep) (moved.does ep l).is)

    leaves : exec store (turning e qh t.next bs) (bus m l) ≡ bus m' l
    unfolding turning
    leaves = ap (λ (x : ℕ). exec store (step_of x) (bus m l)) (sym is-token) ∙ sym does.is

    is_left : drop (moves e (token_of t.next m) bs) bs ≡ bs'
    is_left = ap (λ (x : ℕ). drop (moves e x bs) bs) (sym is-token) ∙ sym (moved.left ep)

    joins : joined e qh t.next bs (bus m l) later ≡ run_of (token_of t.next m)
    unfolding joined turning bytes_of
    joins = refl

    whole : turns (suc k) e qh t.next bs (bus m l) ≡ run_of tok
    unfolding turns
    whole =
        simp (goes, is_active_lem)
        (ap (joined e qh t.next bs (bus m l))
        (ap (λ (x : ℕ). turns k e qh x (drop (moves e (token_of t.next m) bs) bs) (exec store (turning e qh t.next bs) (bus m l))) goes_on
        ∙ ap₂ (λ (x : List ℕ) (y : Bus). turns k e qh r.next x y) is_left leaves)
        ∙ joins ∙ ap run_of (sym is-token))

    same_run : Same (run_of tok) (bus m l) t later (bus m' l) after
    same_run =
        record {
          stores = replay_append store (step_of tok (bus m l)) later.stores (bus m l) ∙ ap (stored later.stores) (sym does.is);
          counted = omega (arith, dropped_append (step_of tok (bus m l)) later.stores, does.counted);
          done = or_assoc t.done (interrupts tok) later.done ∙ ap (λ (x : Bool). (t.done || x) || later.done) (sym is_done);
          last = refl;
          moved = omega (arith, moved.bytes ep);
          retired = omega arith;
        }

  pub turn_moved : Turned e qh bs bs' f f' m m' t after
  turn_moved =
      record {
        same = λ l k. subst (λ (x : Run). Same x (bus m l) t (later l k) (bus m' l) after) (sym (whole l k)) (same_run l k);
        holds = λ l k. ap (λ (x : Run). f x.bytes) (whole l k) ∙ moved.holds (later l k).bytes;
        grown = record { moved = omega (arith, moved.few.0); retired = omega arith; dropped = omega (arith, retired.few, moved.few.1) };
      }

-- what is left to send, of what stood to be sent before the first turn
pub turn_unsent : {input : Bool} {d : Descriptor} {bs bs' : List ℕ} {f f' : List ℕ → Held} {m m' : Memory} {p : Moved} (before : ℕ) → Moves input d bs bs' f f' m m' p
    → (bs₀ : List ℕ) → bs ≡ drop before bs₀ → bs' ≡ drop (before + p.bytes) bs₀
turn_unsent {p = p} before moved bs₀ h = moved_unsent moved ∙ ap (drop p.bytes) h ∙ drop-drop p.bytes before bs₀

-- ---- a turn that ends the run: it retires nothing more, whatever is left of its turns

module _ (e : Endpoint) (qh : ℕ) (bs : List ℕ) (f : List ℕ → Held) (m : Memory) (t : Turn) where
  turned_stop : (n : ℕ) → ((l : Bool) (k : ℕ) → turns (suc k) e qh t.next bs (bus m l) ≡ ended n) → Turned e qh bs bs f f m m t (stopped_at t n)
  turned_stop n h =
      record {
        same = λ l k. subst (λ (r : Run). Same r (bus m l) t (ended n) (bus m l) (stopped_at t n)) (sym (h l k)) (record { stores = refl; counted = refl; done = refl; last = refl; moved = refl; retired = refl });
        holds = λ l k. ap (λ (r : Run). f r.bytes) (h l k);
        grown = record { moved = omega arith; retired = omega arith; dropped = omega arith };
      }

  pub turn_ends : terminates t.next ≡ true → Turned e qh bs bs f f m m t (stopped_at t t.next)
  unfolding turns
  turn_ends h = turned_stop t.next (λ l k. simp h)

  pub turn_inactive : terminates t.next ≡ false → (tok : ℕ) → tok ≡ token_of t.next m → is_active tok ≡ false → Turned e qh bs bs f f m m t (stopped_at t 1)
  unfolding turns
  turn_inactive h tok is no_more = turned_stop 1 (λ l k. simp (h, ap is_active (sym is) ∙ no_more))

-- a state by another name
pub turned_as : {e : Endpoint} {qh : ℕ} {bs bs' : List ℕ} {f f' : List ℕ → Held} {m m' : Memory} {t t' t'' : Turn} → t' ≡ t'' → Turned e qh bs bs' f f' m m' t t'' → Turned e qh bs bs' f f' m m' t t'
turned_as {e} {qh} {bs} {bs'} {f} {f'} {m} {m'} {t} h p = subst (λ (x : Turn). Turned e qh bs bs' f f' m m' t x) (sym h) p

-- ---- the loop

same_trans : {r r' r'' : Run} {b b' b'' : Bus} {t t' t'' : Turn} → Same r b t r' b' t' → Same r' b' t' r'' b'' t'' → Same r b t r'' b'' t''
same_trans p q =
    record {
      stores = p.stores ∙ q.stores;
      counted = p.counted ∙ q.counted;
      done = p.done ∙ q.done;
      last = p.last ∙ q.last;
      moved = p.moved ∙ q.moved;
      retired = p.retired ∙ q.retired;
    }

-- where a loop stands with so many turns left
pub record Looping (e : Endpoint) (qh n : ℕ) (bs₀ bs : List ℕ) (f₀ f : List ℕ → Held) (m₀ m : Memory) (t : Turn) (left : ℕ) : Type 0 where
  pub same : (l : Bool) → Same (turns 64 e qh n bs₀ (bus m₀ l)) (bus m₀ l) (first_turn n) (turns left e qh t.next bs (bus m l)) (bus m l) t
  pub holds : (l : Bool) → f₀ (turns 64 e qh n bs₀ (bus m₀ l)).bytes ≡ f (turns left e qh t.next bs (bus m l)).bytes
  pub few : left ≤ 64
  pub moved : t.moved ≤ 32767 * (64 - left)
  pub retired : t.retired ≤ 64 - left
  pub dropped : t.dropped ≤ 32787 * (64 - left)

module _ {e : Endpoint} {qh n : ℕ} {bs₀ : List ℕ} {f₀ : List ℕ → Held} {m₀ : Memory} where
  module _ {bs : List ℕ} {f : List ℕ → Held} {m : Memory} {t : Turn} {left : ℕ} (inv : Looping e qh n bs₀ bs f₀ f m₀ m t left) where
    pub loop_end : left ≡ 0 → Looped e qh n bs₀ f₀ f m₀ m t
    unfolding turns
    loop_end h =
        record {
          same = λ l. subst (λ (k : ℕ). Same (turns 64 e qh n bs₀ (bus m₀ l)) (bus m₀ l) (first_turn n) (turns k e qh t.next bs (bus m l)) (bus m l) t) h (inv.same l);
          holds = λ l. inv.holds l ∙ ap (λ (k : ℕ). f (turns k e qh t.next bs (bus m l)).bytes) h;
        }

    module _ {bs' : List ℕ} {f' : List ℕ → Held} {m' : Memory} {t' : Turn} (k : ℕ) (is : left ≡ suc k) (turn : Turned e qh bs bs' f f' m m' t t') where
      same_so : (l : Bool) → Same (turns 64 e qh n bs₀ (bus m₀ l)) (bus m₀ l) (first_turn n) (rest k e qh bs' t' (bus m' l)) (bus m' l) t'
      same_so l =
          same_trans (subst (λ (x : ℕ). Same (turns 64 e qh n bs₀ (bus m₀ l)) (bus m₀ l) (first_turn n) (turns x e qh t.next bs (bus m l)) (bus m l) t) is (inv.same l)) (turn.same l k)

      holds_so : (l : Bool) → f₀ (turns 64 e qh n bs₀ (bus m₀ l)).bytes ≡ f' (rest k e qh bs' t' (bus m' l)).bytes
      holds_so l = inv.holds l ∙ ap (λ (x : ℕ). f (turns x e qh t.next bs (bus m l)).bytes) is ∙ turn.holds l k

      pub loop_stopped : t'.stop ≡ true → Looped e qh n bs₀ f₀ f' m₀ m' t'
      loop_stopped h =
          let stops : (l : Bool) → rest k e qh bs' t' (bus m' l) ≡ ended t'.next = λ l. simp h in
          record {
            same = λ l. subst (λ (r : Run). Same (turns 64 e qh n bs₀ (bus m₀ l)) (bus m₀ l) (first_turn n) r (bus m' l) t') (stops l) (same_so l);
            holds = λ l. holds_so l ∙ ap (λ (r : Run). f' r.bytes) (stops l);
          }

-- ---- a run on endpoint 0: its loop, and what follows

-- a run of a primed endpoint with 64 turns
module _ (e : Endpoint) (bs : List ℕ) (b : Bus) (many : most e ≡ 64) (up : primed e b.memory.page ≡ true) where
  pub run_many : run_dtds e bs b ≡ settled e b (turns 64 e (queue_head e b.memory.page) (next_dtd e b.memory) bs b)
  unfolding run_dtds
  run_many = simp (up, many)

-- from a loop that ended and what settled its endpoint to the run
module _ (e : Endpoint) (bs : List ℕ) (f f' : List ℕ → Held) (m m₁ m₂ : Memory) (flag line : Bool) (qh n : ℕ) (t : Turn)
    (many : most e ≡ 64) (up : primed e m.page ≡ true) (is-head : qh ≡ queue_head e m.page) (is-next : n ≡ next_of qh m)
    (looped : Looped e qh n bs f f' m m₁ t)
    (settles : Does (settling (bit_of e) t.next t.done) (bus m₁ flag) (bus m₂ line) 0) where
  abbrev list : Run
  list = turns 64 e qh n bs (bus m flag)

  abbrev same : Same list (bus m flag) (first_turn n) (ended t.next) (bus m₁ flag) t
  same = looped.same flag

  is_run : run_dtds e bs (bus m flag) ≡ settled e (bus m flag) list
  is_run =
      run_many e bs (bus m flag) many up
      ∙ ap₂ (λ (h x : ℕ). settled e (bus m flag) (turns 64 e h x bs (bus m flag))) (sym is-head) (ap (λ (h : ℕ). next_of h m) (sym is-head) ∙ sym is-next)

  left_at : stored list.stores (bus m flag) ≡ bus m₁ flag
  left_at = same.stores

  is_done : list.done ≡ t.done
  is_done = same.done ∙ or_false t.done

  settles_so : bus m₂ line ≡ stored (settling (bit_of e) list.last list.done (stored list.stores (bus m flag))) (stored list.stores (bus m flag))
  settles_so =
      settles.is
      ∙ ap₂ (λ (x : ℕ) (y : Bool). stored (settling (bit_of e) x y (bus m₁ flag)) (bus m₁ flag)) (sym same.last) (sym is_done)
      ∙ ap (λ (x : Bus). stored (settling (bit_of e) list.last list.done x) x) (sym left_at)

  none_lost : dropped_by (settling (bit_of e) list.last list.done (stored list.stores (bus m flag))) ≡ 0
  none_lost =
      ap (λ (x : Bus). dropped_by (settling (bit_of e) list.last list.done x)) left_at
      ∙ ap₂ (λ (x : ℕ) (y : Bool). dropped_by (settling (bit_of e) x y (bus m₁ flag))) same.last is_done ∙ sym settles.counted

  pub run_loops : RunsOver e bs f f' (bus m flag) (bus m₂ line) (answer_of t line)
  unfolding running settled dropped_by
  run_loops =
      record {
        runs = record {
          does = record {
            is = settles_so ∙ sym (replay_append store list.stores (settling (bit_of e) list.last list.done (stored list.stores (bus m flag))) (bus m flag)) ∙ ap (λ (r : Run). stored r.stores (bus m flag)) (sym is_run);
            sized = settles.sized;
            counted = lost ∙ ap (λ (r : Run). dropped_by r.stores) (sym is_run);
          };
          done = sym is_done ∙ ap (λ (r : Run). r.done) (sym is_run);
          moved = moves_so ∙ ap (λ (r : Run). r.moved) (sym is_run);
          retired = retires_so ∙ ap (λ (r : Run). r.retired) (sym is_run);
        };
        holds = ap (λ (r : Run). f r.bytes) is_run ∙ looped.holds flag;
      }
    where
      lost : t.dropped ≡ dropped_by (list.stores ++ settling (bit_of e) list.last list.done (stored list.stores (bus m flag)))
      lost =
          omega (arith, same.counted, none_lost, dropped_append list.stores (settling (bit_of e) list.last list.done (stored list.stores (bus m flag))))

      moves_so : t.moved ≡ list.moved
      moves_so = omega (arith, same.moved)

      retires_so : t.retired ≡ list.retired
      retires_so = omega (arith, same.retired)

-- one that is not primed
pub run_none : (e : Endpoint) (bs : List ℕ) (f : List ℕ → Held) (m : Memory) (flag : Bool) → Sized m → primed e m.page ≡ false → RunsOver e bs f f (bus m flag) (bus m flag) (none_ran flag)
run_none e bs f m flag z h =
    record { runs = runs_none e bs m flag z h; holds = ap (λ (r : Run). f r.bytes) (run_unprimed e bs (bus m flag) h) }

-- an answer by another name
pub over_as : {e : Endpoint} {bs : List ℕ} {f f' : List ℕ → Held} {b : Bus} {m : Memory} {r r' : Ran} → r ≡ r' → RunsOver e bs f f' b (bus m r'.line) r' → RunsOver e bs f f' b (bus m r.line) r
over_as {e} {bs} {f} {f'} {b} {m} h p = subst (λ (x : Ran). RunsOver e bs f f' b (bus m x.line) x) (sym h) p

-- ---- runs into an area

-- what an area, lent by its lender's name, holds once its run is over
pub run_filled : {e : Endpoint} {limit : ℕ} {b b' : Bus} {out out' lent : List ℕ} {at at' : ℕ} {r : Ran} (limit' : ℕ) → lent ≡ out' → RunsOver e [] (filled out at limit) (filled out' at' limit') b b' r
    → RunsIn e limit b b' out lent at (record { ran = r; at = at' })
run_filled {out' = out'} {at' = at'} limit' is p =
    record {
      runs = p.runs;
      area = is ∙ sym (ap (λ (x : Held). x.0) p.holds ∙ kept_none out' at' limit');
      end = sym (ap (λ (x : Held). x.1) p.holds ∙ end_none at' limit');
    }
