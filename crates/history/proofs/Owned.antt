-- What a call's arguments tell by their types: the lists behind the slices of u8 that a microframe is lent hold bytes. That bound stands in no
-- denotation but behind each slice's borrow, which whoever owns the arguments on entry may open; so code that meets its contract meets the one that
-- ensures the bytes besides.
use Prim.Native.Nat.{ℕ, zero, suc}
use mathlib.Core.List.{List, [], ◌∷◌}
use lib.Dec.{lit<}
use seplogic.Ra.Ura.{Ura}
use mir.Syntax.{Lifetime, named, w8}
use mir.Val.{Val}
use base.Logic.{SProp, ent, sep, guard, emp, id⊢, via, mono_l, mono_r, guard_i, ex_i, ex_e, ex∗, assoc∗, assoc', comm∗}
use base.Fml.{Lft, Share, flft}
use prog.Model.{Model}
use prog.Routine.{Routine}
use types.Logic.{Logic, sem}
use types.Kit.{qed, raw, ‵, ◌⊛◌, given, later, use1, use2, split, join, move, learn, check, updating, await, now, done, fsplit, fjoin, feq_l, feq_i, ◌$◌, ! }
use contract.Lifetimes.{Lfts, Shares, Within, lft_at, toks}
use contract.Monad.{fm→mono}
use contract.Running.{Running}
use denote.RattleType.{RattleType, Denots, Valss, owns}
use denote.Ref.{MutBor}
use denote.Signature.{Signature, types_at}
use denote.Slice.{MutSlice, mut_slice_vals}
use denote.Triple.Bound.{passed}
use denote.Triple.Entry.{Args, Res}
use denote.Triple.Spec.{Spec, Back, triple_of, Meets}
use denote.Triple.Table.{run_framed, run_Enters}
use borrow.Table.Referent.{Rf, f_int, rt_f}
use borrow.Rule.Slice.Element.{OwnS}
use borrow.Rule.Slice.Know.{AllWt, fit_at, sl_known}
use Rattle.bus.specs.Memory.{memory}
use Rattle.config.specs.Config.{Bytes}
use Rattle.history.specs.Accepts.{BytesLent}
use Rattle.record.specs.World.{lent}

-- ---- the token of one lifetime of several

abbrev share_at : (n j : ℕ) → Within n j → Shares n → Share
share_at zero j ok qs = absurd ok
share_at (suc n) zero ok qs = qs.0
share_at (suc n) (suc j) ok qs = share_at n j ok qs.1

module _ {M : Type 1} {𝓤 : Ura M} (𝓛 : Logic 𝓤) where
  open 𝓛 use {A}

  abbrev toks_but : (n j : ℕ) → Lfts n → Shares n → SProp 𝓤
  toks_but zero j κs qs = emp 𝓤
  toks_but (suc n) zero κs qs = toks 𝓛 n κs.1 qs.1
  toks_but (suc n) (suc j) κs qs = sep 𝓤 (A.lft κs.0 qs.0) (toks_but n j κs.1 qs.1)

  swap : (P Q R : SProp 𝓤) → ent 𝓤 (sep 𝓤 P (sep 𝓤 Q R)) (sep 𝓤 Q (sep 𝓤 P R))
  swap P Q R =
      via 𝓤 (sep 𝓤 (sep 𝓤 P Q) R) (assoc' 𝓤 P Q R)
      (via 𝓤 (sep 𝓤 (sep 𝓤 Q P) R) (mono_l 𝓤 R (comm∗ 𝓤 P Q)) (assoc∗ 𝓤 Q P R))

  tok_out : (n j : ℕ) (ok : Within n j) (κs : Lfts n) (qs : Shares n)
      → ent 𝓤 (toks 𝓛 n κs qs) (sep 𝓤 (A.lft (lft_at n j ok κs) (share_at n j ok qs)) (toks_but n j κs qs))
  tok_out zero j ok κs qs = absurd ok
  tok_out (suc n) zero ok κs qs = id⊢ 𝓤 (toks 𝓛 (suc n) κs qs)
  tok_out (suc n) (suc j) ok κs qs =
      via 𝓤 (sep 𝓤 (A.lft κs.0 qs.0) (sep 𝓤 (A.lft (lft_at n j ok κs.1) (share_at n j ok qs.1)) (toks_but n j κs.1 qs.1)))
      (mono_r 𝓤 (A.lft κs.0 qs.0) (tok_out n j ok κs.1 qs.1))
      (swap (A.lft κs.0 qs.0) (A.lft (lft_at n j ok κs.1) (share_at n j ok qs.1)) (toks_but n j κs.1 qs.1))

  tok_in : (n j : ℕ) (ok : Within n j) (κs : Lfts n) (qs : Shares n)
      → ent 𝓤 (sep 𝓤 (A.lft (lft_at n j ok κs) (share_at n j ok qs)) (toks_but n j κs qs)) (toks 𝓛 n κs qs)
  tok_in zero j ok κs qs = absurd ok
  tok_in (suc n) zero ok κs qs = id⊢ 𝓤 (toks 𝓛 (suc n) κs qs)
  tok_in (suc n) (suc j) ok κs qs =
      via 𝓤 (sep 𝓤 (A.lft κs.0 qs.0) (sep 𝓤 (A.lft (lft_at n j ok κs.1) (share_at n j ok qs.1)) (toks_but n j κs.1 qs.1)))
      (swap (A.lft (lft_at n j ok κs.1) (share_at n j ok qs.1)) (A.lft κs.0 qs.0) (toks_but n j κs.1 qs.1))
      (mono_r 𝓤 (A.lft κs.0 qs.0) (tok_in n j ok κs.1 qs.1))

-- ---- the parameters from a place on

abbrev pub types_from : ℕ → List RattleType → List RattleType
types_from zero Ts = Ts
types_from (suc i) [] = []
types_from (suc i) (T ∷ Ts) = types_from i Ts

abbrev pub denots_from : (i : ℕ) (Ts : List RattleType) → Denots Ts → Denots (types_from i Ts)
denots_from zero Ts a = a
denots_from (suc i) [] a = a
denots_from (suc i) (T ∷ Ts) a = denots_from i Ts a.1

-- ---- what is owned on entry of parameters of the types Ts, with the lifetimes' tokens, tells P and stays as it was

module _ {M : Type 1} {𝓤 : Ura M} (𝓛 : Logic 𝓤) (n : ℕ) (κs : Lfts n) (qs : Shares n) where
  open 𝓛 use {H}

  abbrev pub owned : (Ts : List RattleType) → Denots Ts → Valss Ts → SProp 𝓤
  owned Ts a vss = sep 𝓤 (toks 𝓛 n κs qs) (sem 𝓛 (owns Ts a vss))

  abbrev pub Tells : (Ts : List RattleType) → Denots Ts → Type 0 → Type 1
  Tells Ts a P = (vss : Valss Ts) → ent 𝓤 (owned Ts a vss) (H.⇛ (guard 𝓤 P (owned Ts a vss)))

module _ {M : Type 1} {𝓤 : Ura M} (𝓛 : Logic 𝓤) where
  -- one slice: its borrow is opened, read and closed
  open 𝓛 use {H, A}

  slice_tells : (f : Rf) (ℓ : Lifetime) (κ : Lft) (q : Share) (x : MutBor (List (rt_f f).Denot)) (vs : List Val)
      → ent 𝓤 (sep 𝓤 (sem 𝓛 ((MutSlice ℓ κ (rt_f f)).own_val x vs)) (A.lft κ q))
      (H.⇛ (guard 𝓤 (AllWt f x.now) (sep 𝓤 (sem 𝓛 ((MutSlice ℓ κ (rt_f f)).own_val x vs)) (A.lft κ q))))
  slice_tells f ℓ κ q x vs =
      qed 𝓛 (‵ ((MutSlice ℓ κ (rt_f f)).own_val x vs) ∷ ‵ (flft κ q) ∷ []) {P = H.⇛ (guard 𝓤 (AllWt f x.now) (sep 𝓤 (sem 𝓛 ((MutSlice ℓ κ (rt_f f)).own_val x vs)) (A.lft κ q)))} (
      updating ! $ fsplit ! $ fsplit ! $ feq_l ! (λ e. fjoin ! $
      use2 𝓛 (later (given (AllWt f x.now) (‵ (OwnS 𝓛 (rt_f f) κ q x.ref_ptr.0 x.ref_ptr.1 x.ghost_name x.now) ⊛ ‵ (flft κ q))))
      (sl_known 𝓛 f κ q x.ref_ptr.0 x.ref_ptr.1 x.ghost_name x.now) $ await ! tt $ learn ! (λ a. split ! $
      fsplit ! $ feq_i ! (List Val) vs (mut_slice_vals x) e $ fjoin ! $ fjoin ! $ now ! $ check ! a $ done !)))

  module _ (n : ℕ) (κs : Lfts n) (qs : Shares n) where
    -- the first parameter is such a slice
    first_tells : (f : Rf) (ℓ : Lifetime) (j : ℕ) (ok : Within n j) (Ts : List RattleType) (a : Denots (MutSlice ℓ (lft_at n j ok κs) (rt_f f) ∷ Ts))
        → Tells 𝓛 n κs qs (MutSlice ℓ (lft_at n j ok κs) (rt_f f) ∷ Ts) a (AllWt f a.0.now)
    first_tells f ℓ j ok Ts a vss =
        qed 𝓛 (raw (toks 𝓛 n κs qs) ∷ ‵ (owns (MutSlice ℓ (lft_at n j ok κs) (rt_f f) ∷ Ts) a vss) ∷ [])
        {P = H.⇛ (guard 𝓤 (AllWt f a.0.now) (owned 𝓛 n κs qs (MutSlice ℓ (lft_at n j ok κs) (rt_f f) ∷ Ts) a vss))} (
        updating ! $ use1 𝓛 (‵ (flft (lft_at n j ok κs) (share_at n j ok qs)) ⊛ raw (toks_but 𝓛 n j κs qs)) (tok_out 𝓛 n j ok κs qs) $ split ! $
        move ! (2 ∷ []) $ fsplit ! $ move ! (0 ∷ 2 ∷ []) $
        use2 𝓛 (later (given (AllWt f a.0.now) (‵ ((MutSlice ℓ (lft_at n j ok κs) (rt_f f)).own_val a.0 vss.0) ⊛ ‵ (flft (lft_at n j ok κs) (share_at n j ok qs)))))
        (slice_tells f ℓ (lft_at n j ok κs) (share_at n j ok qs) a.0 vss.0) $ await ! tt $ learn ! (λ p. split ! $
        move ! (1 ∷ 3 ∷ []) $ join ! $ use1 𝓛 (raw (toks 𝓛 n κs qs)) (tok_in 𝓛 n j ok κs qs) $ move ! (1 ∷ 2 ∷ []) $ fjoin ! $
        move ! (1 ∷ 0 ∷ []) $ now ! $ check ! p $ done !))

    -- a later one tells it
    next_tells : (T : RattleType) (Ts : List RattleType) (a : Denots (T ∷ Ts)) (P : Type 0) → Tells 𝓛 n κs qs Ts a.1 P → Tells 𝓛 n κs qs (T ∷ Ts) a P
    next_tells T Ts a P s vss =
        qed 𝓛 (raw (toks 𝓛 n κs qs) ∷ ‵ (owns (T ∷ Ts) a vss) ∷ []) {P = H.⇛ (guard 𝓤 P (owned 𝓛 n κs qs (T ∷ Ts) a vss))} (
        updating ! $ move ! (1 ∷ []) $ fsplit ! $ move ! (2 ∷ 1 ∷ []) $
        use2 𝓛 (later (given P (raw (toks 𝓛 n κs qs) ⊛ ‵ (owns Ts a.1 vss.1)))) (s vss.1) $ await ! tt $ learn ! (λ p. split ! $
        move ! (2 ∷ 1 ∷ []) $ fjoin ! $ move ! (1 ∷ 0 ∷ []) $ now ! $ check ! p $ done !))

    pub later_tells : (i : ℕ) (Ts : List RattleType) (a : Denots Ts) (P : Type 0) → Tells 𝓛 n κs qs (types_from i Ts) (denots_from i Ts a) P → Tells 𝓛 n κs qs Ts a P
    later_tells zero Ts a P s = s
    later_tells (suc i) [] a P s = s
    later_tells (suc i) (T ∷ Ts) a P s = next_tells T Ts a P (later_tells i Ts a.1 P s)

    -- two facts, and what follows from one
    both_tell : (Ts : List RattleType) (a : Denots Ts) (P Q : Type 0) → Tells 𝓛 n κs qs Ts a P → Tells 𝓛 n κs qs Ts a Q → Tells 𝓛 n κs qs Ts a (P × Q)
    both_tell Ts a P Q p q vss =
        qed 𝓛 (raw (owned 𝓛 n κs qs Ts a vss) ∷ []) {P = H.⇛ (guard 𝓤 (P × Q) (owned 𝓛 n κs qs Ts a vss))} (
        updating ! $ use1 𝓛 (later (given P (raw (owned 𝓛 n κs qs Ts a vss)))) (p vss) $ await ! tt $ learn ! (λ x.
        use1 𝓛 (later (given Q (raw (owned 𝓛 n κs qs Ts a vss)))) (q vss) $ await ! tt $ learn ! (λ y. now ! $ check ! (x, y) $ done !)))

    then_tells : (Ts : List RattleType) (a : Denots Ts) (P Q : Type 0) → (P → Q) → Tells 𝓛 n κs qs Ts a P → Tells 𝓛 n κs qs Ts a Q
    then_tells Ts a P Q f p vss =
        qed 𝓛 (raw (owned 𝓛 n κs qs Ts a vss) ∷ []) {P = H.⇛ (guard 𝓤 Q (owned 𝓛 n κs qs Ts a vss))} (
        updating ! $ use1 𝓛 (later (given P (raw (owned 𝓛 n κs qs Ts a vss)))) (p vss) $ await ! tt $ learn ! (λ x. now ! $ check ! (f x) $ done !))

-- ---- the bytes that a microframe is lent

bytes_at_lem : (xs : List ℕ) → AllWt (f_int w8) xs → Bytes xs
bytes_at_lem xs a i = (fit_at (f_int w8) 0 (record { fits = lit< tt }) xs a i).fits

-- a `&mut` slice of u8 at the lifetime j
abbrev u8s : (n : ℕ) → Lfts n → (j : ℕ) → Within n j → RattleType
u8s n κs j ok = MutSlice (named j) (lft_at n j ok κs) (rt_f (f_int w8))

-- the three windows and the reply area, lent one behind the other from the parameter i on
module _ {M : Type 1} {𝓤 : Ura M} (𝓛 : Logic 𝓤) (n : ℕ) (κs : Lfts n) (qs : Shares n)
    (d s p r : ℕ) (dₒ : Within n d) (sₒ : Within n s) (pₒ : Within n p) (rₒ : Within n r) (Ts : List RattleType) where
  abbrev windows : List RattleType
  windows = u8s n κs d dₒ ∷ u8s n κs s sₒ ∷ u8s n κs p pₒ ∷ u8s n κs r rₒ ∷ Ts

  pub lent_bytes : (a : Denots windows) (config receive cables received sending : List ℕ)
      → Tells 𝓛 n κs qs windows a (BytesLent (lent (memory a.0.now a.1.0.now a.1.1.0.now) a.1.1.1.0.now config receive cables received sending))
  lent_bytes a config receive cables received sending =
      let w = f_int w8 in
      then_tells 𝓛 n κs qs windows a
      (AllWt w a.0.now × (AllWt w a.1.0.now × (AllWt w a.1.1.0.now × AllWt w a.1.1.1.0.now))) _
      (λ x. record { dynamic = bytes_at_lem a.0.now x.0; sram = bytes_at_lem a.1.0.now x.1.0; page = bytes_at_lem a.1.1.0.now x.1.1.0; reply = bytes_at_lem a.1.1.1.0.now x.1.1.1 })
      (both_tell 𝓛 n κs qs windows a _ _ (first_tells 𝓛 n κs qs w (named d) d dₒ (types_from 1 windows) a)
      (both_tell 𝓛 n κs qs windows a _ _ (later_tells 𝓛 n κs qs 1 windows a _ (first_tells 𝓛 n κs qs w (named s) s sₒ (types_from 2 windows) a.1))
      (both_tell 𝓛 n κs qs windows a _ _ (later_tells 𝓛 n κs qs 2 windows a _ (first_tells 𝓛 n κs qs w (named p) p pₒ (types_from 3 windows) a.1.1))
      (later_tells 𝓛 n κs qs 3 windows a _ (first_tells 𝓛 n κs qs w (named r) r rₒ Ts a.1.1.1)))))

-- ---- a contract that ensures P of the arguments besides

abbrev pub also : {M : Type 1} {𝓤 : Ura M} (S : Signature) → Spec 𝓤 S → ((κs : Lfts S.lifetimes) → Args S κs → Type 0) → Spec 𝓤 S
also {M} {𝓤} S c P κs a = record { ghost = (c κs a).ghost; requires = (c κs a).requires; ensures = λ g r. guard 𝓤 (P κs a) ((c κs a).ensures g r) }

-- code that meets its contract meets that one, where the arguments tell P
module _ {M : Type 1} {𝓤 : Ura M} (𝓛 : Logic 𝓤) (𝓜 : Model 𝓤 𝓛.H) (𝓡 : Running 𝓤 𝓛.H 𝓜) where
  open 𝓛 use {H}

  pub meets_also : (S : Signature) (c : Spec 𝓤 S) (P : (κs : Lfts S.lifetimes) → Args S κs → Type 0)
      → ((κs : Lfts S.lifetimes) (qs : Shares S.lifetimes) (a : Args S κs) → Tells 𝓛 S.lifetimes κs qs (types_at S.params κs) a (P κs a))
      → (code : Routine) → Meets 𝓛 S (𝓡.run code) c → Meets 𝓛 S (𝓡.run code) (also S c P)
  meets_also S c P tells code m y =
      let L = 𝓛.laws in
      let κs : Lfts S.lifetimes = y.0.0 in
      let a : Args S κs = y.0.3 in
      let E : SProp 𝓤 = owned 𝓛 S.lifetimes κs y.0.1 (types_at S.params κs) a y.0.4 in
      let R : SProp 𝓤 = (c κs a).requires y.1 in
      let vs : List Val = passed 𝓛 S y.0 in
      let before : Val → SProp 𝓤 = (triple_of 𝓛 S c).post y in
      let after : Val → SProp 𝓤 = (triple_of 𝓛 S (also S c P)).post y in
      via 𝓤 (sep 𝓤 (H.⇛ (guard 𝓤 (P κs a) E)) R) (mono_l 𝓤 R (tells κs y.0.1 a y.0.4))
      (via 𝓤 (H.⇛ (sep 𝓤 (guard 𝓤 (P κs a) E) R)) (L.⇛_frame (guard 𝓤 (P κs a) E) R)
      (via 𝓤 (H.⇛ (𝓡.run code vs after))
      (L.⇛_mono (sep 𝓤 (guard 𝓤 (P κs a) E) R) (𝓡.run code vs after) (ex∗ 𝓤 (λ (_ : P κs a). E) R (λ p.
      via 𝓤 (𝓡.run code vs before) (m y)
      (fm→mono 𝓤 (𝓡.run code vs) (run_framed 𝓤 H 𝓜 𝓡 code vs) before after (λ v. L.⇛_mono _ _ (ex_e 𝓤 _ (λ r.
      via 𝓤 (sep 𝓤 (Back 𝓛 S y.0 v r) ((also S c P κs a).ensures y.1 r))
      (mono_r 𝓤 (Back 𝓛 S y.0 v r) (guard_i 𝓤 (P κs a) ((c κs a).ensures y.1 r) p))
      (ex_i 𝓤 (λ (r' : Res S κs). sep 𝓤 (Back 𝓛 S y.0 v r') ((also S c P κs a).ensures y.1 r')) r))))))))
      (run_Enters 𝓤 H 𝓜 𝓡 code vs after)))
