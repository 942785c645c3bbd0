-- The two steps of the audio stream: from what the code does to what it promises.
use Rattle.std.proofs.Common.{◌≡◌, ℕ, suc, ◌+◌, ◌/◌, ◌<◌, ◌≤◌, min, Bool, true, false, not, ◌&&◌, ◌||◌, eqb, ltb, leb, List, [], ◌∷◌, length, sym, refl, ap, ◌∙◌, subst, ap₂, mod-lt, arith, ne_eqb, le-leb}
use borrow.Author.Tests.{lt-leb}
use Rattle.bits.proofs.Tests.{false_true, and_false, and_both}
use Rattle.bits.specs.Pick.{pick}
use Rattle.bus.specs.Memory.{Memory}
use Rattle.bus.specs.Sized.{Sized}
use Rattle.bus.specs.Stores as S
use Rattle.bus.specs.Steps.{and_then}
use Rattle.usbdev.specs.Transfer.{total_of}
use Rattle.usbdev.proofs.Tokens.{total_lt}
use Rattle.transfer.specs.Transfer.{pointers_for, bytes_in}
use Rattle.transfer.proofs.Addresses.{bytes_for}
use Rattle.dtd.specs.declared.Ran.{Ran}
use Rattle.dtd.specs.declared.Found.TheVariants.{Unprimed, Ended, Active}
use Rattle.dtd.specs.declared.Descriptor.{Descriptor}
use Rattle.dtd.specs.Dtd.{descriptor, bit_of, primed, terminates, next_dtd, token_of, found, settling, list_ends, unpriming, reporting, Run, run_dtds}
use Rattle.dtd.specs.Promises.{TakesOne, SendsOne, Runs, Idle}
use Rattle.dtd.proofs.Runs.{runs_active, says_unprimed, says_ended, input_bytes, input_length, says, says_found}
use Rattle.record.specs.declared.Ring.{Ring}
use Rattle.record.specs.declared.State.{State}
use Rattle.record.specs.Record.{wrapped, with_audio, with_budget, raised}
use Rattle.record.specs.World.{World, with_state, with_received_ring, lined}
use Rattle.record.specs.Change.{Change, Step, taken_from, apply, ◌then◌, nothing, one, on_bus, on_page}
use Rattle.record.specs.Did.{Leads, after_run}
use Rattle.record.proofs.Laws.{in_turn, by_true, by_false, unchanged, once, from_here, leads_as, leads_from, leads_by, on_memory, run_then}
use Rattle.model.specs.Phases.{changing}
use Rattle.model.specs.Streams.{nonempty, brought}
use Rattle.model.specs.Audio.{audio_in, audio_out, named, adds_budget, over_budget, clears_budget, blocks, blocks_of, keeps_blocks, keeps_run, inputs, stream_in, block_of, sends_block, unprimes, stream_out, streams}
use Rattle.blocks.specs.declared.Decoded.{Decoded}
use Rattle.blocks.specs.Promises.{InRing, at_blocks, Keeps, with_decoded}
use Rattle.audio.specs.declared.Paced.{Paced}
use Rattle.audio.specs.Promises.{paced_of, decoded_of, counted_in, SameOut, at_heard, Hears, InSending, CanSend, sent_block, at_sent, Outputs, Unprimes, at_stream, Streams}

-- a single change, and what follows it
one_then : (c : World → Change) {f : Step} {a b : World} → Leads f (apply (c a) a) b → Leads (one c then f) a b
one_then c {f} {a} p = in_turn (once c a (apply (c a) a) refl) p

-- ---- the budget

-- the state with another budget
abbrev pub budgeted : State → ℕ → State
budgeted s n = with_audio s (with_budget s.audio n)

-- the input step, by what `pace` answers
module _ (w : World) (s : State) (m : Memory) (l : List ℕ) (c : World) where
  abbrev is_named : Bool
  is_named = primed audio_in m.page && not (terminates (next_dtd audio_in m))

  abbrev over : Bool
  over = ltb (wrapped (s.audio.budget + 368)) (total_of (token_of (next_dtd audio_in m) m))

  abbrev after_pace : Paced → Type 0
  after_pace p = Leads (pick p.waits nothing inputs) (at_heard w (budgeted s p.budget) m l) c

  paced_by : (n o : Bool) → is_named ≡ n → over ≡ o
      → after_pace (pick n (pick o (record { budget = wrapped (s.audio.budget + 368); waits = true }) (record { budget = 0; waits = false })) (record { budget = s.audio.budget; waits = false }))
      → Leads stream_in (at_heard w s m l) c
  unfolding stream_in over_budget named adds_budget clears_budget apply
  paced_by true true en eo q =
      in_turn (by_true _ _ nothing en (once _ _ (at_heard w (budgeted s (wrapped (s.audio.budget + 368))) m l) refl))
      (by_true over_budget nothing _ (ap₂ ◌&&◌ en eo) q)
  paced_by true false en eo q =
      in_turn (by_true _ _ nothing en (once _ _ (at_heard w (budgeted s (wrapped (s.audio.budget + 368))) m l) refl))
      (by_false over_budget nothing _ (ap₂ ◌&&◌ en eo)
      (in_turn (by_true _ _ nothing en (once _ _ (at_heard w (budgeted s 0) m l) refl)) q))
  paced_by false o en eo q =
      in_turn (by_false _ _ nothing en (unchanged _))
      (by_false over_budget nothing _ (rw en)
      (in_turn (by_false _ _ nothing en (unchanged _)) q))

  stream_paced : {p : Paced} → p ≡ paced_of m s.audio.budget → after_pace p → Leads stream_in (at_heard w s m l) c
  stream_paced e q = paced_by is_named over refl refl (subst after_pace e q)

-- ---- a run's blocks

-- a run that brought nothing had no blocks
none_kept : (bs : List ℕ) (d d' : Decoded) (l l' : List ℕ) → nonempty bs ≡ false → Keeps (keeps_blocks (blocks_of bs)) d l d' l' → (w : World) → at_blocks w d' l' ≡ at_blocks w d l
unfolding keeps_blocks blocks nothing
none_kept [] d d' l l' h p w = (p.leads w).is
none_kept (b ∷ bs) d d' l l' h p w = absurd (false_true (sym h))

keeps_run_lem : (r : Run) (t : Bool) → brought r ≡ t → (w : World) (d d' : Decoded) (l l' : List ℕ) → Keeps (keeps_blocks (blocks_of r.bytes)) d l d' l'
    → Leads (keeps_run r) (at_blocks w d l) (at_blocks (with_state w (counted_in w.state t)) d' l')
unfolding keeps_run apply raised
keeps_run_lem r true e w d d' l l' p =
    by_true _ _ nothing e (one_then _ (p.leads (with_state w (counted_in w.state true))))
keeps_run_lem r false e w d d' l l' p =
    by_false _ _ nothing e
    (leads_as (unchanged (at_blocks w d l)) (none_kept r.bytes d d' l l' (grind (arith, e)) p w))

nonempty_by : (bs : List ℕ) → nonempty bs ≡ not (eqb (length bs) 0)
nonempty_by [] = refl
nonempty_by (b ∷ bs) = sym (ap not (ne_eqb (suc (length bs)) 0 (λ e. omega arith)))

-- input of an active descriptor
module _ (s : State) (m m' : Memory) (l l' : List ℕ) (x : Descriptor) (total : ℕ) (ps : List ℕ) (d : Decoded) (ran : Ran) (t : Bool)
    (z : Sized m) (is : found audio_in m ≡ Active x) (is-total : total ≡ total_of x.token)
    (at : ℕ) (is_at : at ≡ descriptor x.pointer) (is-pointers : ps ≡ pointers_for m at total)
    (before : Decoded) (is-before : before ≡ decoded_of s) (kept : Keeps (keeps_blocks (blocks_of (bytes_in m ps total))) before l d l')
    (takes : TakesOne x.queue_head x.pointer x.token x.bit (S.bus m s.port.line) (S.bus m' ran.line) ran)
    (is-brought : t ≡ ran.done || not (eqb total 0)) (same : with_decoded s before ≡ s) where
  abbrev run : Run
  run = run_dtds audio_in [] (S.bus m s.port.line)

  ran_so : Runs audio_in [] (S.bus m s.port.line) (S.bus m' ran.line) ran
  ran_so = runs_active audio_in [] m s.port.line z refl x.queue_head x.pointer x.token (says_found audio_in m is) x.bit (says audio_in m is).1 (takes 3)

  same_bytes : bytes_in m ps total ≡ run.bytes
  same_bytes =
      rw (is-pointers, is_at, is-total)
      (bytes_for m (descriptor x.pointer) (total_of x.token) (omega (arith, total_lt x.token)) m (total_of x.token) (omega arith)
      ∙ sym (input_bytes 3 (omega arith) m s.port.line x.queue_head x.pointer x.token (says audio_in m is).0))

  kept_so : Keeps (keeps_blocks (blocks_of run.bytes)) (decoded_of s) l d l'
  kept_so = rw (← same_bytes, ← is-before) kept

  brought_so : brought run ≡ t
  brought_so =
      rw (is-brought, is-total, ran_so.done, nonempty_by run.bytes, input_length 3 (omega arith) m s.port.line x.queue_head x.pointer x.token (says audio_in m is).0)

  input_leads : (w : World) → Leads inputs (at_heard w s m l) (at_heard w (with_decoded (counted_in (after_run s ran) t) d) m' l')
  unfolding inputs
  input_leads w =
      run_then audio_in [] keeps_run (with_received_ring w l) s m m' ran ran_so
      (leads_from (ap (λ (y : State). at_heard w (after_run y ran) m' l) (sym (ap (with_decoded s) (sym is-before) ∙ same)))
      (keeps_run_lem run t brought_so (at_heard w (after_run s ran) m' l) (decoded_of s) d l l' kept_so))

  same_out : (t : Bool) → SameOut s (with_decoded (counted_in (after_run s ran) t) d)
  same_out true = record { sending = refl; block = refl; channels = refl }
  same_out false = record { sending = refl; block = refl; channels = refl }

  pub input_steps : (r₁ r₂ r : State) → r₁ ≡ after_run s ran → r₂ ≡ counted_in r₁ t → r ≡ with_decoded r₂ d → Hears inputs s m l r m' l'
  input_steps r₁ r₂ r e₁ e₂ e =
      rw (e, e₂, e₁)
      (record { leads = input_leads; sized = ran_so.does.sized; inside = kept.inside; same = same_out t })

-- input of an endpoint without an active descriptor
pub input_none : (s : State) (m m' : Memory) (l : List ℕ) (ran : Ran) → InRing s.audio.received → Idle audio_in [] (S.bus m s.port.line) (S.bus m' ran.line) ran
    → {r : State} → r ≡ after_run s ran → Hears inputs s m l r m' l
unfolding inputs keeps_run
input_none s m m' l ran i idle e =
    rw e
    (record {
      leads =
          λ w. run_then audio_in [] keeps_run (with_received_ring w l) s m m' ran idle.runs
          (by_false _ _ nothing (rw (← idle.runs.done, idle.nothing, idle.bytes)) (unchanged _));
      sized = idle.runs.does.sized;
      inside = i;
      same = record { sending = refl; block = refl; channels = refl };
    })

-- the input step, from what `pace` and the input that it allows do
module _ (s : State) (m : Memory) (l : List ℕ) (p : Paced) (is : p ≡ paced_of m s.audio.budget) where
  pub in_waits : Sized m → InRing s.audio.received → p.waits ≡ true → Hears stream_in s m l (budgeted s p.budget) m l
  in_waits z i t =
      record {
        leads = λ w. stream_paced w s m l _ is (rw t (unchanged _));
        sized = z;
        inside = i;
        same = record { sending = refl; block = refl; channels = refl };
      }

  pub in_goes : p.waits ≡ false → (r : State) (m' : Memory) (l' : List ℕ) → Hears inputs (budgeted s p.budget) m l r m' l' → Hears stream_in s m l r m' l'
  in_goes t r m' l' h =
      record {
        leads = λ w. stream_paced w s m l _ is (rw t (h.leads w));
        sized = h.sized;
        inside = h.inside;
        same = record { sending = h.same.sending; block = h.same.block; channels = h.same.channels };
      }

-- ---- output

-- one block, by the run that sends it
sends_block_lem : (s : State) (m m' : Memory) (l bs : List ℕ) (ran : Ran) → Runs audio_out bs (S.bus m s.port.line) (S.bus m' ran.line) ran
    → (w : World) → Leads (sends_block bs) (at_sent w s m l) (at_sent w (sent_block (after_run s ran) (length l / 12)) m' l)
unfolding sends_block apply
sends_block_lem s m m' l bs ran ran_so w =
    one_then _ (one_then _ (one_then _ (one_then _ (run_then audio_out bs _ (at_sent w s m l) _ m m' ran ran_so (one_then _ (once _ _ _ refl))))))

-- the ring that a block was taken from is in order
taken_from_lem : (r : Ring) (capacity n : ℕ) → InSending r capacity → InSending (taken_from capacity n r) capacity
unfolding taken_from
taken_from_lem r capacity n i =
    record { start = mod-lt (r.start + n) (omega (arith, i.start)); len = omega (arith, i.len); few = i.few }

module _ (s : State) (m : Memory) (l : List ℕ) (z : Sized m) (can : CanSend s l) where
  -- nothing is sent where credit is short, or nothing is primed
  out_still : primed audio_out m.page && leb 7 s.audio.credit ≡ false → Outputs stream_out s m l s m
  unfolding stream_out
  out_still h = record { leads = λ w. by_false _ _ nothing h (unchanged _); sized = z; can = can; received = refl }

  pub out_short : s.audio.credit < 7 → Outputs stream_out s m l s m
  out_short h = out_still (rw (lt-leb 7 s.audio.credit h) (and_false _))

  pub out_unprimed : found audio_out m ≡ Unprimed → Outputs stream_out s m l s m
  out_unprimed f = out_still (rw (says_unprimed audio_out m f))

  module _ (enough : 7 ≤ s.audio.credit) where
    primed_enough : primed audio_out m.page ≡ true → primed audio_out m.page && leb 7 s.audio.credit ≡ true
    primed_enough e = and_both _ _ e (le-leb 7 s.audio.credit enough)

    pub out_ended : found audio_out m ≡ Ended → (r : State) (m' : Memory) → Unprimes s m r m' → Outputs stream_out s m l r m'
    unfolding stream_out
    out_ended f r m' p =
        let ends = says_ended audio_out m f in
        record {
          leads = λ w. by_true _ _ nothing (primed_enough ends.0) (by_false _ _ unprimes ends.1 (p.leads w l));
          sized = p.sized;
          can = record { ring = rw p.audio can.ring; block = rw p.audio can.block; channels = rw p.audio can.channels };
          received = rw p.audio;
        }

    pub out_active : (x : Descriptor) → found audio_out m ≡ Active x → (bs : List ℕ) → ((w : World) → bs ≡ block_of (at_sent w s m l))
        → (m' : Memory) (ran : Ran) → SendsOne x.queue_head x.pointer x.token x.bit bs (S.bus m s.port.line) (S.bus m' ran.line) ran
        → (r₁ r : State) → r₁ ≡ after_run s ran → r ≡ sent_block r₁ (length l / 12) → Outputs stream_out s m l r m'
    unfolding stream_out
    out_active x f bs built m' ran sends r₁ r e₁ e =
        let is = (says audio_out m f).0 in
        let ran_so = runs_active audio_out bs m s.port.line z refl x.queue_head x.pointer x.token (says_found audio_out m f) x.bit (says audio_out m f).1 (sends 3) in
        rw (e, e₁)
        (record {
          leads =
              λ w. by_true _ _ nothing (primed_enough is.prime)
              (by_true _ _ unprimes is.active
              (from_here _ _ (rw (← built w) (sends_block_lem s m m' l bs ran ran_so w))));
          sized = ran_so.does.sized;
          can = record {
            ring = taken_from_lem s.audio.sending (length l / 12) (min 7 s.audio.sending.len) can.ring;
            block = can.block;
            channels = can.channels;
          };
          received = refl;
        })

-- un-priming, as what follows a run of a list that has ended
pub unprimes_steps : (s : State) (m m' : Memory) (line : Bool) → S.Does (settling (bit_of audio_out) 1 false) (S.bus m s.port.line) (S.bus m' line) 0
    → Unprimes s m (lined s line) m'
unfolding on_bus on_page settling changing list_ends unpriming reporting and_then unprimes
unprimes_steps s m m' line d =
    record {
      leads = λ w l. leads_by refl (on_memory (settling (bit_of audio_out) 1 false) (at_sent w s m l) s m m' line d.is);
      sized = d.sized;
      audio = refl;
    }

-- ---- both

-- output can go on from what input left
pub can_still : (s a₁ : State) (l : List ℕ) → SameOut s a₁ → CanSend s l → CanSend a₁ l
can_still s a₁ l e can =
    record { ring = rw e.sending can.ring; block = rw e.block can.block; channels = rw e.channels can.channels }

pub stream_steps : (s a₁ a₂ : State) (m m₁ m₂ : Memory) (l l₁ k : List ℕ) → Hears stream_in s m l a₁ m₁ l₁ → Outputs stream_out a₁ m₁ k a₂ m₂ → Streams streams s m l k a₂ m₂ l₁
unfolding streams
stream_steps s a₁ a₂ m m₁ m₂ l l₁ k h o =
    record {
      leads = λ w. in_turn (h.leads (at_stream w s m l k)) (o.leads (at_stream w a₁ m₁ l₁ k));
      sized = o.sized;
      inside = rw o.received h.inside;
      can = o.can;
    }
