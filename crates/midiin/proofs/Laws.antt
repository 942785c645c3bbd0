-- The reads of MIDI input, from what the code does.
use Rattle.std.proofs.Common.{◌≡◌, ℕ, suc, ◌+◌, ◌*◌, ◌/◌, ◌≤◌, Bool, true, false, not, ◌||◌, eqb, List, [], ◌∷◌, length, sym, refl, ap, ◌∙◌, subst, ap₂, arith, ne_eqb, eqb-true}
use Rattle.bits.specs.Pick.{pick}
use Rattle.bits.specs.Word as W
use Rattle.bus.specs.Memory.{Memory, memory}
use Rattle.bus.specs.Sized.{Sized}
use Rattle.bus.specs.Stores as S
use Rattle.bus.specs.Words.{word_at, word_put}
use Rattle.bus.specs.Windows.{memory_of, SameWindows}
use Rattle.bus.specs.declared.windows.Windows.{Windows}
use Rattle.bus.proofs.Lengths.{sized_of}
use Rattle.usbdev.specs.Offsets.{EPNAK}
use Rattle.usbdev.specs.Registers.{registers, store}
use Rattle.usbdev.specs.Transfer.{total_of}
use Rattle.usbdev.proofs.Tokens.{total_lt}
use Rattle.transfer.specs.Transfer.{pointers, pointers_for, bytes_in}
use Rattle.transfer.proofs.Laws.{length_bytes_in}
use Rattle.transfer.proofs.Addresses.{bytes_for}
use Rattle.dtd.specs.declared.Descriptor.{Descriptor}
use Rattle.dtd.specs.declared.Found.TheVariants.{Active}
use Rattle.dtd.specs.Dtd.{Endpoint, endpoint, primed, descriptor, Run, run_dtds, found}
use Rattle.dtd.specs.declared.Ran.{Ran}
use Rattle.dtd.specs.Promises.{TakesOne, Runs, Idle}
use Rattle.dtd.proofs.Runs.{runs_active, input_bytes, says, says_found}
use Rattle.record.specs.declared.State.{State}
use Rattle.record.specs.Record.{with_stats, counted, midi_dtds}
use Rattle.record.specs.World.{World, at_page, with_receive_area, with_cables_area}
use Rattle.record.specs.Change.{count, cabled, received, apply, nothing}
use Rattle.record.specs.Did.{Leads, after_run}
use Rattle.record.proofs.Laws.{in_turn, by_true, by_false, unchanged, once, from_here, on_page_lem, run_then}
use Rattle.model.specs.Phases.{changing}
use Rattle.model.specs.Streams.{naks, reads, reads_at, midi_in, brought, nonempty, each_packet, decoded, cables_of}
use Rattle.model.proofs.Bytes.{run_bytes}
use Rattle.model.proofs.Decoded.{decoded_few}
use Rattle.streams.specs.Promises.{Fewer}
use Rattle.streams.proofs.Laws.{fewer_same, fewer_then}
use Rattle.midiin.specs.declared.Read.{Read}
use Rattle.midiin.specs.Promises.{at_cabled, OnPage, Decodes, count_read, after_read, ReadsOne, Hears}

-- ---- NAK

module _ (p : List ℕ) where
  pub nak_none : primed (endpoint 1 true) p ≡ true → OnPage naks p p
  unfolding naks
  nak_none h = record { leads = λ w s. by_false _ _ _ (ap not h) (unchanged (at_page w s p)) }

  pub nak_set : primed (endpoint 1 true) p ≡ false → {p' : List ℕ} → p' ≡ word_put p EPNAK (W.set (word_at p EPNAK) 0x20000) → OnPage naks p p'
  unfolding naks changing store
  nak_set h {p'} e =
      record {
        leads = λ w s. by_true _ _ _ (ap not h) (on_page_lem (changing EPNAK (λ v. W.set v 0x20000)) w s p p' s.port.line (omega arith, tt) (ap (λ (x : List ℕ). registers x s.port.line) e));
      }

-- ---- one read

abbrev MIDI_IN : Endpoint
MIDI_IN = endpoint 1 true

-- a run that brought neither byte nor completion
module _ (s : State) (m m' : Memory) (out cs : List ℕ) (r : Ran) (run : Runs MIDI_IN [] (S.bus m s.port.line) (S.bus m' r.line) r)
    (quiet : brought (run_dtds MIDI_IN [] (S.bus m s.port.line)) ≡ false) where
  pub quiet_read : ReadsOne s m out cs (record { state = after_run s r; stop = true }) m' out cs
  unfolding reads nothing
  quiet_read =
      record {
        goes = λ n w p. run_then MIDI_IN [] _ (with_cables_area (with_receive_area w out) cs) s m m' r run (by_false _ _ _ quiet p);
        sized = run.does.sized;
        few = fewer_same refl;
        most = omega arith;
      }

-- one that brought one of them: it is counted, and its packets go to the receive area and their cables beside them
module _ (s : State) (m m' : Memory) (out out' cs cs' : List ℕ) (r : Ran) (run : Runs MIDI_IN [] (S.bus m s.port.line) (S.bus m' r.line) r) where
  abbrev ran : Run
  ran = run_dtds MIDI_IN [] (S.bus m s.port.line)

  module _ (heard : brought ran ≡ true) (at : ℕ) (puts : Decodes (length ran.bytes / 4) ran.bytes out out' cs cs' s.answer.received at) where
    pub heard_read : ReadsOne s m out cs (record { state = count_read (after_run s r) at; stop = false }) m' out' cs'
    unfolding reads apply
    heard_read =
        let bytes = decoded (length ran.bytes / 4) ran.bytes in
        let cables = cables_of (length ran.bytes / 4) ran.bytes in
        let s₁ = with_stats (after_run s r) (counted midi_dtds 1 s.stats) in
        record {
          goes = λ n w p. run_then MIDI_IN [] _ (with_cables_area (with_receive_area w out) cs) s m m' r run
              (by_true _ _ _ heard
              (in_turn (once (λ v. count midi_dtds 1) (at_cabled w (after_run s r) m' out cs) (at_cabled w s₁ m' out cs) refl)
              (in_turn (once (λ v. cabled cables) (at_cabled w s₁ m' out cs) (at_cabled w s₁ m' out cs') (ap (at_cabled w s₁ m' out) puts.cables))
              (in_turn (once (λ v. received bytes) (at_cabled w s₁ m' out cs') (at_cabled w (count_read (after_run s r) at) m' out' cs')
              (ap₂ (λ (x : ℕ) (y : List ℕ). at_cabled w (count_read (after_run s r) x) m' y cs') puts.behind puts.area))
              p))));
          sized = run.does.sized;
          few = fewer_same refl;
          most = omega (arith, puts.behind, decoded_few (length ran.bytes / 4) ran.bytes, run_bytes MIDI_IN refl [] (S.bus m s.port.line));
        }

-- a run of an active descriptor, by its total
module _ (s : State) (m m' : Memory) (out out' cs cs' : List ℕ) (r : Ran) (run : Runs MIDI_IN [] (S.bus m s.port.line) (S.bus m' r.line) r)
    (total at : ℕ) (bs : List ℕ) (is-bytes : (run_dtds MIDI_IN [] (S.bus m s.port.line)).bytes ≡ bs) (size : length bs ≡ total)
    (puts : Decodes (total / 4) bs out out' cs cs' s.answer.received at) where
  some : (l : List ℕ) → nonempty l ≡ not (eqb (length l) 0)
  some [] = refl
  some (x ∷ l) = sym (ap not (ne_eqb (suc (length l)) 0 (λ e. omega arith)))

  test : r.done || not (eqb total 0) ≡ brought (run_dtds MIDI_IN [] (S.bus m s.port.line))
  test =
      ap₂ (λ (x y : Bool). x || y) run.done
      (sym (ap nonempty is-bytes ∙ some bs ∙ ap (λ (k : ℕ). not (eqb k 0)) size))

  decodes : Decodes (length (run_dtds MIDI_IN [] (S.bus m s.port.line)).bytes / 4) (run_dtds MIDI_IN [] (S.bus m s.port.line)).bytes out out' cs cs' s.answer.received at
  decodes = rw (is-bytes, size) puts

  abbrev Reads : Bool → Type 0
  Reads b = ReadsOne s m out cs (pick b (record { state = count_read (after_run s r) at; stop = false }) (record { state = after_run s r; stop = true })) m' out' cs'

  pub active_read : ReadsOne s m out cs (after_read s r total at) m' out' cs'
  unfolding each_packet
  active_read = by_case r.done (eqb total 0) refl refl
    where
      by_case : (x y : Bool) → r.done ≡ x → eqb total 0 ≡ y → Reads (x || not y)
      by_case true y p q = heard_read s m m' out out' cs cs' r run (sym test ∙ ap₂ (λ (a b : Bool). a || not b) p q) at decodes
      by_case false false p q = heard_read s m m' out out' cs cs' r run (sym test ∙ ap₂ (λ (a b : Bool). a || not b) p q) at decodes
      by_case false true p q =
          let none : total / 4 ≡ 0 = omega (arith, eqb-true total 0 q) in
          let area : out' ≡ out = rw none at puts.area in
          let cables : cs' ≡ cs = rw none at puts.cables in
          rw (area, cables) (quiet_read s m m' out cs r run (sym test ∙ ap₂ (λ (a b : Bool). a || not b) p q))

-- ---- a read by what `begin` says

-- one that is over before a descriptor is moved
pub idle_read : (s : State) {m m' : Memory} (out cs : List ℕ) {r : Ran} → Idle MIDI_IN [] (S.bus m s.port.line) (S.bus m' r.line) r → {t : State} → t ≡ after_run s r
    → ReadsOne s m out cs (record { state = t; stop = true }) m' out cs
idle_read s {m} {m'} out cs {r} i e =
    rw e (quiet_read s m m' out cs r i.runs (ap₂ (λ (x : Bool) (l : List ℕ). x || nonempty l) (sym i.runs.done ∙ ap (λ (x : Ran). x.done) i.nothing) i.bytes))

module _ (s : State) (m : Memory) (out cs : List ℕ) (z : Sized m) where
  abbrev before : S.Bus
  before = S.bus m s.port.line

  module _ (x : Descriptor) (f : found MIDI_IN m ≡ Active x) (m' : Memory) (out' cs' : List ℕ) (r : Ran) (takes : TakesOne x.queue_head x.pointer x.token x.bit before (S.bus m' r.line) r)
      (total d : ℕ) (ps : List ℕ) (at : ℕ) (is-total : total ≡ total_of x.token) (is-d : d ≡ descriptor x.pointer) (is-ps : ps ≡ pointers_for m d total)
      (puts : Decodes (total / 4) (bytes_in m ps total) out out' cs cs' s.answer.received at) where
    few_total : total ≤ 32767
    few_total = omega (arith, is-total, total_lt x.token)

    same_bytes : bytes_in m ps total ≡ bytes_in m (pointers m (descriptor x.pointer)) total
    same_bytes =
        ap (λ (y : List ℕ). bytes_in m y total) is-ps ∙ bytes_for m d total few_total m total (omega arith)
        ∙ ap (λ (y : ℕ). bytes_in m (pointers m y) total) is-d

    found_bytes : (run_dtds MIDI_IN [] before).bytes ≡ bytes_in m (pointers m (descriptor x.pointer)) total
    found_bytes = input_bytes 1 (omega arith) m s.port.line x.queue_head x.pointer x.token (says MIDI_IN m f).0 ∙ ap (bytes_in m (pointers m (descriptor x.pointer))) (sym is-total)

    pub found_read : {y : Read} → y ≡ after_read s r total at → ReadsOne s m out cs y m' out' cs'
    found_read e =
        rw e
        (active_read s m m' out out' cs cs' r (runs_active MIDI_IN [] m s.port.line z refl x.queue_head x.pointer x.token (says_found MIDI_IN m f) x.bit (says MIDI_IN m f).1 (takes 1)) total at
        (bytes_in m (pointers m (descriptor x.pointer)) total) found_bytes (length_bytes_in m (pointers m (descriptor x.pointer)) total)
        (subst (λ (l : List ℕ). Decodes (total / 4) l out out' cs cs' s.answer.received at) same_bytes puts))

-- ---- the loop over reads: what is left to read from here leads to where the whole does

pub record Reading (count : ℕ) (s₀ : State) (w₀ : Windows) (out₀ cs₀ : List ℕ) (s : State) (w : Windows) (out cs : List ℕ) (left : ℕ) : Type 0 where
  pub goes : (v : World) {c : World} → Leads (reads left) (at_cabled v s (memory_of w) out cs) c → Leads (reads count) (at_cabled v s₀ (memory_of w₀) out₀ cs₀) c
  pub few : Fewer s₀.lengths s.lengths
  pub same : SameWindows w₀ w
  pub room : (s.answer.received + left * 24573 ≤ length out) × (s.answer.received + left * 24573 ≤ length cs)

module _ {count : ℕ} {s₀ : State} {w₀ : Windows} {out₀ cs₀ : List ℕ} {s : State} {w : Windows} {out cs : List ℕ} {left : ℕ} (inv : Reading count s₀ w₀ out₀ cs₀ s w out cs left) where
  pub reading_end : left ≡ 0 → Hears (reads count) s₀ (memory_of w₀) out₀ cs₀ s (memory_of w) out cs
  unfolding reads
  reading_end h =
      record {
        leads = λ v. inv.goes v (rw h (unchanged _));
        sized = sized_of w;
        few = inv.few;
      }

  -- one more read
  module _ (k : ℕ) (is : left ≡ suc k) where
    pub reading_stop : {r : Read} {m' : Memory} {out' cs' : List ℕ} → ReadsOne s (memory_of w) out cs r m' out' cs' → r.stop ≡ true → Hears (reads count) s₀ (memory_of w₀) out₀ cs₀ r.state m' out' cs'
    reading_stop read h =
        record {
          leads = λ v. inv.goes v (rw is (read.goes k v (rw h (unchanged _))));
          sized = read.sized;
          few = fewer_then inv.few read.few;
        }

    pub reading_more : {r : Read} {w' : Windows} {out' cs' : List ℕ} → ReadsOne s (memory_of w) out cs r (memory_of w') out' cs' → r.stop ≡ false
        → SameWindows w w' → length out' ≡ length out → length cs' ≡ length cs → Reading count s₀ w₀ out₀ cs₀ r.state w' out' cs' k
    reading_more read h kept long long-cables =
        record {
          goes = λ v p. inv.goes v (rw is (read.goes k v (rw h p)));
          few = fewer_then inv.few read.few;
          same = record { dynamic = kept.dynamic ∙ inv.same.dynamic; sram = kept.sram ∙ inv.same.sram; page = kept.page ∙ inv.same.page };
          room = omega (arith, inv.room, is, read.most, long, long-cables);
        }

-- ---- the whole of MIDI input

module _ (every : ℕ) (s t : State) (d f p p' : List ℕ) (m' : Memory) (out out' cs cs' : List ℕ) (naked : OnPage naks p p') (count : ℕ) (is : count ≡ reads_at every s.port.uf)
    (all : Hears (reads count) s (memory d f p') out cs t m' out' cs') where
  pub midi_steps_lem : Hears (midi_in false every) s (memory d f p) out cs t m' out' cs'
  unfolding midi_in
  midi_steps_lem =
      record {
        leads = λ w. in_turn (naked.leads (at_cabled w s (memory d f p) out cs) s)
            (from_here _ (at_cabled w s (memory d f p') out cs)
            (subst (λ (n : ℕ). Leads (reads n) (at_cabled w s (memory d f p') out cs) (at_cabled w t m' out' cs')) is (all.leads w)));
        sized = all.sized;
        few = all.few;
      }
