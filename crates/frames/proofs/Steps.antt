-- How the steps of a microframe make the whole: from what each function promises to what its caller does.
use Prim.Native.Nat.{ℕ, ◌≤◌}
use mathlib.Core.Path.{◌≡◌, refl, sym, ap, subst, ◌∙◌}
use mathlib.Core.Logic.{◌≢◌}
use mathlib.Core.Bool.{Bool, true, false}
use mathlib.Core.List.{List, []}
use lib.ListN.{length, take}
use Rattle.bus.specs.Memory.{Memory, memory}
use Rattle.bus.specs.Sized.{Sized}
use Rattle.bits.specs.Word.{any}
use Rattle.bus.specs.Words.{word_at}
use Rattle.usbdev.specs.Offsets.{USBCMD}
use Rattle.record.specs.declared.Phase.{Phase}
use Rattle.record.specs.declared.Phase.TheVariants.{Idle, Vbus, Reset, Enumerate, Stream}
use Rattle.record.specs.declared.Settings.{Settings}
use Rattle.record.specs.declared.State.{State}
use Rattle.record.specs.World.{Own, Lent, World, world, own, own_setups, lent, lent_page}
use Rattle.record.specs.Change.{Step}
use Rattle.record.specs.Did.{Leads, Alone, Paged}
use Rattle.record.proofs.Laws.{in_turn, by_true, by_false, unchanged, from_here}
use Rattle.model.specs.Phases.{within, any_span, sleeps, suspends, leaves, idles, powers, resets, starts_frame}
use Rattle.model.specs.Control.{controls}
use Rattle.model.specs.Microframe.{transfers, enumerates, talks, at_phase, by_phase, opens, frame_of, microframe}
use Rattle.kept.proofs.Shape.{Shape, step_kept}
use Rattle.phases.specs.Promises.{Queued}
use Rattle.control.specs.Promises.{Bounded, at_control, Controls}
use Rattle.framing.specs.Promises.{Rings, Flows, Transfers}
use Rattle.framing.proofs.Held.{Held, held_of, keeps_controls}
use Rattle.framing.proofs.Steps.{some}
use Rattle.frames.specs.Promises.{Asks, after_suspend, after_gone, at_all, Goes, Frame}
use Rattle.frames.proofs.Ringing.{rings_controls}

-- ---- what the record's bounds give to control

pub bounded_of : (s : State) → Asks s.phase s.control s.lengths.setups → Bounded s
bounded_of s a =
    record {
      few = a.few;
      running = λ e. record { alone = a.alone e; short = a.short e; inside = a.inside e };
    }

-- another page of the same length
pub sized_page : (dynamic sram page page' : List ℕ) → Sized (memory dynamic sram page) → length page' ≡ 4096 → Sized (memory dynamic sram page')
sized_page dynamic sram page page' z e = record { dynamic_length = z.dynamic_length; sram_length = z.sram_length; page_length = e }

-- ---- a step keeps the length of the page

length_kept : (f : Step) (w v : World) → Leads f w v → length v.lent.memory.page ≡ length w.lent.memory.page
length_kept f w v l = ap (λ (x : World). length x.lent.memory.page) l.is ∙ ap (λ (x : Shape). x.memory.page) (step_kept f w)

pub paged_length : (c : Settings) (f : Step) (s s' : State) (p p' : List ℕ) → Paged f s p s' p' → length p ≡ 4096 → length p' ≡ 4096
paged_length c f s s' p p' l e = length_kept _ _ _ (l.leads (some c s [])) ∙ e

pub queued_length : (c : Settings) (f : Step) (s s' : State) (p q p' q' : List ℕ) → Queued f s p q s' p' q' → length p ≡ 4096 → length p' ≡ 4096
queued_length c f s s' p q p' q' l e = length_kept _ _ _ (l.leads (some c s [])) ∙ e

module _ (c : Settings) {d m p p' : List ℕ} (z : Sized (memory d m p)) where
  pub sized_paged : {f : Step} {s s' : State} → Paged f s p s' p' → Sized (memory d m p')
  sized_paged l = sized_page d m p _ z (paged_length c _ _ _ _ _ l z.page_length)

  sized_queued : {f : Step} {s s' : State} {q q' : List ℕ} → Queued f s p q s' p' q' → Sized (memory d m p')
  sized_queued l = sized_page d m p _ z (queued_length c _ _ _ _ _ _ _ l z.page_length)

-- ---- start of frame, control and streams

-- what control leaves for the streams
module _ (c : Settings) (k : List ℕ) (stack : Bool) (s s' : State) (m m' : Memory) (q q' d d' p p' f f' : List ℕ) (l : Controls (controls stack) s m q d p f s' m' q' d' p' f') where
  pub flows_control : Flows s (length k) → Flows s' (length k)
  flows_control h =
      let e = (l.leads (some c s k)).is in
      let same : held_of (at_control (some c s k) s' m' q' d' p' f') ≡ held_of (at_control (some c s k) s m q d p f) =
      ap held_of e ∙ keeps_controls stack (at_control (some c s k) s m q d p f) in
      record {
        midi = subst (λ (n : ℕ). n ≤ 4096) (sym (ap (λ (x : Held). x.midi) same)) h.midi;
        serial = subst (λ (n : ℕ). n ≤ 4096) (sym (ap (λ (x : Held). x.serial) same)) h.serial;
        rings = subst (λ (w : World). Rings w.state.audio (length w.lent.sending)) (sym e) (rings_controls stack (at_control (some c s k) s m q d p f) h.rings);
        none = ap (λ (x : Held). x.answered) same ∙ h.none;
      }

module _ (c : Settings) (t : ℕ) (s : State) (o : Own) (l : Lent) where
  pub talks_off : (rs : Bool) → rs ≡ false → Sized l.memory → Goes (talks c t rs) s o l s o l
  unfolding talks
  talks_off rs e z = record { leads = λ w. by_false _ _ _ e (unchanged _); sized = z }

  pub talks_goes : (rs : Bool) → rs ≡ true → (s₁ : State) (page₁ : List ℕ) → Paged starts_frame s l.memory.page s₁ page₁
      → (s₂ : State) (m₂ : Memory) (q d p f : List ℕ) → Controls (controls c.device_stack) s₁ (lent_page l page₁).memory o.setups o.device l.reply l.config s₂ m₂ q d p f
      → (s₃ : State) (m₃ : Memory) (i u out cs ring : List ℕ) → Transfers (transfers c t) s₂ m₂ o.midi o.serial l.receive l.cables l.received l.sending s₃ m₃ i u out cs ring
      → Goes (talks c t rs) s o l s₃ (own q i u d) (lent m₃ p f out cs ring l.sending)
  unfolding talks enumerates
  talks_goes rs e s₁ page₁ starts s₂ m₂ q d p f asks s₃ m₃ i u out cs ring flows =
      record {
        leads = λ w.
            by_true _ _ _ e
            (in_turn
            (in_turn (starts.leads (at_all w s o l)) (asks.leads (at_all w s₁ o (lent_page l page₁))))
            (flows.leads (at_all w s₂ (own q o.midi o.serial d) (lent m₂ p f l.receive l.cables l.received l.sending))));
        sized = flows.sized;
      }

-- ---- by the phase

-- enumeration and streaming
talks_phase : (c : Settings) (t : ℕ) (rs : Bool) (p : Phase) → p ≢ Idle → p ≢ Vbus → p ≢ Reset → at_phase c t rs p ≡ talks c t rs
talks_phase c t rs Idle i v r = absurd (i refl)
talks_phase c t rs Vbus i v r = absurd (v refl)
talks_phase c t rs Reset i v r = absurd (r refl)
talks_phase c t rs Enumerate i v r = refl
talks_phase c t rs Stream i v r = refl

at_phase_lem : (c : Settings) (t : ℕ) (rs : Bool) (p : Phase) (x y : World) → x.state.phase ≡ p → Leads (at_phase c t rs p) x y → Leads (by_phase c t rs) x y
unfolding by_phase
at_phase_lem c t rs p x y e l = from_here _ x (subst (λ (q : Phase). Leads (at_phase c t rs q) x y) (sym e) l)

module _ (c : Settings) (t : ℕ) (rs : Bool) (s : State) (o : Own) (l : Lent) where
  module _ (page' : List ℕ) (s' : State) (z : Sized l.memory) where
    pub phase_idle : s.phase ≡ Idle → Paged idles s l.memory.page s' page' → Goes (by_phase c t rs) s o l s' o (lent_page l page')
    phase_idle e p = record { leads = λ w. at_phase_lem c t rs _ _ _ e (p.leads (at_all w s o l)); sized = sized_paged c z p }

    pub phase_vbus : s.phase ≡ Vbus → Paged (powers rs) s l.memory.page s' page' → Goes (by_phase c t rs) s o l s' o (lent_page l page')
    phase_vbus e p = record { leads = λ w. at_phase_lem c t rs _ _ _ e (p.leads (at_all w s o l)); sized = sized_paged c z p }

    pub phase_reset : s.phase ≡ Reset → (q : List ℕ) → Queued resets s l.memory.page o.setups s' page' q
        → Goes (by_phase c t rs) s o l s' (own_setups o q) (lent_page l page')
    phase_reset e q p = record { leads = λ w. at_phase_lem c t rs _ _ _ e (p.leads (at_all w s o l)); sized = sized_queued c z p }

  pub phase_talks : (s' : State) (o' : Own) (l' : Lent) → s.phase ≢ Idle → s.phase ≢ Vbus → s.phase ≢ Reset → Goes (talks c t rs) s o l s' o' l' → Goes (by_phase c t rs) s o l s' o' l'
  phase_talks s' o' l' i v r p =
      record { leads = λ w. at_phase_lem c t rs s.phase _ _ refl (subst (λ (f : Step). Leads f (at_all w s o l) (at_all w s' o' l')) (sym (talks_phase c t rs s.phase i v r)) (p.leads w)); sized = p.sized }

-- ---- suspended, gone, and the whole

module _ (c : Settings) (t : ℕ) (rs : Bool) (s : State) (o : Own) (l : Lent) where
  pub suspended_sleeps : (asleep : Bool) → asleep ≡ true → Sized l.memory → (s' : State) → Alone sleeps s s' → Goes (after_suspend c t rs asleep) s o l s' o l
  suspended_sleeps asleep e z s' p = rw e (record { leads = λ w. p.leads (at_all w s o l); sized = z })

  pub suspended_goes : (asleep : Bool) → asleep ≡ false → (s₁ s' : State) (o' : Own) (l' : Lent) → Alone (leaves c.device_stack rs) s s₁ → Goes (by_phase c t rs) s₁ o l s' o' l' → Goes (after_suspend c t rs asleep) s o l s' o' l'
  suspended_goes asleep e s₁ s' o' l' p g =
      rw e (record { leads = λ w. in_turn (p.leads (at_all w s o l)) (g.leads w); sized = g.sized })

  pub gone_sleeps : (gone asleep : Bool) → gone ≡ true → Sized l.memory → (s' : State) → Alone sleeps s s' → Goes (after_gone c t rs gone asleep) s o l s' o l
  gone_sleeps gone asleep e z s' p = rw e (record { leads = λ w. p.leads (at_all w s o l); sized = z })

  pub gone_goes : (gone asleep within : Bool) → gone ≡ false → asleep ≡ within → (s₁ s' : State) (page : List ℕ) (o' : Own) (l' : Lent) → Paged (suspends asleep) s l.memory.page s₁ page → Goes (after_suspend c t rs asleep) s₁ o (lent_page l page) s' o' l' → Goes (after_gone c t rs gone within) s o l s' o' l'
  gone_goes gone asleep within e f s₁ s' page o' l' p g =
      rw (e, ← f) (record { leads = λ w. in_turn (p.leads (at_all w s o l)) (g.leads w); sized = g.sized })

frame_parts : (c : Settings) (t : ℕ) (rs g b : Bool) (x y z : World) → Leads (opens c g) x y → Leads (after_gone c t rs g b) y z → Leads (frame_of c t rs g b) x z
unfolding frame_of
frame_parts c t rs true b x y z p q = in_turn p q
frame_parts c t rs false true x y z p q = in_turn p q
frame_parts c t rs false false x y z p q = in_turn p q

module _ (c : Settings) (t : ℕ) (s : State) (o : Own) (l : Lent) where
  pub whole_frame : (rs g : Bool) → rs ≡ any (word_at l.memory.page USBCMD) 1 → g ≡ any_span (take c.spans c.gone) t
      → (s₁ s' : State) (page : List ℕ) (o' : Own) (l' : Lent) → Paged (opens c g) s l.memory.page s₁ page
      → Goes (after_gone c t rs g (within c.suspend t)) s₁ o (lent_page l page) s' o' l'
      → Frame t c s o l s' o' l'
  unfolding microframe
  whole_frame rs g er eg s₁ s' page o' l' p d =
      record {
        leads = λ ps.
            let w = world c ps s o l in
            from_here _ w (rw (← er, ← eg) (frame_parts c t rs g (within c.suspend t) _ _ _ (p.leads w) (d.leads w)));
        sized = d.sized;
      }
