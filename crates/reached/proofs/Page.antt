-- The register page after a microframe's start of frame, and after the resume: two words are new; and a page whose timers stand still.
use Prim.Native.Nat.{ℕ, ◌+◌, ◌≤◌}
use mathlib.Core.Path.{◌≡◌, ap, ◌∙◌}
use mathlib.Core.Bool.{false}
use mathlib.Core.List.{List, []}
use mathlib.Core.Logic.{◌⊎◌, inl, inr}
use native.Mathlib.Omega.{arith}
use Rattle.bits.specs.Word.{clear, set, any}
use Rattle.bus.specs.Memory.{Memory, memory}
use Rattle.bus.specs.Words.{word_at, word_put}
use Rattle.bus.specs.Steps.{and_then, exec_then}
use Rattle.bus.specs.Stores as S
use Rattle.bus.proofs.Registers.{word_apart}
use Rattle.usbdev.specs.Offsets.{USBSTS, FRINDEX, PORTSC1}
use Rattle.usbdev.specs.Registers.{PageStep, Registers, registers, store, setting, following, raising, lifted}
use Rattle.usbdev.specs.Registers as R
use Rattle.usbdev.specs.Transfer.{next_frindex}
use Rattle.usbdev.proofs.Laws.{on_bus_lem}
use Rattle.gptimers.specs.Timer as T
use Rattle.gptimers.specs.declared.Timers.{Timers}
use Rattle.record.specs.World.{World, bus_of, with_bus}
use Rattle.record.specs.Change.{apply, left, one, on_page}
use Rattle.record.specs.Change as Ch
use Rattle.record.proofs.Laws.{replay_bus}
use Rattle.model.specs.Phases.{changing, resuming, starts_frame}

-- 493-495: FRINDEX goes on by one, and USBSTS has SRI, bit 7
unfoldable pub framed_page : List ℕ → List ℕ
framed_page p =
    word_put (word_put p FRINDEX (next_frindex 1 (word_at p FRINDEX))) USBSTS
    (set (word_at (word_put p FRINDEX (next_frindex 1 (word_at p FRINDEX))) USBSTS) 0x80)

abbrev pub framed_memory : Memory → Memory
framed_memory m = memory m.dynamic m.sram (framed_page m.page)

abbrev sof : PageStep
sof = R.◌then◌ (changing FRINDEX (next_frindex 1)) (raising 0x80)

framed_bus : (v : World) → (S.stored (lifted sof (bus_of v)) (bus_of v)).memory ≡ framed_memory v.lent.memory
unfolding framed_page changing and_then setting following store
framed_bus v =
    let l = v.state.port.line in
    ap (λ (b : S.Bus). b.memory)
    (on_bus_lem (sof (registers v.lent.memory.page l)) v.lent.memory.dynamic v.lent.memory.sram v.lent.memory.page l (omega arith, (omega arith, tt)))

-- the World after the start of frame: only the bus is another
pub framed_is : (v : World) → left starts_frame v ≡ with_bus v (S.stored (lifted sof (bus_of v)) (bus_of v))
unfolding starts_frame on_page
framed_is v = replay_bus (lifted sof (bus_of v)) v

pub framed_memory_lem : (v : World) → (left starts_frame v).lent.memory ≡ framed_memory v.lent.memory
framed_memory_lem v = ap (λ (w : World). w.lent.memory) (framed_is v) ∙ framed_bus v

pub framed_budget : (v : World) → (left starts_frame v).state.audio.budget ≡ v.state.audio.budget
framed_budget v = ap (λ (w : World). w.state.audio.budget) (framed_is v)

-- every word but those two
pub framed_word : (p : List ℕ) (o : ℕ) → (o + 4 ≤ USBSTS) ⊎ (FRINDEX + 4 ≤ o) → word_at (framed_page p) o ≡ word_at p o
unfolding framed_page
framed_word p o h = word_apart _ USBSTS _ o (below h) ∙ word_apart p FRINDEX _ o (above h)
  where
    below : (o + 4 ≤ USBSTS) ⊎ (FRINDEX + 4 ≤ o) → (o + 4 ≤ USBSTS) ⊎ (USBSTS + 4 ≤ o)
    below (inl a) = inl a
    below (inr b) = inr (omega arith)

    above : (o + 4 ≤ USBSTS) ⊎ (FRINDEX + 4 ≤ o) → (o + 4 ≤ FRINDEX) ⊎ (FRINDEX + 4 ≤ o)
    above (inl a) = inl (omega arith)
    above (inr b) = inr b

-- ---- the resume (419-424): SUSP of PORTSC1 goes, and USBSTS has PCI, bit 2

unfoldable pub resumed_page : List ℕ → List ℕ
resumed_page p =
    word_put (word_put p PORTSC1 (clear (word_at p PORTSC1) 0x80)) USBSTS
    (set (word_at (word_put p PORTSC1 (clear (word_at p PORTSC1) 0x80)) USBSTS) 4)

abbrev pub resumed_memory : Memory → Memory
resumed_memory m = memory m.dynamic m.sram (resumed_page m.page)

abbrev resume : PageStep
resume = R.◌then◌ (changing PORTSC1 (λ v. clear v 0x80)) (raising 4)

resumed_bus : (v : World) → (S.stored (lifted resume (bus_of v)) (bus_of v)).memory ≡ resumed_memory v.lent.memory
unfolding resumed_page changing and_then setting following store
resumed_bus v =
    let l = v.state.port.line in
    ap (λ (b : S.Bus). b.memory)
    (on_bus_lem (resume (registers v.lent.memory.page l)) v.lent.memory.dynamic v.lent.memory.sram v.lent.memory.page l (omega arith, (omega arith, tt)))

pub resumed_memory_lem : (v : World) → (left resuming v).lent.memory ≡ resumed_memory v.lent.memory
unfolding on_page one apply
resumed_memory_lem v =
    let x = left (one (λ w. Ch.suspended false)) v in
    ap (λ (w : World). w.lent.memory) (exec_then apply (one (λ w. Ch.suspended false)) (on_page resume) v ∙ replay_bus (lifted resume (bus_of x)) x)
    ∙ resumed_bus x

-- ---- the timers (741-765)

-- neither timer runs, and neither is reset
pub record Stopped (p : List ℕ) : Type 0 where
  pub run_zero : any (word_at p (T.control_register 0)) T.RUN ≡ false
  pub reset_zero : any (word_at p (T.control_register 0)) T.RESET ≡ false
  pub run_one : any (word_at p (T.control_register 1)) T.RUN ≡ false
  pub reset_one : any (word_at p (T.control_register 1)) T.RESET ≡ false

-- they store nothing
pub ticking_nothing : (step : ℕ) (ts : Timers) (r : Registers) → Stopped r.page → T.ticking_both step ts r ≡ []
unfolding T.ticking_both T.ticking T.resetting T.counted and_then
ticking_nothing step ts r s = simp (s.run_zero, s.reset_zero, s.run_one, s.reset_one)
