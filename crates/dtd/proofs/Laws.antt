-- What the proofs on descriptors cite.
use Rattle.std.proofs.Common.{◌≡◌, ℕ, ◌≤◌, Bool, List, arith}
use Rattle.bits.specs.Pick.{pick_both}
use Rattle.bus.specs.Memory.{Memory, memory, after, dropped32}
use Rattle.bus.specs.Sized.{Sized}
use Rattle.bus.specs.Steps.{and_then}
use Rattle.bus.specs.Stores.{bus, Does}
use Rattle.bus.specs.Windows.{memory_of}
use Rattle.bus.specs.declared.windows.Windows.{Windows}
use Rattle.bus.proofs.Lengths.{sized_of}
use Rattle.bus.proofs.Storing.{does_then, does_reading}
use Rattle.bus.proofs.Words.{dropped8_le}
use Rattle.usbdev.specs.Registers as usb
use Rattle.usbdev.specs.Registers.{Registers, registers, PageStore, put, irq, PageStep, lifted, done, setting}
use Rattle.usbdev.proofs.Laws.{Inside, does_page}
use Rattle.dtd.specs.Dtd.{interrupts, completing, list_ends, unpriming, reporting, settling}

pub dropped32_le : (a : ℕ) → dropped32 a ≤ 4
unfolding dropped32
dropped32_le a =
    omega (arith, dropped8_le a, dropped8_le (after a 1), dropped8_le (after a 2), dropped8_le (after a 3))

-- ---- steps on the register page

pub inside_completing : (tok bit : ℕ) (r : Registers) → Inside (completing tok bit r)
unfolding completing
inside_completing tok bit r = pick_both (λ (ss : List PageStore). Inside ss) (interrupts tok) (omega arith, tt) tt

pub inside_unpriming : (ends : Bool) (bit : ℕ) (r : Registers) → Inside (unpriming ends bit r)
unfolding unpriming
inside_unpriming ends bit r = pick_both (λ (ss : List PageStore). Inside ss) ends (omega arith, tt) tt

pub inside_reporting : (completed : Bool) (r : Registers) → Inside (reporting completed r)
unfolding reporting and_then setting usb.following
inside_reporting completed r = pick_both (λ (ss : List PageStore). Inside ss) completed (omega arith, tt) tt

-- a function on the page of windows
on_page : (f : PageStep) {m : Memory} {p : List ℕ} {l l' : Bool} → Sized m → Inside (f (registers m.page l)) → registers p l' ≡ done f (registers m.page l) → Does (lifted f) (bus m l) (bus (memory m.dynamic m.sram p) l') 0
on_page f {m} {p} {l} {l'} z h e = does_page f m.dynamic m.sram m.page p l l' h e z

pub complete_steps : (tok bit : ℕ) (w : Windows) {p : List ℕ} → ((l : Bool) → registers p l ≡ done (completing tok bit) (registers w.page.now l)) → (l : Bool)
    → Does (lifted (completing tok bit)) (bus (memory_of w) l) (bus (memory w.dynamic.now w.sram.now p) l) 0
complete_steps tok bit w e l = on_page (completing tok bit) (sized_of w) (inside_completing tok bit (registers w.page.now l)) (e l)

-- what follows the last descriptor, in the steps that the code takes
pub settle_steps : (bit n : ℕ) (completed : Bool) {ends flag line : Bool} {m : Memory} {p₁ p₂ : List ℕ} → Sized m → ends ≡ list_ends n m
    → ((l : Bool) → registers p₁ l ≡ done (unpriming ends bit) (registers m.page l)) → registers p₂ line ≡ done (reporting completed) (registers p₁ flag)
    → Does (settling bit n completed) (bus m flag) (bus (memory m.dynamic m.sram p₂) line) 0
unfolding settling
settle_steps bit n completed {ends} {flag} {m = m} {p₁} z e u r =
    let first = on_page (unpriming ends bit) z (inside_unpriming ends bit (registers m.page flag)) (u flag) in
    does_then (does_reading (list_ends n) (λ (t : Bool). lifted (unpriming t bit)) ends e first)
    (on_page (reporting completed) first.sized (inside_reporting completed (registers p₁ flag)) r)
