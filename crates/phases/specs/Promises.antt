-- What the steps of a phase are made of, and what a step on state, register page and setups promises.
use Rattle.std.specs.Prelude.{◌≡◌, ℕ, Bool, List}
use Rattle.bus.specs.Words.{word_at, word_put}
use Rattle.usbdev.specs.Registers.{registers, done, raising}
use Rattle.record.specs.declared.State.{State}
use Rattle.record.specs.World.{World, with_setup_queue, at_page}
use Rattle.record.specs.Change.{Step}
use Rattle.record.specs.Did.{Leads}

-- the word at o, as post has it changed, is stored, and bits of USBSTS are raised
pub record Changed (post : ℕ → ℕ → Type 0) (o sts : ℕ) (l : Bool) (p p' : List ℕ) (l' : Bool) : Type 0 where
  pub word : ℕ
  pub made : post (word_at p o) word
  pub stored : registers p' l' ≡ done (raising sts) (registers (word_put p o word) l)

-- a function on the state, the register page and the setups that wait
abbrev pub at_setups : World → State → List ℕ → List ℕ → World
at_setups w s p q = at_page (with_setup_queue w q) s p

pub record Queued (f : Step) (s : State) (p q : List ℕ) (s' : State) (p' q' : List ℕ) : Type 0 where
  pub leads : (w : World) → Leads f (at_setups w s p q) (at_setups w s' p' q')
