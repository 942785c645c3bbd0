-- What the chain of a microframe's steps asks of the host record, and what each of its functions promises.
use Rattle.std.specs.Prelude.{ℕ, ◌≤◌, Bool, true, false, List, ◌≡◌}
use Rattle.bus.specs.Sized.{Sized}
use Rattle.gptimers.specs.Timer.{in_range}
use Rattle.midi.specs.declared.Packer.{Packer}
use Rattle.record.specs.declared.Phase.{Phase}
use Rattle.record.specs.declared.Phase.TheVariants.{Reset}
use Rattle.record.specs.declared.Control.{Control}
use Rattle.record.specs.declared.Settings.{Settings}
use Rattle.record.specs.declared.State.{State}
use Rattle.record.specs.World.{Own, Lent, World, world}
use Rattle.record.specs.Change.{Step, ◌then◌}
use Rattle.record.specs.Did.{Leads}
use Rattle.model.specs.Phases.{sleeps, suspends, leaves}
use Rattle.model.specs.Control.{asks_for, w_length}
use Rattle.model.specs.Microframe.{by_phase, microframe}
use Rattle.framing.specs.Promises.{Flows}
use Rattle.record.specs.Sizes.{SETUPS}

-- ---- what the steps ask of the host record (document 01, refusal 5)

-- setups that wait, by phase, request and their count: there is room for them and for the four of a reset, and a running request is one
-- that can end: none waits behind one for the configuration, a device descriptor fits its 64 bytes, and its reply is no longer than asked
pub record Asks (p : Phase) (c : Control) (n : ℕ) : Type 0 where
  pub few : n ≤ SETUPS
  pub room : p ≡ Reset → n ≡ 0
  pub alone : c.on ≡ true → asks_for 2 c ≡ true → n ≡ 0
  pub short : c.on ≡ true → asks_for 1 c ≡ true → w_length c ≤ 64
  pub inside : c.on ≡ true → c.got ≤ w_length c

-- what the steps behind the timers ask
pub record Going (s : State) (words : ℕ) : Type 0 where
  pub asks : Asks s.phase s.control s.lengths.setups
  pub flows : Flows s words

-- and all that a microframe asks
pub record Fit (s : State) (words : ℕ) : Type 0 where
  pub zero : in_range s.timers.zero ≡ true
  pub one : in_range s.timers.one ≡ true
  pub going : Going s words

-- ---- the parts of a microframe's step

-- usbhost.rs 426-512: behind the suspend step; 408-512: behind the gone step
abbrev pub after_suspend : Settings → ℕ → Bool → Bool → Step
after_suspend c t rs true = sleeps
after_suspend c t rs false = leaves c.device_stack rs then by_phase c t rs

abbrev pub after_gone : Settings → ℕ → Bool → Bool → Bool → Step
after_gone c t rs true s = sleeps
after_gone c t rs false s = suspends s then after_suspend c t rs s

-- ---- a World with what a function takes in its place

abbrev pub at_all : World → State → Own → Lent → World
at_all w s o l = world w.settings w.packers s o l

-- ---- what a function does

-- on everything
pub record Goes (f : Step) (s : State) (o : Own) (l : Lent) (s' : State) (o' : Own) (l' : Lent) : Type 0 where
  pub leads : (w : World) → Leads f (at_all w s o l) (at_all w s' o' l')
  pub sized : Sized l'.memory

-- a whole microframe at a time, by the settings
pub record Frame (t : ℕ) (c : Settings) (s : State) (o : Own) (l : Lent) (s' : State) (o' : Own) (l' : Lent) : Type 0 where
  pub leads : (ps : List Packer) → Leads (microframe t) (world c ps s o l) (world c ps s' o' l')
  pub sized : Sized l'.memory
