-- Control and the audio stream leave the MIDI and the serial queue and the receive area alone.
use Prim.Native.Nat.{ℕ}
use mathlib.Core.Path.{◌≡◌, refl}
use mathlib.Core.Bool.{Bool}
use Rattle.record.specs.World.{World}
use Rattle.record.specs.Change.{budget, apply, left}
use Rattle.model.specs.Control.{controls}
use Rattle.model.specs.Audio.{streams}
use Rattle.model.proofs.Holding.{Holds}
use Rattle.model.proofs.Walk.{adds_any, clears_any, Ran, Requested, Sounded, walk_configured, walk_posts, walk_controls, walk_streams}

-- bytes of both queues, and of the receive area
pub record Held : Type 0 where
  pub midi : ℕ
  pub serial : ℕ
  pub answered : ℕ

abbrev pub held_of : World → Held
held_of w = record { midi = w.state.lengths.midi; serial = w.state.lengths.serial; answered = w.state.answer.received }

module _ (k : Held) where
  abbrev Same : World → Type 0
  Same w = held_of w ≡ k

  ran_same : Ran Same
  unfolding apply
  ran_same = record { stores = λ s w h. h; marks = λ e n m w h. h; loses = λ n w h. h }

  requested : Requested Same
  unfolding apply
  requested =
      record {
        controls = λ c w h. h;
        replies = λ n bs w h. h;
        pushes = λ bs w h. h;
        queues = λ bs w h. h;
        devices = λ bs w h. h;
        configs = λ bs w h. h;
      }

  any_budget : (n : ℕ) (w : World) → Same w → Same (apply (budget n) w)
  unfolding apply
  any_budget n w h = h

  sounded : Sounded Same
  unfolding apply
  sounded =
      record {
        counts = λ c n e w h. h;
        credits = λ n w h. h;
        frames = λ f w h. h;
        waits = λ w h e. adds_any Same any_budget w h;
        passes = λ w h e. clears_any Same any_budget _ (adds_any Same any_budget w h);
        numbers = λ n w h. h;
        takes = λ n w h. h;
      }

  after_controls : (stack : Bool) → Holds Same (controls stack)
  unfolding apply
  after_controls stack =
      walk_controls Same ran_same requested (walk_configured Same (λ w h. h) (λ w h. h)) (walk_posts Same ran_same requested (λ w h. h)) stack (λ e bs w l h. h)

  after_streams : Holds Same streams
  after_streams = walk_streams Same ran_same sounded

pub keeps_controls : (stack : Bool) (w : World) → held_of (left (controls stack) w) ≡ held_of w
keeps_controls stack w = after_controls (held_of w) stack w refl

pub keeps_streams : (w : World) → held_of (left streams w) ≡ held_of w
keeps_streams w = after_streams (held_of w) w refl
