-- Control keeps the rings in order, and a block with room for its frames.
use Prim.Native.Nat.{ℕ, ◌+◌, ◌-◌, ◌/◌}
use mathlib.Core.Path.{◌≡◌, refl}
use mathlib.Core.Bool.{Bool, true}
use mathlib.Core.List.{List}
use native.Mathlib.Nat.{mod-lt}
use native.Mathlib.Omega.{arith}
use lib.Dec.{ltb}
use lib.ListN.{length}
use borrow.Author.Tests.{ltb-true}
use Rattle.config.specs.Config.{parsed}
use Rattle.config.proofs.Sizes.{sizes_small}
use Rattle.record.specs.declared.Audio.{Audio}
use Rattle.record.specs.declared.Ring.{Ring}
use Rattle.record.specs.Record.{with_block, with_received, with_sending}
use Rattle.record.specs.World.{World}
use Rattle.record.specs.Change.{budget, apply, popped, ringed_place, taken_from, left}
use Rattle.model.specs.Control.{controls}
use Rattle.blocks.proofs.Laws.{ring_inside}
use Rattle.audio.specs.Promises.{InSending}
use Rattle.model.proofs.Walk.{adds_any, clears_any}
use Rattle.kept.proofs.Every.{Each, from_controls}
use Rattle.framing.specs.Promises.{Rings}

abbrev Ringed : World → Type 0
Ringed w = Rings w.state.audio (length w.lent.sending)

-- the fields that they are about are as they were
same : (a b : Audio) (n : ℕ) → b.received ≡ a.received → b.sending ≡ a.sending → b.block ≡ a.block → b.channels ≡ a.channels → Rings a n → Rings b n
same a b n p q r s h = record { received = rw p h.received; sending = rw q h.sending; block = rw r h.block; channels = rw s h.channels }

-- what a configuration gives
rings_block : (a : Audio) (n : ℕ) (bs : List ℕ) → ltb 32 (parsed bs).output ≡ true → Rings a n → Rings (with_block a (parsed bs).output (((parsed bs).output - 32) / 28)) n
rings_block a n bs e h =
    let low = ltb-true 32 (parsed bs).output e in
    let high = (sizes_small bs).output in
    record { received = h.received; sending = h.sending; block = omega arith; channels = omega arith }

taken_inside : (capacity n : ℕ) (r : Ring) → InSending r capacity → InSending (taken_from capacity n r) capacity
unfolding taken_from
taken_inside capacity n r h = record { start = mod-lt (r.start + n) (omega (arith, h.start)); len = omega (arith, h.len); few = h.few }

rings_taken : (a : Audio) (words n : ℕ) → Rings a words → Rings (with_sending a (taken_from (words / 12) n a.sending)) words
rings_taken a words n h = record { received = h.received; sending = taken_inside (words / 12) n a.sending h.sending; block = h.block; channels = h.channels }

rings_frame : (a : Audio) (words : ℕ) → Rings a words → Rings (with_received a (ringed_place a.received)) words
rings_frame a words h = record { received = ring_inside a.received h.received; sending = h.sending; block = h.block; channels = h.channels }

rings_each : Each Ringed
unfolding apply
rings_each =
    let budgets : (m : ℕ) (v : World) → Ringed v → Ringed (apply (budget m) v) = λ m v p. same _ _ _ refl refl refl refl p in
    record {
      early = record {
        stores = λ s w h. h;
        counts = λ c m o w h. h;
        enters = λ p w h. h;
        starts = λ w h. h;
        goes = λ b w h. h;
        suspends = λ b w h. h;
        runs = λ b w h. h;
        credits = λ m w h. same _ _ _ refl refl refl refl h;
        resets = λ w h. same _ _ _ refl refl refl refl h;
        controls = λ c w h. h;
        clears = λ w h. h;
        forgets = λ w h. h;
      };
      marks = λ e k m w h. h;
      loses = λ m w h. h;
      waits = λ w h e. adds_any Ringed budgets w h;
      passes = λ w h e. clears_any Ringed budgets _ (adds_any Ringed budgets w h);
      numbers = λ m w h. same _ _ _ refl refl refl refl h;
      chooses = λ bs w e h. rings_block _ _ bs e h;
      queues = λ bs w h. h;
      pushes = λ bs w h. h;
      replies = λ m bs w h. h;
      devices = λ bs w h. h;
      configs = λ bs w h. h;
      midis = λ m w l f h. h;
      serials = λ m w l h. h;
      receives = λ bs w h. h;
      cables = λ cs w h. h;
      frames = λ f w h. rings_frame _ _ h;
      takes = λ m w h. rings_taken _ _ m h;
    }

after_pop : (w : World) → Ringed w → Ringed (apply popped w)
unfolding apply
after_pop w h = h

pub rings_controls : (stack : Bool) (w : World) → Rings w.state.audio (length w.lent.sending) → Rings (left (controls stack) w).state.audio (length (left (controls stack) w).lent.sending)
rings_controls stack w h = from_controls Ringed Ringed rings_each.early rings_each (λ v p. p) after_pop stack w h
