-- The MIDI and the serial queue: a microframe drains no more than they hold, and MIDI in whole packets (document 01, number 5).
use Prim.Native.Nat.{ℕ, ◌-◌, ◌%◌, ◌≤◌}
use mathlib.Core.Path.{◌≡◌, refl}
use mathlib.Core.Bool.{true}
use native.Mathlib.Omega.{arith}
use lib.Dec.{leb, eqb}
use borrow.Author.Tests.{leb-true, le-leb, eqb-true, eq-eqb}
use Rattle.record.specs.declared.Lengths.{Lengths}
use Rattle.record.specs.World.{World}
use Rattle.record.specs.Change.{apply, left}
use Rattle.model.specs.Microframe.{microframe}
use Rattle.model.proofs.Walk.{adds_any, clears_any}
use Rattle.kept.proofs.Every.{Each, Whole, whole_microframe}

pub record Queues (l : Lengths) : Type 0 where
  pub midi : leb l.midi 4096 ≡ true
  pub packets : eqb (l.midi % 4) 0 ≡ true
  pub serial : leb l.serial 4096 ≡ true

less_held : (a n : ℕ) → leb a 4096 ≡ true → leb (a - n) 4096 ≡ true
less_held a n e = let h = leb-true a 4096 e in le-leb (a - n) 4096 (omega arith)

whole_left : (a n : ℕ) → n ≤ a → n % 4 ≡ 0 → eqb (a % 4) 0 ≡ true → eqb ((a - n) % 4) 0 ≡ true
whole_left a n l f e = let h = eqb-true (a % 4) 0 e in eq-eqb ((a - n) % 4) 0 (omega arith)

abbrev QueuesOk : World → Type 0
QueuesOk w = Queues w.state.lengths

same : (l m : Lengths) → l.midi ≡ m.midi → l.serial ≡ m.serial → Queues l → Queues m
same l m p q h = record { midi = rw p at h.midi; packets = rw p at h.packets; serial = rw q at h.serial }

queues_each : Each QueuesOk
unfolding apply
queues_each =
    record {
      early = record {
        stores = λ s w h. h;
        counts = λ c m o w h. h;
        enters = λ p w h. h;
        starts = λ w h. h;
        goes = λ b w h. h;
        suspends = λ b w h. h;
        runs = λ b w h. h;
        credits = λ m w h. h;
        resets = λ w h. h;
        controls = λ c w h. h;
        clears = λ w h. same _ _ refl refl h;
        forgets = λ w h. same _ _ refl refl h;
      };
      marks = λ e k m w h. h;
      loses = λ m w h. h;
      waits = λ w h e. adds_any QueuesOk (λ m v p. p) w h;
      passes = λ w h e. clears_any QueuesOk (λ m v p. p) _ (adds_any QueuesOk (λ m v p. p) w h);
      numbers = λ m w h. h;
      chooses = λ bs w e h. h;
      queues = λ bs w h. same _ _ refl refl h;
      pushes = λ bs w h. same _ _ refl refl h;
      replies = λ m bs w h. h;
      devices = λ bs w h. same _ _ refl refl h;
      configs = λ bs w h. same _ _ refl refl h;
      midis = λ n w l f h. record { midi = less_held _ n h.midi; packets = whole_left _ n l f h.packets; serial = h.serial };
      serials = λ n w l h. record { midi = h.midi; packets = h.packets; serial = less_held _ n h.serial };
      receives = λ bs w h. h;
      cables = λ cs w h. h;
      frames = λ f w h. h;
      takes = λ m w h. h;
    }

queues_whole : Whole QueuesOk
unfolding apply
queues_whole =
    record {
      each = queues_each;
      pops = λ w h. same _ _ refl refl h;
      counted = λ n w h. h;
      numbered = λ n w h. h;
      ticked = λ ts w h. h;
    }

pub queues_kept : (t : ℕ) (w : World) → Queues w.state.lengths → Queues (left (microframe t) w).state.lengths
queues_kept = whole_microframe QueuesOk queues_whole
