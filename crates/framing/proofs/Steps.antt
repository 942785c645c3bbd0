-- What the streams of a microframe, and what it begins with, leave as they find it.
use Rattle.std.proofs.Common.{◌≡◌, ℕ, false, List, [], refl, ap, ◌∙◌}
use Rattle.bus.specs.Memory.{Memory, memory}
use Rattle.bus.specs.Steps.{and_then}
use Rattle.record.specs.declared.Phase.{Phase}
use Rattle.record.specs.declared.Phase.TheVariants.{Idle, Vbus, Reset, Enumerate, Stream}
use Rattle.record.specs.declared.Settings.{Settings}
use Rattle.record.specs.declared.State.{State}
use Rattle.record.specs.World.{World, with_state}
use Rattle.record.specs.Change.{left, apply, one}
use Rattle.record.specs.Did.{Alone}
use Rattle.model.specs.Phases.{counts}
use Rattle.model.specs.Audio.{streams}
use Rattle.model.specs.Microframe.{streaming}
use Rattle.audio.specs.Promises.{at_stream, Streams}
use Rattle.framing.proofs.Held.{Held, held_of, keeps_streams}

-- a World with a sending ring, and nothing else of note
abbrev pub some : Settings → State → List ℕ → World
some c s k =
    record {
      settings = c;
      packers = [];
      state = s;
      own = record { setups = []; midi = []; serial = []; device = [] };
      lent = record { memory = memory [] [] []; reply = []; config = []; receive = []; cables = []; received = []; sending = k };
    }

-- the audio stream leaves queues and receive area alone
module _ (c : Settings) (s s' : State) (m m' : Memory) (l l' k : List ℕ) (p : Streams streams s m l k s' m' l') where
  held_streams : held_of (at_stream (some c s k) s' m' l' k) ≡ held_of (at_stream (some c s k) s m l k)
  held_streams = ap held_of (p.leads (some c s k)).is ∙ keeps_streams (at_stream (some c s k) s m l k)

  pub streams_midi : s'.lengths.midi ≡ s.lengths.midi
  streams_midi = ap (λ (h : Held). h.midi) held_streams

  pub streams_answered : s'.answer.received ≡ s.answer.received
  streams_answered = ap (λ (h : Held). h.answered) held_streams

-- every phase but the last is before streaming
pub not_streaming : (p : Phase) → (p ≡ Stream → ⊥) → streaming p ≡ false
not_streaming Idle k = refl
not_streaming Vbus k = refl
not_streaming Reset k = refl
not_streaming Enumerate k = refl
not_streaming Stream k = absurd (k refl)

-- the counts leave the timers
timers_left : (w : World) → (left counts w).state.timers ≡ w.state.timers
unfolding counts and_then one apply
timers_left w = refl

pub counts_timers : (c : Settings) (s s' : State) → Alone counts s s' → s'.timers ≡ s.timers
counts_timers c s s' p = ap (λ (w : World). w.state.timers) (p.leads (some c s [])).is ∙ timers_left (with_state (some c s []) s)
