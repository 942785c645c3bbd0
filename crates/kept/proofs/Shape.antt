-- What no change can change: settings, packers, and the lengths of memory and of every area; and the lengths of the record's queues,
-- whose arrays hold them. One induction over lists serves every step.
use Prim.Native.Nat.{ℕ, ◌-◌, ◌*◌, ◌≤◌}
use mathlib.Core.Path.{◌≡◌, refl, ap, ◌∙◌}
use mathlib.Core.List.{List, [], ◌∷◌, ◌++◌}
use native.Mathlib.Omega.{arith}
use lib.ListN.{length, take, drop, length-set, length-take, length-drop, length-append}
use lib.Seq.{length-sets}
use Rattle.bus.specs.declared.Place.{Place}
use Rattle.bus.specs.declared.Place.TheVariants.{Dynamic, Static, Page, Nowhere}
use Rattle.bus.specs.Memory.{Memory, write, at, poke8, poke32}
use Rattle.bus.specs.Steps.{replay}
use Rattle.bus.specs.Stores.{Bus, Store, word, byte, irq, store}
use Rattle.midi.specs.declared.Packer.{Packer}
use Rattle.record.specs.declared.Settings.{Settings}
use Rattle.record.specs.World.{World, bus_of}
use Rattle.record.specs.Parts as Part
use Rattle.record.specs.Change.{Change, bus, ran, lost, count, timers, popped, cleared, drained, waiting, ringed, apply, Step, left, port, audio, request, stream}
use Rattle.record.proofs.Beside.{port_beside}
use Rattle.model.specs.Microframe.{microframe}
use Rattle.model.proofs.Walk.{adds_any, clears_any}
use Rattle.kept.proofs.Every.{Early, Each, Opening, opening, every_microframe}

-- the lengths of the three windows
pub record Sizes : Type 0 where
  pub dynamic : ℕ
  pub sram : ℕ
  pub page : ℕ

pub record Shape : Type 0 where
  pub settings : Settings
  pub packers : List Packer
  pub memory : Sizes
  pub device : ℕ
  pub reply : ℕ
  pub config : ℕ
  pub receive : ℕ
  pub cables : ℕ
  pub received : ℕ
  pub sending : ℕ

abbrev pub sizes : Memory → Sizes
sizes m = record { dynamic = length m.dynamic; sram = length m.sram; page = length m.page }

abbrev shaped : World → Sizes → ℕ → ℕ → ℕ → ℕ → ℕ → ℕ → Shape
shaped w z d a b c k e =
    record { settings = w.settings; packers = w.packers; memory = z; device = d; reply = a; config = b; receive = c; cables = k; received = e; sending = length w.lent.sending }

abbrev pub shape : World → Shape
shape w =
    shaped w (sizes w.lent.memory) (length w.own.device) (length w.lent.reply) (length w.lent.config) (length w.lent.receive) (length w.lent.cables) (length w.lent.received)

-- ---- memory

write_kept : (m : Memory) (p : Place) (v : ℕ) → sizes (write m p v) ≡ sizes m
unfolding write
write_kept m (Dynamic i) v = λ j. record { dynamic = length-set m.dynamic i v j; sram = length m.sram; page = length m.page }
write_kept m (Static i) v = λ j. record { dynamic = length m.dynamic; sram = length-set m.sram i v j; page = length m.page }
write_kept m (Page i) v = λ j. record { dynamic = length m.dynamic; sram = length m.sram; page = length-set m.page i v j }
write_kept m Nowhere v = refl

byte_kept : (m : Memory) (a v : ℕ) → sizes (poke8 m a v) ≡ sizes m
unfolding poke8
byte_kept m a v = write_kept m (at m a) v

word_kept : (m : Memory) (a v : ℕ) → sizes (poke32 m a v) ≡ sizes m
unfolding poke32
word_kept m a v = byte_kept _ _ _ ∙ byte_kept _ _ _ ∙ byte_kept _ _ _ ∙ byte_kept m a _

store_kept : (s : Store) (b : Bus) → sizes (store s b).memory ≡ sizes b.memory
unfolding store
store_kept (word a v) b = word_kept b.memory a v
store_kept (byte a v) b = byte_kept b.memory a v
store_kept (irq l) b = refl

-- ---- every change, and every list of them

module _ (w : World) where
  change_kept : (c : Change) → shape (apply c w) ≡ shape w
  unfolding apply ringed
  change_kept (bus s) = ap (λ (z : Sizes). shaped w z (length w.own.device) (length w.lent.reply) (length w.lent.config) (length w.lent.receive) (length w.lent.cables) (length w.lent.received)) (store_kept s (bus_of w))
  change_kept (ran e k n) = refl
  change_kept (lost n) = refl
  change_kept (count c n) = refl
  change_kept (timers ts) = refl
  change_kept (port c) = ap shape (port_beside c w)
  change_kept (audio (Part.credit n)) = refl
  change_kept (audio (Part.budget n)) = refl
  change_kept (audio (Part.counter n)) = refl
  change_kept (audio (Part.block n c)) = refl
  change_kept (audio (Part.frame f)) = ap (λ (x : ℕ). shaped w (sizes w.lent.memory) (length w.own.device) (length w.lent.reply) (length w.lent.config) (length w.lent.receive) (length w.lent.cables) x) (length-sets w.lent.received _ f)
  change_kept (audio (Part.taken n)) = refl
  change_kept (request (Part.control c)) = refl
  change_kept (request (Part.queued bs)) = refl
  change_kept (request Part.popped) = refl
  change_kept (request (Part.pushed bs)) = refl
  change_kept (request Part.cleared) = refl
  change_kept (request (Part.reply n bs)) = ap (λ (x : ℕ). shaped w (sizes w.lent.memory) (length w.own.device) x (length w.lent.config) (length w.lent.receive) (length w.lent.cables) (length w.lent.received)) (length-sets w.lent.reply n bs)
  change_kept (request (Part.device bs)) = ap (λ (x : ℕ). shaped w (sizes w.lent.memory) x (length w.lent.reply) (length w.lent.config) (length w.lent.receive) (length w.lent.cables) (length w.lent.received)) (length-sets w.own.device 0 bs)
  change_kept (request (Part.config bs)) = ap (λ (x : ℕ). shaped w (sizes w.lent.memory) (length w.own.device) (length w.lent.reply) x (length w.lent.receive) (length w.lent.cables) (length w.lent.received)) (length-sets w.lent.config 0 bs)
  change_kept (request Part.forgot) = refl
  change_kept (stream (Part.midi n)) = refl
  change_kept (stream (Part.serial n)) = refl
  change_kept (stream (Part.cabled cs)) = ap (λ (x : ℕ). shaped w (sizes w.lent.memory) (length w.own.device) (length w.lent.reply) (length w.lent.config) (length w.lent.receive) x (length w.lent.received)) (length-sets w.lent.cables w.state.answer.received cs)
  change_kept (stream (Part.received bs)) = ap (λ (x : ℕ). shaped w (sizes w.lent.memory) (length w.own.device) (length w.lent.reply) (length w.lent.config) x (length w.lent.cables) (length w.lent.received)) (length-sets w.lent.receive w.state.answer.received bs)

pub list_kept : (cs : List Change) (w : World) → shape (replay apply cs w) ≡ shape w
list_kept [] w = refl
list_kept (c ∷ cs) w = list_kept cs (apply c w) ∙ change_kept w c

-- every step, whatever it is
pub step_kept : (f : Step) (w : World) → shape (left f w) ≡ shape w
step_kept f w = list_kept (f w) w

pub shape_kept : (t : ℕ) (w : World) → shape (left (microframe t) w) ≡ shape w
shape_kept t w = step_kept (microframe t) w

-- ---- the queues in their arrays, which a microframe drains of no more than they hold

drained_length : (q : List ℕ) (len n : ℕ) → len ≤ length q → length (drained q len n) ≡ length q
unfolding drained
drained_length q len n h =
    omega (arith, length-append (take (len - n) (drop n q)) (drop (len - n) q), length-take (len - n) (drop n q), length-drop n q, length-drop (len - n) q)

-- arrays of a, b and c bytes, of which the MIDI and the serial queue use m and s
record Arrays (a b c : ℕ) (setups midi serial : List ℕ) (m s : ℕ) : Type 0 where
  setups_length : length setups ≡ a
  midi_length : length midi ≡ b
  serial_length : length serial ≡ c
  midi_fits : m ≤ b
  serial_fits : s ≤ c

module _ (a b c : ℕ) where
  abbrev ArraysOk : World → Type 0
  ArraysOk w = Arrays a b c w.own.setups w.own.midi w.own.serial w.state.lengths.midi w.state.lengths.serial

  -- and up to control the setups lie in theirs
  abbrev FitsOk : World → Type 0
  FitsOk w = ArraysOk w × (8 * w.state.lengths.setups ≤ a)

  requeued : (w : World) (q : List ℕ) → length q ≡ length w.own.setups → ArraysOk w → Arrays a b c q w.own.midi w.own.serial w.state.lengths.midi w.state.lengths.serial
  requeued w q e h = record { setups_length = e ∙ h.setups_length; midi_length = h.midi_length; serial_length = h.serial_length; midi_fits = h.midi_fits; serial_fits = h.serial_fits }

  drained_midi : (n : ℕ) (w : World) → ArraysOk w → Arrays a b c w.own.setups (drained w.own.midi w.state.lengths.midi n) w.own.serial (w.state.lengths.midi - n) w.state.lengths.serial
  drained_midi n w h =
      let l = h.midi_length in
      let f = h.midi_fits in
      record { setups_length = h.setups_length; midi_length = drained_length w.own.midi w.state.lengths.midi n (omega arith) ∙ l; serial_length = h.serial_length; midi_fits = omega arith; serial_fits = h.serial_fits }

  drained_serial : (n : ℕ) (w : World) → ArraysOk w → Arrays a b c w.own.setups w.own.midi (drained w.own.serial w.state.lengths.serial n) w.state.lengths.midi (w.state.lengths.serial - n)
  drained_serial n w h =
      let l = h.serial_length in
      let f = h.serial_fits in
      record { setups_length = h.setups_length; midi_length = h.midi_length; serial_length = drained_length w.own.serial w.state.lengths.serial n (omega arith) ∙ l; midi_fits = h.midi_fits; serial_fits = omega arith }

  none_waits : (w : World) → FitsOk w → FitsOk (apply cleared w)
  unfolding apply
  none_waits w h = (h.0, omega arith)

  fits_early : Early FitsOk
  unfolding apply
  fits_early =
      record {
        stores = λ s w h. h;
        counts = λ c m o w h. h;
        enters = λ p w h. h;
        starts = λ w h. h;
        goes = λ b w h. h;
        suspends = λ b w h. h;
        runs = λ b w h. h;
        credits = λ m w h. h;
        resets = λ w h. h;
        controls = λ c w h. h;
        clears = none_waits;
        forgets = λ w h. h;
      }

  arrays_each : Each ArraysOk
  unfolding apply
  arrays_each =
      record {
        early = record {
          stores = λ s w h. h;
          counts = λ c m o w h. h;
          enters = λ p w h. h;
          starts = λ w h. h;
          goes = λ b w h. h;
          suspends = λ b w h. h;
          runs = λ b w h. h;
          credits = λ m w h. h;
          resets = λ w h. h;
          controls = λ c w h. h;
          clears = λ w h. h;
          forgets = λ w h. h;
        };
        marks = λ e k m w h. h;
        loses = λ m w h. h;
        waits = λ w h e. adds_any ArraysOk (λ m v p. p) w h;
        passes = λ w h e. clears_any ArraysOk (λ m v p. p) _ (adds_any ArraysOk (λ m v p. p) w h);
        numbers = λ m w h. h;
        chooses = λ bs w e h. h;
        queues = λ bs w h. requeued w _ (length-sets w.own.setups _ bs) h;
        pushes = λ bs w h. requeued w _ (length-sets w.own.setups 0 (bs ++ waiting w)) h;
        replies = λ m bs w h. h;
        devices = λ bs w h. h;
        configs = λ bs w h. h;
        midis = λ n w l f h. drained_midi n w h;
        serials = λ n w l h. drained_serial n w h;
        receives = λ bs w h. h;
        cables = λ cs w h. h;
        frames = λ f w h. h;
        takes = λ m w h. h;
      }

  pop_fits : (w : World) → FitsOk w → ArraysOk (apply popped w)
  unfolding apply
  pop_fits w h =
      let l = h.0.setups_length in
      let f = h.1 in
      requeued w _ (drained_length w.own.setups (8 * w.state.lengths.setups) 8 (omega arith)) h.0

  fits_opening : Opening FitsOk FitsOk FitsOk
  unfolding apply
  fits_opening = opening FitsOk fits_early (λ n w h. h) (λ n w h. h) (λ ts w h. h)

  arrays_microframe : (t : ℕ) (w : World) → FitsOk w → ArraysOk (left (microframe t) w)
  arrays_microframe = every_microframe FitsOk FitsOk FitsOk ArraysOk fits_opening fits_early arrays_each (λ w h. h.0) pop_fits

-- the lengths of the three arrays
pub record SameArrays (w v : World) : Type 0 where
  pub setups : length v.own.setups ≡ length w.own.setups
  pub midi : length v.own.midi ≡ length w.own.midi
  pub serial : length v.own.serial ≡ length w.own.serial

pub arrays_kept : (t : ℕ) (w : World) → 8 * w.state.lengths.setups ≤ length w.own.setups → w.state.lengths.midi ≤ length w.own.midi → w.state.lengths.serial ≤ length w.own.serial
    → SameArrays w (left (microframe t) w)
arrays_kept t w p q r =
    let h : ArraysOk (length w.own.setups) (length w.own.midi) (length w.own.serial) w = record { setups_length = refl; midi_length = refl; serial_length = refl; midi_fits = q; serial_fits = r } in
    let a = arrays_microframe _ _ _ t w (h, p) in
    record { setups = a.setups_length; midi = a.midi_length; serial = a.serial_length }
