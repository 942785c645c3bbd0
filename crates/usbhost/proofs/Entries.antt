-- A call by value, from the promise of the call on parts: the record is taken apart, and written anew from what that leaves.
use Rattle.std.specs.Prelude.{Option, Some, None, Result, Ok, Err}
use mathlib.Core.Path.{◌≡◌, sym, ap, ◌∙◌}
use mathlib.Core.List.{List}
use Prim.Native.Nat.{ℕ}
use Rattle.refusal.specs.declared.Refusal.{Refusal}
use Rattle.usbdev.specs.Answers.{Value, value_of}
use Rattle.record.specs.declared.State.{State}
use Rattle.record.specs.World.{own_midi, own_serial}
use Rattle.usbhost.specs.declared.Host.{Host}
use Rattle.usbhost.specs.Answers.{Sent, sent, Taken, Read, MidiSent, taken_by, taken_from_ring, read_by}
use Rattle.usbhost.specs.Host.{state_of, host_of, own_of, host_with}
use Rattle.usbhost.specs.Calls.{midi_sent, serial_sent, given, given_ring, taken_frame, device_read, device_written, written_page}
use Rattle.usbhost.specs.Promises.{MidiPromise, SerialPromise, GivePromise, TakePromise, ReadPromise, WritePromise}

module _ (h : Host) {s : State} (e : s ≡ state_of h) where
  pub midi_entry : (cable : ℕ) (bs : List ℕ) (r : MidiSent) (midi' : List ℕ) → MidiPromise s h.settings.spans h.packers cable bs h.setups h.midi r midi'
      → {g : Host} → g ≡ host_of r.state h.settings r.packers (own_midi (own_of h) midi')
      → sent r.refusal g ≡ midi_sent h cable bs
  midi_entry cable bs r midi' d f = ap (sent r.refusal) f ∙ (rw e at d).done h.settings (own_of h)

  pub serial_entry : (bs : List ℕ) (r : Sent State) (serial' : List ℕ) → SerialPromise s h.settings.spans h.packers bs h.setups h.serial r serial'
      → {g : Host} → g ≡ host_of r.next h.settings h.packers (own_serial (own_of h) serial')
      → sent r.refusal g ≡ serial_sent h bs
  serial_entry bs r serial' d f = ap (sent r.refusal) f ∙ (rw e at d).done h.settings (own_of h)

  pub give_entry : (frame sending : List ℕ) (r : Sent State) (sending' : List ℕ) → GivePromise s h.settings.spans h.packers frame h.setups sending r sending'
      → {g : Host} → g ≡ host_with h r.next
      → (sent r.refusal g ≡ given h frame sending) × (sending' ≡ given_ring h frame sending)
  give_entry frame sending r sending' d f = (
    ap (sent r.refusal) f ∙ (rw e at d).done h.settings (own_of h),
    (rw e at d).ring h.settings (own_of h),
  )

  pub take_entry : (received : List ℕ) (r : Taken State) → TakePromise s h.settings.spans h.packers h.setups received r
      → {g : Host} → g ≡ host_with h r.next
      → ◌≡◌ {A = Taken Host} (record { refusal = r.refusal; empty = r.empty; frame = r.frame; next = g }) (taken_frame h received)
  take_entry received r d f = rw f ((rw e at d).done h.settings (own_of h))

  -- one that is refused leaves the record
  pub take_refused : (received : List ℕ) (r : Refusal) → TakePromise s h.settings.spans h.packers h.setups received (taken_by s (Err r))
      → taken_by h (Err r) ≡ taken_frame h received
  take_refused received r d = take_entry received _ d (ap (host_with h) (sym e))

  -- a frame, or none from an empty ring
  pub take_accepted : (received : List ℕ) (f : Option (List ℕ)) (s' : State) → TakePromise s h.settings.spans h.packers h.setups received (taken_from_ring f s')
      → {g : Host} → g ≡ host_with h s' → taken_from_ring f g ≡ taken_frame h received
  take_accepted received (Some x) s' d f = take_entry received _ d f
  take_accepted received None s' d f = take_entry received _ d f

  pub read_entry : (page : List ℕ) (off size : ℕ) (r : Value) → ReadPromise s h.settings.spans h.packers h.setups page off size r
      → ◌≡◌ {A = Read} (record { refusal = r.refusal; value = r.value; host = h }) (device_read h page off size)
  read_entry page off size r d = (rw e at d).done h.settings (own_of h)

  pub read_answer : (page : List ℕ) (off size : ℕ) (r : Result ℕ Refusal) → ReadPromise s h.settings.spans h.packers h.setups page off size (value_of r)
      → read_by h r ≡ device_read h page off size
  read_answer page off size (Ok v) d = read_entry page off size _ d
  read_answer page off size (Err r) d = read_entry page off size _ d

  pub write_entry : (page : List ℕ) (off size v : ℕ) (r : Sent State) (page' : List ℕ) → WritePromise s h.settings.spans h.packers h.setups page off size v r page'
      → {g : Host} → g ≡ host_with h r.next
      → (sent r.refusal g ≡ device_written h page off size v) × (page' ≡ written_page h page off size v)
  write_entry page off size v r page' d f = (
    ap (sent r.refusal) f ∙ (rw e at d).done h.settings (own_of h),
    (rw e at d).written h.settings (own_of h),
  )
