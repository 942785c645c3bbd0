-- The calls on parts, which the programs use, beside the list's step: what the contract of each ensures of its answer and of the record by its parts is
-- the number and the record that `number_of` and `step` give. `met`: the code meets its contract. All but `run_microframe` take of the settings their count
-- of spans alone, and of the arrays only those that they touch: the law holds for any others.
use mathlib.Core.List.{List}
use mathlib.Core.Path.{◌≡◌, refl, ap, ◌∙◌}
use Prim.Native.Nat.{ℕ}
use seplogic.Ra.Ura.{Ura}
use prog.Model.{Model}
use prog.Wired.{Wired}
use types.Logic.{Logic}
use contract.Lifetimes.{Lfts, Shares}
use contract.Running.{Running}
use denote.Signature.{types_at}
use denote.Triple.Clauses.{AtExit}
use denote.Triple.Entry.{Args}
use denote.Triple.Spec.{Meets}
use borrow.Fn.Kinds.{Dens, res_t, ended_of}
use Rattle.bus.specs.Memory.{memory}
use Rattle.midi.specs.declared.Packer.{Packer}
use Rattle.record.specs.declared.Settings.{Settings}
use Rattle.record.specs.declared.State.{State}
use Rattle.refusal.specs.Number.{number_of as result_number}
use Rattle.usbdev.specs.Answers.{value_of}
use Rattle.usbhost.specs.declared.Host.{Host}
use Rattle.usbhost.specs.Answers.{Sent, sent, Taken, Read, midi_sent_by, sent_by, taken_by}
use Rattle.usbhost.specs.Host.{host_of}
use Rattle.usbhost.specs.Calls as C
use Rattle.usbhost.specs.Calls.{midi_sent, serial_sent, given, taken_frame, device_written}
use Rattle.usbhost.specs.Frame.{host_in}
use Rattle.record.specs.World.{Own, Lent, own, lent, own_setups, own_midi, own_serial}
use Rattle.usbhost.specs.Promises.{with_spans}
use Rattle.usbhost.proofs.run_microframe.Kinds as RunMicroframe
use Rattle.usbhost.proofs.run_microframe.Reads as RunMicroframe·contract
use Rattle.usbhost.proofs.run_microframe.Statement as RunMicroframe·code
use Rattle.usbhost.proofs.run_microframe.Met as RunMicroframe·proof
use Rattle.usbhost.specs.contracts.run_microframe as RunMicroframe·spec
use Rattle.usbhost.proofs.run_microframe.Symbol as RunMicroframe·symbol
use Rattle.usbhost.proofs.send_midi.Kinds as SendMidi
use Rattle.usbhost.proofs.send_midi.Reads as SendMidi·contract
use Rattle.usbhost.proofs.send_midi.Statement as SendMidi·code
use Rattle.usbhost.proofs.send_midi.Met as SendMidi·proof
use Rattle.usbhost.proofs.send_serial.Kinds as SendSerial
use Rattle.usbhost.proofs.send_serial.Reads as SendSerial·contract
use Rattle.usbhost.proofs.send_serial.Statement as SendSerial·code
use Rattle.usbhost.proofs.send_serial.Met as SendSerial·proof
use Rattle.usbhost.proofs.give_frame.Kinds as GiveFrame
use Rattle.usbhost.proofs.give_frame.Reads as GiveFrame·contract
use Rattle.usbhost.proofs.give_frame.Statement as GiveFrame·code
use Rattle.usbhost.proofs.give_frame.Met as GiveFrame·proof
use Rattle.usbhost.proofs.take_frame.Kinds as TakeFrame
use Rattle.usbhost.proofs.take_frame.Reads as TakeFrame·contract
use Rattle.usbhost.proofs.take_frame.Statement as TakeFrame·code
use Rattle.usbhost.proofs.take_frame.Met as TakeFrame·proof
use Rattle.usbhost.proofs.read_device.Kinds as ReadDevice
use Rattle.usbhost.proofs.read_device.Reads as ReadDevice·contract
use Rattle.usbhost.proofs.read_device.Statement as ReadDevice·code
use Rattle.usbhost.proofs.read_device.Met as ReadDevice·proof
use Rattle.usbhost.proofs.write_device.Kinds as WriteDevice
use Rattle.usbhost.proofs.write_device.Reads as WriteDevice·contract
use Rattle.usbhost.proofs.write_device.Statement as WriteDevice·code
use Rattle.usbhost.proofs.write_device.Met as WriteDevice·proof
use Rattle.history.specs.Calls.{Call, microframe, midi_send, serial_send, frame_give, frame_take, device_read, device_write, step}
use Rattle.history.specs.Accepts.{number_of, BytesLent}
use Rattle.history.proofs.Owned.{types_from, denots_from, Tells, later_tells, lent_bytes, also, meets_also}
use Rattle.history.proofs.Contracts.{Follows}

-- ---- `run_microframe`

abbrev pub parts_lent : (κs : Lfts 14) → Dens κs RunMicroframe.ps → Lent
parts_lent κs a =
    lent (memory a.1.1.1.1.1.1.1.0.now a.1.1.1.1.1.1.1.1.0.now a.1.1.1.1.1.1.1.1.1.0.now) a.1.1.1.1.1.1.1.1.1.1.0.now a.1.1.1.1.1.1.1.1.1.1.1.0.now a.1.1.1.1.1.1.1.1.1.1.1.1.0.now a.1.1.1.1.1.1.1.1.1.1.1.1.1.0.now a.1.1.1.1.1.1.1.1.1.1.1.1.1.1.0.now a.1.1.1.1.1.1.1.1.1.1.1.1.1.1.1.0.now

pub run_microframe_follows : (κs : Lfts 14) (a : Dens κs RunMicroframe.ps) (r : (res_t RunMicroframe.r κs).Denot) (s : AtExit (ended_of 14 RunMicroframe.ps RunMicroframe.r) κs)
    → RunMicroframe·contract.Post κs a r s
    → Follows (host_of a.0.now a.1.0 a.1.1.0 (own a.1.1.1.0.now a.1.1.1.1.0.now a.1.1.1.1.1.0.now a.1.1.1.1.1.1.0.now)) (microframe a.1.1.1.1.1.1.1.1.1.1.1.1.1.1.1.1.0 (parts_lent κs a)) (result_number r) (host_of s.0.now a.1.0 a.1.1.0 (own s.1.1.1.0.now s.1.1.1.1.0.now s.1.1.1.1.1.0.now s.1.1.1.1.1.1.0.now))
unfolding step number_of
run_microframe_follows κs a r s p = record { answers = p.number; leaves = ap host_in p.outcome }

pub run_microframe_met : {M : Type 1} → RunMicroframe·code.statement M
run_microframe_met = RunMicroframe·proof.met

-- by the types of its slices the windows and the reply area hold bytes, and so the code meets the contract that ensures that too
module _ {M : Type 1} {𝓤 : Ura M} (𝓛 : Logic 𝓤) where
  open 𝓛 use {H}

  pub run_microframe_bytes : (κs : Lfts 14) (qs : Shares 14) (a : Args RunMicroframe·spec.signature κs)
      → Tells 𝓛 14 κs qs (types_at (RunMicroframe·spec.signature).params κs) a (BytesLent (parts_lent κs a))
  run_microframe_bytes κs qs a =
      let Ts = types_at (RunMicroframe·spec.signature).params κs in
      later_tells 𝓛 14 κs qs 7 Ts a _
      (lent_bytes 𝓛 14 κs qs 5 6 7 8 tt tt tt tt (types_from 11 Ts) (denots_from 7 Ts a) a.1.1.1.1.1.1.1.1.1.1.1.0.now a.1.1.1.1.1.1.1.1.1.1.1.1.0.now a.1.1.1.1.1.1.1.1.1.1.1.1.1.0.now a.1.1.1.1.1.1.1.1.1.1.1.1.1.1.0.now a.1.1.1.1.1.1.1.1.1.1.1.1.1.1.1.0.now)

  pub run_microframe_met_bytes : (𝓜 : Model 𝓤 H) (𝓡 : Running 𝓤 H 𝓜) → Wired 𝓡.env RunMicroframe·symbol.code
      → Meets 𝓛 RunMicroframe·spec.signature (𝓡.run (𝓡.env RunMicroframe·symbol.name)) (also RunMicroframe·spec.signature (RunMicroframe·spec.spec 𝓛 𝓜.mem 𝓡.returns) (λ κs a. BytesLent (parts_lent κs a)))
  run_microframe_met_bytes 𝓜 𝓡 w =
      meets_also 𝓛 𝓜 𝓡 RunMicroframe·spec.signature (RunMicroframe·spec.spec 𝓛 𝓜.mem 𝓡.returns) (λ κs a. BytesLent (parts_lent κs a)) run_microframe_bytes
      (𝓡.env RunMicroframe·symbol.name) (RunMicroframe·proof.met 𝓤 𝓛 𝓜 𝓡 w)

-- ---- the record by its parts, whatever its settings but their count of spans

abbrev pub whole : Settings → ℕ → State → List Packer → Own → Host
whole c spans s packers o = host_of s (with_spans c spans) packers o

-- a send's answer
sends : (h : Host) (call : Call) (number : ℕ) (next : Host) (x : Sent Host) → x.refusal ≡ number_of h call → x.next ≡ step h call
    → sent number next ≡ x → Follows h call number next
sends h call number next x n l e =
    record { answers = ap (λ (y : Sent Host). y.refusal) e ∙ n; leaves = ap (λ (y : Sent Host). y.next) e ∙ l }

-- ---- `send_midi`

pub send_midi_follows : (κs : Lfts 3) (a : Dens κs SendMidi.ps) (r : (res_t SendMidi.r κs).Denot) (s : AtExit (ended_of 3 SendMidi.ps SendMidi.r) κs) (c : Settings) (o : Own)
    → SendMidi·contract.Post κs a r s
    → Follows (whole c a.0.spans a.0.state a.0.packers (own_midi (own_setups o a.0.setups.now) a.1.1.1.0.now)) (midi_send a.1.0 a.1.1.0.now) (midi_sent_by a.0.state a.0.packers r).refusal (whole c a.0.spans (midi_sent_by a.0.state a.0.packers r).state (midi_sent_by a.0.state a.0.packers r).packers (own_midi (own_setups o a.0.setups.now) s.1.1.1.0.now))
unfolding step number_of midi_sent
send_midi_follows κs a r s c o q =
    sends _ (midi_send a.1.0 a.1.1.0.now) _ _ _ refl refl (q.done c o)

pub send_midi_met : {M : Type 1} → SendMidi·code.statement M
send_midi_met = SendMidi·proof.met

-- ---- `send_serial`

pub send_serial_follows : (κs : Lfts 3) (a : Dens κs SendSerial.ps) (r : (res_t SendSerial.r κs).Denot) (s : AtExit (ended_of 3 SendSerial.ps SendSerial.r) κs) (c : Settings) (o : Own)
    → SendSerial·contract.Post κs a r s
    → Follows (whole c a.0.spans a.0.state a.0.packers (own_serial (own_setups o a.0.setups.now) a.1.1.0.now)) (serial_send a.1.0.now) (sent_by a.0.state r).refusal (whole c a.0.spans (sent_by a.0.state r).next a.0.packers (own_serial (own_setups o a.0.setups.now) s.1.1.0.now))
unfolding step number_of serial_sent
send_serial_follows κs a r s c o q =
    sends _ (serial_send a.1.0.now) _ _ _ refl refl (q.done c o)

pub send_serial_met : {M : Type 1} → SendSerial·code.statement M
send_serial_met = SendSerial·proof.met

-- ---- `give_frame`

pub give_frame_follows : (κs : Lfts 3) (a : Dens κs GiveFrame.ps) (r : (res_t GiveFrame.r κs).Denot) (s : AtExit (ended_of 3 GiveFrame.ps GiveFrame.r) κs) (c : Settings) (o : Own)
    → GiveFrame·contract.Post κs a r s
    → Follows (whole c a.0.spans a.0.state a.0.packers (own_setups o a.0.setups.now)) (frame_give a.1.0.now a.1.1.0.now) (sent_by a.0.state r).refusal (whole c a.0.spans (sent_by a.0.state r).next a.0.packers (own_setups o a.0.setups.now))
unfolding step number_of given
give_frame_follows κs a r s c o q =
    sends _ (frame_give a.1.0.now a.1.1.0.now) _ _ _ refl refl (q.done c o)

pub give_frame_met : {M : Type 1} → GiveFrame·code.statement M
give_frame_met = GiveFrame·proof.met

-- ---- `take_frame`

pub take_frame_follows : (κs : Lfts 2) (a : Dens κs TakeFrame.ps) (r : (res_t TakeFrame.r κs).Denot) (s : AtExit (ended_of 2 TakeFrame.ps TakeFrame.r) κs) (c : Settings) (o : Own)
    → TakeFrame·contract.Post κs a r s
    → Follows (whole c a.0.spans a.0.state a.0.packers (own_setups o a.0.setups.now)) (frame_take a.1.0.now) (taken_by a.0.state r).refusal (whole c a.0.spans (taken_by a.0.state r).next a.0.packers (own_setups o a.0.setups.now))
unfolding step number_of taken_frame
take_frame_follows κs a r s c o q =
    record { answers = ap (λ (x : Taken Host). x.refusal) (q.done c o); leaves = ap (λ (x : Taken Host). x.next) (q.done c o) }

pub take_frame_met : {M : Type 1} → TakeFrame·code.statement M
take_frame_met = TakeFrame·proof.met

-- ---- `read_device`: the record stays

pub read_device_follows : (κs : Lfts 2) (a : Dens κs ReadDevice.ps) (r : (res_t ReadDevice.r κs).Denot) (s : AtExit (ended_of 2 ReadDevice.ps ReadDevice.r) κs) (c : Settings) (o : Own)
    → ReadDevice·contract.Post κs a r s
    → Follows (whole c a.0.spans a.0.state a.0.packers (own_setups o a.0.setups.now)) (device_read a.1.0.now a.1.1.0 a.1.1.1.0) (value_of r).refusal (whole c a.0.spans a.0.state a.0.packers (own_setups o a.0.setups.now))
unfolding step number_of C.device_read
read_device_follows κs a r s c o q =
    record { answers = ap (λ (x : Read). x.refusal) (q.done c o); leaves = ap (λ (x : Read). x.host) (q.done c o) }

pub read_device_met : {M : Type 1} → ReadDevice·code.statement M
read_device_met = ReadDevice·proof.met

-- ---- `write_device`

pub write_device_follows : (κs : Lfts 2) (a : Dens κs WriteDevice.ps) (r : (res_t WriteDevice.r κs).Denot) (s : AtExit (ended_of 2 WriteDevice.ps WriteDevice.r) κs) (c : Settings) (o : Own)
    → WriteDevice·contract.Post κs a r s
    → Follows (whole c a.0.spans a.0.state a.0.packers (own_setups o a.0.setups.now)) (device_write a.1.0.now a.1.1.0 a.1.1.1.0 a.1.1.1.1.0) (sent_by a.0.state r).refusal (whole c a.0.spans (sent_by a.0.state r).next a.0.packers (own_setups o a.0.setups.now))
unfolding step number_of device_written
write_device_follows κs a r s c o q =
    sends _ (device_write a.1.0.now a.1.1.0 a.1.1.1.0 a.1.1.1.1.0) _ _ _ refl refl (q.done c o)

pub write_device_met : {M : Type 1} → WriteDevice·code.statement M
write_device_met = WriteDevice·proof.met
