-- The contracts of the calls beside the list's step: what the code of each ensures of its result is the number and the record that
-- `number_of` and `step` give, so that the claims about lists of calls are about what the code leaves. `met`: the code meets its contract.
use Prim.Native.Nat.{ℕ}
use Rattle.std.specs.Prelude.{Result, Ok, Err}
use mathlib.Core.Path.{◌≡◌, refl, sym, ap, ◌∙◌}
use seplogic.Ra.Ura.{Ura}
use base.Logic.{SProp}
use prog.Memory.{Memory}
use prog.Model.{Model}
use prog.Routine.{Routine}
use prog.Wired.{Wired}
use types.Logic.{Logic}
use contract.Lifetimes.{Lfts, Shares}
use contract.Monad.{Fun, fact}
use contract.Running.{Running}
use denote.Signature.{types_at}
use denote.Triple.Clauses.{AtExit}
use denote.Triple.Entry.{Args, Res}
use denote.Triple.Spec.{Meets}
use borrow.Fn.Kinds.{Dens, res_t, ended_of}
use Rattle.bus.specs.Memory.{memory}
use Rattle.usbhost.specs.declared.Host.{Host}
use Rattle.usbhost.specs.Answers.{Created, Framed, Sent, Taken, Read, sent_by, taken_by, read_by, framed_by}
use Rattle.usbhost.specs.Host.{created, created_by}
use Rattle.usbhost.specs.Calls as C
use Rattle.usbhost.specs.Calls.{midi_sent, serial_sent, given, taken_frame, device_written}
use Rattle.usbhost.specs.Frame.{framed, frame_answer}
use Rattle.record.specs.World.{Lent, lent}
use Rattle.usbhost.proofs.Host.microframe.Kinds as Microframe
use Rattle.usbhost.proofs.Host.microframe.Reads as Microframe·contract
use Rattle.usbhost.proofs.Host.microframe.Statement as Microframe·code
use Rattle.usbhost.proofs.Host.microframe.Met as Microframe·proof
use Rattle.usbhost.specs.contracts.Host.microframe as Microframe·spec
use Rattle.usbhost.proofs.Host.microframe.Symbol as Microframe·symbol
use Rattle.thin.proofs.microframe.Statement as Thin·code
use Rattle.thin.proofs.microframe.Met as Thin·proof
use Rattle.thin.specs.contracts.microframe as Thin·spec
use Rattle.thin.proofs.microframe.Symbol as Thin·symbol
use Rattle.usbhost.proofs.Host.midi_send.Kinds as MidiSend
use Rattle.usbhost.proofs.Host.midi_send.Reads as MidiSend·contract
use Rattle.usbhost.proofs.Host.midi_send.Statement as MidiSend·code
use Rattle.usbhost.proofs.Host.midi_send.Met as MidiSend·proof
use Rattle.usbhost.proofs.Host.serial_send.Kinds as SerialSend
use Rattle.usbhost.proofs.Host.serial_send.Reads as SerialSend·contract
use Rattle.usbhost.proofs.Host.serial_send.Statement as SerialSend·code
use Rattle.usbhost.proofs.Host.serial_send.Met as SerialSend·proof
use Rattle.usbhost.proofs.Host.frame_give.Kinds as FrameGive
use Rattle.usbhost.proofs.Host.frame_give.Reads as FrameGive·contract
use Rattle.usbhost.proofs.Host.frame_give.Statement as FrameGive·code
use Rattle.usbhost.proofs.Host.frame_give.Met as FrameGive·proof
use Rattle.usbhost.proofs.Host.frame_take.Kinds as FrameTake
use Rattle.usbhost.proofs.Host.frame_take.Reads as FrameTake·contract
use Rattle.usbhost.proofs.Host.frame_take.Statement as FrameTake·code
use Rattle.usbhost.proofs.Host.frame_take.Met as FrameTake·proof
use Rattle.usbhost.proofs.Host.device_read.Kinds as DeviceRead
use Rattle.usbhost.proofs.Host.device_read.Reads as DeviceRead·contract
use Rattle.usbhost.proofs.Host.device_read.Statement as DeviceRead·code
use Rattle.usbhost.proofs.Host.device_read.Met as DeviceRead·proof
use Rattle.usbhost.proofs.Host.device_write.Kinds as DeviceWrite
use Rattle.usbhost.proofs.Host.device_write.Reads as DeviceWrite·contract
use Rattle.usbhost.proofs.Host.device_write.Statement as DeviceWrite·code
use Rattle.usbhost.proofs.Host.device_write.Met as DeviceWrite·proof
use Rattle.usbhost.proofs.Host.new.Kinds as New
use Rattle.usbhost.proofs.Host.new.Reads as New·contract
use Rattle.usbhost.proofs.Host.new.Statement as New·code
use Rattle.usbhost.proofs.Host.new.Met as New·proof
use Rattle.refusal.specs.declared.Refusal.{Refusal}
use Rattle.record.specs.declared.Answer.{Answer}
use Rattle.thin.specs.Thin.{answered}
use Rattle.history.specs.Calls.{Call, microframe, midi_send, serial_send, frame_give, frame_take, device_read, device_write, step}
use Rattle.history.specs.Accepts.{number_of, BytesLent}
use Rattle.history.proofs.Owned.{types_from, denots_from, Tells, later_tells, lent_bytes, also, meets_also}

-- what a call on the record h answers and leaves
pub record Follows (h : Host) (c : Call) (number : ℕ) (next : Host) : Type 0 where
  pub answers : number ≡ number_of h c
  pub leaves : next ≡ step h c

-- a new host is the one that `created` gives

pub new_follows : (κs : Lfts 0) (a : Dens κs New.ps) (r : (res_t New.r κs).Denot) (s : AtExit (ended_of 0 New.ps New.r) κs)
    → New·contract.Post κs a r s → (created_by r).host ≡ (created a.0).host
new_follows κs a r s p = ap (λ (x : Created). x.host) p

pub new_met : {M : Type 1} → New·code.statement M
new_met = New·proof.met

-- ---- `microframe`

-- what it is lent
abbrev pub microframe_lent : (κs : Lfts 9) → Dens κs Microframe.ps → Lent
microframe_lent κs a =
    lent (memory a.1.1.0.now a.1.1.1.0.now a.1.1.1.1.0.now) a.1.1.1.1.1.0.now a.1.1.1.1.1.1.0.now a.1.1.1.1.1.1.1.0.now a.1.1.1.1.1.1.1.1.0.now a.1.1.1.1.1.1.1.1.1.0.now a.1.1.1.1.1.1.1.1.1.1.0.now

pub microframe_follows : (κs : Lfts 9) (a : Dens κs Microframe.ps) (r : (res_t Microframe.r κs).Denot) (s : AtExit (ended_of 9 Microframe.ps Microframe.r) κs)
    → Microframe·contract.Post κs a r s
    → Follows a.0 (microframe a.1.0 (microframe_lent κs a)) (framed_by a.0 r).refusal (framed_by a.0 r).host
unfolding step number_of frame_answer
microframe_follows κs a r s p =
    record { answers = ap (λ (x : Framed). x.refusal) p.0; leaves = ap (λ (x : Framed). x.host) p.0 }

pub microframe_met : {M : Type 1} → Microframe·code.statement M
microframe_met = Microframe·proof.met

-- by the types of its slices the windows and the reply area hold bytes, and so the code meets the contract that ensures that too
module _ {M : Type 1} {𝓤 : Ura M} (𝓛 : Logic 𝓤) where
  open 𝓛 use {H}

  pub microframe_bytes : (κs : Lfts 9) (qs : Shares 9) (a : Args Microframe·spec.signature κs)
      → Tells 𝓛 9 κs qs (types_at (Microframe·spec.signature).params κs) a (BytesLent (microframe_lent κs a))
  microframe_bytes κs qs a =
      let Ts = types_at (Microframe·spec.signature).params κs in
      later_tells 𝓛 9 κs qs 2 Ts a _
      (lent_bytes 𝓛 9 κs qs 0 1 2 3 tt tt tt tt (types_from 6 Ts) (denots_from 2 Ts a) a.1.1.1.1.1.1.0.now a.1.1.1.1.1.1.1.0.now a.1.1.1.1.1.1.1.1.0.now a.1.1.1.1.1.1.1.1.1.0.now a.1.1.1.1.1.1.1.1.1.1.0.now)

  pub microframe_met_bytes : (𝓜 : Model 𝓤 H) (𝓡 : Running 𝓤 H 𝓜) → Wired 𝓡.env Microframe·symbol.code
      → Meets 𝓛 Microframe·spec.signature (𝓡.run (𝓡.env Microframe·symbol.name)) (also Microframe·spec.signature (Microframe·spec.spec 𝓛 𝓜.mem 𝓡.returns) (λ κs a. BytesLent (microframe_lent κs a)))
  microframe_met_bytes 𝓜 𝓡 w =
      meets_also 𝓛 𝓜 𝓡 Microframe·spec.signature (Microframe·spec.spec 𝓛 𝓜.mem 𝓡.returns) (λ κs a. BytesLent (microframe_lent κs a)) microframe_bytes
      (𝓡.env Microframe·symbol.name) (Microframe·proof.met 𝓤 𝓛 𝓜 𝓡 w)

-- ---- `thin::microframe`, on the record behind a reference

abbrev pub thin_lent : (κs : Lfts 10) → Args Thin·spec.signature κs → Lent
thin_lent κs a =
    lent (memory a.1.1.0.now a.1.1.1.0.now a.1.1.1.1.0.now) a.1.1.1.1.1.0.now a.1.1.1.1.1.1.0.now a.1.1.1.1.1.1.1.0.now a.1.1.1.1.1.1.1.1.0.now a.1.1.1.1.1.1.1.1.1.0.now a.1.1.1.1.1.1.1.1.1.1.0.now

-- its clause, as `Post` has it of the others: a proof that is a walk by hand has no such reading
abbrev pub ThinPost : (κs : Lfts 10) → Args Thin·spec.signature κs → Res Thin·spec.signature κs → AtExit Thin·spec.ended κs → Type 0
ThinPost κs a r s =
    (answered r s.0.now ≡ frame_answer a.1.0 a.0.now (thin_lent κs a))
    × (lent (memory s.1.1.0.now s.1.1.1.0.now s.1.1.1.1.0.now) s.1.1.1.1.1.0.now s.1.1.1.1.1.1.0.now s.1.1.1.1.1.1.1.0.now s.1.1.1.1.1.1.1.1.0.now s.1.1.1.1.1.1.1.1.1.0.now a.1.1.1.1.1.1.1.1.1.1.0.now ≡ (framed a.1.0 a.0.now (thin_lent κs a)).lent)

pub thin_ensures : {M : Type 1} {𝓤 : Ura M} (𝓛 : Logic 𝓤) (mem : Memory → SProp 𝓤) (run : Routine → Fun 𝓤) (κs : Lfts 10) (a : Args Thin·spec.signature κs) (r : Res Thin·spec.signature κs) (s : AtExit Thin·spec.ended κs)
    → (Thin·spec.clauses 𝓛 mem run κs a).ensures tt r s ≡ fact 𝓤 (ThinPost κs a r s)
thin_ensures 𝓛 mem run κs a r s = refl

-- the record of its answer, refused or not
answered_host : (r : Result Answer Refusal) (h : Host) → (answered r h).host ≡ h
answered_host (Ok a) h = refl
answered_host (Err e) h = refl

pub thin_follows : (κs : Lfts 10) (a : Args Thin·spec.signature κs) (r : Res Thin·spec.signature κs) (s : AtExit Thin·spec.ended κs)
    → ThinPost κs a r s
    → Follows a.0.now (microframe a.1.0 (thin_lent κs a)) (answered r s.0.now).refusal s.0.now
unfolding step number_of frame_answer
thin_follows κs a r s p =
    record { answers = ap (λ (x : Framed). x.refusal) p.0; leaves = sym (answered_host r s.0.now) ∙ ap (λ (x : Framed). x.host) p.0 }

pub thin_met : {M : Type 1} → Thin·code.statement M
thin_met = Thin·proof.met

-- by the types of its slices the windows and the reply area hold bytes, and so the code meets the contract that ensures that too
module _ {M : Type 1} {𝓤 : Ura M} (𝓛 : Logic 𝓤) where
  open 𝓛 use {H}

  pub thin_bytes : (κs : Lfts 10) (qs : Shares 10) (a : Args Thin·spec.signature κs)
      → Tells 𝓛 10 κs qs (types_at (Thin·spec.signature).params κs) a (BytesLent (thin_lent κs a))
  thin_bytes κs qs a =
      let Ts = types_at (Thin·spec.signature).params κs in
      later_tells 𝓛 10 κs qs 2 Ts a _
      (lent_bytes 𝓛 10 κs qs 1 2 3 4 tt tt tt tt (types_from 6 Ts) (denots_from 2 Ts a) a.1.1.1.1.1.1.0.now a.1.1.1.1.1.1.1.0.now a.1.1.1.1.1.1.1.1.0.now a.1.1.1.1.1.1.1.1.1.0.now a.1.1.1.1.1.1.1.1.1.1.0.now)

  pub thin_met_bytes : (𝓜 : Model 𝓤 H) (𝓡 : Running 𝓤 H 𝓜) → Wired 𝓡.env Thin·symbol.code
      → Meets 𝓛 Thin·spec.signature (𝓡.run (𝓡.env Thin·symbol.name)) (also Thin·spec.signature (Thin·spec.spec 𝓛 𝓜.mem 𝓡.returns) (λ κs a. BytesLent (thin_lent κs a)))
  thin_met_bytes 𝓜 𝓡 w =
      meets_also 𝓛 𝓜 𝓡 Thin·spec.signature (Thin·spec.spec 𝓛 𝓜.mem 𝓡.returns) (λ κs a. BytesLent (thin_lent κs a)) thin_bytes
      (𝓡.env Thin·symbol.name) (Thin·proof.met 𝓤 𝓛 𝓜 𝓡 w)

-- ---- `midi_send`

pub midi_send_follows : (κs : Lfts 1) (a : Dens κs MidiSend.ps) (r : (res_t MidiSend.r κs).Denot) (s : AtExit (ended_of 1 MidiSend.ps MidiSend.r) κs)
    → MidiSend·contract.Post κs a r s
    → Follows a.0 (midi_send a.1.0 a.1.1.0.now) (sent_by a.0 r).refusal (sent_by a.0 r).next
unfolding step number_of midi_sent
midi_send_follows κs a r s p =
    record { answers = ap (λ (x : Sent Host). x.refusal) (p); leaves = ap (λ (x : Sent Host). x.next) (p) }

pub midi_send_met : {M : Type 1} → MidiSend·code.statement M
midi_send_met = MidiSend·proof.met

-- ---- `serial_send`

pub serial_send_follows : (κs : Lfts 1) (a : Dens κs SerialSend.ps) (r : (res_t SerialSend.r κs).Denot) (s : AtExit (ended_of 1 SerialSend.ps SerialSend.r) κs)
    → SerialSend·contract.Post κs a r s
    → Follows a.0 (serial_send a.1.0.now) (sent_by a.0 r).refusal (sent_by a.0 r).next
unfolding step number_of serial_sent
serial_send_follows κs a r s p =
    record { answers = ap (λ (x : Sent Host). x.refusal) (p); leaves = ap (λ (x : Sent Host). x.next) (p) }

pub serial_send_met : {M : Type 1} → SerialSend·code.statement M
serial_send_met = SerialSend·proof.met

-- ---- `frame_give`

pub frame_give_follows : (κs : Lfts 2) (a : Dens κs FrameGive.ps) (r : (res_t FrameGive.r κs).Denot) (s : AtExit (ended_of 2 FrameGive.ps FrameGive.r) κs)
    → FrameGive·contract.Post κs a r s
    → Follows a.0 (frame_give a.1.0.now a.1.1.0.now) (sent_by a.0 r).refusal (sent_by a.0 r).next
unfolding step number_of given
frame_give_follows κs a r s p =
    record { answers = ap (λ (x : Sent Host). x.refusal) p.0; leaves = ap (λ (x : Sent Host). x.next) p.0 }

pub frame_give_met : {M : Type 1} → FrameGive·code.statement M
frame_give_met = FrameGive·proof.met

-- ---- `frame_take`

pub frame_take_follows : (κs : Lfts 1) (a : Dens κs FrameTake.ps) (r : (res_t FrameTake.r κs).Denot) (s : AtExit (ended_of 1 FrameTake.ps FrameTake.r) κs)
    → FrameTake·contract.Post κs a r s
    → Follows a.0 (frame_take a.1.0.now) (taken_by a.0 r).refusal (taken_by a.0 r).next
unfolding step number_of taken_frame
frame_take_follows κs a r s p =
    record { answers = ap (λ (x : Taken Host). x.refusal) (p); leaves = ap (λ (x : Taken Host). x.next) (p) }

pub frame_take_met : {M : Type 1} → FrameTake·code.statement M
frame_take_met = FrameTake·proof.met

-- ---- `device_read`

pub device_read_follows : (κs : Lfts 1) (a : Dens κs DeviceRead.ps) (r : (res_t DeviceRead.r κs).Denot) (s : AtExit (ended_of 1 DeviceRead.ps DeviceRead.r) κs)
    → DeviceRead·contract.Post κs a r s
    → Follows a.0 (device_read a.1.0.now a.1.1.0 a.1.1.1.0) (read_by a.0 r).refusal (read_by a.0 r).host
unfolding step number_of C.device_read
device_read_follows κs a r s p =
    record { answers = ap (λ (x : Read). x.refusal) (p); leaves = ap (λ (x : Read). x.host) (p) }

pub device_read_met : {M : Type 1} → DeviceRead·code.statement M
device_read_met = DeviceRead·proof.met

-- ---- `device_write`

pub device_write_follows : (κs : Lfts 1) (a : Dens κs DeviceWrite.ps) (r : (res_t DeviceWrite.r κs).Denot) (s : AtExit (ended_of 1 DeviceWrite.ps DeviceWrite.r) κs)
    → DeviceWrite·contract.Post κs a r s
    → Follows a.0 (device_write a.1.0.now a.1.1.0 a.1.1.1.0 a.1.1.1.1.0) (sent_by a.0 r).refusal (sent_by a.0 r).next
unfolding step number_of device_written
device_write_follows κs a r s p =
    record { answers = ap (λ (x : Sent Host). x.refusal) p.0; leaves = ap (λ (x : Sent Host). x.next) p.0 }

pub device_write_met : {M : Type 1} → DeviceWrite·code.statement M
device_write_met = DeviceWrite·proof.met
