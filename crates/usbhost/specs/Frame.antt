-- The call `microframe`: its numbers of refusal, and what an accepted one leaves of the record, the areas and memory
-- (document 01, "Host record" and "Numbers of refusal").
use Rattle.std.specs.Prelude.{◌≡◌, ℕ, ◌≤◌, Bool, true, ◌&&◌, eqb, leb, ltb, length}
use Rattle.bits.specs.Pick.{pick}
use Rattle.bus.specs.Sized.{is_sized}
use Rattle.record.specs.World.{Lent, World, world}
use Rattle.record.specs.Sizes.{REPLY, RECEIVE, RING}
use Rattle.record.specs.Change.{left}
use Rattle.bounds.specs.Bounds.{MOST, areas_ok, received_ok, sending_ok}
use Rattle.model.specs.Microframe as M
use Rattle.usbhost.specs.declared.Host.{Host}
use Rattle.usbhost.specs.Answers.{Framed}
use Rattle.usbhost.specs.Host.{state_of, host_of, own_of}
use Rattle.usbhost.specs.Calls.{few_spans, bounded, unless, sending_length}

-- the World of a record and what it is lent, with nothing received and nothing dropped so far
abbrev pub world_of : Host → Lent → World
world_of h l = world h.settings h.packers (state_of h) (own_of h) l

-- the record in a World
abbrev pub host_in : World → Host
host_in w = host_of w.state w.settings w.packers w.own

-- number 2, by the lengths: reply and configuration of at least 65,535 bytes, receive area and cables (S-2) of at least 196,608, the two rings
unfoldable pub lengths_ok : ℕ → ℕ → ℕ → ℕ → ℕ → ℕ → Bool
lengths_ok reply config receive cables received sending =
    leb REPLY reply
    && (leb REPLY config && (leb RECEIVE receive && (leb RECEIVE cables && (eqb received RING && sending_length sending))))

-- each test of it
pub record Long (reply config receive cables received sending : ℕ) : Type 0 where
  pub reply_long : REPLY ≤ reply
  pub config_long : REPLY ≤ config
  pub receive_long : RECEIVE ≤ receive
  pub cables_long : RECEIVE ≤ cables
  pub received_whole : received ≡ RING
  pub sending_right : sending_length sending ≡ true

abbrev pub area_lengths : Lent → Bool
area_lengths l =
    lengths_ok (length l.reply) (length l.config) (length l.receive) (length l.cables) (length l.received) (length l.sending)

-- number 5: the record, and what the areas bound
unfoldable pub bounds_ok : Host → ℕ → ℕ → ℕ → Bool
bounds_ok h reply config sending =
    bounded h && (areas_ok (state_of h) reply config && (received_ok (state_of h) && sending_ok (state_of h) sending))

abbrev pub frame_bounds : Host → Lent → Bool
frame_bounds h l = bounds_ok h (length l.reply) (length l.config) (length l.sending)

-- 1, 2, 3, 5, 6: the lowest whose test fails
unfoldable pub frame_number : Host → Lent → ℕ
frame_number h l =
    unless 1 (is_sized l.memory)
    (unless 2 (area_lengths l) (unless 3 (few_spans h) (unless 5 (frame_bounds h l) (unless 6 (ltb h.port.uf MOST) 0))))

-- what a microframe at the time t leaves: a refused one leaves all as it was
unfoldable pub framed : ℕ → Host → Lent → World
framed t h l = pick (eqb (frame_number h l) 0) (left (M.microframe t) (world_of h l)) (world_of h l)

-- the answer: the number, how many MIDI or serial bytes stand in the receive area, the bytes that no window took, the descriptors retired (S-1), and the
-- next record; of a refused microframe the number and the record alone
unfoldable pub frame_answer : ℕ → Host → Lent → Framed
frame_answer t h l =
    record {
      refusal = frame_number h l;
      received = (framed t h l).state.answer.received;
      dropped = (framed t h l).state.answer.dropped;
      retired = (framed t h l).state.answer.retired;
      host = host_in (framed t h l);
    }
