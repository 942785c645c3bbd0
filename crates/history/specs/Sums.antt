-- The two sums of demand 3, kept outside the record, and what is claimed of them (document 01, "Host record").
use Rattle.std.specs.Prelude.{ℕ, ◌+◌, ◌-◌, ◌*◌, ◌%◌, Bool, ◌&&◌, List, [], ◌∷◌, ◌≡◌, eqb, leb}
use Rattle.bits.specs.Pick.{pick}
use Rattle.record.specs.World.{World}
use Rattle.record.specs.Record.{counter_of, in_frames, out_frames}
use Rattle.model.specs.Audio.{BLOCK_FRAMES, blocks_of}
use Rattle.model.specs.Reach.{reaches_input, reaches_output, comes_back, device_left, at_input, at_output, input_ready, output_ready, bytes_at}
use Rattle.model.specs.Earned.{good_blocks}
use Rattle.usbhost.specs.declared.Host.{Host}
use Rattle.usbhost.specs.Frame.{world_of, frame_number}
use Rattle.history.specs.Calls.{Call, microframe, midi_send, serial_send, frame_give, frame_take, device_read, device_write, step}

-- frames received and sent
pub record Sums : Type 0 where
  pub received : ℕ
  pub sent : ℕ

abbrev pub none : Sums
none = record { received = 0; sent = 0 }

-- seven for each block of the input step's run that is not bad, counted from the blocks read
abbrev pub read_at : World → ℕ
read_at w = BLOCK_FRAMES * good_blocks (blocks_of (bytes_at (at_input w)))

-- an input step reached, primed and active
abbrev pub input_reached : ℕ → World → Bool
input_reached t w = reaches_input t w && input_ready (at_input w)

-- an output step so reached
abbrev pub output_reached : ℕ → World → Bool
output_reached t w = reaches_output t w && output_ready (at_output w)

-- n frames received; a block sent
abbrev pub receive : ℕ → Sums → Sums
receive n g = record { received = g.received + n; sent = g.sent }

abbrev pub send : Sums → Sums
send g = record { received = g.received; sent = g.sent + BLOCK_FRAMES }

-- since the last reset: a reset makes both 0; then the input step, then the output step, which sends if received - sent is at least seven
abbrev pub reset : ℕ → World → Sums → Sums
reset t w g = pick (device_left t w) none (pick (comes_back t w) none g)

abbrev pub heard : ℕ → World → Sums → Sums
heard t w g = pick (input_reached t w) (receive (read_at w) g) g

-- whether a block is earned
abbrev pub earned : Sums → Bool
earned g = leb BLOCK_FRAMES (g.received - g.sent)

abbrev pub answered : ℕ → World → Sums → Sums
answered t w g = pick (output_reached t w) (pick (earned g) (send g) g) g

-- only accepted microframes change them
unfoldable pub summed : Host → Sums → Call → Sums
summed h g (microframe t l) =
    pick (eqb (frame_number h l) 0) (answered t (world_of h l) (heard t (world_of h l) (reset t (world_of h l) g))) g
summed h g (midi_send cable bs) = g
summed h g (serial_send bs) = g
summed h g (frame_give f sending) = g
summed h g (frame_take received) = g
summed h g (device_read page off size) = g
summed h g (device_write page off size v) = g

-- over a list of calls
unfoldable pub sums : Host → Sums → List Call → Sums
sums h g [] = g
sums h g (c ∷ cs) = sums (step h c) (summed h g c) cs

-- ---- through every reset: all frames received and sent since `new`

-- beside the sums since the last reset, which say whether a block is sent
pub record Tally : Type 0 where
  pub since : Sums
  pub ever : Sums

abbrev pub answered_ever : ℕ → World → Sums → Sums → Sums
answered_ever t w g a = pick (output_reached t w && earned g) (send a) a

-- only accepted microframes change them
unfoldable pub tallied : Host → Tally → Call → Tally
tallied h y (microframe t l) =
    record {
      since = summed h y.since (microframe t l);
      ever =
          pick (eqb (frame_number h l) 0)
          (answered_ever t (world_of h l) (heard t (world_of h l) (reset t (world_of h l) y.since)) (heard t (world_of h l) y.ever))
          y.ever;
    }
tallied h y (midi_send cable bs) = y
tallied h y (serial_send bs) = y
tallied h y (frame_give f sending) = y
tallied h y (frame_take received) = y
tallied h y (device_read page off size) = y
tallied h y (device_write page off size v) = y

-- over a list of calls, with no reset of `ever`
unfoldable pub tally : Host → Tally → List Call → Tally
tally h y [] = y
tally h y (c ∷ cs) = tally (step h c) (tallied h y c) cs

-- ---- the claims

-- demand 3: received since the last reset = sent since then + credit, a multiple of seven
pub record Balanced (h : Host) (g : Sums) : Type 0 where
  pub balance : g.received ≡ g.sent + h.audio.credit
  pub sevens : h.audio.credit % 7 ≡ 0

-- what the user tabulates is what happened
pub record Tabulated (h : Host) (a : Sums) : Type 0 where
  pub received : counter_of in_frames h.stats ≡ a.received
  pub sent : counter_of out_frames h.stats ≡ a.sent
