-- The numbers of all calls depend on lengths and on the record alone, so that a row of the table is one computation. Assumes nothing.
use Rattle.std.proofs.Common.{◌≡◌, ℕ, ◌+◌, ◌*◌, ◌/◌, ◌&&◌, eqb, ltb, leb, List, [], ◌∷◌, ◌++◌, map, refl, ap, ◌∙◌}
use Rattle.bus.specs.Sized.{is_power, is_sized}
use Rattle.record.specs.Sizes.{FRAMES, WORDS}
use Rattle.bounds.specs.Bounds.{MOST, received_ok, sending_ok}
use Rattle.usbhost.specs.declared.Host.{Host}
use Rattle.usbhost.specs.Host.{state_of}
use Rattle.usbhost.specs.Calls.{few_spans, bounded, unless, sending_length, midi_number, serial_number, give_number, take_number, access_number}
use Rattle.usbhost.specs.Frame.{lengths_ok, bounds_ok, frame_number}
use Rattle.record.specs.World.{Lent}
use Rattle.limits.specs.Cases.{offset, size, cable, value_in, host_by, Long, long_of, long_in, calls, numbers_of, Row, Meets, Table}

-- the numbers by lengths
abbrev numbers_by : Host → Long → ℕ → List ℕ → ℕ → ℕ → List ℕ
numbers_by h z on sent off n =
    calls
    (unless 1 (eqb z.sram 65536 && (eqb z.page 4096 && is_power z.dynamic))
    (unless 2 (lengths_ok z.reply z.config z.receive z.cables z.received z.sending)
    (unless 3 (few_spans h) (unless 5 (bounds_ok h z.reply z.config z.sending) (unless 6 (ltb h.port.uf MOST) 0)))))
    (midi_number h on sent)
    (unless 3 (few_spans h) (unless 5 (bounded h) (unless 7 (leb (h.lengths.serial + z.bytes) 4096) 0)))
    (unless 2 (sending_length z.sending && eqb z.frame WORDS)
    (unless 3 (few_spans h)
    (unless 5 (bounded h && sending_ok (state_of h) z.sending) (unless 7 (ltb h.audio.sending.len (z.sending / WORDS)) 0))))
    (unless 2 (eqb z.received (FRAMES * WORDS)) (unless 3 (few_spans h) (unless 5 (bounded h && received_ok (state_of h)) 0)))
    (access_number h z.page off n)

by_lengths : (h : Host) (l : Lent) (on : ℕ) (sent bytes frame : List ℕ) (off n : ℕ)
    → numbers_of h l on sent bytes frame off n ≡ numbers_by h (long_of l frame bytes) on sent off n
unfolding is_sized frame_number serial_number give_number take_number
by_lengths h l on sent bytes frame off n = refl

-- what a row computes to, whatever the other record and whatever stands behind the setups
abbrev pub computed : Host → List ℕ → Row → List ℕ
computed o behind r =
    numbers_by (host_by (value_in r.sets) (r.queue ++ behind) o) (long_in (value_in r.sets)) (value_in r.sets cable) r.sent
    (value_in r.sets offset) (value_in r.sets size)

meets : (r : Row) → ((o : Host) (behind : List ℕ) → computed o behind r ≡ r.numbers) → Meets r
unfolding Meets
meets r right o behind l frame bytes long =
    by_lengths (host_by (value_in r.sets) (r.queue ++ behind) o) l (value_in r.sets cable) r.sent bytes frame (value_in r.sets offset)
    (value_in r.sets size)
    ∙ (ap
    (λ (z : Long). numbers_by (host_by (value_in r.sets) (r.queue ++ behind) o) z (value_in r.sets cable) r.sent (value_in r.sets offset) (value_in r.sets size))
    long
    ∙ right o behind)

-- a table of rows, by one computation
pub table : (rs : List Row) → ((o : Host) (behind : List ℕ) → map (computed o behind) rs ≡ map (λ r. r.numbers) rs) → Table rs
unfolding Table
table [] right = tt
table (r ∷ rs) right = (
  meets r (λ o behind. let e : map (computed o behind) (r ∷ rs) ≡ map (λ r. r.numbers) (r ∷ rs) = right o behind in cc),
  table rs (λ o behind. let e : map (computed o behind) (r ∷ rs) ≡ map (λ r. r.numbers) (r ∷ rs) = right o behind in cc),
)
