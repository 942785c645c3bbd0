-- MIDI bytes that come and the cables beside them (S-2): what a microframe leaves of both, and that a packet says its cable when it is read back.
use Prim.Native.Nat.{ℕ, zero, suc, ◌+◌, ◌*◌, ◌/◌, ◌%◌, ◌≤◌, ◌<◌}
use mathlib.Core.Path.{◌≡◌, refl, ap, ap₂, sym, subst, ◌∙◌}
use mathlib.Core.Bool.{Bool, true, false, not, ◌&&◌}
use mathlib.Core.List.{List, [], ◌∷◌, ◌++◌, append-nil}
use native.Mathlib.Omega.{arith}
use lib.Dec.{eqb}
use lib.ListN.{length, take, drop, replicate, length-append}
use lib.Seq.{sets, sets-eq, length-take-le, take_at, drop_at}
use Rattle.bits.specs.Pick.{pick, pick_both, pick_eq, pick_and}
use Rattle.bits.proofs.Tests.{false_true}
use Rattle.bits.proofs.Lists.{sets_append}
use Rattle.bus.specs.Steps.{replay, replay_append, exec_then}
use Rattle.midi.specs.declared.Packer.{Packer}
use Rattle.midi.specs.Packer.{packet, byte_count, header, code_of, feed_of}
use Rattle.midi.proofs.Bounds.{code_any}
use Rattle.dtd.specs.Dtd.{Run, endpoint, run_dtds}
use Rattle.record.specs.declared.Phase.{Phase}
use Rattle.record.specs.declared.Phase.TheVariants.{Idle, Vbus, Reset, Enumerate, Stream}
use Rattle.record.specs.declared.Settings.{Settings}
use Rattle.record.specs.Record.{midi_dtds}
use Rattle.record.specs.World.{World, bus_of}
use Rattle.record.specs.Change.{Change, count, cabled, received, apply, Step, left, nothing, here, ran_stores}
use Rattle.model.specs.Phases.{now, within, suspends, leaves, idles, powers, resets}
use Rattle.model.specs.Streams.{brought, packet_data, packet_cables, each_packet, decoded, cables_of, reads, reads_at, naks, midi_in, serial_step}
use Rattle.model.specs.Audio.{streams}
use Rattle.model.specs.Microframe.{rs_set, gone_at, asleep_at, streaming, opens, enumerates, others, stack_steps, bridge_steps, transfers, talks, at_phase, by_phase, frame_of, microframe}
use Rattle.model.specs.Reach.{to_phase, phase_by, stream_by, output_by}
use Rattle.model.specs.Index.{one_read}
use Rattle.model.specs.PortMarks.{MidiCome, midi_come}
use Rattle.model.specs.Cables.{whole_packets, packets_read, packets_from, packets_in, Beside, Fronts, Returns}
use Rattle.model.proofs.Bytes.{run_bytes}
use Rattle.model.proofs.Decoded.{count_few, decoded_few, decoded_run, cables_bytes, cables_length, data_inside, cables_inside, each_take, each_append, read_received, read_none}
use Rattle.model.proofs.Fields.{Keeps, fields_ran, fields_then, fields_if, keeps_then, keeps_if, keeps_nothing}
use Rattle.model.proofs.History.{four}
use Rattle.model.proofs.Holding.{Holds, holds_then, holds_if, holds_nothing, holds_here, holds_keeps}
use Rattle.model.proofs.Leaving.{Is, ran_is, keeps_walked}
use Rattle.model.proofs.Marking.{come, come_plain}
use Rattle.model.proofs.OneBlock.{talking, gets_to, gets_closed}
use Rattle.model.proofs.Plain.{block_and_enumerations, still_idles, still_powers, still_resets, still_enumerates, still_streams, still_writes, still_vendor}
use Rattle.model.proofs.Unread.{come_opens, come_sleeps, come_suspends, come_leaves, come_gone, come_suspended}
use Rattle.model.proofs.Walk.{Ran, on_if, walk_naks, walk_serves}

-- ---- packets that came, by the fields that reads change

-- n packets, at most 8,191 for each of so many reads
record Adds (most : ℕ) (packets : List ℕ) (k k' : MidiCome) : Type 0 where
  n : ℕ
  whole : length packets ≡ 4 * n
  few : n ≤ 8191 * most
  bytes : k'.bytes ≡ k.bytes + length (decoded n packets)
  area : k'.area ≡ sets k.area k.bytes (decoded n packets)
  cables : k'.cables ≡ sets k.cables k.bytes (cables_of n packets)

adds_none : (most : ℕ) (k : MidiCome) → Adds most [] k k
unfolding each_packet
adds_none most k = record { n = 0; whole = refl; few = omega arith; bytes = omega arith; area = refl; cables = refl }

-- some, and then others behind them
adds_then : {a b : ℕ} {ps qs : List ℕ} {k₀ k₁ k₂ : MidiCome} → Adds a ps k₀ k₁ → Adds b qs k₁ k₂ → Adds (a + b) (ps ++ qs) k₀ k₂
adds_then {a} {b} {ps} {qs} {k₀} {k₁} {k₂} p q =
    let first = decoded p.n ps in
    let second = decoded q.n qs in
    let both = each_append packet_data data_inside p.n q.n ps qs p.whole in
    let beside = each_append packet_cables cables_inside p.n q.n ps qs p.whole in
    let end : k₀.bytes + length (cables_of p.n ps) ≡ k₁.bytes = ap (λ (i : ℕ). k₀.bytes + i) (cables_length p.n ps) ∙ sym p.bytes in
    record {
      n = p.n + q.n;
      whole = omega (arith, length-append ps qs, p.whole, q.whole);
      few = omega (arith, p.few, q.few);
      bytes = omega (arith, p.bytes, q.bytes, ap length both, length-append first second);
      area =
          q.area ∙ ap₂ (λ (l : List ℕ) (i : ℕ). sets l i second) p.area p.bytes
          ∙ sym (sets_append k₀.area k₀.bytes first second) ∙ ap (sets k₀.area k₀.bytes) (sym both);
      cables =
          q.cables ∙ ap₂ (λ (l : List ℕ) (i : ℕ). sets l i (cables_of q.n qs)) p.cables (sym end)
          ∙ sym (sets_append k₀.cables k₀.bytes (cables_of p.n ps) (cables_of q.n qs)) ∙ ap (sets k₀.cables k₀.bytes) (sym beside);
    }

adds_more : {a b : ℕ} {ps : List ℕ} {k k' : MidiCome} → a ≤ b → Adds a ps k k' → Adds b ps k k'
adds_more h p =
    record { n = p.n; whole = p.whole; few = omega (arith, p.few); bytes = p.bytes; area = p.area; cables = p.cables }

-- a test that is not met brings none
adds_pick : (b : Bool) {most : ℕ} {ps : List ℕ} {k k' : MidiCome} → Adds most ps k k' → Adds most (pick b ps []) k (pick b k' k)
adds_pick true p = p
adds_pick false {most} {k = k} p = adds_none most k

-- between fields that are the same
adds_by : {most : ℕ} {ps qs : List ℕ} {j j' k k' : MidiCome} → ps ≡ qs → j ≡ k → j' ≡ k' → Adds most qs k k' → Adds most ps j j'
adds_by {most} {ps} {qs} {j} {j'} {k} {k'} e x y p =
    subst (λ (l : List ℕ). Adds most l j j') (sym e)
    (subst (λ (i : MidiCome). Adds most qs i j') (sym x) (subst (λ (i : MidiCome). Adds most qs k i) (sym y) p))

-- ---- the reads (791-807)

-- bytes and their cables behind those there are: the second change that a read makes stores the cables where the third stores the bytes
adds_changes : (bs : List ℕ) (x : World) (cs ds : List ℕ)
    → cs ≡ cables_of (length bs / 4) bs → ds ≡ decoded (length bs / 4) bs → length bs ≤ 32767
    → Adds 1 (whole_packets bs) (midi_come x) (midi_come (replay apply (count midi_dtds 1 ∷ cabled cs ∷ received ds ∷ []) x))
unfolding apply
adds_changes bs x cs ds is-cables is-bytes few =
    let n = length bs / 4 in
    let same = is-bytes ∙ sym (each_take packet_data data_inside n (4 * n) bs (omega arith)) in
    let beside = is-cables ∙ sym (each_take packet_cables cables_inside n (4 * n) bs (omega arith)) in
    record {
      n = n;
      whole = length-take-le (4 * n) bs (omega arith);
      few = omega arith;
      bytes = ap (λ (l : List ℕ). x.state.answer.received + length l) same;
      area = ap (sets x.lent.receive x.state.answer.received) same;
      cables = ap (sets x.lent.cables x.state.answer.received) beside;
    }

adds_read : (w : World) → let r = run_dtds (endpoint 1 true) [] (bus_of w) in Adds 1 (whole_packets r.bytes) (midi_come w) (midi_come (replay apply (one_read r) w))
adds_read w =
    let r = run_dtds (endpoint 1 true) [] (bus_of w) in
    adds_by refl (sym (fields_ran come (endpoint 1 true) [] w))
    (ap midi_come (replay_append apply (ran_stores (endpoint 1 true) r) _ w))
    (adds_changes r.bytes (replay apply (ran_stores (endpoint 1 true) r) w) _ _
    (sym (cables_bytes (length r.bytes / 4) r.bytes (omega arith))) (sym (decoded_run r.bytes)) (run_bytes (endpoint 1 true) refl [] (bus_of w)))

-- one read and then the others, by what its run brought
module _ (n : ℕ) (w : World) (rest : (v : World) → Adds n (packets_read n v) (midi_come v) (midi_come (left (reads n) v))) where
  abbrev run : Run
  run = run_dtds (endpoint 1 true) [] (bus_of w)

  abbrev next : World
  next = replay apply (one_read run) w

  adds_suc : (b : Bool) → brought run ≡ b → Adds (suc n) (pick b (whole_packets run.bytes ++ packets_read n next) []) (midi_come w) (midi_come (left (reads (suc n)) w))
  adds_suc true e =
      let one : 1 + n ≤ suc n = omega arith in
      adds_by refl refl
      (ap (λ (l : List Change). midi_come (replay apply l w)) (read_received n w run refl e) ∙ ap midi_come (replay_append apply (one_read run) (reads n next) w))
      (adds_more one (adds_then (adds_read w) (rest next)))
  adds_suc false e =
      adds_by refl refl (ap (λ (l : List Change). midi_come (replay apply l w)) (read_none n w run refl e) ∙ fields_ran come (endpoint 1 true) [] w)
      (adds_none (suc n) (midi_come w))

adds_reads : (n : ℕ) (w : World) → Adds n (packets_read n w) (midi_come w) (midi_come (left (reads n) w))
unfolding packets_read reads nothing
adds_reads zero w = adds_none 0 (midi_come w)
adds_reads (suc n) w = adds_suc n w (adds_reads n) (brought (run_dtds (endpoint 1 true) [] (bus_of w))) refl

-- ---- the MIDI step (773-808)

come_naks : Keeps come naks
come_naks = keeps_walked come naks (λ j. walk_naks (Is come j) (ran_is come j).stores)

few_reads : (every uf : ℕ) → reads_at every uf ≤ 8
few_reads every uf =
    pick_both (λ (n : ℕ). n ≤ 8) (eqb every 0) (omega arith) (pick_both (λ (n : ℕ). n ≤ 8) (eqb (uf % every) 0) (omega arith) (omega arith))

adds_midi : (asleep : Bool) (every : ℕ) (v : World)
    → Adds 8 (pick (not asleep) (packets_read (reads_at every (now (left naks v))) (left naks v)) []) (midi_come v) (midi_come (left (midi_in asleep every) v))
unfolding midi_in here
adds_midi true every v = adds_by refl refl (come_sleeps v) (adds_none 8 (midi_come v))
adds_midi false every v =
    let x = left naks v in
    adds_by refl (sym (come_naks v)) (ap midi_come (exec_then apply naks (here (λ u. reads (reads_at every (now u)))) v))
    (adds_more (few_reads every (now x)) (adds_reads (reads_at every (now x)) x))

-- ---- from the stream step on, where the device is no serial one (500-508)

come_stack : (stack : Bool) → Keeps come (stack_steps stack)
come_stack stack =
    keeps_if come _ _ nothing (keeps_then come _ _ (still_writes block_and_enumerations come come_plain) (still_vendor block_and_enumerations come come_plain)) (keeps_nothing come)

adds_bridge : (c : Settings) (t : ℕ) (u : World) → Adds 8 (packets_from c t u) (midi_come u) (midi_come (left (bridge_steps c t) u))
unfolding others
adds_bridge c t u =
    let v = left streams u in
    let asleep = within c.sleep t in
    adds_by (sym (pick_and c.midi_in (not asleep) _ [])) (sym (still_streams block_and_enumerations come come_plain u))
    (fields_then come streams (others c t) u
    ∙ fields_then come _ _ v
    ∙ come_stack c.device_stack _
    ∙ fields_if come _ _ nothing v
    ∙ pick_eq c.midi_in refl (keeps_nothing come v))
    (adds_pick c.midi_in (adds_midi asleep c.midi_every v))

module _ (c : Settings) (t : ℕ) (audio : c.cdc ≡ false) where
  adds_transfers : (u : World) → Adds 8 (pick (streaming u.state.phase && not c.cdc) (packets_from c t u) []) (midi_come u) (midi_come (left (transfers c t) u))
  unfolding transfers
  adds_transfers u =
      let st = streaming u.state.phase in
      adds_by (sym (pick_and st (not c.cdc) (packets_from c t u) []) ∙ ap (λ (b : Bool). pick st (pick (not b) (packets_from c t u) []) []) audio) refl
      (fields_if come _ _ nothing u
      ∙ pick_eq st (fields_if come (λ w. c.cdc) serial_step (bridge_steps c t) u ∙ ap (λ (b : Bool). pick b (midi_come (left serial_step u)) (midi_come (left (bridge_steps c t) u))) audio)
      (keeps_nothing come u))
      (adds_pick st (adds_bridge c t u))

  adds_talks : (rs : Bool) (v : World)
      → Adds 8 (pick (rs && (streaming (left (enumerates c) v).state.phase && not c.cdc)) (packets_from c t (left (enumerates c) v)) []) (midi_come v) (midi_come (left (talks c t rs) v))
  unfolding talks
  adds_talks rs v =
      let u = left (enumerates c) v in
      adds_by (sym (pick_and rs (streaming u.state.phase && not c.cdc) (packets_from c t u) [])) refl
      (fields_if come _ _ nothing v
      ∙ pick_eq rs (fields_then come (enumerates c) (transfers c t) v) (keeps_nothing come v))
      (adds_pick rs (adds_by refl (sym (still_enumerates come come_plain c v)) refl (adds_transfers u)))

  adds_at : (rs : Bool) (p : Phase) (v : World)
      → Adds 8 (pick (talking p && (rs && (streaming (left (enumerates c) v).state.phase && not c.cdc))) (packets_from c t (left (enumerates c) v)) []) (midi_come v) (midi_come (left (at_phase c t rs p) v))
  adds_at rs Idle v = adds_by refl refl (still_idles block_and_enumerations come come_plain v) (adds_none 8 (midi_come v))
  adds_at rs Vbus v = adds_by refl refl (still_powers block_and_enumerations come come_plain rs v) (adds_none 8 (midi_come v))
  adds_at rs Reset v = adds_by refl refl (still_resets block_and_enumerations come come_plain v) (adds_none 8 (midi_come v))
  adds_at rs Enumerate v = adds_talks rs v
  adds_at rs Stream v = adds_talks rs v

  adds_phase : (rs : Bool) (v : World) → Adds 8 (pick (gets_to c rs v) (packets_from c t (left (enumerates c) v)) []) (midi_come v) (midi_come (left (by_phase c t rs) v))
  unfolding by_phase here
  adds_phase rs v = adds_at rs v.state.phase v

-- ---- the whole: g, s and rs: gone, suspended and RS by the entry values

-- to the choice by phase none comes
come_phase : (rs : Bool) (w : World) → midi_come (phase_by rs w) ≡ midi_come w
unfolding phase_by to_phase
come_phase rs w =
    keeps_then come _ _ (come_opens w.settings false) (keeps_then come _ _ (come_suspends false) (come_leaves w.settings.device_stack rs)) w

from_phase : (t : ℕ) (rs : Bool) (w : World) → midi_come (left (frame_of w.settings t rs false false) w) ≡ midi_come (left (by_phase w.settings t rs) (phase_by rs w))
unfolding frame_of phase_by to_phase
from_phase t rs w =
    let c = w.settings in
    ap midi_come (four (opens c false) (suspends false) (leaves c.device_stack rs) (by_phase c t rs) w)

adds_frame : (t : ℕ) (rs g s : Bool) (w : World) → w.settings.cdc ≡ false
    → Adds 8 (pick (output_by rs g s w) (packets_from w.settings t (stream_by rs w)) []) (midi_come w) (midi_come (left (frame_of w.settings t rs g s) w))
unfolding output_by stream_by
adds_frame t rs true s w audio = adds_by refl refl (come_gone w.settings t rs s w) (adds_none 8 (midi_come w))
adds_frame t rs false true w audio = adds_by refl refl (come_suspended w.settings t rs false w) (adds_none 8 (midi_come w))
adds_frame t rs false false w audio =
    let c = w.settings in
    adds_by (ap (λ (b : Bool). pick b (packets_from c t (left (enumerates c) (phase_by rs w))) []) (sym (gets_closed rs w.state.port.gone w refl)))
    (sym (come_phase rs w)) (from_phase t rs w) (adds_phase c t audio rs (phase_by rs w))

adds_microframe : (t : ℕ) (w : World) → w.settings.cdc ≡ false → Adds 8 (packets_in t w) (midi_come w) (midi_come (left (microframe t) w))
unfolding microframe here
adds_microframe t w audio = adds_frame t (rs_set w) (gone_at t w) (asleep_at t w) w audio

-- S-2, law 6: beside each MIDI byte that a microframe received stands the cable of its packet
pub cables_area : (t : ℕ) (w : World) → w.settings.cdc ≡ false → Beside (packets_in t w) w (left (microframe t) w)
cables_area t w audio =
    let a = adds_microframe t w audio in
    record {
      n = a.n;
      whole = a.whole;
      few = omega (arith, decoded_few a.n (packets_in t w), a.few);
      received = a.bytes;
      bytes = a.area;
      cables = a.cables;
    }

-- ---- the same as a reader sees it

-- the first n of an area that xs were stored at the front of, and those behind them
front : (l xs : List ℕ) (n : ℕ) → length xs ≡ n → n ≤ length l → (take n (sets l 0 xs) ≡ xs) × (drop n (sets l 0 xs) ≡ drop n l)
front l xs n e h =
    let is = sets-eq xs l 0 (omega arith) in
    let all : 0 + length xs ≡ n = omega arith in
    (ap (take n) is ∙ take_at xs _ n e, ap (drop n) is ∙ drop_at xs _ n e ∙ ap (λ (k : ℕ). drop k l) all)

-- where none are there yet, and both areas hold 196,584 bytes at least
module _ {packets : List ℕ} {w v : World} (b : Beside packets w v) (fresh : w.state.answer.received ≡ 0) (room : 196584 ≤ length w.lent.receive) (beside : 196584 ≤ length w.lent.cables) where
  abbrev end : ℕ
  end = v.state.answer.received

  all : end ≡ length (decoded b.n packets)
  all = omega (arith, b.received)

  some : end ≤ 196584
  some = omega (arith, all, b.few)

  pub beside_fronts : Fronts packets w v
  beside_fronts =
      let heard = front w.lent.receive (decoded b.n packets) end (sym all) (omega (arith, some)) in
      let named = front w.lent.cables (cables_of b.n packets) end (cables_length b.n packets ∙ sym all) (omega (arith, some)) in
      let bytes = b.bytes ∙ ap (λ (i : ℕ). sets w.lent.receive i (decoded b.n packets)) fresh in
      let cables = b.cables ∙ ap (λ (i : ℕ). sets w.lent.cables i (cables_of b.n packets)) fresh in
      record {
        n = b.n;
        whole = b.whole;
        few = some;
        received = all;
        bytes = ap (take end) bytes ∙ heard.0;
        bytes_behind = ap (drop end) bytes ∙ heard.1;
        cables = ap (take end) cables ∙ named.0;
        cables_behind = ap (drop end) cables ∙ named.1;
      }

-- S-2, law 6, in a microframe that begins with nothing received, by the fronts of both areas
pub cables_front : (t : ℕ) (w : World) → w.settings.cdc ≡ false → w.state.answer.received ≡ 0 → 196584 ≤ length w.lent.receive → 196584 ≤ length w.lent.cables → Fronts (packets_in t w) w (left (microframe t) w)
cables_front t w audio fresh room beside = beside_fronts (cables_area t w audio) fresh room beside

-- ---- with a serial device the area of cables stays as it is

module _ (j : List ℕ) where
  abbrev CablesAre : World → Type 0
  CablesAre w = w.lent.cables ≡ j

  by_come : (f : Step) → Keeps come f → Holds CablesAre f
  by_come f k = holds_keeps come (λ (m : MidiCome). m.cables ≡ j) f k

  ran_cables : Ran CablesAre
  unfolding apply
  ran_cables = record { stores = λ s w h. h; marks = λ e k n w h. h; loses = λ n w h. h }

  serves_cables : Holds CablesAre serial_step
  unfolding apply
  serves_cables = walk_serves CablesAre ran_cables (λ n w l h. h) (λ bs w h. h)

  module _ (c : Settings) (t : ℕ) (serial : c.cdc ≡ true) where
    serial_transfers : Holds CablesAre (transfers c t)
    unfolding transfers
    serial_transfers =
        on_if CablesAre _ _ nothing
        (holds_if CablesAre (λ w. c.cdc) serial_step (bridge_steps c t) (λ w e h. serves_cables w h) (λ w e h. absurd (false_true (sym e ∙ serial))))
        (holds_nothing CablesAre)

    serial_talks : (rs : Bool) → Holds CablesAre (talks c t rs)
    unfolding talks
    serial_talks rs =
        on_if CablesAre _ _ nothing (holds_then CablesAre _ _ (by_come (enumerates c) (still_enumerates come come_plain c)) serial_transfers) (holds_nothing CablesAre)

    serial_at : (rs : Bool) (p : Phase) → Holds CablesAre (at_phase c t rs p)
    serial_at rs Idle = by_come idles (still_idles block_and_enumerations come come_plain)
    serial_at rs Vbus = by_come (powers rs) (still_powers block_and_enumerations come come_plain rs)
    serial_at rs Reset = by_come resets (still_resets block_and_enumerations come come_plain)
    serial_at rs Enumerate = serial_talks rs
    serial_at rs Stream = serial_talks rs

    serial_by : (rs : Bool) → Holds CablesAre (by_phase c t rs)
    unfolding by_phase
    serial_by rs = holds_here CablesAre _ (λ v h. serial_at rs v.state.phase v h)

    serial_open : (rs : Bool) → Holds CablesAre (frame_of c t rs false false)
    unfolding frame_of
    serial_open rs =
        holds_then CablesAre _ _ (by_come (opens c false) (come_opens c false))
        (holds_then CablesAre _ _ (by_come (suspends false) (come_suspends false)) (holds_then CablesAre _ _ (by_come (leaves c.device_stack rs) (come_leaves c.device_stack rs)) (serial_by rs)))

    serial_frame : (rs g s : Bool) → Holds CablesAre (frame_of c t rs g s)
    serial_frame rs true s = by_come (frame_of c t rs true s) (come_gone c t rs s)
    serial_frame rs false true = by_come (frame_of c t rs false true) (come_suspended c t rs false)
    serial_frame rs false false = serial_open rs

-- S-2: with a serial device no MIDI comes, and no cable is stored
pub cables_serial : (t : ℕ) (w : World) → w.settings.cdc ≡ true → (left (microframe t) w).lent.cables ≡ w.lent.cables
unfolding microframe here
cables_serial t w serial = serial_frame w.lent.cables w.settings t serial (rs_set w) (gone_at t w) (asleep_at t w) w refl

-- ---- a packet that is sent, read back

-- a packet's first byte, of a cable and a code below 16, gives both again
module _ (cable code x y z : ℕ) (is-cable : cable < 16) (is_code : code < 16) where
  code_again : header cable code % 16 ≡ code
  code_again = omega arith

  cable_again : header cable code / 16 ≡ cable
  cable_again = omega arith

  packet_returns : Returns cable code x y z
  unfolding each_packet
  packet_returns =
      let three = x ∷ y ∷ z ∷ [] in
      let count : byte_count (header cable code % 16) ≡ byte_count code = ap byte_count code_again in
      let long : length (take (byte_count code) three) ≡ byte_count code = length-take-le (byte_count code) three (omega (arith, count_few (header cable code), count)) in
      record {
        bytes = append-nil _ ∙ ap (λ (n : ℕ). take n three) count;
        cables = append-nil _ ∙ ap₂ (λ (n i : ℕ). replicate n i) (ap (λ (n : ℕ). length (take n three)) count ∙ long) cable_again;
      }

-- S-2, law 7: what a packer makes on a cable comes back with that cable beside each byte
pub cable_returns : (cable : ℕ) (p : Packer) (b code x y z : ℕ) → cable < 16 → (feed_of p b).event ≡ packet code (x ∷ y ∷ z ∷ []) → Returns cable code x y z
cable_returns cable p b code x y z is-cable e =
    packet_returns cable code x y z is-cable (subst (λ (n : ℕ). n < 16) (ap code_of e) (code_any p b))
