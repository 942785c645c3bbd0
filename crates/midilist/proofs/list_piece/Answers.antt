-- `midilist::list_piece` meets its contract. The loop's invariant: the lines left to write from here make the whole (`Writing`), and the
use Rattle.std.proofs.Common.{◌≡◌, ◌+◌, ◌++◌, length, drop, sym, refl, ap, ◌∙◌, add-zero, zero-add, arith}
use mathlib.Core.List.{flat_map}
use lib.Seq.{sets, sets-eq}
use Rattle.midi.specs.Packer.{made, code_of}
use Rattle.midi.proofs.Laws.{written_size_at, writing_more, writing_end, writing_queue, writing_packer, count_at, count_past}
use Rattle.midilist.specs.Listing.{line_of, text_of}
use Rattle.midilist.proofs.Laws.{text_le}
use Rattle.midilist.proofs.list_piece.Goals as goal
use Rattle.midilist.proofs.list_piece.Goals.{in-Some, in_default}

pub loop-b-init : goal.loop-b-init
unfolding text_of
loop-b-init c =
    let a = c.args in (
      record { inside = omega arith; same = refl; room = omega (arith, text_le a.p a.bytes.now); end = refl; queue = refl; fed = refl },
      omega arith,
    )

pub put_line-requires : goal.put_line-requires
unfolding flat_map
put_line-requires c =
    let fed = c.feed-fed in
    let loop = c.loop-b in
    let a = c.args in
    let event = c.in-Some.is in
    let step = written_size_at line_of loop.packer a.bytes.now loop.b-index (omega arith) fed.result fed.ensures.value in
    let twelve = ap (λ e. length (flat_map line_of (made e))) event in
    (omega (arith, step, twelve, loop.invariant.0.room), omega (arith, fed.ensures.event_bound, ap code_of event))

pub loop-b-preserved : goal.loop-b-preserved
unfolding flat_map
loop-b-preserved c =
    let loop = c.loop-b in
    let a = c.args in
    let fed = c.feed-fed in
    let more = writing_more loop.invariant.0 c.loop-b-test.true fed.result fed.ensures.value in
    let step = count_at loop.packer a.bytes.now loop.b-index (omega arith) fed.result fed.ensures.value in
    elim c.match-fed.branch [
      | in-Some w ↦
          let event = sym w.in-Some.is in
          let one = ap (λ e. length (made e)) w.in-Some.is in (
            more _ (w.out-is ∙ w.put_line.ensures ∙ ap (λ e. sets loop.out loop.end (flat_map line_of (made e))) event)
                _ (w.end-is ∙ ap (λ e. loop.end + length (flat_map line_of (made e))) event),
            omega (arith, step, one),
          )
      | in_default w ↦
          let event = sym w.in_default.is in
          let none = ap (λ e. length (made e)) w.in_default.is in (
            more _ (w.out-is ∙ ap (λ e. sets loop.out loop.end (flat_map line_of (made e))) event)
                _ (w.end-is ∙ sym (add-zero loop.end) ∙ ap (λ e. loop.end + length (flat_map line_of (made e))) event),
            omega (arith, step, none),
          )
    ]

pub returns : goal.returns
unfolding text_of
returns c =
    let a = c.args in
    let loop = c.loop-b in
    let past = c.loop-b-test.false in
    let text = text_of a.p a.bytes.now in
    let size : loop.end ≡ length text = omega (arith, writing_end loop.invariant.0 past) in
    let stored = sets-eq text a.out.now 0 (omega (arith, text_le a.p a.bytes.now)) in
    record {
      packer = writing_packer loop.invariant.0 past;
      count = omega (arith, count_past loop.packer a.bytes.now loop.b-index past);
      size = size;
      text = writing_queue loop.invariant.0 past ∙ stored ∙ ap (λ n. text ++ drop n a.out.now) (zero-add (length text) ∙ sym size);
    }
