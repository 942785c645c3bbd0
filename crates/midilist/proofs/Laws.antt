-- Laws of the listing's text: a packet's line is twelve bytes.
use Rattle.std.proofs.Common.{◌≡◌, ℕ, ◌*◌, ◌≤◌, Some, None, List, [], ◌∷◌, length, refl, ap, ◌∙◌, arith, length-append}
use mathlib.Core.List.{flat_map}
use Rattle.midi.specs.declared.Packer.{Packer}
use Rattle.midi.specs.Packer.{Event, feed_of, made, events_of, packet_count}
use Rattle.midi.proofs.Laws.{flat_map_append, count_le}
use Rattle.midilist.specs.Listing.{line_of, text_of}

made_size : (e : Event) → length (flat_map line_of (made e)) ≡ 12 * length (made e)
unfolding flat_map
made_size None = refl
made_size (Some e) = refl

-- a packet's line is twelve bytes
pub text_size : (p : Packer) (bs : List ℕ) → length (text_of p bs) ≡ 12 * packet_count p bs
unfolding text_of packet_count events_of flat_map
text_size p [] = refl
text_size p (b ∷ bs) =
    let e = (feed_of p b).event in
    let rest = events_of (feed_of p b).next bs in
    let cut = ap length (flat_map_append line_of (made e) rest) ∙ length-append (flat_map line_of (made e)) (flat_map line_of rest) in
    omega (arith, cut, made_size e, text_size (feed_of p b).next bs, length-append (made e) rest)

-- a byte makes at most twelve bytes of text
pub text_le : (p : Packer) (bs : List ℕ) → length (text_of p bs) ≤ 12 * length bs
text_le p bs = omega (arith, text_size p bs, count_le p bs)
