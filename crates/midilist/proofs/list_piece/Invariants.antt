-- What each loop of `midilist::list_piece` keeps, and its measure.
use Rattle.std.proofs.Common.{◌≡◌, ◌+◌, ◌≤◌, drop}
use Rattle.midi.specs.Packer.{packet_count}
use Rattle.midi.proofs.Laws.{Writing}
use Rattle.midilist.specs.Listing.{line_of}
use Rattle.midilist.proofs.list_piece.Given as goal

-- `midilist::list_piece` meets its contract. The loop's invariant: the lines left to write from here make the whole (`Writing`), and the
-- packets counted and those of the bytes left make the whole count.
abbrev pub invariant-loop-b : goal.invariant-loop-b
invariant-loop-b l =
    Writing line_of l.bytes l.initial.out l.out 0 l.end l.b-index l.initial.packer l.packer
    × ((l.packets ≤ l.b-index) × (l.packets + packet_count l.packer (drop l.b-index l.bytes) ≡ packet_count l.initial.packer l.bytes))
