-- What the loop of `midi::count_packets` keeps: the packets counted and those of the bytes left make the whole count.
use Rattle.std.proofs.Common.{◌≡◌, ◌+◌, ◌≤◌, drop}
use Rattle.midi.specs.Packer.{packet_count}
use Rattle.midi.proofs.count_packets.Given as goal

abbrev pub invariant-loop-b : goal.invariant-loop-b
invariant-loop-b l =
    (l.count ≤ l.b-index) × (l.count + packet_count l.packer (drop l.b-index l.bytes) ≡ packet_count l.initial.packer l.bytes)
