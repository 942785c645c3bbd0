-- What the loop of `midi::put_packets` keeps: what is left to write from here makes the whole (`Writing`).
use Rattle.midi.specs.Packer.{packet_bytes}
use Rattle.midi.proofs.Laws.{Writing}
use Rattle.midi.proofs.put_packets.Given as goal

abbrev pub invariant-loop-b : goal.invariant-loop-b
invariant-loop-b l = Writing (packet_bytes l.cable) l.bytes l.initial.queue l.queue l.held l.at l.b-index l.initial.packer l.packer
