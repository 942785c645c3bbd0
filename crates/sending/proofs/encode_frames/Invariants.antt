-- What the loop of `sending::encode_frames` keeps.
use Prim.Native.Nat.{min}
use mathlib.Core.Path.{◌≡◌}
use Rattle.sending.proofs.Laws.{Frames}
use Rattle.sending.proofs.encode_frames.Given as goal

abbrev pub invariant-loop-f : goal.invariant-loop-f
invariant-loop-f l = (l.f-end ≡ min l.ring.len 7) × Frames l.channels l.sending l.ring l.initial.block l.block l.f
