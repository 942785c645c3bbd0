-- What is claimed of a send that is accepted: as many packets are written as were counted, each at its place, and all else is as it was (S-3).
use Rattle.std.specs.Prelude.{ℕ, ◌+◌, ◌*◌, ◌≤◌, ◌<◌, ◌≡◌, None, List, length, get_or, take, drop}
use Rattle.midi.specs.declared.Packer.{Packer}
use Rattle.midi.specs.Packer.{events_of, packet_count, packet_bytes}

-- S-3: the bytes bs, sent on a cable by the packer p; the queue is q with `held` bytes before it, and q' with `after` bytes then
pub record Written (cable : ℕ) (p : Packer) (bs : List ℕ) (held after : ℕ) (q q' : List ℕ) : Type 0 where
  pub four_each : after ≡ held + 4 * packet_count p bs
  pub fits : after ≤ length q
  pub packet : (i : ℕ) → i < packet_count p bs → take 4 (drop (held + 4 * i) q') ≡ packet_bytes cable (get_or (events_of p bs) i None)
  pub before : take held q' ≡ take held q
  pub behind : drop after q' ≡ drop after q
  pub long : length q' ≡ length q
