-- `record::put_word` meets its contract.
use Rattle.std.proofs.Common.{◌≡◌, ◌+◌, ◌≤◌, ◌/◌, ◌%◌, length, rules, ◌∙◌, arith}
use Rattle.bits.proofs.Lists.{put_sets}
use Rattle.record.specs.Setups.{little_bytes}
use Rattle.record.proofs.put_word.Goals as goal

pub returns : goal.returns
returns c =
    let a = c.args in
    let few : a.at + 4 ≤ length a.setups.now = search rules in
    let top : a.v / 0x100_0000 % 256 ≡ a.v / 0x100_0000 = omega arith in
    let bytes : c.copy_from_slice.new.self ≡ little_bytes a.v = c.copy_from_slice.ensures.after ∙ (rw top at c.to_le_bytes.ensures) in
    put_sets a.setups.now (little_bytes a.v) c.copy_from_slice.new.self a.at few bytes
