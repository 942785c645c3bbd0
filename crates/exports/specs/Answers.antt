-- How the entries for C lay out an answer in a number of 64 bits, and the packer of a MIDI cable in its low five bytes.
use Rattle.std.specs.Prelude.{ℕ, ◌+◌, ◌*◌, ◌/◌, ◌%◌, ◌^◌, Bool, eqb, Result, Ok, Err}
use Rattle.bits.specs.Pick.{pick}
use Rattle.refusal.specs.declared.Refusal.{Refusal}
use Rattle.refusal.specs.Number.{number}
use Rattle.bus.specs.Checked.{Peeked, Poked}
use Rattle.usbdev.specs.Answers.{Value, Written}
use Rattle.config.specs.Table.{Table}
use Rattle.midi.specs.declared.Packer.{Packer}
use Rattle.midi.specs.Packer.{Sent}

-- a refusal's number above the 32 bits of what is answered
abbrev pub above : ℕ → ℕ → ℕ
above refusal answer = refusal * 2 ^ 32 + answer

-- what is answered, or 0 under the number of the refusal
abbrev pub answered : Result ℕ Refusal → ℕ
answered (Ok answer) = above 0 answer
answered (Err r) = above (number r) 0

abbrev pub flag : Bool → ℕ
flag b = pick b 1 0

abbrev pub of_value : Value → ℕ
of_value v = above v.refusal v.value

abbrev pub of_written : Written → ℕ
of_written w = above w.refusal (flag w.line)

abbrev pub of_peeked : Peeked → ℕ
of_peeked p = above p.refusal p.value

abbrev pub of_poked : Poked → ℕ
of_poked p = above p.refusal p.dropped

-- the number of pairs above the sizes, each of which has eleven bits
abbrev pub of_sizes : ℕ → ℕ → ℕ → ℕ
of_sizes count output input = count * 2 ^ 32 + output * 2 ^ 16 + input

abbrev pub of_config : Table → ℕ
of_config c = of_sizes c.count c.ob_out_packet c.ob_in_packet

-- a packer's five bytes, from the lowest: status, first, second, held, whether inside SysEx
abbrev pub of_packer : Packer → ℕ
of_packer p = flag p.sysex * 2 ^ 32 + p.held * 2 ^ 24 + p.second * 2 ^ 16 + p.first * 2 ^ 8 + p.status

-- the packer in the low five bytes of any number
abbrev pub packer_of : ℕ → Packer
packer_of n =
    record {
      status = n % 256;
      first = n / 2 ^ 8 % 256;
      second = n / 2 ^ 16 % 256;
      held = n / 2 ^ 24 % 256;
      sysex = eqb (n / 2 ^ 32 % 2) 1;
    }

-- a refusal's number above the two bytes that say how much the queue holds, above the packer
abbrev pub of_sent : Sent → ℕ
of_sent s = s.refusal * 2 ^ 56 + s.held * 2 ^ 40 + of_packer s.packer
