-- The text of a list of packets: document 01, "Worked examples", the program `midilist`.
use Rattle.std.specs.Prelude.{◌≡◌, ℕ, ◌/◌, ◌%◌, Some, None, List, [], ◌∷◌, ◌++◌, length, drop, slice_index}
use Rattle.midi.specs.declared.Packer.{Packer}
use Rattle.midi.specs.Packer.{Event, header, fed_all, packet_count, written}

-- the hexadecimal digits in ASCII, in upper case
abbrev pub digits : List ℕ
digits = 0x30 ∷ 0x31 ∷ 0x32 ∷ 0x33 ∷ 0x34 ∷ 0x35 ∷ 0x36 ∷ 0x37 ∷ 0x38 ∷ 0x39 ∷ 0x41 ∷ 0x42 ∷ 0x43 ∷ 0x44 ∷ 0x45 ∷ 0x46 ∷ []

unfoldable pub digit_of : ℕ → ℕ
digit_of n = slice_index digits n

-- a byte's two digits, and what stands after them
abbrev pub byte_text : ℕ → ℕ → List ℕ
byte_text b after = digit_of (b / 16) ∷ digit_of (b % 16) ∷ after ∷ []

-- a packet's line: its four bytes, on cable 0, with spaces between them and a line end
abbrev pub line : ℕ → ℕ → ℕ → ℕ → List ℕ
line code x y z = byte_text (header 0 code) 0x20 ++ (byte_text x 0x20 ++ (byte_text y 0x20 ++ byte_text z 0x0A))

abbrev pub line_of : Event → List ℕ
line_of None = []
line_of (Some e) = line e.code e.first e.second e.third

-- the lines of the packets that bs makes
unfoldable pub text_of : Packer → List ℕ → List ℕ
text_of p bs = written line_of p bs

-- what a piece of the input leaves: the packer fed, its packets counted, and their lines at the start of the lent area, whose rest is untouched
pub record Lists (p : Packer) (bs out out' : List ℕ) (next : Packer) (packets end : ℕ) : Type 0 where
  pub packer : next ≡ fed_all p bs
  pub count : packets ≡ packet_count p bs
  pub size : end ≡ length (text_of p bs)
  pub text : out' ≡ text_of p bs ++ drop end out
