-- How the code keeps a choice and a walk, and the table of a choice: its pairs in two lists of 256 bytes, zero past the last pair.
use Rattle.std.specs.Prelude.{ℕ, ◌-◌, ◌<◌, ◌≡◌, true, false, ◌&&◌, Option, MatchOption, List, ◌++◌, length, take, drop, replicate}
use Rattle.std.specs.Borrow.{Bor}
use Rattle.bits.specs.Pick.{pick}
use Rattle.config.specs.Config.{Choice, Interface, Walk, Distinct, interfaces, alternates, at, whole, is_endpoint, is_input, packet_size, counts, chosen}
use Rattle.config.specs.Pairs.{Below}
use Rattle.config.specs.declared.ConfigInfo.{ConfigInfo}
use Rattle.config.specs.declared.Interface.{Interface as Reading}
use Rattle.config.specs.declared.Walk.{Walk as Walking}

-- a choice as the record that the host reads, and back
abbrev pub info_of : Choice → ConfigInfo
info_of c = record { pairs = c.pairs; ob_in_packet = c.input; ob_out_packet = c.output }

abbrev pub choice_of : ConfigInfo → Choice
choice_of i = record { pairs = i.pairs; input = i.ob_in_packet; output = i.ob_out_packet }

-- the interface being read, as the struct has it
abbrev pub reading_of : Reading → Interface
reading_of r = record { number = r.number; alternate = r.alternate; class = r.class }

-- a walk, as the struct has it
abbrev pub walk_of : Walking → Walk
walk_of w = record { reading = reading_of w.reading; choice = choice_of w.choice }

-- a walk after a descriptor, if it is an endpoint's that counts: the endpoint may be chosen
abbrev pub endpoint_read : List ℕ → Walk → Walk
endpoint_read x w =
    record {
      reading = w.reading;
      choice =
          pick (is_endpoint x && counts w.reading x)
          (chosen w.reading (is_input x) (packet_size x) w.choice)
          w.choice;
    }

-- the first descriptor of some bytes and the bytes behind it, where it is whole
abbrev pub SplitsWhole : List ℕ → Option (Bor (List ℕ) × Bor (List ℕ)) → Type 0
SplitsWhole d r =
    MatchOption r (whole d ≡ false)
    (λ p. (whole d ≡ true) × ((p.0.now ≡ take (at d 0) d) × (p.1.now ≡ drop (at d 0) d)))

-- a list with zeros behind it, 256 in all
abbrev pub padded : List ℕ → List ℕ
padded l = l ++ replicate (256 - length l) 0

-- a choice with its pairs in two lists
pub record Table : Type 0 where
  pub interfaces : List ℕ
  pub alternates : List ℕ
  pub count : ℕ
  pub ob_in_packet : ℕ
  pub ob_out_packet : ℕ

abbrev pub table_of : Choice → Table
table_of c =
    record {
      interfaces = padded (interfaces c.pairs);
      alternates = padded (alternates c.pairs);
      count = length c.pairs;
      ob_in_packet = c.input;
      ob_out_packet = c.output;
    }

-- what is true of every walk over bytes: no interface has two pairs, and interfaces are bytes
pub record Valid (w : Walk) : Type 0 where
  pub distinct : Distinct (interfaces w.choice.pairs)
  pub below : Below 256 (interfaces w.choice.pairs)
  pub number : w.reading.number < 256
