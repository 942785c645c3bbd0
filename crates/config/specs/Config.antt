-- What a configuration descriptor asks of a host: document 01, "Interface choice"; usbhost.rs 58-101; descriptors by USB 2.0, section 9.6.
use Rattle.std.specs.Prelude.{ℕ, zero, suc, ◌+◌, ◌*◌, ◌/◌, ◌-◌, ◌<◌, ◌≡◌, Bool, false, ◌&&◌, ◌||◌, not, List, [], ◌∷◌, map, length, get_or, take, drop, eqb, leb, ltb}
use Rattle.std.specs.Int.Bits.{bit_and}
use Rattle.bits.specs.Pick.{pick}
use Rattle.config.specs.declared.OutBlock.{OutBlock}

-- what is asked for (usbhost.rs 60-67): pairs of interface and alternate by first appearance, and the packet size of each direction
pub record Choice : Type 0 where
  pub pairs : List (ℕ × ℕ)
  pub input : ℕ
  pub output : ℕ

-- the interface that the endpoints which follow belong to (usbhost.rs 73)
pub record Interface : Type 0 where
  pub number : ℕ
  pub alternate : ℕ
  pub class : ℕ

-- the walk over the descriptors: the interface being read, and the choice so far
pub record Walk : Type 0 where
  pub reading : Interface
  pub choice : Choice

-- the byte at a place of a descriptor
abbrev pub at : List ℕ → ℕ → ℕ
at x k = get_or x k 0

-- a whole descriptor stands first: its length is its first byte, counts the first two bytes, and fits (9.5; usbhost.rs 75)
abbrev pub whole : List ℕ → Bool
whole d = leb 2 (length d) && (leb 2 (at d 0) && leb (at d 0) (length d))

-- the whole descriptors of some bytes, at most fuel of them (usbhost.rs 75-76, 98)
unfoldable pub cut : ℕ → List ℕ → List (List ℕ)
cut zero d = []
cut (suc fuel) d = pick (whole d) (take (at d 0) d ∷ cut fuel (drop (at d 0) d)) []

-- the descriptors of some bytes, up to the first that is not whole; each has two bytes at least, so the bytes' number is fuel enough
abbrev pub descriptors : List ℕ → List (List ℕ)
descriptors d = cut (length d) d

-- an interface descriptor: type 4 (table 9-5) and nine bytes at least (9.6.5; usbhost.rs 78)
abbrev pub is_interface : List ℕ → Bool
is_interface x = eqb (at x 1) 4 && leb 9 (length x)

-- bInterfaceNumber, bAlternateSetting and bInterfaceClass (9.6.5)
abbrev pub interface_of : List ℕ → Interface
interface_of x = record { number = at x 2; alternate = at x 3; class = at x 5 }

-- an endpoint descriptor: type 5 (table 9-5) and seven bytes at least (9.6.6; usbhost.rs 79)
abbrev pub is_endpoint : List ℕ → Bool
is_endpoint x = eqb (at x 1) 5 && leb 7 (length x)

-- bits 0 and 1 of bmAttributes: 3 is an interrupt endpoint (9.6.6)
abbrev pub is_interrupt : List ℕ → Bool
is_interrupt x = eqb (bit_and (at x 3) 3) 3

-- bit 7 of bEndpointAddress: the endpoint is an input (9.6.6)
abbrev pub is_input : List ℕ → Bool
is_input x = not (eqb (bit_and (at x 2) 0x80) 0)

-- bits 0 to 10 of wMaxPacketSize, low byte first: the packet size (9.6.6)
abbrev pub packet_size : List ℕ → ℕ
packet_size x = bit_and (at x 4 + at x 5 * 256) 0x7FF

-- an endpoint counts in a vendor interface (class FF), in an alternate other than 0, if it is an interrupt endpoint (usbhost.rs 79)
abbrev pub counts : Interface → List ℕ → Bool
counts i x = eqb i.class 0xFF && (not (eqb i.alternate 0) && is_interrupt x)

-- whether a number is in a list
unfoldable pub member : ℕ → List ℕ → Bool
member n [] = false
member n (x ∷ xs) = eqb x n || member n xs

-- the interfaces of the pairs, and their alternates
abbrev pub interfaces : List (ℕ × ℕ) → List ℕ
interfaces ps = map (λ p. p.0) ps

abbrev pub alternates : List (ℕ × ℕ) → List ℕ
alternates ps = map (λ p. p.1) ps

-- the pair of interface i takes the alternate a; an interface that has no pair yet gets one, at the end (usbhost.rs 83-93)
unfoldable pub placed : ℕ → ℕ → List (ℕ × ℕ) → List (ℕ × ℕ)
placed i a [] = (i, a) ∷ []
placed i a (p ∷ ps) = pick (eqb p.0 i) ((i, a) ∷ ps) (p ∷ placed i a ps)

-- the size slot of a direction, shared by all interfaces (usbhost.rs 81)
abbrev pub slot : Bool → Choice → ℕ
slot input c = pick input c.input c.output

-- an endpoint's alternate and size are taken, unless its interface has a pair and the size is below the slot's (usbhost.rs 81-94)
unfoldable pub chosen : Interface → Bool → ℕ → Choice → Choice
chosen i input size c =
    pick (member i.number (interfaces c.pairs) && ltb size (slot input c)) c
    (record {
      pairs = placed i.number i.alternate c.pairs;
      input = pick input size c.input;
      output = pick input c.output size;
    })

-- one descriptor: an interface is read from now on, an endpoint that counts may be chosen, anything else is passed over (usbhost.rs 77-97)
unfoldable pub step : List ℕ → Walk → Walk
step x w =
    record {
      reading = pick (is_interface x) (interface_of x) w.reading;
      choice =
          pick (is_endpoint x && counts w.reading x)
          (chosen w.reading (is_input x) (packet_size x) w.choice)
          w.choice;
    }

-- the descriptors one after another
unfoldable pub walked : List (List ℕ) → Walk → Walk
walked [] w = w
walked (x ∷ xs) w = walked xs (step x w)

-- before the first descriptor: no pair, and all numbers 0 (usbhost.rs 72-73)
abbrev pub start : Walk
start =
    record {
      reading = record { number = 0; alternate = 0; class = 0 };
      choice = record { pairs = []; input = 0; output = 0 };
    }

-- `parse_config` (usbhost.rs 71-101): what the bytes of a configuration descriptor ask for
abbrev pub parsed : List ℕ → Choice
parsed d = (walked (descriptors d) start).choice

-- every element is a byte
abbrev pub Bytes : List ℕ → Type 0
Bytes d = (k : ℕ) → at d k < 256

-- no number stands twice
unfoldable pub Distinct : List ℕ → Type 0
Distinct [] = Unit {0}
Distinct (x ∷ xs) = (member x xs ≡ false) × Distinct xs

-- the block and the channels after a configuration: an output size above 32 sets both (document 01, "Interface choice"; usbhost.rs 718-720)
abbrev pub out_block : ℕ → OutBlock → OutBlock
out_block size old =
    record {
      block = pick (ltb 32 size) size old.block;
      channels = pick (ltb 32 size) ((size - 32) / 28) old.channels;
    }
