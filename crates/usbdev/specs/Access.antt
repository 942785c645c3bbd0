-- What a device access of one, two or four bytes does (document 01, "Register page" and numbers 1 and 4; usbdev.rs 31-74; MCF5441x Reference Manual, USB OTG).
use Rattle.std.specs.Prelude.{ℕ, ◌+◌, ◌*◌, ◌/◌, ◌%◌, ◌^◌, Bool, ◌&&◌, ◌||◌, List, [], ◌∷◌, length, ◌==◌, bit_and, bit_or, nat_le, slice_index}
use Rattle.std.proofs.Math.ListN as L
use Rattle.bits.specs.Pick.{pick}
use Rattle.bits.specs.Word.{clear, set}
use Rattle.bus.specs.Sized.{PAGE}
use Rattle.bus.specs.Words.{word_at}
use Rattle.usbdev.specs.Answers.{Value, Written}
use Rattle.usbdev.specs.Offsets.{USBCMD, USBSTS, EPNAK, OTGSC, EPSETUPSR, EPPRIME, EPFLUSH, EPSR, EPCOMPLETE}
use Rattle.usbdev.specs.Registers.{Registers, registers, put, PageStep, done, ◌then◌, following}

-- ---- numbers of refusal

-- whether an access of a size lies aligned and whole in the page
unfoldable pub fits : ℕ → ℕ → Bool
fits off size = (size == 1 || (size == 2 || size == 4)) && (off % size == 0 && nat_le (off + size) PAGE)

-- 1 for a page of another length, 4 for an access that does not fit, 0 for none
unfoldable pub refusal : ℕ → ℕ → ℕ → ℕ
refusal len off size = pick (len == PAGE) (pick (fits off size) 0 4) 1

-- ---- reads

-- two bytes, the high one first
unfoldable pub half_at : List ℕ → ℕ → ℕ
half_at p off = slice_index p off * 2 ^ 8 + slice_index p (off + 1)

-- usbdev.rs 32-41: four bytes. EPPRIME and EPFLUSH read as 0, USBCMD without RST (bit 1), which clears itself
unfoldable pub read_word : List ℕ → ℕ → ℕ
read_word p off = pick (off == EPPRIME || off == EPFLUSH) 0 (pick (off == USBCMD) (clear (word_at p USBCMD) 2) (word_at p off))

-- one and two bytes are plain (usbdev.rs 33-35; bus.rs 781-799)
unfoldable pub read_sized : List ℕ → ℕ → ℕ → ℕ
read_sized p off size = pick (size == 4) (read_word p off) (pick (size == 2) (half_at p off) (slice_index p off))

-- a read's answer: a refusal alone, or the value
unfoldable pub reading : List ℕ → ℕ → ℕ → Value
reading p off size =
    record {
      refusal = refusal (length p) off size;
      value = pick (refusal (length p) off size == 0) (read_sized p off size) 0;
    }

-- ---- writes

-- usbdev.rs 50: writing a one clears the bit
abbrev pub clears_by_one : ℕ → Bool
clears_by_one off = off == USBSTS || (off == EPNAK || (off == EPSETUPSR || off == EPCOMPLETE))

-- usbdev.rs 51-58: OTGSC after v is written over keep. Status (bits 16 to 22) clears by one, line states (bits 8 to 14) stay, the rest is v's
abbrev pub otgsc : ℕ → ℕ → ℕ
otgsc keep v = bit_or (bit_or (clear v 0x007F7F00) (bit_and keep 0x00007F00)) (clear (bit_and keep 0x007F0000) v)

-- the registers for whose four-byte writes the source lists the words to store; the line's flag follows these writes alone (bus.rs 963-973)
unfoldable pub listed : ℕ → Bool
listed off = clears_by_one off || (off == OTGSC || (off == EPFLUSH || (off == EPPRIME || off == USBCMD)))

-- usbdev.rs 49-73: the words listed, in order, or for any other register its own word. Priming sets the endpoints' bits of EPSR, flushing clears them, and neither command stays
unfoldable pub listing : ℕ → ℕ → PageStep
listing off v r =
    pick (clears_by_one off) (put off (clear (word_at r.page off) v) ∷ [])
    (pick (off == OTGSC) (put OTGSC (otgsc (word_at r.page OTGSC) v) ∷ [])
    (pick (off == EPFLUSH) (put EPFLUSH 0 ∷ put EPSR (clear (word_at r.page EPSR) v) ∷ [])
    (pick (off == EPPRIME) (put EPPRIME 0 ∷ put EPSR (set (word_at r.page EPSR) v) ∷ [])
    (pick (off == USBCMD) (put USBCMD (clear v 2) ∷ [])
    (put off v ∷ [])))))

-- a four-byte write: what is listed, and the flag follows; or the word as it is, and the flag stays (bus.rs 967-974)
unfoldable pub writing_word : ℕ → ℕ → PageStep
writing_word off v = pick (listed off) (listing off v then following) (listing off v)

-- the low two bytes of v, the high one first
unfoldable pub half_put : List ℕ → ℕ → ℕ → List ℕ
half_put p off v = L.set (L.set p off (v / 2 ^ 8 % 256)) (off + 1) (v % 256)

-- the registers after an accepted write: one and two bytes are plain, and the flag stays (usbdev.rs 46-48; bus.rs 801-817)
unfoldable pub write_sized : Registers → ℕ → ℕ → ℕ → Registers
write_sized r off size v =
    pick (size == 4) (done (writing_word off v) r)
    (registers (pick (size == 2) (half_put r.page off v) (L.set r.page off (v % 256))) r.line)

-- a write's answer: a refusal with the flag as it was, or the flag after it
unfoldable pub writing : Registers → ℕ → ℕ → ℕ → Written
writing r off size v =
    record {
      refusal = refusal (length r.page) off size;
      line = pick (refusal (length r.page) off size == 0) (write_sized r off size v).line r.line;
    }

-- the page after a write: as it was where that is refused
unfoldable pub written : Registers → ℕ → ℕ → ℕ → List ℕ
written r off size v = pick (refusal (length r.page) off size == 0) (write_sized r off size v).page r.page
