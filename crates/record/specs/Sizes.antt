-- How much the arrays of the record hold, and how long the lent areas are (document 01).
use Rattle.std.specs.Prelude.{ℕ, ◌*◌}
use Rattle.midi.specs.Packer as Packer

-- setups that wait at most, and their bytes ("Control record")
abbrev pub SETUPS : ℕ
SETUPS = 257

abbrev pub SETUP_BYTES : ℕ
SETUP_BYTES = 8 * SETUPS

-- bytes of the MIDI and of the serial queue ("MIDI packer and queue", "Numbers of refusal" 5)
abbrev pub QUEUE : ℕ
QUEUE = Packer.QUEUE

-- bytes of the device descriptor ("Control record")
abbrev pub DEVICE : ℕ
DEVICE = 64

-- the longest reply, and so the least reply and configuration area; the least receive area ("Numbers of refusal" 2), and so the least
-- area of cables, which has one for each byte of it (S-2)
abbrev pub REPLY : ℕ
REPLY = 65535

abbrev pub RECEIVE : ℕ
RECEIVE = 196608

-- frames that the received ring holds at most ("Streams"), a frame's words, and the ring's
abbrev pub FRAMES : ℕ
FRAMES = 48000

abbrev pub WORDS : ℕ
WORDS = 12

abbrev pub RING : ℕ
RING = FRAMES * WORDS
