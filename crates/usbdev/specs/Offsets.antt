-- Offsets of the registers on their page, under the source's names (usbdev.rs 16-25, usbhost.rs 31-42, 649; MCF5441x Reference Manual, USB OTG).
use Rattle.std.specs.Prelude.{ℕ}

-- the address of the page
abbrev pub BASE : ℕ
BASE = 0xFC0B_0000

abbrev pub USBCMD : ℕ
USBCMD = 0x140

abbrev pub USBSTS : ℕ
USBSTS = 0x144

abbrev pub USBINTR : ℕ
USBINTR = 0x148

abbrev pub FRINDEX : ℕ
FRINDEX = 0x14C

abbrev pub EPLISTADDR : ℕ
EPLISTADDR = 0x158

abbrev pub EPNAK : ℕ
EPNAK = 0x178

abbrev pub PORTSC1 : ℕ
PORTSC1 = 0x184

abbrev pub OTGSC : ℕ
OTGSC = 0x1A4

abbrev pub EPSETUPSR : ℕ
EPSETUPSR = 0x1AC

abbrev pub EPPRIME : ℕ
EPPRIME = 0x1B0

abbrev pub EPFLUSH : ℕ
EPFLUSH = 0x1B4

abbrev pub EPSR : ℕ
EPSR = 0x1B8

abbrev pub EPCOMPLETE : ℕ
EPCOMPLETE = 0x1BC

abbrev pub EPCR0 : ℕ
EPCR0 = 0x1C0
