-- The frame counter and a descriptor's token, as transfers and the microframe use them (MCF5441x Reference Manual, USB OTG: FRINDEX, dTD token).
use Rattle.std.specs.Prelude.{ℕ, ◌+◌, ◌-◌, ◌*◌, ◌/◌, ◌%◌, ◌^◌, bit_and, bit_or}
use Rattle.bits.specs.Word.{clear}

-- usbhost.rs 493: FRINDEX counts modulo 2^14, at high speed by one a microframe
unfoldable pub next_frindex : ℕ → ℕ → ℕ
next_frindex step fr = (fr + step) % 2 ^ 14

-- usbhost.rs 558: bits 16 to 30 of a token, the bytes that are still to move
unfoldable pub total_of : ℕ → ℕ
total_of tok = bit_and (tok / 2 ^ 16) 0x7FFF

-- usbhost.rs 584-585: a token once n bytes of its total have moved: that many fewer are left, and its status (bits 0 to 7) is clear
unfoldable pub token_after : ℕ → ℕ → ℕ
token_after tok n = bit_or (clear (clear tok 0x7FFF0000) 0xFF) ((total_of tok - n) * 2 ^ 16 % 2 ^ 32)
