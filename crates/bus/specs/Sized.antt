-- The lengths of the three windows that are accepted (document 01, "Numbers of refusal", 1), and the test that decides them.
use Rattle.std.specs.Prelude.{◌≡◌, ℕ, ◌+◌, ◌-◌, ◌%◌, ◌^◌, ◌≤◌, Bool, true, ◌&&◌, length, ◌==◌, bit_and, nat_le}
use Rattle.bus.specs.declared.Place.{Place}
use Rattle.bus.specs.declared.Place.TheVariants.{Dynamic, Static, Page, Nowhere}
use Rattle.bus.specs.Memory.{Memory}

-- bytes of static memory and of the register page
abbrev pub SRAM : ℕ
SRAM = 65536

abbrev pub PAGE : ℕ
PAGE = 4096

-- n is a power of two from 4,096 to 67,108,864
pub record Power (n : ℕ) : Type 0 where
  pub exponent : ℕ
  pub low : 12 ≤ exponent
  pub high : exponent ≤ 26
  pub power : n ≡ 2 ^ exponent

pub record Sized (m : Memory) : Type 0 where
  pub dynamic_length : Power (length m.dynamic)
  pub sram_length : length m.sram ≡ SRAM
  pub page_length : length m.page ≡ PAGE

-- what is left of the page of 4,096 bytes that has address a lies in the window of its place; dynamic memory has n bytes
abbrev pub PageFits : ℕ → ℕ → Place → Type 0
PageFits n a (Dynamic i) = i + 4096 ≤ n + a % 4096
PageFits n a (Static i) = i + 4096 ≤ SRAM + a % 4096
PageFits n a (Page i) = i + 4096 ≤ PAGE + a % 4096
PageFits n a Nowhere = Unit {0}

-- what a function leaves in the windows: m, which is what a definition says, and is sized again
pub record Left (m said : Memory) : Type 0 where
  pub is : m ≡ said
  pub sized : Sized m

-- the test for Power: in range, and no bit shared with the number before it (laws is-power and power-is)
unfoldable pub is_power : ℕ → Bool
is_power n = nat_le 4096 n && (nat_le n 67108864 && bit_and n (n - 1) == 0)

-- the test for Sized (laws is-sized and sized-is)
unfoldable pub is_sized : Memory → Bool
is_sized m = length m.sram == SRAM && (length m.page == PAGE && is_power (length m.dynamic))

-- what a value that holds the windows needs to know of their lengths
abbrev pub Accepted : Memory → Type 0
Accepted m = (is_power (length m.dynamic) ≡ true) × ((length m.sram ≡ SRAM) × (length m.page ≡ PAGE))
