-- What "retired" means, in the bits of a descriptor's token (document 01, "Queue head and dTD"; usbhost.rs 584-585; MCF5441x Reference Manual,
-- USB OTG: dTD token).
use Rattle.std.specs.Prelude.{ℕ, ◌-◌, ◌/◌, ◌%◌, ◌^◌, ◌≡◌, List, ◌∷◌, ◌++◌}
use Rattle.bus.specs.Stores.{Store, word}
use Rattle.transfer.specs.Transfer.{pointers, sending}
use Rattle.dtd.specs.Dtd.{descriptor}
use Rattle.record.specs.World.{World, bus_of}
use Rattle.model.specs.Ready.{token_address}
use Rattle.model.specs.Audio.{block_of}
use Rattle.model.specs.Claims.{out_pointer, out_moved}

-- v is the token tok once so many bytes of its total (bits 16 to 30) have moved: its status (bits 0 to 7), of which bit 7 is active, is clear,
-- and its other bits are as they were
pub record TokenRetired (tok moved v : ℕ) : Type 0 where
  pub active : v / 2 ^ 7 % 2 ≡ 0
  pub total : v / 2 ^ 16 % 2 ^ 15 ≡ tok / 2 ^ 16 % 2 ^ 15 - moved
  pub status : v % 2 ^ 8 ≡ 0
  pub middle : v / 2 ^ 8 % 2 ^ 8 ≡ tok / 2 ^ 8 % 2 ^ 8
  pub top : v / 2 ^ 31 ≡ tok / 2 ^ 31 % 2

-- stores that retire the descriptor that the pointer n names, whose token was tok: behind the data sent, the first is to its token
pub record StoresToken (n tok moved : ℕ) (sent ss : List Store) : Type 0 where
  pub value : ℕ
  pub rest : List Store
  pub stores : ss ≡ sent ++ (word (token_address n) value ∷ rest)
  pub token : TokenRetired tok moved value

-- 579-581: the data of a block, at the addresses of its descriptor
abbrev pub block_data : World → List Store
block_data x = sending (pointers x.lent.memory (descriptor (out_pointer x))) (block_of x) (out_moved x) (bus_of x)
