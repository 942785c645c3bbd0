-- The worked example of document 01 over two pages: first pointer 40000FFE, total 4: two bytes there, two from the start of the second page.
use Rattle.std.specs.Prelude.{ℕ, List, [], ◌∷◌, map, ◌≡◌, refl}
use Rattle.bus.specs.Memory.{Memory, peek8}
use Rattle.transfer.specs.Transfer.{tabulate, source_addr, data_addr, bytes_in}

-- the first two page pointers; the second page lies apart from the first
abbrev pub two : List ℕ
two = 0x4000_0FFE ∷ 0x4000_3000 ∷ []

-- the four addresses in the source's words, and the four bytes that move, whatever memory holds
pub record TwoPages : Type 0 where
  pub addresses : map (source_addr two) (0 ∷ 1 ∷ 2 ∷ 3 ∷ []) ≡ 0x4000_0FFE ∷ 0x4000_0FFF ∷ 0x4000_3000 ∷ 0x4000_3001 ∷ []
  pub bytes : (m : Memory) → bytes_in m two 4 ≡ peek8 m 0x4000_0FFE ∷ peek8 m 0x4000_0FFF ∷ peek8 m 0x4000_3000 ∷ peek8 m 0x4000_3001 ∷ []

pub two_pages : TwoPages
unfolding tabulate source_addr data_addr bytes_in
two_pages = record { addresses = refl; bytes = λ m. refl }
