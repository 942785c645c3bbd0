-- The memory of a run at its start.
use Rattle.std.specs.Prelude.{◌≡◌, ℕ, List, replicate}

-- three windows of zeros, and so many bytes of dynamic memory
pub record Zeros (n : ℕ) (d s p : List ℕ) (len : ℕ) : Type 0 where
  pub dynamic : d ≡ replicate 65536 0
  pub sram : s ≡ replicate 65536 0
  pub page : p ≡ replicate 4096 0
  pub length : len ≡ n
