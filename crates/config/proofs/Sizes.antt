-- Packet sizes have eleven bits, and the block that follows from one stays in document 01's bounds.
use mathlib.Core.Path.{◌≡◌, refl}
use mathlib.Core.Bool.{◌&&◌}
use mathlib.Core.List.{List, [], ◌∷◌}
use Prim.Native.Nat.{ℕ, ◌+◌, ◌*◌, ◌-◌, ◌/◌, ◌≤◌, ◌<◌}
use native.Mathlib.Omega.{arith}
use lib.Bits.{and_le_r}
use lib.Dec.{ltb}
use borrow.Author.Tests.{ltb-true}
use Rattle.bits.specs.Pick.{pick_both}
use Rattle.config.specs.Config.{Choice, Walk, at, member, interfaces, is_endpoint, is_input, packet_size, slot, counts, chosen, step, walked, descriptors, start, parsed, out_block}
use Rattle.config.specs.declared.OutBlock.{OutBlock}
use Rattle.config.proofs.Cases.{by_test}

-- both sizes of a choice
pub record Small (c : Choice) : Type 0 where
  pub input : c.input < 2048
  pub output : c.output < 2048

size_small : (x : List ℕ) → packet_size x < 2048
size_small x = omega (arith, and_le_r (at x 4 + at x 5 * 256) 0x7FF)

small_step : (x : List ℕ) (w : Walk) → Small w.choice → Small (step x w).choice
unfolding step chosen
small_step x w s =
    let P : ℕ → Type 0 = λ n. n < 2048 in
    by_test (is_endpoint x && counts w.reading x)
    (λ e. rw e
    (by_test (member w.reading.number (interfaces w.choice.pairs) && ltb (packet_size x) (slot (is_input x) w.choice))
    (λ f. rw f s)
    (λ f. rw f
    (record {
      input = pick_both P (is_input x) (size_small x) s.input;
      output = pick_both P (is_input x) s.output (size_small x);
    }))))
    (λ e. rw e s)

small_walked : (xs : List (List ℕ)) (w : Walk) → Small w.choice → Small (walked xs w).choice
unfolding walked
small_walked [] w s = s
small_walked (x ∷ xs) w s = small_walked xs (step x w) (small_step x w s)

-- no bytes make a size above 2047
pub sizes_small : (d : List ℕ) → Small (parsed d)
sizes_small d = small_walked (descriptors d) start (record { input = omega arith; output = omega arith })

-- a block of 33 to 2047 bytes with its channels (document 01, refusal 5)
pub record Bounded (b : OutBlock) : Type 0 where
  pub low : 33 ≤ b.block
  pub high : b.block < 2048
  pub channels : b.channels ≡ (b.block - 32) / 28

pub block_bounded : (size : ℕ) (b : OutBlock) → size < 2048 → Bounded b → Bounded (out_block size b)
block_bounded size b h bounded =
    by_test (ltb 32 size)
    (λ e. let large = ltb-true 32 size e in rw e (record { low = omega arith; high = h; channels = refl }))
    (λ e. rw e bounded)
