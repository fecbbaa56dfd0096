-- What two steps of storing checksums answer. Assumes nothing.
use Rattle.std.specs.Prelude.{ℕ, ◌-◌, ◌*◌, ◌<◌, ◌≤◌, ◌≡◌, List, ◌++◌, take, drop, slice_index}
use Rattle.fnv.specs.Fnv.{fnv1a}
use Rattle.block.specs.Blocks.{sealed_blocks}

-- the hashes of four blocks, up to their checksums
abbrev pub HashesOf : List ℕ → List ℕ → Type 0
HashesOf bs hashes = (k : ℕ) → k < 4 → slice_index hashes k ≡ fnv1a (take 508 (drop (512 * k) bs))

-- of n blocks that are to have their checksums, the first k have them in new
pub record SealedSoFar (bs : List ℕ) (n : ℕ) (new : List ℕ) (k : ℕ) : Type 0 where
  pub most : k ≤ n
  pub rest : take (512 * k) new ++ sealed_blocks (n - k) (drop (512 * k) new) ≡ sealed_blocks n bs
  pub beyond : drop (512 * n) new ≡ drop (512 * n) bs
