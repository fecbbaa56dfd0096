-- `block::hash_blocks` meets its contract: four parts of one length are hashed.
use Prim.Native.Nat.{ℕ, zero, suc, ◌*◌, ◌<◌}
use mathlib.Core.Path.{◌≡◌}
use native.Mathlib.Omega.{arith}
use lib.ListN.{get_or, take, drop, length-take, length-drop}
use Rattle.fnv.specs.Fnv.{fnv1a}
use Rattle.block.proofs.hash_blocks.Goals as goal

pub slice_bounds-hash_four-end : goal.slice_bounds-hash_four-end
slice_bounds-hash_four-end c = simp length-take (omega arith)

pub hash_four-requires : goal.hash_four-requires
hash_four-requires c = simp (length-take, length-drop) (omega arith)

below-four : (P : ℕ → Type 0) → P 0 → P 1 → P 2 → P 3 → (k : ℕ) → k < 4 → P k
below-four P p q r s zero h = p
below-four P p q r s (suc zero) h = q
below-four P p q r s (suc (suc zero)) h = r
below-four P p q r s (suc (suc (suc zero))) h = s
below-four P p q r s (suc (suc (suc (suc k)))) h = absurd (omega arith)

pub returns : goal.returns
returns c =
    let four = c.hash_four.ensures in
    below-four (λ k. get_or c.hash_four.result k 0 ≡ fnv1a (take 508 (drop (512 * k) c.args.blocks.now))) four.0 four.1 four.2 four.3
