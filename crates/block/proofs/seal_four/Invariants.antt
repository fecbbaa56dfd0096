-- `block::seal_four` meets its contract. The loop's invariant: the first `k` blocks have their checksums, and else the bytes are as they were.
use Prim.Native.Nat.{◌*◌}
use mathlib.Core.Path.{◌≡◌}
use lib.ListN.{length}
use Rattle.block.specs.Blocks.{sealed_blocks}
use Rattle.block.proofs.Storing.{Stored}
use Rattle.block.proofs.seal_four.Given as goal

abbrev pub invariant-loop-k : goal.invariant-loop-k
invariant-loop-k l =
    (length l.blocks ≡ length l.initial.blocks) × Stored (512 * l.k) l.initial.blocks l.blocks (sealed_blocks l.k l.initial.blocks)
