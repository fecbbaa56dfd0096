-- `block::seal_four` meets its contract. The loop's invariant: the first `k` blocks have their checksums, and else the bytes are as they were.
use mathlib.Core.Path.{◌≡◌, refl, ◌∙◌}
use mathlib.Core.List.{append-nil}
use native.Mathlib.Omega.{arith}
use borrow.Author.Rules.{rules}
use lib.ListN.{drop_of_length-le}
use Rattle.block.specs.Blocks.{sealed_blocks}
use Rattle.block.proofs.Storing.{stored-none}
use Rattle.block.proofs.Sealing.{sealed-stored}
use Rattle.block.proofs.seal_four.Goals as goal

pub loop-k-init : goal.loop-k-init
unfolding sealed_blocks
loop-k-init c = (refl, stored-none 0 c.args.blocks.now (omega arith))

pub loop-k-preserved : goal.loop-k-preserved
loop-k-preserved c = (
  search rules,
  sealed-stored c.loop-k.k _ (omega arith) c.loop-k.invariant.1 (c.hash_blocks-hashes.ensures c.loop-k.k (omega arith)) c.put_u32.ensures,
)

pub returns : goal.returns
returns c =
    let all : c.loop-k.k ≡ 4 = omega arith in
    let done = rw all at c.loop-k.invariant.1 in
    done.bytes ∙ rw (drop_of_length-le c.args.blocks.now {i = 2048} (omega arith)) (append-nil _)
