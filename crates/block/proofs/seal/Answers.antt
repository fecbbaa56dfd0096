-- `block::seal` meets its contract: the stored number is the last four bytes.
use native.Mathlib.Omega.{arith}
use lib.ListN.{length-take}
use Rattle.block.proofs.Blocks.{seal-put}
use Rattle.block.proofs.seal.Goals as goal

pub slice_bounds-hash-end-2 : goal.slice_bounds-hash-end-2
slice_bounds-hash-end-2 c = simp length-take (omega arith)

pub returns : goal.returns
returns c =
    seal-put c.args.block.now c.put_u32.new.bytes c.hash-hash.result c.requires c.put_u32.ensures c.hash-hash.ensures
