-- `block::checksum_right` meets its contract: the hash is of the first 508 bytes.
use native.Mathlib.Omega.{arith}
use lib.ListN.{length-take}
use Rattle.block.proofs.checksum_right.Goals as goal

pub slice_bounds-hash-end : goal.slice_bounds-hash-end
slice_bounds-hash-end c = simp length-take (omega arith)
