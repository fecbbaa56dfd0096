-- `block::four_checksums_right` meets its contract: it is the four tests, one after another.
use native.Mathlib.Omega.{arith}
use lib.ListN.{length-take}
use Rattle.block.proofs.four_checksums_right.Goals as goal

pub slice_bounds-hash_four-end : goal.slice_bounds-hash_four-end
slice_bounds-hash_four-end c = simp length-take (omega arith)

pub slice_bounds-hash_four-end-2 : goal.slice_bounds-hash_four-end-2
slice_bounds-hash_four-end-2 c = simp length-take (omega arith)

pub slice_bounds-hash_four-end-3 : goal.slice_bounds-hash_four-end-3
slice_bounds-hash_four-end-3 c = simp length-take (omega arith)

pub slice_bounds-hash_four-end-4 : goal.slice_bounds-hash_four-end-4
slice_bounds-hash_four-end-4 c = simp length-take (omega arith)

pub hash_four-hashes-requires : goal.hash_four-hashes-requires
hash_four-hashes-requires c = simp length-take (omega arith)
