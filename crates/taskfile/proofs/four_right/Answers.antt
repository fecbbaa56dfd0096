-- `taskfile::four_right` meets its contract: the four parts of the file are its blocks.
use native.Mathlib.Omega.{arith}
use Rattle.taskfile.proofs.Frames.{length-in}
use Rattle.taskfile.proofs.four_right.Goals as goal

pub four_checksums_right-requires : goal.four_checksums_right-requires
four_checksums_right-requires c = (
  rw c.block_at.ensures (length-in _ _ (omega arith)),
  rw c.block_at-2.ensures (length-in _ _ (omega arith)),
  rw c.block_at-3.ensures (length-in _ _ (omega arith)),
  rw c.block_at-4.ensures (length-in _ _ (omega arith)),
)

pub returns : goal.returns
returns c =
    rw (← c.block_at.ensures, ← c.block_at-2.ensures, ← c.block_at-3.ensures, ← c.block_at-4.ensures)
    c.four_checksums_right.ensures
