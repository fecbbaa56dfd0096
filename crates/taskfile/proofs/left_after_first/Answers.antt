-- `taskfile::left_after_first` meets its contract: where the first block is right the lowest wrong one is behind it.
use mathlib.Core.Path.{sym, ap, ◌∙◌}
use native.Mathlib.Nat.{sub_self}
use native.Mathlib.Omega.{arith}
use Rattle.model.proofs.Lowest.{scan-next}
use Rattle.block.specs.Blocks.{checksum_right}
use Rattle.taskfile.specs.File.{blocks_in, sum_right}
use Rattle.taskfile.proofs.Frames.{length-in}
use Rattle.taskfile.proofs.left_after_first.Goals as goal

pub checksum_right-requires : goal.checksum_right-requires
checksum_right-requires c = rw c.block_at.ensures (length-in _ _ (omega arith))

pub returns-then-checksum_right : goal.returns-then-checksum_right
unfolding blocks_in
returns-then-checksum_right c = (
  omega arith,
  scan-next (sum_right c.args.file.now) _ _ _ (omega arith) (omega arith)
      (ap checksum_right (sym c.block_at.ensures) ∙ sym c.checksum_right.ensures ∙ c.if-checksum_right.true),
)

pub returns : goal.returns
unfolding blocks_in
returns c = (omega arith, rw sub_self)
