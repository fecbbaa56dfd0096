-- `taskfile::preempter_blocks` meets its contract: behind its basic blocks an accepted file has its preempter blocks.
use Prim.Native.Nat.{◌+◌, ◌-◌, ◌*◌}
use mathlib.Core.Path.{◌≡◌}
use native.Mathlib.Omega.{arith}
use lib.ListN.{length}
use Rattle.taskfile.specs.File.{counts}
use Rattle.taskfile.proofs.Accepted.{accepted, block-count}
use Rattle.taskfile.proofs.Files.{preempter-part}
use Rattle.taskfile.proofs.preempter_blocks.Goals as goal
use Rattle.taskfile.proofs.preempter_blocks.Goals.{After-block_count}

-- what is left of the file behind its basic blocks
left : (c : goal.After-block_count)
    → let file = c.args.file.now in
    length file ≡ 512 + 512 * c.block_count.result + 512 * (counts file).preempters
left c =
    let file = c.args.file.now in
    omega (arith, (accepted file c.requires).long, block-count file)

pub slice_bounds-result-count : goal.slice_bounds-result-count
slice_bounds-result-count c = omega (arith, left (goal.at.slice_bounds-result-count c).After-block_count)

pub slice_bounds-result-start : goal.slice_bounds-result-start
slice_bounds-result-start c = omega (arith, left (goal.at.slice_bounds-result-start c).After-block_count)

pub returns : goal.returns
returns c =
    let file = c.args.file.now in
    let from = 512 + 512 * c.block_count.result in
    preempter-part file (accepted file c.requires) from (length file - from) (omega (arith, block-count file)) (omega (arith, left (goal.at.returns c).After-block_count))
