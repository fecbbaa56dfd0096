-- `taskfile::basic_blocks` meets its contract: behind the header an accepted file has its basic blocks.
use Prim.Native.Nat.{◌+◌, ◌-◌, ◌*◌}
use native.Mathlib.Omega.{arith}
use Rattle.taskfile.proofs.Accepted.{accepted, block-count}
use Rattle.taskfile.proofs.Files.{basic-part}
use Rattle.taskfile.proofs.basic_blocks.Goals as goal

pub slice_bounds-result-end : goal.slice_bounds-result-end
slice_bounds-result-end c =
    let file = c.args.file.now in
    omega (arith, (accepted file c.requires).long, block-count file)

pub returns : goal.returns
returns c =
    let file = c.args.file.now in
    let count = c.block_count.result in
    basic-part file (accepted file c.requires) (512 + 512 * count - 512) (omega (arith, block-count file))
