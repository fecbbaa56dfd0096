-- There are at most 64 blocks.
use Rattle.std.proofs.Common.{arith}
use Rattle.taskfile.proofs.Accepted.{few-blocks}
use Rattle.picture.proofs.collect_blocks.Goals as goal

pub overflow_add-from : goal.overflow_add-from
overflow_add-from g c = omega (arith, few-blocks c.args.file.now c.requires.0)
