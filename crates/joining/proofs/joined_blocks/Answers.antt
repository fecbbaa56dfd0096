-- `joining::joined_blocks` meets its contract.
use Rattle.std.proofs.Common.{arith}
use Rattle.taskfile.specs.File.{task_of}
use Rattle.joining.proofs.Tasks.{count-joined}
use Rattle.joining.proofs.joined_blocks.Goals as goal

pub returns : goal.returns
returns c = (omega (arith, count-joined (task_of c.args.first.now) (task_of c.args.second.now), c.block_count.ensures, c.block_count-2.ensures), omega (arith, c.block_count.ensures, c.block_count-2.ensures))
