-- `joining::joined_preempters` meets its contract.
use Rattle.std.proofs.Common.{arith}
use Rattle.taskfile.specs.File.{task_of}
use Rattle.joining.proofs.Tasks.{preempters-joined}
use Rattle.joining.proofs.joined_preempters.Goals as goal

pub returns : goal.returns
returns c = (omega (arith, preempters-joined (task_of c.args.first.now) (task_of c.args.second.now), c.preempter_count.ensures, c.preempter_count-2.ensures), omega (arith, c.preempter_count.ensures, c.preempter_count-2.ensures))
