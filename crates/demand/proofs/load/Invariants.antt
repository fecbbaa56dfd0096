-- `demand::load` meets its contract. The loop's invariant: the set is what the records read so far make.
use Rattle.std.proofs.Common.{◌≡◌}
use Rattle.demand.specs.Loading.{loaded}
use Rattle.demand.proofs.load.Given as goal

abbrev pub invariant-loop-task : goal.invariant-loop-task
invariant-loop-task l = l.set ≡ loaded l.tasks l.task-index
