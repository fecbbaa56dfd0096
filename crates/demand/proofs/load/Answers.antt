-- `demand::load` meets its contract. The loop's invariant: the set is what the records read so far make.
use Rattle.std.proofs.Common.{◌∙◌}
use Rattle.demand.proofs.Loaded.{loaded-none, loaded-more}
use Rattle.demand.proofs.load.Goals as goal

pub loop-task-init : goal.loop-task-init
loop-task-init c = c.no_tasks-set.ensures ∙ loaded-none _

pub loop-task-preserved : goal.loop-task-preserved
loop-task-preserved c = rw c.loop-task.invariant at c.with_task-set.ensures ∙ loaded-more _ _
