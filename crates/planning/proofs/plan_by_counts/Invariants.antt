-- `planning::plan_by_counts` meets its contract. The loop's invariant: the arrays hold the choices of the edges from a on.
use Rattle.model.specs.Task.{block_count}
use Rattle.model.specs.Regions.{region_lines, region_fits, region_cost}
use Rattle.placement.proofs.Rows.{Chosen}
use Rattle.taskfile.specs.File.{task_of}
use Rattle.planning.proofs.plan_by_counts.Given as goal

abbrev pub invariant-loop-a : goal.invariant-loop-a
invariant-loop-a l =
    let t = task_of l.file in
    Chosen (region_fits t) (region_cost t) (region_lines t) (block_count t) l.a l.costs l.nexts l.lines
