-- `enumerating::evaluate_regions` meets its contract. The loop's invariant: the table holds the
-- regions from the edges below a.
use Rattle.std.proofs.Common.{◌*◌}
use Rattle.taskfile.specs.File.{task_of}
use Rattle.enumerating.specs.Table.{TableBefore}
use Rattle.enumerating.proofs.evaluate_regions.Given as goal

abbrev pub invariant-loop-a : goal.invariant-loop-a
invariant-loop-a l = TableBefore (17 * l.a) (task_of l.file) l.table
