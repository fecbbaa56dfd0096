-- `enumerating::evaluate_regions` meets its contract. The loop's invariant: the table holds the
-- regions from the edges below a.
use Rattle.std.proofs.Common.{◌≡◌, ◌+◌, ◌*◌, refl, arith}
use Rattle.taskfile.specs.File.{task_of}
use Rattle.enumerating.proofs.Filling.{table_none, table_same}
use Rattle.enumerating.proofs.evaluate_regions.Goals as goal

pub count_new_lines-requires : goal.count_new_lines-requires
count_new_lines-requires c = (c.requires.0, refl)

pub block_count-n-requires : goal.block_count-n-requires
block_count-n-requires c = c.requires.0

pub loop-a-init : goal.loop-a-init
loop-a-init c = table_none (task_of c.args.file.now)

pub evaluate_row-requires : goal.evaluate_row-requires
evaluate_row-requires c =
    record { new_lines = (c.count_new_lines.ensures, c.requires.1, omega arith); table_before = c.loop-a.invariant }

pub loop-a-preserved : goal.loop-a-preserved
loop-a-preserved c =
    let next : 17 * c.loop-a.a + 17 ≡ 17 * (c.loop-a.a + 1) = omega arith in rw next at c.evaluate_row.ensures

pub returns : goal.returns
returns c = table_same c.requires.1 (omega (arith, c.requires.1)) (λ x y h k m. omega (arith, c.requires.1)) c.loop-a.invariant
