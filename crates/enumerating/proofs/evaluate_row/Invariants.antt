-- `enumerating::evaluate_row` meets its contract. The loop's invariant: the region starts at edge
-- a, and the table holds the regions up to its end.
use Prim.Native.Nat.{suc, ◌+◌, ◌-◌, ◌*◌, ◌≤◌}
use mathlib.Core.Path.{◌≡◌}
use Rattle.taskfile.specs.File.{task_of}
use Rattle.regions.specs.Measures.{Counted}
use Rattle.enumerating.specs.Table.{TableBefore}
use Rattle.enumerating.proofs.evaluate_row.Given as goal

abbrev pub invariant-loop-region : goal.invariant-loop-region
invariant-loop-region l =
    let t = task_of l.file in
    Counted t l.region × (l.region.from ≡ l.a) × (l.region.to ≤ l.n) × TableBefore (suc (17 * l.a + l.region.to)) t l.table

abbrev pub decreases-loop-region : goal.decreases-loop-region
decreases-loop-region l = l.n - l.region.to
