-- `planning::choose` meets its contract. The loop's invariant: the region is that from edge a, and the choice is of the edges up to its end.
-- Where the next region is above the limit, so are all longer ones, and the choice is of all edges.
use Prim.Native.Nat.{◌-◌, ◌≤◌}
use mathlib.Core.Path.{◌≡◌}
use Rattle.model.specs.Regions.{region_lines, region_fits, region_cost}
use Rattle.placement.specs.Rows.{Tried}
use Rattle.taskfile.specs.File.{task_of}
use Rattle.regions.specs.Measures.{Counted}
use Rattle.planning.proofs.choose.Given as goal

abbrev pub invariant-loop-region : goal.invariant-loop-region
invariant-loop-region l =
    let t = task_of l.file in
    Counted t l.region × (l.region.from ≡ l.a) × (l.region.to ≤ l.n) × Tried (region_fits t) (region_cost t) (region_lines t) l.costs l.lines l.n l.a l.region.to l.choice

abbrev pub decreases-loop-region : goal.decreases-loop-region
decreases-loop-region l = l.n - l.region.to
