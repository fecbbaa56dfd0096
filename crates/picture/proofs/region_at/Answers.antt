-- The region is one of the list, and its lines are counted.
use Rattle.std.proofs.Common.{◌≡◌, ◌∷◌, ◌<◌, ◌≤◌, ◌∙◌, ap, arith, get_or}
use Rattle.model.specs.Task.{block_count}
use Rattle.taskfile.specs.File.{task_of}
use Rattle.taskfile.proofs.Accepted.{few-blocks}
use Rattle.pointlist.proofs.Points.{region-edges}
use Rattle.picture.proofs.region_at.Goals as goal
use Rattle.picture.proofs.region_at.Goals.{After-edge_after-to}

start : (c : After-edge_after-to) → c.edge_before-from.result ≡ get_or (0 ∷ c.args.points.now) c.args.i (block_count (task_of c.args.file.now))
start c = c.edge_before-from.ensures ∙ ap (get_or (0 ∷ c.args.points.now) c.args.i) c.block_count-n.ensures.0

end : (c : After-edge_after-to) → c.edge_after-to.result ≡ get_or c.args.points.now c.args.i (block_count (task_of c.args.file.now))
end c = c.edge_after-to.ensures ∙ ap (get_or c.args.points.now c.args.i) c.block_count-n.ensures.0

edges : (c : After-edge_after-to)
    → (c.args.i ≤ c.edge_before-from.result)
    × (c.edge_before-from.result < c.edge_after-to.result)
    × (c.edge_after-to.result ≤ block_count (task_of c.args.file.now))
edges c = rw (start c, end c) (region-edges _ _ (omega (arith, c.block_count-n.ensures)) c.requires.1 c.args.i c.requires.3)

pub bounds-lines-i : goal.bounds-lines-i
bounds-lines-i c =
    let at = edges (goal.at.bounds-lines-i c).After-edge_after-to in
    omega (arith, at.0, at.1, at.2, few-blocks c.args.file.now c.requires.0)

pub weigh_between-weighed-requires : goal.weigh_between-weighed-requires
weigh_between-weighed-requires c =
    let here = (goal.at.weigh_between-weighed-requires c).After-edge_after-to in
    let at = edges here in
    (c.requires.0, omega (arith, at.1), at.2, rw (start here, end here) (c.requires.2.loads c.args.i c.requires.3))

pub returns : goal.returns
returns c = let at = edges (goal.at.returns c).After-edge_after-to in (at.1, at.2)
