-- The region that is weighed is one of the list, and its lines are counted.
use Rattle.std.proofs.Common.{◌≡◌, ◌∙◌, ap, arith, get_or}
use Rattle.model.specs.Task.{block_count}
use Rattle.taskfile.specs.File.{task_of}
use Rattle.taskfile.proofs.Accepted.{few-blocks}
use Rattle.pointlist.proofs.Points.{region-edges}
use Rattle.report.proofs.print_regions.Goals as goal

pub bounds-lines-i : goal.bounds-lines-i
bounds-lines-i g c =
    let at = region-edges (block_count (task_of c.args.file.now)) c.args.points.now (omega (arith, c.block_count-n.ensures)) c.requires.1 c.loop-i.i (omega arith) in
    omega (arith, at.0, at.1, at.2, few-blocks c.args.file.now c.requires.0)

pub weigh_between-length-requires : goal.weigh_between-length-requires
weigh_between-length-requires g c =
    let at = region-edges (block_count (task_of c.args.file.now)) c.args.points.now (omega (arith, c.block_count-n.ensures)) c.requires.1 c.loop-i.i (omega arith) in
    let end : c.edge_after-b.result ≡ get_or c.args.points.now c.loop-i.i (block_count (task_of c.args.file.now)) =
    c.edge_after-b.ensures ∙ ap (get_or c.args.points.now c.loop-i.i) c.block_count-n.ensures.0 in (
      c.requires.0,
      rw (c.loop-i.invariant, end) (omega (arith, at.1)),
      rw end at.2,
      rw (c.loop-i.invariant, end) (c.count_lines.ensures.loads.loads c.loop-i.i (omega arith)),
    )
