-- `planning::plan_along` meets its contract: the mark at edge 0 says that no list fits, and else the choices lead along the first of least cost.
use Prim.Native.Nat.{◌≤◌, ◌<◌}
use native.Mathlib.Omega.{arith}
use Rattle.model.specs.Task.{block_count}
use Rattle.taskfile.specs.File.{task_of}
use Rattle.taskfile.proofs.Accepted.{accepted, block-count, few-blocks}
use Rattle.placement.specs.Rows.{Followed}
use Rattle.placement.proofs.Rows.{rows-rise}
use Rattle.planning.proofs.Plans.{few, none-planned, list-planned, list-lines-fit}
use Rattle.planning.proofs.plan_along.Goals as goal
use Rattle.planning.proofs.plan_along.Goals.{After-follow-list, Start}

module _ (c : Start) where
  positive : 0 < block_count (task_of c.args.file.now)
  positive = omega (arith, block-count c.args.file.now, (accepted c.args.file.now c.requires.0).blocks-least)

  most : block_count (task_of c.args.file.now) ≤ 64
  most = few-blocks c.args.file.now c.requires.0

followed : (c : goal.After-follow-list)
    → let args = c.args in
    Followed args.nexts.now (block_count (task_of args.file.now)) c.follow-list.result.count c.follow-list.result.points
followed c = rw c.block_count.ensures.0 at c.follow-list.ensures

pub returns-then-cost : goal.returns-then-cost
returns-then-cost c =
    let file = c.args.file.now in
    none-planned (task_of file) (positive (goal.at.returns-then-cost c).Start) (most (goal.at.returns-then-cost c).Start) c.requires.1 c.if-cost.true

pub follow-list-requires : goal.follow-list-requires
follow-list-requires c =
    (c.block_count.ensures.1, c.block_count.ensures.2, rw c.block_count.ensures.0 (rows-rise c.requires.1))

pub plan_of-requires : goal.plan_of-requires
plan_of-requires c = (
  c.requires.0,
  few (task_of c.args.file.now) (positive (goal.at.plan_of-requires c).Start) (most (goal.at.plan_of-requires c).Start) c.requires.1 c.follow-list.result.count c.follow-list.result.points c.if-cost.false (followed (goal.at.plan_of-requires c).After-follow-list),
  list-lines-fit (task_of c.args.file.now) (positive (goal.at.plan_of-requires c).Start) (most (goal.at.plan_of-requires c).Start) c.requires.1 c.follow-list.result.count c.follow-list.result.points c.if-cost.false (followed (goal.at.plan_of-requires c).After-follow-list),
)

pub returns : goal.returns
returns c =
    rw c.plan_of.ensures
    (list-planned (task_of c.args.file.now) (positive (goal.at.returns c).Start) (most (goal.at.returns c).Start) c.requires.1 c.follow-list.result.count c.follow-list.result.points c.if-cost.false (followed (goal.at.returns c).After-follow-list))
