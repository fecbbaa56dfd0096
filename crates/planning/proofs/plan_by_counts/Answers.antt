-- `planning::plan_by_counts` meets its contract. The loop's invariant: the arrays hold the choices of the edges from a on.
use Prim.Native.Nat.{◌≤◌}
use mathlib.Core.Path.{◌≡◌}
use native.Mathlib.Omega.{arith}
use Rattle.placement.proofs.Rows.{chosen_none, chosen_more}
use Rattle.taskfile.proofs.Accepted.{few-blocks}
use Rattle.planning.proofs.plan_by_counts.Goals as goal
use Rattle.planning.proofs.plan_by_counts.Goals.{After-choose-choice}

pub block_count-a-requires : goal.block_count-a-requires
block_count-a-requires c = c.requires.accepted

pub loop-a-init : goal.loop-a-init
loop-a-init c = rw c.block_count-a.ensures.0 (chosen_none (few-blocks c.args.file.now c.requires.accepted))

pub choose-choice-requires : goal.choose-choice-requires
choose-choice-requires c = (c.requires, omega (arith, c.loop-a.invariant.edge))

below : (c : goal.After-choose-choice) → c.loop-a.a ≤ 64
below c =
    omega (arith, c.loop-a.invariant.edge, few-blocks c.args.file.now c.requires.accepted)

pub offset_bounds-costs-a : goal.offset_bounds-costs-a
offset_bounds-costs-a c = omega (arith, below (goal.at.offset_bounds-costs-a c).After-choose-choice)

pub bounds-costs-a : goal.bounds-costs-a
bounds-costs-a c = omega (arith, below (goal.at.bounds-costs-a c).After-choose-choice)

pub offset_bounds-nexts-a : goal.offset_bounds-nexts-a
offset_bounds-nexts-a c = omega (arith, below (goal.at.offset_bounds-nexts-a c).After-choose-choice)

pub bounds-nexts-a : goal.bounds-nexts-a
bounds-nexts-a c = omega (arith, below (goal.at.bounds-nexts-a c).After-choose-choice)

pub offset_bounds-lines-a : goal.offset_bounds-lines-a
offset_bounds-lines-a c = omega (arith, below (goal.at.offset_bounds-lines-a c).After-choose-choice)

pub bounds-lines-a : goal.bounds-lines-a
bounds-lines-a c = omega (arith, below (goal.at.bounds-lines-a c).After-choose-choice)

pub loop-a-preserved : goal.loop-a-preserved
loop-a-preserved c =
    let inv = c.loop-a.invariant in
    chosen_more _ _ (few-blocks c.args.file.now c.requires.accepted) (omega arith) (omega (arith, inv.edge)) inv c.choose-choice.ensures

pub plan_along-requires : goal.plan_along-requires
plan_along-requires c =
    let end : c.loop-a.a ≡ 0 = omega (arith, c.loop-a-test.false) in
    (c.requires.accepted, rw end at c.loop-a.invariant.rows)
