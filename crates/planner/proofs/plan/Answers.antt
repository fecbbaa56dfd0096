-- `planner::plan` meets its contract: the plan's own list is charged.
use mathlib.Core.Path.{subst}
use Rattle.std.specs.Prelude.{Result, Ok}
use Rattle.model.specs.declared.Plan.{Plan}
use Rattle.model.specs.declared.Refusal.{Refusal}
use Rattle.planner.specs.Calls.{PlanAnswer, plan_charges}
use Rattle.planner.proofs.Planned.{plan-accepted, plan-right, count-chosen, plan-count}
use Rattle.planner.proofs.plan.Goals as goal
use Rattle.planner.proofs.plan.Goals.{In_ok-plan}

answer : (c : goal.In_ok-plan) → PlanAnswer c.args.file.now (Ok c.in_ok-plan.plan)
answer c = let P : Result Plan Refusal → Type 0 = λ r. PlanAnswer c.args.file.now r in subst P c.in_ok-plan.was c.least_plan.ensures

pub slice_bounds-points-end : goal.slice_bounds-points-end
slice_bounds-points-end c = plan-count _ _ (answer (goal.at.slice_bounds-points-end c).In_ok-plan)

pub slice_bounds-charges_of-end : goal.slice_bounds-charges_of-end
slice_bounds-charges_of-end c = count-chosen _ _ (answer (goal.at.slice_bounds-charges_of-end c).In_ok-plan)

pub charges_of-charges-requires : goal.charges_of-charges-requires
charges_of-charges-requires c =
    let given = answer (goal.at.charges_of-charges-requires c).In_ok-plan in
    (plan-accepted _ _ given, plan-right _ _ given)

pub returns-clause-charges_value : goal.returns-clause-charges_value
unfolding plan_charges
returns-clause-charges_value c = c.charges_of-charges.ensures
