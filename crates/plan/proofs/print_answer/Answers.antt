-- A file that is planned was accepted, and the plan's list is well formed.
use Rattle.planner.proofs.Planned.{plan-accepted, plan-right}
use Rattle.plan.proofs.print_answer.Goals as goal

pub print_plan-requires : goal.print_plan-requires
print_plan-requires g c =
    let answer = rw c.in-Ok.is at c.plan.ensures.plan_answer in
    (plan-accepted _ _ answer, plan-right _ _ answer)
