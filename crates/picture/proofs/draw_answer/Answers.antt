-- A file that is planned was accepted, and the plan's list is well formed.
use Rattle.planner.proofs.Planned.{plan-accepted, plan-right}
use Rattle.picture.proofs.draw_answer.Goals as goal

pub draw_plan-requires : goal.draw_plan-requires
draw_plan-requires g c =
    let answer = rw c.in-Ok.is at c.least_plan.ensures in
    (plan-accepted _ _ answer, plan-right _ _ answer)
