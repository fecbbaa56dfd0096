-- `firmware::preempt_plan` meets its contract: 9 for the block, and else what the planner answered.
use mathlib.Core.Path.{◌≡◌, sym, subst, ◌∙◌}
use native.Mathlib.Omega.{arith}
use lib.ListN.{length}
use Rattle.std.specs.Prelude.{Result}
use Rattle.model.specs.Answers.{accept, output_row}
use Rattle.model.specs.declared.Plan.{Plan}
use Rattle.model.specs.declared.Refusal.{Refusal}
use Rattle.model.proofs.Verdicts.{output-size}
use Rattle.planner.specs.Calls.{PlanAnswer}
use Rattle.firmware.proofs.Calls.{plan-most, plan-stores, plan-output, plan-refuses, plan-leaves}
use Rattle.firmware.proofs.preempt_plan.Goals as goal
use Rattle.firmware.proofs.preempt_plan.Goals.{After-least_plan}

-- the block is of 512 bytes
row : (c : goal.After-least_plan) → output_row 512 (length c.args.block.now) ≡ accept
row c = sym c.check_output.ensures ∙ c.in_default.is

answered : (c : goal.After-least_plan) (r : Result Plan Refusal) → c.least_plan.result ≡ r → PlanAnswer c.args.file.now r
answered c r e = let P : Result Plan Refusal → Type 0 = λ s. PlanAnswer c.args.file.now s in subst P e c.least_plan.ensures

pub returns-in-Err : goal.returns-in-Err
returns-in-Err c = plan-output c.args.file.now c.args.block.now _ _ (sym c.check_output.ensures ∙ c.in-Err.is) c.returned.ensures

pub leave-requires : goal.leave-requires
leave-requires c =
    let here = (goal.at.leave-requires c).After-least_plan in
    (output-size _ _ (row here), plan-stores c.args.file.now _ (answered here _ c.in-Ok.is))

pub returned-requires-in-Err-least_plan : goal.returned-requires-in-Err-least_plan
returned-requires-in-Err-least_plan c =
    let here = (goal.at.returned-requires-in-Err-least_plan c).After-least_plan in
    omega (arith, c.place.ensures, plan-most c.args.file.now _ (answered here _ c.in-Err-least_plan.is))

pub returns-in-Ok : goal.returns-in-Ok
returns-in-Ok c =
    let here = (goal.at.returns-in-Ok c).After-least_plan in
    rw c.leave.ensures.value
    (plan-leaves c.args.file.now c.args.block.now (row here) _ _ (answered here _ c.in-Ok.is) c.leave.ensures.block_after)

pub returns-in-Err-least_plan : goal.returns-in-Err-least_plan
returns-in-Err-least_plan c =
    let here = (goal.at.returns-in-Err-least_plan c).After-least_plan in
    rw (c.returned-in-Err-least_plan.ensures, c.place.ensures)
    (plan-refuses c.args.file.now c.args.block.now (row here) _ (answered here _ c.in-Err-least_plan.is))
