-- `probe::probe_plan` meets its contract: what the planner answers is left, lines, cost and charges, and a refusal leaves the buffer as it was.
use mathlib.Core.Path.{sym, subst}
use Rattle.std.specs.Prelude.{Result, Err}
use Rattle.model.specs.declared.Refusal.{Refusal}
use Rattle.planner.specs.Calls.{PlanAnswer, plan_in}
use Rattle.planner.specs.declared.ChargedPlan.{ChargedPlan}
use Rattle.probe.proofs.Left.{left-refused}
use Rattle.probe.proofs.probe_plan.Goals as goal

pub returns-in-Err : goal.returns-in-Err
returns-in-Err c =
    let P : Result ChargedPlan Refusal → Type 0 = λ r. PlanAnswer c.args.file.now (plan_in r) in
    record {
      answered = Err c.in-Err.refusal;
      answer = subst P c.in-Err.is c.plan.ensures.plan_answer;
      number_is = c.refuse.ensures.value;
      place_is = c.refuse.ensures.place_after;
      left_is = sym (left-refused _ _ _ _);
    }
