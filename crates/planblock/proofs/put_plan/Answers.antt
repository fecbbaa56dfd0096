-- `planblock::put_plan` meets its contract, by its two tests.
use mathlib.Core.Path.{sym, ◌∙◌}
use native.Mathlib.Omega.{arith}
use Rattle.planblock.proofs.Storing.{put-fits, put-longer, put-many}
use Rattle.planblock.proofs.put_plan.Goals as goal

pub returns-then-plan-le63 : goal.returns-then-plan-le63
returns-then-plan-le63 c =
    c.put_block.ensures ∙ sym (put-fits c.args.plan c.args.out.now (omega arith) (omega arith))

pub returns-else-plan-le63 : goal.returns-else-plan-le63
returns-else-plan-le63 c =
    sym (put-many c.args.plan c.args.out.now c.if-plan-le63.false)

pub returns-else-out-eq512 : goal.returns-else-out-eq512
returns-else-out-eq512 c = sym (put-longer c.args.plan c.args.out.now c.if-out-eq512.false)
