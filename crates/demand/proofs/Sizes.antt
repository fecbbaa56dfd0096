-- How large a total can be: no task has more instants up to t than t, so its demand is below 2^48, and there are at most 16 of them. Assumes nothing.
use Prim.Native.Nat.{ℕ, ◌-◌, ◌*◌, ◌≤◌, ◌<◌}
use mathlib.Core.Path.{◌≡◌}
use mathlib.Core.Bool.{true, and-eq-true_iff}
use mathlib.Core.Logic.{by_cases}
use mathlib.Core.List.{List, [], ◌∷◌}
use native.Mathlib.Decide.{dec_lt}
use native.Mathlib.Nat.{le_trans, mul-le-mul_left, mul-le-mul_right, div-le_self}
use native.Mathlib.Omega.{arith}
use lib.ListN.{length}
use Rattle.demand.specs.Demand.{most_ticks, jobs, demand, demands, total}
use Rattle.demand.specs.Calls.{right_task, right_tasks}
use Rattle.demand.specs.Statements.{TotalFits}
use Rattle.demand.specs.declared.TaskRecord.{TaskRecord}
use Rattle.demand.proofs.Jobs.{jobs-none, jobs-some}
use Rattle.demand.proofs.Ranges.{Ranges, task-ranges}
use Rattle.demand.proofs.Visits.{blocking-most}

jobs-most : (τ : TaskRecord) (t : ℕ) → 0 < τ.deadline → jobs τ t ≤ t
jobs-most τ t l =
    by_cases (dec_lt t τ.deadline) (λ u. omega (arith, jobs-none τ t u))
    (λ u. omega (arith, jobs-some τ t (omega arith), div-le_self (t - τ.deadline) τ.period))

demand-most : (τ : TaskRecord) (t : ℕ) → Ranges τ → t ≤ most_ticks → demand τ t ≤ most_ticks * most_ticks
unfolding demand
demand-most τ t r l =
    le_trans (mul-le-mul_left τ.execution (le_trans (jobs-most τ t r.deadline.0) l)) (mul-le-mul_right most_ticks r.execution)

demands-most : (τs : List TaskRecord) (t : ℕ) → right_tasks τs ≡ true → t ≤ most_ticks → demands τs t ≤ length τs * (most_ticks * most_ticks)
unfolding demands right_tasks
demands-most [] t h l = omega arith
demands-most (τ ∷ τs) t h l =
    let both = (and-eq-true_iff (right_task τ) (right_tasks τs)).0 h in
    omega (arith, demand-most τ t (task-ranges τ both.0) l, demands-most τs t both.1 l)

pub total-fits : TotalFits
unfolding total
total-fits τs t h few l = omega (arith, demands-most τs t h l, blocking-most τs t h)
