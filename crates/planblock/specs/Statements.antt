-- What is shown of plan blocks beside the contracts: storing and reading undo one another (document 01, "Stretches and price": two calls
-- store and read a plan block). Assumes nothing.
use Rattle.std.specs.Prelude.{ℕ, ◌≡◌, List, length}
use Rattle.model.specs.Answers.{accept}
use Rattle.model.specs.declared.Plan.{Plan}
use Rattle.planblock.specs.Plans.{plan_of, read_verdict, store_verdict, stored, PlanFits}

-- what was stored is read, as the plan that was stored
abbrev pub StoredReads : Type 0
StoredReads = (p : Plan) (out : List ℕ) → PlanFits p → store_verdict p out ≡ accept → (read_verdict (stored p out) ≡ accept) × (plan_of (stored p out) ≡ p)

-- what was read is stored, as the bytes that were read
abbrev pub ReadStores : Type 0
ReadStores =
    (bs out : List ℕ) → read_verdict bs ≡ accept → length out ≡ 512 → (store_verdict (plan_of bs) out ≡ accept) × (stored (plan_of bs) out ≡ bs)
