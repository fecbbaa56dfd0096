-- What planning answers for a task (document 01, "Stretches and price" and demand 3; document 02, item 1): the first of the fitting lists of
-- least cost, and the rest of the plan follows from the list. Assumes nothing.
use Rattle.std.specs.Prelude.{ℕ, ◌-◌, ◌≡◌, ◌⊎◌, List, ◌++◌, length, take, replicate, Err, Ok, Result}
use Rattle.model.specs.Task.{Task, block_count}
use Rattle.model.specs.Regions.{lines, cost, FirstBest, NoPlacementFits}
use Rattle.model.specs.declared.Plan.{Plan}
use Rattle.model.specs.declared.Refusal.{Refusal}
use Rattle.model.specs.declared.Refusal.TheVariants.{NoPlacement}

-- the list of points that a plan holds
abbrev pub chosen : Plan → List ℕ
chosen p = take p.count p.points

-- the plan of a list: the task's N and id, the list's count, lines and cost, and zeros beyond its points
unfoldable pub plan_for : Task → List ℕ → Plan
plan_for t ps =
    record {
      blocks = block_count t;
      id = t.header.id;
      count = length ps;
      lines = lines t ps;
      cost = cost t ps;
      points = ps ++ replicate (64 - length ps) 0;
    }

-- demand 3: planning answers a plan or refusal 6; a plan's list is well formed, fits, costs least among the fitting and is the first of those
-- that do, and the plan is that list's; 6 is given exactly when no list fits
pub record Planned (t : Task) (r : Result Plan Refusal) : Type 0 where
  pub answers : ((p : Plan) × (r ≡ Ok p)) ⊎ (r ≡ Err NoPlacement)
  pub best : (p : Plan) → r ≡ Ok p → FirstBest t (chosen p)
  pub follows : (p : Plan) → r ≡ Ok p → p ≡ plan_for t (chosen p)
  pub none-fits : r ≡ Err NoPlacement → NoPlacementFits t
  pub exactly : NoPlacementFits t → r ≡ Err NoPlacement
