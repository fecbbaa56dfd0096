-- What the two C calls return, and what they leave in the lent block (document 01, "Stretches and price" and "Numbers given to the build").
-- A refusal leaves the block as it was. Assumes nothing.
use Rattle.std.specs.Prelude.{ℕ, ◌+◌, ◌*◌, ◌≡◌, ◌⊎◌, List, length, Err}
use Rattle.model.specs.Task.{Task}
use Rattle.model.specs.Regions.{FirstBest, NoPlacementFits}
use Rattle.model.specs.Answers.{accept, Verdict, place, verdict_number, on_accepted, and_then, output_row}
use Rattle.model.specs.Planning.{chosen, plan_for}
use Rattle.model.specs.declared.Refusal.{Refusal}
use Rattle.model.specs.declared.Refusal.TheVariants.{NoPlacement}
use Rattle.taskfile.specs.File.{verdict, task_of}
use Rattle.planblock.specs.Plans.{plan_bytes, plan_of}
use Rattle.planner.specs.Calls.{block_verdict, block_place}

-- what a call returns: 0, or the refusal's number times 65536 plus its place
abbrev pub returned : Verdict → ℕ → ℕ
returned v p = verdict_number v * 65536 + p

-- the first of the lists of points that fit and cost least, and its plan stored in the block
pub record StoredBest (t : Task) (left : List ℕ) : Type 0 where
  pub points : List ℕ
  pub best : FirstBest t points
  pub bytes : left ≡ plan_bytes (plan_for t points)

-- planning: what is looked at first, the block's length and then the file
abbrev pub plan_checks : List ℕ → List ℕ → Verdict
plan_checks file block = and_then (output_row 512 (length block)) (verdict file)

-- what it returns and leaves, of a file and the block's bytes
pub record PlanCall (file block : List ℕ) (r : ℕ) (left : List ℕ) : Type 0 where
  pub refused : (x : Refusal) → plan_checks file block ≡ Err x → (r ≡ returned (Err x) (place x)) × (left ≡ block)
  pub planned : plan_checks file block ≡ accept
      → (NoPlacementFits (task_of file) × (r ≡ returned (Err NoPlacement) 0) × (left ≡ block)) ⊎ (StoredBest (task_of file) left × (r ≡ 0))

-- pricing the points of a first block: the other block's length is looked at first
unfoldable pub price_call_verdict : List ℕ → List ℕ → List ℕ → Verdict
price_call_verdict file points block = and_then (output_row 512 (length block)) (block_verdict file points)

-- what it returns; 9 has place 0
unfoldable pub price_returned : List ℕ → List ℕ → List ℕ → ℕ
price_returned file points block =
    returned (price_call_verdict file points block) (on_accepted (output_row 512 (length block)) (block_place file points) 0)

-- and what it leaves: the plan of those points, with the file's N and id
unfoldable pub price_left : List ℕ → List ℕ → List ℕ → List ℕ
price_left file points block = on_accepted (price_call_verdict file points block) (plan_bytes (plan_for (task_of file) (chosen (plan_of points)))) block
