-- What each public call answers to any bytes and numbers (document 01, "Stretches and price" and "Numbers given to the build"): refusals 1 to
-- 5 of the file first, then 7, then 6 or 8. Assumes nothing.
use Rattle.std.specs.Prelude.{Ok, ℕ, ◌≡◌, false, cond, ◌&&◌, List, leb, ltb, Err, None, Option, Result}
use Rattle.model.specs.Sets.{words}
use Rattle.model.specs.Task.{block_count}
use Rattle.model.specs.Lines.{next_read, reads_looked_at, as_next, useful}
use Rattle.model.specs.Regions.{loaded, region_length, lines, cost}
use Rattle.model.specs.Charges.{charges, no_charges}
use Rattle.model.specs.Answers.{Input, accept, Verdict, on_accepted, and_then, whose, place_of, pricing}
use Rattle.model.specs.Planning.{chosen, plan_for, Planned}
use Rattle.model.specs.declared.Refusal.{Refusal}
use Rattle.model.specs.declared.Refusal.TheVariants.{Argument}
use Rattle.model.specs.declared.Plan.{Plan}
use Rattle.taskfile.specs.File.{IsAccepted, verdict, task_of}
use Rattle.planblock.specs.Plans.{read_verdict, plan_of}
use Rattle.planner.specs.declared.ChargedPlan.{ChargedPlan}

-- the words of the set where a call refuses; no call hands it out
abbrev pub no_words : List ℕ
no_words = words (λ c. false)

-- a call on edge k: 7 at 0 for k above N
unfoldable pub edge_verdict : List ℕ → ℕ → Verdict
edge_verdict file k = and_then (verdict file) (cond (leb k (block_count (task_of file))) accept (Err (Argument 0)))

-- U(k)
unfoldable pub useful_words : List ℕ → ℕ → List ℕ
useful_words file k = on_accepted (edge_verdict file k) (words (useful (task_of file) k)) no_words

-- the search for the next read of a line after block k (document 02, item 2)
unfoldable pub next_read_of : List ℕ → ℕ → ℕ → Option ℕ
next_read_of file c k = on_accepted (edge_verdict file k) (as_next (next_read (task_of file) k c)) None

-- and how many reads it looks at
unfoldable pub looked_of : List ℕ → ℕ → ℕ → ℕ
looked_of file c k = on_accepted (edge_verdict file k) (reads_looked_at (task_of file) k c) 0

-- a region (a, b): 7 at 0 unless 0 ≤ a < b ≤ N
unfoldable pub region_verdict : List ℕ → ℕ → ℕ → Verdict
region_verdict file a b = and_then (verdict file) (cond (ltb a b && leb b (block_count (task_of file))) accept (Err (Argument 0)))

unfoldable pub loaded_words : List ℕ → ℕ → ℕ → List ℕ
loaded_words file a b = on_accepted (region_verdict file a b) (words (loaded (task_of file) a b)) no_words

unfoldable pub length_of : List ℕ → ℕ → ℕ → ℕ
length_of file a b = on_accepted (region_verdict file a b) (region_length (task_of file) a b) 0

-- pricing a list: 7 at its index, 8 at its region
unfoldable pub price_verdict : List ℕ → List ℕ → Verdict
price_verdict file ps = and_then (verdict file) (pricing (task_of file) ps)

unfoldable pub price_lines : List ℕ → List ℕ → ℕ
price_lines file ps = on_accepted (price_verdict file ps) (lines (task_of file) ps) 0

unfoldable pub price_cost : List ℕ → List ℕ → ℕ
price_cost file ps = on_accepted (price_verdict file ps) (cost (task_of file) ps) 0

-- what each preempter is charged of the lines (document 02, item 10)
unfoldable pub price_charges : List ℕ → List ℕ → List ℕ
price_charges file ps = on_accepted (price_verdict file ps) (charges (task_of file) ps) no_charges

-- pricing the points of a plan block: the file's refusals, then the block's own, then those of its points; the block's other fields are not
-- compared with the file
unfoldable pub block_verdict : List ℕ → List ℕ → Verdict
block_verdict file block = and_then (verdict file) (and_then (read_verdict block) (pricing (task_of file) (chosen (plan_of block))))

-- whose refusal that is: the block's own are a second input's; 7 and 8, of its points, keep their places
abbrev pub block_input : List ℕ → List ℕ → Input
block_input file block = whose (verdict file) (read_verdict block)

-- and its place: 97 is added to the block's own
unfoldable pub block_place : List ℕ → List ℕ → ℕ
block_place file block = place_of (block_input file block) (block_verdict file block)

-- the plan of its points, with the file's N and id
unfoldable pub block_plan : List ℕ → List ℕ → Plan
block_plan file block = plan_for (task_of file) (chosen (plan_of block))

-- planning: the file's refusal, or what planning answers for its task
pub record PlanAnswer (file : List ℕ) (r : Result Plan Refusal) : Type 0 where
  pub refused : (x : Refusal) → verdict file ≡ Err x → r ≡ Err x
  pub planned : IsAccepted file → Planned (task_of file) r

-- the plan of an answer with charges
abbrev pub plan_in : Result ChargedPlan Refusal → Result Plan Refusal
plan_in (Ok c) = Ok c.plan
plan_in (Err x) = Err x

-- and the charges: those of the list that the plan holds
unfoldable pub plan_charges : List ℕ → Plan → List ℕ
plan_charges file p = charges (task_of file) (chosen p)
