-- Of the preempters nothing but their lines matters (document 02, item 7): U, the search, regions,
-- pricing, planning and replay, from C too, answer alike on two files that differ in their preempters
-- alone, refusals and places included; charges do where each preempter's own lines are the same (item 10).
-- The left sides are what the calls' contracts cite. Assumes nothing.
use Rattle.model.specs.declared.Refusal.{Refusal}
use Rattle.std.specs.Prelude.{ℕ, ◌≡◌, List, length, Result, Ok}
use Rattle.model.specs.Task.{Preempter, with_preempters}
use Rattle.model.specs.Lines.{evicted}
use Rattle.model.specs.declared.Plan.{Plan}
use Rattle.model.specs.Answers.{accept}
use Rattle.block.specs.Bytes.{Each}
use Rattle.taskfile.specs.File.{task_of, file_of, IsAccepted, EntryWithin}
use Rattle.planner.specs.Calls.{edge_verdict, useful_words, next_read_of, looked_of, region_verdict, loaded_words, length_of, price_verdict, price_lines, price_cost, price_charges, block_verdict, block_place, block_plan, PlanAnswer, plan_charges}
use Rattle.replaying.specs.Calls.{replay_verdict, misses_alone_of, misses_with_of}
use Rattle.firmware.specs.Calls.{PlanCall, price_returned, price_left}
use Rattle.samelines.specs.Files.{SameLines, SameEach}

-- an answer is the same for both files, as a function of whatever else is handed in
abbrev pub Alike : {A : Type 0} → (List ℕ → A) → Type 0
Alike answer = (file other : List ℕ) → SameLines file other → answer file ≡ answer other

-- U(k), for every k
abbrev pub UsefulAlike : Type 0
UsefulAlike = Alike edge_verdict × Alike useful_words

-- the search, for every line and k
abbrev pub SearchAlike : Type 0
SearchAlike = Alike edge_verdict × Alike next_read_of × Alike looked_of

-- a region's loaded lines and its length, for every a and b
abbrev pub RegionAlike : Type 0
RegionAlike = Alike region_verdict × Alike loaded_words × Alike length_of

-- pricing, for every list
abbrev pub PriceAlike : Type 0
PriceAlike = Alike price_verdict × Alike price_lines × Alike price_cost

-- pricing the points of a plan block, for every block
abbrev pub BlockAlike : Type 0
BlockAlike = Alike block_verdict × Alike block_place × Alike block_plan

-- a replay, for every list
abbrev pub ReplayAlike : Type 0
ReplayAlike = Alike replay_verdict × Alike misses_alone_of × Alike misses_with_of

-- pricing from C, for every pair of blocks that are lent
abbrev pub PriceCallAlike : Type 0
PriceCallAlike = Alike price_returned × Alike price_left

-- planning: what is right for the one is right for the other
abbrev pub PlanAlike : Type 0
PlanAlike = (file other : List ℕ) → SameLines file other → (r : Result Plan Refusal) → PlanAnswer file r → PlanAnswer other r

-- so the two answers are equal (document 02, item 1)
abbrev pub PlansEqual : Type 0
PlansEqual =
    (file other : List ℕ) → SameLines file other → (r s : Result Plan Refusal) → PlanAnswer file r → PlanAnswer other s → r ≡ s

-- planning from C: what may be returned and left for the one may be for the other
abbrev pub PlanCallAlike : Type 0
PlanCallAlike =
    (file other : List ℕ) → SameLines file other → (block : List ℕ) (r : ℕ) (left : List ℕ) → PlanCall file block r left → PlanCall other block r left

-- so equal numbers are returned and equal bytes left, where equal blocks are lent
abbrev pub PlanCallsEqual : Type 0
PlanCallsEqual =
    (file other : List ℕ) → SameLines file other → (block : List ℕ) (r s : ℕ) (left right : List ℕ) → PlanCall file block r left → PlanCall other block s right
    → (r ≡ s) × (left ≡ right)

-- the numbers are free: any M preempters that fit a file and touch the lines of a file's own can take their place
abbrev pub Replaced : Type 0
Replaced =
    (file : List ℕ) (ps : List Preempter) → IsAccepted file → length ps ≡ length (task_of file).preempters
    → Each (λ p. EntryWithin p.id p.reads) ps → ((c : ℕ) → evicted (task_of file) c ≡ evicted (with_preempters (task_of file) ps) c)
    → SameLines file (file_of (with_preempters (task_of file) ps))

-- where each preempter touches the same lines, all together do: so all the above holds
abbrev pub EachTogether : Type 0
EachTogether = (file other : List ℕ) → SameEach file other → SameLines file other

-- and then the charges of pricing are equal, for every list and refusal
abbrev pub PriceChargesAlike : Type 0
PriceChargesAlike = (file other : List ℕ) → SameEach file other → price_charges file ≡ price_charges other

-- and those of planning
abbrev pub PlanChargesAlike : Type 0
PlanChargesAlike =
    (file other : List ℕ) → SameEach file other → (p q : Plan) → PlanAnswer file (Ok p) → PlanAnswer other (Ok q)
    → plan_charges file p ≡ plan_charges other q

-- it is not enough that the preempters together touch the same lines: two files and a list whose charges differ
pub record ChargesApart : Type 0 where
  pub file : List ℕ
  pub other : List ℕ
  pub points : List ℕ
  pub same_lines : SameLines file other
  pub priced : price_verdict file points ≡ accept
  pub apart : price_charges file points ≡ price_charges other points → ⊥
