-- What the calls return and leave. Each returns the number of its refusal and leaves the place, 0 and 0 where it accepts
-- (`verdict_number` and `verdict_place` of `model`); in the lent buffer it leaves numbers, eight bytes each. Assumes nothing.
use Rattle.std.specs.Prelude.{Ok, ℕ, ◌≡◌, List, [], ◌∷◌, length, None, Option, Some, Result, replicate, Err}
use Rattle.model.specs.Answers.{Verdict, verdict_number, verdict_place, on_accepted, and_then, output_row, accept}
use Rattle.model.specs.declared.Plan.{Plan}
use Rattle.block.specs.Bytes.{les}
use Rattle.planner.specs.Calls.{PlanAnswer, plan_charges}
use Rattle.tracing.specs.declared.Settings.{Settings}
use Rattle.enumerating.specs.declared.FittingList.{FittingList}
use Rattle.listing.specs.declared.NextList.{NextList}
use Rattle.listing.specs.declared.Points.{Points}
use Rattle.model.specs.declared.Refusal.{Refusal}
use Rattle.std.specs.Result.{result_unwrap_or}

-- the answer of a call that asks for a buffer of this size: 9 first
unfoldable pub probed : ℕ → Verdict → List ℕ → Verdict
probed size v out = and_then (output_row size (length out)) v

-- the buffer after it: the numbers, and on a refusal what it held
unfoldable pub left : ℕ → Verdict → List ℕ → List ℕ → List ℕ
left size v numbers out = on_accepted (probed size v out) (les 8 numbers) out

-- the numbers of a search: whether there is a next read, its number, and how many reads were looked at
abbrev pub next_numbers : Option ℕ → ℕ → List ℕ
next_numbers (Some m) looked = 1 ∷ m ∷ looked ∷ []
next_numbers None looked = 0 ∷ 0 ∷ looked ∷ []

-- whether a call accepts, whatever else it answers
abbrev pub verdict_of : {A : Type 0} → Result A Refusal → Verdict
verdict_of (Ok a) = accept
verdict_of (Err x) = Err x

-- the numbers of a plan: lines, cost and charges
abbrev pub plan_numbers : List ℕ → Result Plan Refusal → List ℕ
plan_numbers file (Ok p) = p.lines ∷ p.cost ∷ plan_charges file p
plan_numbers file (Err x) = []

-- what the call of planning returns and leaves: the numbers of a plan that is right for the file, or a refusal that is
pub record PlanLeft (file out : List ℕ) (r place : ℕ) (after : List ℕ) : Type 0 where
  pub answered : Result Plan Refusal
  pub answer : PlanAnswer file answered
  pub number_is : r ≡ verdict_number (probed 272 (verdict_of answered) out)
  pub place_is : place ≡ verdict_place (probed 272 (verdict_of answered) out)
  pub left_is : after ≡ left 272 (verdict_of answered) (plan_numbers file answered) out

-- a trace's size, g, ticks, S, Q, R and id
abbrev pub settings_of : ℕ → ℕ → ℕ → ℕ → ℕ → ℕ → ℕ → Settings
settings_of size group ticks lines limit reload id =
    record { size = size; group = group; ticks = ticks; line_count = lines; limit = limit; reload = reload; id = id }

-- the numbers of the next fitting list: whether there is one, its number, its lines and its cost, how many points it has, and one of them
abbrev pub list_numbers : Option FittingList → ℕ → ℕ → List ℕ
list_numbers None count point = 0 ∷ 0 ∷ 0 ∷ 0 ∷ count ∷ point ∷ []
list_numbers (Some l) count point = 1 ∷ l.number ∷ l.lines ∷ l.cost ∷ count ∷ point ∷ []

-- the points of the next list, none where there is none
abbrev pub points_in : Option NextList → Points
points_in None = record { count = 0; points = replicate 16 0 }
points_in (Some found) = found.points

-- the numbers of a test of deadlines: whether one is missed, and the first time that fails
abbrev pub deadlines_numbers : Option ℕ → List ℕ
deadlines_numbers None = 0 ∷ 0 ∷ []
deadlines_numbers (Some t) = 1 ∷ t ∷ []

-- what a test of deadlines returns and leaves, a place and bytes, in a buffer of 16 bytes
abbrev pub DeadlinesLeft : Result (Option ℕ) Refusal → List ℕ → ℕ → ℕ → List ℕ → Type 0
DeadlinesLeft a out returned place bytes =
    (returned ≡ verdict_number (probed 16 (verdict_of a) out)) × (place ≡ verdict_place (probed 16 (verdict_of a) out))
    × (bytes ≡ left 16 (verdict_of a) (deadlines_numbers (result_unwrap_or a None)) out)
