-- The search for the next fitting list (document 02, item 12), over any fit, lines and cost of a
-- region; n is the number of blocks. Assumes nothing.
use Rattle.std.specs.Prelude.{ℕ, ◌-◌, ◌^◌, Bool, cond, not, None, Option, Some}
use Rattle.model.specs.Task.{Task, block_count}
use Rattle.model.specs.Lists.{lowest_from, list_fits, list_cost}
use Rattle.model.specs.Regions.{region_lines, region_fits, region_cost}
use Rattle.enumerating.specs.Numbers.{list_of}
use Rattle.enumerating.specs.declared.FittingList.{FittingList}

-- the list of number m does not fit
abbrev pub passed_over : (ℕ → ℕ → Bool) → ℕ → ℕ → Bool
passed_over fit n m = not (list_fits fit n (list_of n m))

-- the lowest number at or above the start, below 2 ^ (n - 1), whose list fits
unfoldable pub next_number : (ℕ → ℕ → Bool) → ℕ → ℕ → Option ℕ
next_number fit n start = lowest_from (passed_over fit n) start (2 ^ (n - 1) - start)

-- number m with the lines and the cost of its list
unfoldable pub entry_of : (lines cost : ℕ → ℕ → ℕ) → ℕ → ℕ → FittingList
entry_of lines cost n m = record { number = m; lines = list_cost lines n (list_of n m); cost = list_cost cost n (list_of n m) }

-- what is found at a place: no more lists, or the list of that number
abbrev pub found_at : (ℕ → FittingList) → Option ℕ → Option FittingList
found_at entry None = None
found_at entry (Some m) = Some (entry m)

-- the next fitting list
abbrev pub next_found : (ℕ → ℕ → Bool) → (lines cost : ℕ → ℕ → ℕ) → ℕ → ℕ → Option FittingList
next_found fit lines cost n start = found_at (entry_of lines cost n) (next_number fit n start)

-- the next fitting list of a task
abbrev pub next_in : Task → ℕ → Option FittingList
next_in t start = next_found (region_fits t) (region_lines t) (region_cost t) (block_count t) start

-- the list of number m if it fits
abbrev pub if_fitting : (ℕ → ℕ → Bool) → (lines cost : ℕ → ℕ → ℕ) → ℕ → ℕ → Option FittingList
if_fitting fit lines cost n m = cond (list_fits fit n (list_of n m)) (Some (entry_of lines cost n m)) None
