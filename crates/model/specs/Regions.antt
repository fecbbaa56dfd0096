-- Regions of a task (document 01, "Stretches and price"; document 02, items 3, 9 and 14). Assumes nothing.
use Rattle.std.specs.Prelude.{ℕ, zero, suc, ◌+◌, ◌-◌, ◌*◌, Bool, false, cond, not, ◌&&◌, ◌||◌, List, eqb, leb, Option}
use Rattle.model.specs.Sets.{Lines, size}
use Rattle.model.specs.Task.{Task, block_count, second_limit}
use Rattle.model.specs.Lines.{useful, accessed, evicted, block_at}
use Rattle.model.specs.Lists.{regions, total, lowest, list_fits, list_cost, LeastCost, FirstOfLeast, NoneFits}

-- the union of s(a + 1) to s(a + n)
unfoldable pub union_after : (ℕ → Lines) → ℕ → ℕ → Lines
union_after s a zero c = false
union_after s a (suc n) c = union_after s a n c || s (a + suc n) c

-- the sum of the times of the n basic blocks after edge a
unfoldable pub time_after : Task → ℕ → ℕ → ℕ
time_after t a zero = 0
time_after t a (suc n) = time_after t a n + (block_at t (a + n)).time

-- loaded(a, b): useful at a, evicted, and accessed in the region. Document 02 changed 004's equation 8, which asks that a line is still useful
-- after the block that reads it: a line that is read for the last time is fetched again too
unfoldable pub loaded : Task → ℕ → ℕ → Lines
loaded t a b c = useful t a c && evicted t c && union_after (accessed t) a (b - a) c

-- the lines that a region reloads
unfoldable pub region_lines : Task → ℕ → ℕ → ℕ
region_lines t a b = size (loaded t a b)

-- the lines that the region from a loads first in block b: those of loaded(a, b) that loaded(a, b - 1) has not
unfoldable pub new_lines : Task → ℕ → ℕ → ℕ
new_lines t a b = size (λ c. loaded t a b c && not (loaded t a (b - 1) c))

-- the ticks of the switch at edge a: G at a point, and none at edge 0, where the task starts (document 02, item 14)
unfoldable pub switch_ticks : Task → ℕ → ℕ
switch_ticks t a = cond (eqb a 0) 0 t.header.switch

-- what a region costs (document 01's price): R for each loaded line, and the switch that it starts with
unfoldable pub region_cost : Task → ℕ → ℕ → ℕ
region_cost t a b = t.header.reload * region_lines t a b + switch_ticks t a

-- the length of a region: its times, and what it costs
unfoldable pub region_length : Task → ℕ → ℕ → ℕ
region_length t a b = time_after t a (b - a) + region_cost t a b

-- the sampler is armed in one of the n basic blocks after edge a
unfoldable pub armed_after : Task → ℕ → ℕ → Bool
armed_after t a zero = false
armed_after t a (suc n) = armed_after t a n || (block_at t (a + n)).armed

-- a region is within Q, and within Q2 too if the sampler is armed in one of its blocks (document 02, item 9)
unfoldable pub region_fits : Task → ℕ → ℕ → Bool
region_fits t a b =
    let within = leb (region_length t a b) in
    within t.header.limit && (not (armed_after t a (b - a)) || within (second_limit t))

-- a list's lines: a line that two regions reload counts twice
abbrev pub lines : Task → List ℕ → ℕ
lines t ps = total (region_lines t) (regions (block_count t) 0 ps)

-- a list's cost; it is R times its lines and G times its points (CostOfLines)
abbrev pub cost : Task → List ℕ → ℕ
cost t ps = list_cost (region_cost t) (block_count t) ps

abbrev pub fits : Task → List ℕ → Bool
fits t ps = list_fits (region_fits t) (block_count t) ps

-- the lowest region that does not fit
abbrev pub region_above : Task → List ℕ → Option ℕ
region_above t ps = lowest (region_fits t) 0 (regions (block_count t) 0 ps)

-- demand 3 for a task: this list is well formed, fits, and costs least among the fitting; several may
abbrev pub BestList : Task → List ℕ → Type 0
BestList t ps = LeastCost (block_count t) (region_fits t) (region_cost t) ps

-- and it is the first of those: the list that planning gives (document 02, item 1)
abbrev pub FirstBest : Task → List ℕ → Type 0
FirstBest t ps = FirstOfLeast (block_count t) (region_fits t) (region_cost t) ps

-- refusal 6 for a task
abbrev pub NoPlacementFits : Task → Type 0
NoPlacementFits t = NoneFits (block_count t) (region_fits t)
