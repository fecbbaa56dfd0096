-- Fit, lines and cost of the regions of a short task, in a table of 272 places: that of the
-- region from a to b stands at place 17 a + b. Assumes nothing.
use Rattle.std.specs.Prelude.{ℕ, ◌+◌, ◌*◌, ◌/◌, ◌%◌, ◌^◌, ◌≤◌, ◌<◌, ◌≡◌, Bool, false, cond, ◌&&◌, List, ltb, leb, length, get_or}
use Rattle.model.specs.Task.{Task, block_count}
use Rattle.model.specs.Regions.{region_lines, region_fits, region_cost}
use Rattle.enumerating.specs.declared.Table.{Table}

-- what a table holds of the region from a to b
abbrev pub fit_in : Table → ℕ → ℕ → Bool
fit_in table a b = get_or table.fits (17 * a + b) false

abbrev pub lines_in : Table → ℕ → ℕ → ℕ
lines_in table a b = get_or table.lines (17 * a + b) 0

abbrev pub cost_in : Table → ℕ → ℕ → ℕ
cost_in table a b = get_or table.costs (17 * a + b) 0

-- the entry at place i for n blocks: f of the region there, and zero where there is no region
unfoldable pub entry_at : {A : Type 0} → A → (ℕ → ℕ → A) → ℕ → ℕ → A
entry_at zero f n i = cond (ltb (i / 17) (i % 17) && leb (i % 17) n) (f (i / 17) (i % 17)) zero

-- an array has these entries at the places below k, and zero at all others
abbrev pub Holds : {A : Type 0} → ℕ → A → (ℕ → ℕ → A) → ℕ → List A → Type 0
Holds k zero f n l = (length l ≡ 272) × ((i : ℕ) → get_or l i zero ≡ cond (ltb i k) (entry_at zero f n i) zero)

-- 16 such numbers of lines or costs sum up in their widths
pub record Small (table : Table) : Type 0 where
  pub few : (i : ℕ) → get_or table.lines i 0 ≤ 512
  pub small : (i : ℕ) → get_or table.costs i 0 < 2 ^ 48

-- the table holds the regions of a task at the places below k, and zeros elsewhere
pub record TableBefore (k : ℕ) (t : Task) (table : Table) : Type 0 where
  pub fit : Holds k false (region_fits t) (block_count t) table.fits
  pub line : Holds k 0 (region_lines t) (block_count t) table.lines
  pub cost : Holds k 0 (region_cost t) (block_count t) table.costs
  pub widths : Small table

-- the table holds all regions, and zeros elsewhere
abbrev pub RegionTable : Task → Table → Type 0
RegionTable t table = TableBefore 272 t table
