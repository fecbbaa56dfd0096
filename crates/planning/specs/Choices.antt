-- The choices of a placement over the regions of a task, whose tallies are their lines. Assumes nothing.
use Rattle.std.specs.Prelude.{ℕ, List}
use Rattle.model.specs.Task.{Task, block_count}
use Rattle.model.specs.Regions.{region_lines, region_fits, region_cost}
use Rattle.placement.specs.Rows.{Tried, Rows}
use Rattle.placement.specs.declared.Choice.{Choice}

-- the choice at edge a, with these costs and lines of later edges
abbrev pub ChoiceAt : Task → List ℕ → List ℕ → ℕ → Choice → Type 0
ChoiceAt t costs lines a c = Tried (region_fits t) (region_cost t) (region_lines t) costs lines (block_count t) a (block_count t) c

-- the choices at all edges
abbrev pub Choices : Task → List ℕ → List ℕ → List ℕ → Type 0
Choices t costs nexts lines = Rows (region_fits t) (region_cost t) (region_lines t) (block_count t) 0 costs nexts lines
