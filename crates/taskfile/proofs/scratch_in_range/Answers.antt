-- `taskfile::scratch_in_range` meets its contract: two numbers of 32 bits are summed in 64.
use mathlib.Core.Path.{refl}
use Rattle.taskfile.specs.File.{scratch_in_range}
use Rattle.taskfile.proofs.scratch_in_range.Goals as goal

pub returns : goal.returns
unfolding scratch_in_range
returns c = refl
