-- What is shown of the call beside its contract. Assumes nothing.
use Rattle.std.specs.Prelude.{ℕ, ◌+◌, ◌≡◌, true, List}
use Rattle.model.specs.Task.{block_count}
use Rattle.model.specs.Lists.{well_formed}
use Rattle.model.specs.Regions.{lines}
use Rattle.taskfile.specs.File.{IsAccepted, task_of}
use Rattle.replaying.specs.Calls.{misses_alone_of, misses_with_of}

-- for every accepted file and well-formed list, within the limit or not, the second count less the first is the list's lines (document 02, item 4)
abbrev pub LinesAdded : Type 0
LinesAdded =
    (file ps : List ℕ) → IsAccepted file → well_formed (block_count (task_of file)) ps ≡ true
    → misses_with_of file ps ≡ misses_alone_of file ps + lines (task_of file) ps
