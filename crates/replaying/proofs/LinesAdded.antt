-- The two counts of an accepted file differ by the list's lines: the law of its task, which has from 1 to 512 lines.
-- Assumes nothing.
use Rattle.model.specs.Task.{block_count}
use Rattle.model.specs.Lists.{steps, right_point}
use Rattle.model.proofs.Lists.{lowest-none}
use Rattle.model.proofs.Replay.{added-misses}
use Rattle.taskfile.specs.File.{task_of}
use Rattle.taskfile.proofs.Accepted as accepted-file
use Rattle.replaying.specs.Calls.{replay_verdict, misses_alone_of, misses_with_of}
use Rattle.replaying.specs.Statements.{LinesAdded}

pub lines-added : LinesAdded
unfolding replay_verdict misses_alone_of misses_with_of
lines-added file ps e w =
    let n = block_count (task_of file) in
    let limits = accepted-file.accepted file e in
    rw (e, lowest-none (right_point n) 0 (steps 0 ps) w) (added-misses (task_of file) limits.lines-least limits.lines-most ps w)
