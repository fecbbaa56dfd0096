-- What a replay answers to any bytes and points (document 02, item 4): refusals 1 to 5 of the file, then 7 at its index; a region above the
-- limit is none. Assumes nothing.
use Rattle.std.specs.Prelude.{ℕ, List}
use Rattle.model.specs.Task.{block_count}
use Rattle.model.specs.Lists.{wrong_point}
use Rattle.model.specs.Answers.{accept, Verdict, on_accepted, refused_at, and_then}
use Rattle.model.specs.Replay.{misses_alone, misses_with}
use Rattle.model.specs.declared.Refusal.TheVariants.{Argument}
use Rattle.taskfile.specs.File.{verdict, task_of}

unfoldable pub replay_verdict : List ℕ → List ℕ → Verdict
replay_verdict file ps = and_then (verdict file) (refused_at (wrong_point (block_count (task_of file)) ps) Argument accept)

-- the first count: the reads that miss with no point
unfoldable pub misses_alone_of : List ℕ → List ℕ → ℕ
misses_alone_of file ps = on_accepted (replay_verdict file ps) (misses_alone (task_of file)) 0

-- the second count: those that miss with the points
unfoldable pub misses_with_of : List ℕ → List ℕ → ℕ
misses_with_of file ps = on_accepted (replay_verdict file ps) (misses_with (task_of file) ps) 0
