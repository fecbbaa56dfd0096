-- `taskfile::left_after_fours` meets its contract. The loop's invariant: the lowest wrong block is the lowest of those that are left.
-- The measure is how many are left.
use Rattle.taskfile.specs.Steps.{LeftToTest}
use Rattle.taskfile.proofs.left_after_fours.Given as goal

abbrev pub invariant-loop-left : goal.invariant-loop-left
invariant-loop-left l = LeftToTest l.file l.left

abbrev pub decreases-loop-left : goal.decreases-loop-left
decreases-loop-left l = l.left
