-- `taskfile::check_checksums` meets its contract. The loop's invariant: the lowest wrong block is the lowest of those from k on.
use Prim.Native.Nat.{◌-◌}
use Rattle.taskfile.specs.Steps.{LeftToTest}
use Rattle.taskfile.proofs.check_checksums.Given as goal

abbrev pub invariant-loop-k : goal.invariant-loop-k
invariant-loop-k l = LeftToTest l.file (l.count - l.k)
