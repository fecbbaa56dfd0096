-- `taskfile::check_entries` meets its contract. The loop's invariant: the lowest wrong block is the lowest of those from k on.
use Prim.Native.Nat.{◌+◌, ◌-◌}
use mathlib.Core.Path.{◌≡◌}
use Rattle.model.specs.Lists.{lowest_from}
use Rattle.taskfile.specs.File.{block_right}
use Rattle.taskfile.proofs.check_entries.Given as goal

abbrev pub invariant-loop-k : goal.invariant-loop-k
invariant-loop-k l = lowest_from (block_right l.file) 1 l.count ≡ lowest_from (block_right l.file) l.k (l.count + 1 - l.k)
