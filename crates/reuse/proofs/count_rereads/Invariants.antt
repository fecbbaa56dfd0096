-- `reuse::count_rereads` meets its contract. Both loops keep the state of the walk after the reads
-- passed. Without a scratch range each read is cached.
use Prim.Native.Nat.{◌+◌}
use Rattle.model.proofs.ReadOrder.{edge}
use Rattle.taskfile.specs.File.{task_of}
use Rattle.reuse.proofs.Counting.{Counting}
use Rattle.reuse.proofs.count_rereads.Given as goal

abbrev pub invariant-loop-j : goal.invariant-loop-j
invariant-loop-j l =
    Counting (task_of l.file) l.i (edge (task_of l.file) l.i + l.j) l.held l.since l.counts

abbrev pub invariant-loop-i : goal.invariant-loop-i
invariant-loop-i l =
    Counting (task_of l.file) l.i (edge (task_of l.file) l.i) l.held l.since l.counts
