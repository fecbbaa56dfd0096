-- `reuse::search_from` meets its contract. The loop's invariant: none of the reads of the blocks passed lies on the line.
use Prim.Native.Nat.{◌*◌, ◌≤◌}
use lib.ListN.{drop}
use Rattle.model.specs.Lines.{on_line, reads_of}
use Rattle.taskfile.specs.File.{task_of}
use Rattle.reuse.proofs.Looked.{Left}
use Rattle.reuse.proofs.search_from.Given as goal

abbrev pub invariant-loop-i : goal.invariant-loop-i
invariant-loop-i l =
    (l.looked ≤ 124 * l.i)
    × Left (on_line (task_of l.file) l.c) (reads_of (drop l.k (task_of l.file).blocks)) l.looked (reads_of (drop l.i (task_of l.file).blocks))
