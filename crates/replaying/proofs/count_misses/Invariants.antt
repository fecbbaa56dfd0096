-- `replaying::count_misses` meets its contract. Both loops keep the walk's state after the blocks and reads passed, and the points that are left.
use Prim.Native.Nat.{◌+◌, ◌*◌, ◌≤◌}
use Rattle.model.proofs.ReadOrder.{edge}
use Rattle.taskfile.specs.File.{task_of}
use Rattle.replaying.proofs.Steps.{Replayed, PointsLeft}
use Rattle.replaying.proofs.count_misses.Given as goal

abbrev pub invariant-loop-j : goal.invariant-loop-j
invariant-loop-j l =
    (l.alone ≤ l.i * 124 + l.j) × (l.preempted ≤ l.i * 124 + l.j) × Replayed (task_of l.file) l.points (edge (task_of l.file) l.i + l.j) l.passed l.held l.since l.alone l.preempted

abbrev pub invariant-loop-i : goal.invariant-loop-i
invariant-loop-i l =
    (l.alone ≤ l.i * 124) × (l.preempted ≤ l.i * 124) × (l.passed.last ≤ l.i) × PointsLeft (task_of l.file) l.points l.i l.passed.next ×
    Replayed (task_of l.file) l.points (edge (task_of l.file) l.i) l.passed l.held l.since l.alone l.preempted
