-- `reuse::held_after` meets its contract. Both loops keep what the lines hold after the reads passed.
use Prim.Native.Nat.{◌+◌}
use mathlib.Core.Path.{◌≡◌}
use lib.ListN.{length, get_or}
use Rattle.model.specs.declared.Line.TheVariants.{Empty}
use Rattle.model.proofs.Histories.{Holds}
use Rattle.model.proofs.ReadOrder.{edge}
use Rattle.taskfile.specs.File.{task_of}
use Rattle.reuse.proofs.held_after.Given as goal

abbrev pub invariant-loop-j : goal.invariant-loop-j
invariant-loop-j l = (length l.held ≡ 512) × Holds (task_of l.file) (edge (task_of l.file) l.i + l.j) (λ c. get_or l.held c Empty)

abbrev pub invariant-loop-i : goal.invariant-loop-i
invariant-loop-i l = (length l.held ≡ 512) × Holds (task_of l.file) (edge (task_of l.file) l.i) (λ c. get_or l.held c Empty)
