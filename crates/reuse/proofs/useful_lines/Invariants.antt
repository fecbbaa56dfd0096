-- `reuse::useful_lines` meets its contract. The loop's invariant: the set is the useful lines below
-- c, and the readers are noted up to block b. No line beyond the cache is useful.
use Prim.Native.Nat.{ℕ, ◌≤◌}
use mathlib.Core.Path.{◌≡◌}
use mathlib.Core.Bool.{◌&&◌}
use lib.Dec.{ltb}
use lib.ListN.{length}
use Rattle.model.specs.Task.{block_count}
use Rattle.model.specs.Lines.{useful}
use Rattle.lineset.specs.Members.{members}
use Rattle.taskfile.specs.File.{task_of}
use Rattle.reuse.specs.States.{FirstReaders}
use Rattle.reuse.proofs.useful_lines.Given as goal

abbrev pub invariant-loop-c : goal.invariant-loop-c
invariant-loop-c l =
    (l.k ≤ l.b) × (l.b ≤ block_count (task_of l.file)) × (length l.readers ≡ 512) × FirstReaders (task_of l.file) l.k l.b l.readers
    × ((d : ℕ) → members l.lines d ≡ (ltb d l.c && useful (task_of l.file) l.k d))
