-- `reuse::mark_evicted` meets its contract. The loop's invariant: a line is marked if a preempter block passed reads it.
use Prim.Native.Nat.{ℕ, ◌-◌, ◌<◌}
use mathlib.Core.Path.{◌≡◌}
use mathlib.Core.Bool.{false}
use lib.ListN.{length, get_or}
use Rattle.model.specs.Lines.{on_line, any_read}
use Rattle.taskfile.specs.File.{task_of}
use Rattle.taskfile.proofs.Accepted.{reads_between}
use Rattle.reuse.proofs.mark_evicted.Given as goal

abbrev pub invariant-loop-k : goal.invariant-loop-k
invariant-loop-k l =
    (length l.marks ≡ 512) × ((c : ℕ) → c < 512 → get_or l.marks c false ≡ any_read (on_line (task_of l.file) c) (reads_between l.file l.first (l.k - l.first)))
