-- `reuse::mark_first` meets its contract. The loop's invariant: a line is marked with the first of the preempters passed, from index i on, that touches
-- it.
use Prim.Native.Nat.{ℕ, ◌-◌, ◌≤◌, ◌<◌}
use mathlib.Core.Path.{◌≡◌}
use mathlib.Core.Bool.{not}
use lib.ListN.{length, get_or}
use Rattle.model.specs.Lists.{lowest_from}
use Rattle.model.specs.Charges.{touches}
use Rattle.taskfile.specs.File.{counts, task_of}
use Rattle.reuse.specs.States.{mark_of}
use Rattle.reuse.proofs.mark_first.Given as goal

abbrev pub invariant-loop-i : goal.invariant-loop-i
invariant-loop-i l =
    (l.i ≤ (counts l.file).preempters) × (length l.marks ≡ 512) ×
    ((d : ℕ) → d < 512 → get_or l.marks d 0 ≡ mark_of (lowest_from (λ k. not (touches (task_of l.file) k d)) l.i ((counts l.file).preempters - l.i)))
