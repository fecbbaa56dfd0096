-- `reuse::mark_reads` meets its contract. The loop's invariant: the lines of the reads passed are
-- marked. Without a scratch range each read is on its line.
use Prim.Native.Nat.{ℕ}
use mathlib.Core.Path.{◌≡◌}
use mathlib.Core.List.{List}
use lib.ListN.{length, take}
use Rattle.model.specs.Task.{Task}
use Rattle.model.specs.Lines.{on_line, any_read}
use Rattle.taskfile.specs.File.{task_of, entry_reads}
use Rattle.reuse.specs.States.{MarkedBy}
use Rattle.reuse.proofs.mark_reads.Given as goal

-- the lines read among the first j of the numbers are marked with n
abbrev pub Marked : {A : Type 0} → Task → List ℕ → A → List A → ℕ → List A → Type 0
Marked t xs n marks₀ j marks = (length marks ≡ 512) × MarkedBy (λ d. any_read (on_line t d) (take j xs)) n marks₀ marks

abbrev pub invariant-loop-j : goal.invariant-loop-j
invariant-loop-j g l = Marked (task_of l.file) (entry_reads l.file l.k) l.mark l.initial.marks l.j l.marks
