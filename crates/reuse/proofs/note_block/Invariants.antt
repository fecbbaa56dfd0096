-- `reuse::note_block` meets its contract. The loop's invariant: the lines of the reads passed have a reader.
use Prim.Native.Nat.{ℕ}
use mathlib.Core.Path.{◌≡◌}
use mathlib.Core.List.{List}
use lib.ListN.{length, take}
use Rattle.model.specs.Task.{Task}
use Rattle.model.specs.Lines.{on_line, any_read}
use Rattle.taskfile.specs.File.{task_of, entry_reads}
use Rattle.reuse.specs.States.{FirstBy}
use Rattle.reuse.proofs.note_block.Given as goal

-- the lines read among the first j of the numbers have a reader: n, if they had none
abbrev pub Noted : Task → List ℕ → ℕ → List ℕ → ℕ → List ℕ → Type 0
Noted t xs n readers₀ j readers = (length readers ≡ 512) × FirstBy (λ d. any_read (on_line t d) (take j xs)) n readers₀ readers

abbrev pub invariant-loop-j : goal.invariant-loop-j
invariant-loop-j l = Noted (task_of l.file) (entry_reads l.file l.k) l.k l.initial.readers l.j l.readers
