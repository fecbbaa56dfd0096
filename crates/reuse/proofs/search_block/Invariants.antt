-- `reuse::search_block` meets its contract. The loop's invariant: none of the reads passed lies on
-- the line. The last read of an odd number of reads comes after the loop.
use Prim.Native.Nat.{ℕ, ◌*◌}
use mathlib.Core.List.{List}
use lib.ListN.{drop}
use Rattle.model.specs.Lines.{on_line}
use Rattle.taskfile.specs.File.{task_of, entry_reads}
use Rattle.reuse.proofs.Looked.{Left}
use Rattle.reuse.proofs.search_block.Given as goal

-- none of the first n reads of block k lies on line c
abbrev pub Passed : List ℕ → ℕ → ℕ → ℕ → Type 0
Passed file k c n = Left (on_line (task_of file) c) (entry_reads file k) n (drop n (entry_reads file k))

abbrev pub invariant-loop-i : goal.invariant-loop-i
invariant-loop-i l = Passed l.file l.k l.c (2 * l.i)
