-- `reuse::first_lines_in` meets its contract. The loop's invariant: the reads passed are noted.
use lib.ListN.{take}
use Rattle.lineset.specs.Members.{members}
use Rattle.taskfile.specs.File.{task_of, entry_reads}
use Rattle.reuse.specs.FirstReads.{Noted}
use Rattle.reuse.proofs.first_lines_in.Given as goal

abbrev pub invariant-loop-j : goal.invariant-loop-j
invariant-loop-j l =
    Noted (task_of l.file) (take l.j (entry_reads l.file l.k)) l.initial.first l.first (members l.lines)
