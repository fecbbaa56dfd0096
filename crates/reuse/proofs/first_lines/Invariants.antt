-- `reuse::first_lines` meets its contract. The loop's invariant: the reads of the blocks passed are noted.
use Prim.Native.Nat.{◌-◌}
use lib.ListN.{take, drop}
use Rattle.model.specs.Lines.{reads_of}
use Rattle.lineset.specs.Members.{members}
use Rattle.taskfile.specs.File.{task_of}
use Rattle.reuse.specs.FirstReads.{Noted}
use Rattle.reuse.proofs.first_lines.Given as goal

abbrev pub invariant-loop-k : goal.invariant-loop-k
invariant-loop-k l =
    Noted (task_of l.file) (reads_of (take (l.k - l.a) (drop l.a (task_of l.file).blocks))) l.initial.first l.first (members l.lines)
