-- `reuse::note_until` meets its contract. The loop's invariant: the readers are noted up to block i.
use Rattle.taskfile.specs.File.{task_of}
use Rattle.reuse.specs.States.{NotedTo}
use Rattle.reuse.proofs.note_until.Given as goal

abbrev pub invariant-loop-i : goal.invariant-loop-i
invariant-loop-i l = NotedTo (task_of l.file) l.b l.i l.initial.readers l.readers
