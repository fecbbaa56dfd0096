-- `regions::run_between` meets its contract. The loop's invariant: the run of the blocks passed; at most 64 times of 32 bits fit.
use Rattle.taskfile.specs.File.{task_of}
use Rattle.regions.specs.Measures.{RunBetween}
use Rattle.regions.proofs.run_between.Given as goal

abbrev pub invariant-loop-i : goal.invariant-loop-i
invariant-loop-i l = RunBetween (task_of l.file) l.a l.i l.run
