-- Region i starts at the point before it.
use Rattle.std.proofs.Common.{◌≡◌}
use Rattle.taskfile.specs.File.{task_of}
use Rattle.pricing.proofs.Pricing.{start_of}
use Rattle.report.proofs.print_regions.Given as goal

abbrev pub invariant-loop-i : goal.invariant-loop-i
invariant-loop-i g l = l.a ≡ start_of (task_of l.file) l.points l.i
