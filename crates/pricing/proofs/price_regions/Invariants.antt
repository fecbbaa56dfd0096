-- `pricing::price_regions` meets its contract. The loop's invariant: the regions passed are within the limit, and lines and cost are the sums of theirs.
-- Each point is above the last, so there are at most 64 regions.
use mathlib.Core.Path.{◌≡◌}
use Rattle.taskfile.specs.File.{task_of}
use Rattle.pricing.proofs.Pricing.{start_of, Passed}
use Rattle.pricing.proofs.price_regions.Given as goal

abbrev pub invariant-loop-i : goal.invariant-loop-i
invariant-loop-i l = Passed (task_of l.file) l.points l.i l.total l.cost × (l.a ≡ start_of (task_of l.file) l.points l.i)
