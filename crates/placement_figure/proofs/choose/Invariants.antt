-- Each block adds less than 256 to the time, and each edge that is tried is above a.
use Rattle.std.proofs.Common.{◌*◌, ◌<◌, ◌≤◌}
use Rattle.placement_figure.proofs.choose.Given as goal

abbrev pub invariant-loop-b : goal.invariant-loop-b
invariant-loop-b l = (l.time ≤ 256 * l.b) × (l.a < l.choice.next) × (l.choice.next ≤ 6)
