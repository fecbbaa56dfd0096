-- Each list that is found has a number from the start on, and the next start is one above it: at most one above the last number.
use Rattle.std.proofs.Common.{◌-◌, ◌^◌, ◌≤◌}
use Rattle.lists.proofs.print_all.Given as goal

abbrev pub invariant-loop-list : goal.invariant-loop-list
invariant-loop-list g l = l.start ≤ 2 ^ (l.blocks - 1)

abbrev pub decreases-loop-list : goal.decreases-loop-list
decreases-loop-list g l = 2 ^ (l.blocks - 1) - l.start
