-- `demand::Columns::least_deadline` meets its contract. The loop's invariant: the least of the deadlines passed.
use Rattle.std.proofs.Common.{◌≡◌, ◌+◌, min, get_or}
use Rattle.demand.specs.Demand.{most_ticks}
use Rattle.demand.specs.Lanes.{below}
use Rattle.demand.proofs.Columns.least_deadline.Given as goal

abbrev pub invariant-loop-i : goal.invariant-loop-i
invariant-loop-i l = l.smallest ≡ below min (most_ticks + 1) l.i (λ k. get_or l.self.deadlines k 0)
