-- `demand::first_miss` meets its contract. The loop's invariant, of every right set whose fields the arrays hold, is `Visiting`; beside it, what blocks stays
-- as long as it is said to.
use Prim.Native.Nat.{◌+◌, ◌-◌}
use mathlib.Core.List.{List}
use Rattle.demand.specs.Lanes.{BlockedUntil}
use Rattle.demand.specs.declared.TaskRecord.{TaskRecord}
use Rattle.demand.proofs.Visits.{Arrays, Visiting}
use Rattle.demand.proofs.first_miss.Given as goal

abbrev pub invariant-loop-t : goal.invariant-loop-t
invariant-loop-t l =
    ((τs : List TaskRecord) → Arrays τs l.columns.count l.columns.executions l.columns.periods l.columns.deadlines l.columns.regions → Visiting τs l.instants l.demand l.t) × BlockedUntil l.columns.count l.columns.deadlines l.columns.regions l.t l.blocked

abbrev pub decreases-loop-t : goal.decreases-loop-t
decreases-loop-t l =
    l.horizon + 1 - l.t
