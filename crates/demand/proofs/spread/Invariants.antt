-- `demand::spread` meets its contract. The loop's invariant: the arrays hold the fields of the tasks passed.
use Rattle.std.proofs.Common.{◌≡◌, take}
use Rattle.demand.specs.Lanes.{Spread}
use Rattle.demand.proofs.spread.Given as goal

abbrev pub invariant-loop-i : goal.invariant-loop-i
invariant-loop-i l = (l.columns.count ≡ l.set.count) × Spread (take l.set.count l.set.tasks) l.i l.columns
