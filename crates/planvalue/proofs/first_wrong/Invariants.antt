-- `planvalue::first_wrong` meets its contract. The loop's invariant: the lowest wrong entry of those up to `end` is the lowest from `i` on.
use Prim.Native.Nat.{◌-◌}
use mathlib.Core.Path.{◌≡◌}
use Rattle.model.specs.Lists.{lowest_from}
use Rattle.planvalue.specs.Values.{point_right}
use Rattle.planvalue.proofs.first_wrong.Given as goal

abbrev pub invariant-loop-i : goal.invariant-loop-i
invariant-loop-i l =
    lowest_from (point_right l.blocks l.count l.points) 0 l.end ≡ lowest_from (point_right l.blocks l.count l.points) l.i (l.end - l.i)
