-- `pointlist::wrong_point` meets its contract. The loop's invariant: the lowest wrong point is that of the points left, after the last one passed.
use mathlib.Core.Path.{◌≡◌}
use Rattle.model.specs.Lists.{wrong_point}
use Rattle.pointlist.proofs.Points.{wrong_from}
use Rattle.pointlist.proofs.wrong_point.Given as goal

abbrev pub invariant-loop-i : goal.invariant-loop-i
invariant-loop-i l = wrong_point l.n l.points ≡ wrong_from l.n l.points l.i l.last
