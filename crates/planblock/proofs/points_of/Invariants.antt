-- `planblock::points_of` meets its contract. The loop's invariant: the first `i` points are read, and zeros follow.
use Prim.Native.Nat.{◌-◌, ◌≤◌}
use mathlib.Core.Path.{◌≡◌}
use mathlib.Core.List.{◌++◌}
use lib.ListN.{replicate}
use Rattle.block.specs.Bytes.{fields}
use Rattle.planblock.proofs.points_of.Given as goal

abbrev pub invariant-loop-i : goal.invariant-loop-i
invariant-loop-i l = (l.i ≤ l.count) × (l.points ≡ fields l.bytes 20 2 l.i ++ replicate (64 - l.i) 0)

abbrev pub decreases-loop-i : goal.decreases-loop-i
decreases-loop-i l = l.count - l.i
