-- `planblock::put_points` meets its contract. The loop's invariant: the buffer begins with its first 20 bytes and the first `i` points.
use Prim.Native.Nat.{◌+◌, ◌-◌, ◌*◌, ◌≤◌}
use mathlib.Core.Path.{◌≡◌}
use mathlib.Core.List.{◌++◌}
use lib.ListN.{length, take}
use Rattle.block.specs.Bytes.{les}
use Rattle.block.proofs.Storing.{Stored}
use Rattle.planblock.proofs.put_points.Given as goal

abbrev pub invariant-loop-i : goal.invariant-loop-i
invariant-loop-i l =
    (l.i ≤ l.count) × (length l.out ≡ 512) × (length l.points ≡ 64) × Stored (20 + 2 * l.i) l.initial.out l.out (take 20 l.initial.out ++ les 2 (take l.i l.points))

abbrev pub decreases-loop-i : goal.decreases-loop-i
decreases-loop-i l = l.count - l.i
