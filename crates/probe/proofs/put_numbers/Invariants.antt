-- `probe::put_numbers` meets its contract. The loop's invariant: the buffer begins with the first `i` numbers.
use Prim.Native.Nat.{◌-◌, ◌*◌, ◌≤◌}
use mathlib.Core.Path.{◌≡◌}
use lib.ListN.{length, take}
use Rattle.block.specs.Bytes.{les}
use Rattle.block.proofs.Storing.{Stored}
use Rattle.probe.proofs.put_numbers.Given as goal

abbrev pub invariant-loop-i : goal.invariant-loop-i
invariant-loop-i l = (l.i ≤ length l.numbers) × (length l.out ≡ length l.initial.out) × Stored (8 * l.i) l.initial.out l.out (les 8 (take l.i l.numbers))

abbrev pub decreases-loop-i : goal.decreases-loop-i
decreases-loop-i l = length l.numbers - l.i
