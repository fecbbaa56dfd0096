-- `planvalue::any_behind` meets its contract. The loop's invariant: the or is at least each of the entries passed, since an or is at least
-- each of its sides.
use Prim.Native.Nat.{ℕ, ◌<◌, ◌≤◌}
use lib.ListN.{get_or}
use Rattle.planvalue.proofs.any_behind.Given as goal

abbrev pub invariant-loop-i : goal.invariant-loop-i
invariant-loop-i l = (k : ℕ) → l.count ≤ k → k < l.i → get_or l.points k 0 ≤ l.any
