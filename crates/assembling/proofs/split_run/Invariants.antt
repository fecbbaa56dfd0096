-- `assembling::split_run` meets its contract. The loop's invariant: the bytes so far are right.
use Prim.Native.Nat.{ℕ, ◌<◌}
use mathlib.Core.Bool.{true}
use lib.ListN.{get_or}
use Rattle.assembling.proofs.split_run.Given as goal

abbrev pub invariant-loop-i : goal.invariant-loop-i
invariant-loop-i g l = (k : ℕ) → k < l.i → goal.F-post g l.is_in (get_or l.bytes k 0) true
