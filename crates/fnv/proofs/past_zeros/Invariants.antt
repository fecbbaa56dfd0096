-- `fnv::past_zeros` meets its contract. The loop's invariant: each of the four chains has reached `at`, no lower than from.
use Prim.Native.Nat.{◌-◌, ◌≤◌}
use lib.ListN.{length}
use Rattle.fnv.specs.Steps.{OneLength, AllReached}
use Rattle.fnv.proofs.past_zeros.Given as goal

abbrev pub invariant-loop-at : goal.invariant-loop-at
invariant-loop-at l = AllReached l.a l.b l.c l.d l.at l.states × OneLength l.a l.b l.c l.d × (l.initial.at ≤ l.at)

abbrev pub decreases-loop-at : goal.decreases-loop-at
decreases-loop-at l = length l.a - l.at
