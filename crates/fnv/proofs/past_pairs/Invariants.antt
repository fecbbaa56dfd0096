-- `fnv::past_pairs` meets its contract. The loop's invariant: the chain has reached `at`, no lower than from.
use Prim.Native.Nat.{◌-◌, ◌≤◌}
use lib.ListN.{length}
use Rattle.fnv.specs.Steps.{Reached}
use Rattle.fnv.proofs.past_pairs.Given as goal

abbrev pub invariant-loop-at : goal.invariant-loop-at
invariant-loop-at l = Reached 2166136261 l.bytes l.at l.state × (l.initial.at ≤ l.at)

abbrev pub decreases-loop-at : goal.decreases-loop-at
decreases-loop-at l = length l.bytes - l.at
