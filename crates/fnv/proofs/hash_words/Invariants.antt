-- `fnv::hash_words` meets its contract. The loop's invariant: the chain has reached `at`.
use Prim.Native.Nat.{◌-◌}
use lib.ListN.{length}
use Rattle.fnv.specs.Steps.{Reached}
use Rattle.fnv.proofs.hash_words.Given as goal

abbrev pub invariant-loop-part : goal.invariant-loop-part
invariant-loop-part l = Reached 2166136261 l.bytes l.part.at l.part.state

abbrev pub decreases-loop-part : goal.decreases-loop-part
decreases-loop-part l = length l.bytes - l.part.at
