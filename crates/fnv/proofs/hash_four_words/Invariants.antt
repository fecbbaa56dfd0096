-- `fnv::hash_four_words` meets its contract. The loop's invariant: each of the four chains has reached `parts.at`.
use Prim.Native.Nat.{◌-◌}
use lib.ListN.{length}
use Rattle.fnv.specs.Steps.{AllReached}
use Rattle.fnv.proofs.hash_four_words.Given as goal

abbrev pub invariant-loop-parts : goal.invariant-loop-parts
invariant-loop-parts l = AllReached l.a l.b l.c l.d l.parts.at l.parts.states

abbrev pub decreases-loop-parts : goal.decreases-loop-parts
decreases-loop-parts l = length l.a - l.parts.at
