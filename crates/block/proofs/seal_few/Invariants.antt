-- `block::seal_few` meets its contract. The loop's invariant: the first `k` blocks have their checksums.
use Prim.Native.Nat.{◌%◌, ◌≤◌}
use mathlib.Core.Path.{◌≡◌}
use lib.ListN.{length}
use Rattle.block.specs.Steps.{SealedSoFar}
use Rattle.block.proofs.seal_few.Given as goal

abbrev pub invariant-loop-k : goal.invariant-loop-k
invariant-loop-k l = (l.k ≤ l.few) × (l.few ≡ l.count % 4) × (length l.file ≡ length l.initial.file) × SealedSoFar l.initial.file l.count l.file l.k
