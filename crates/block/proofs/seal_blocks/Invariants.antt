-- `block::seal_blocks` meets its contract. The loop's invariant: four blocks more for each `i` have their checksums, if the first few had.
use Prim.Native.Nat.{◌+◌, ◌*◌}
use mathlib.Core.Path.{◌≡◌}
use mathlib.Core.List.{List}
use lib.ListN.{length}
use Rattle.block.specs.Steps.{SealedSoFar}
use Rattle.block.proofs.seal_blocks.Given as goal

abbrev pub invariant-loop-i : goal.invariant-loop-i
invariant-loop-i l =
    (length l.file ≡ length l.initial.file) × ((bs : List _) → SealedSoFar bs l.count l.initial.file l.few → SealedSoFar bs l.count l.file (l.few + 4 * l.i))
